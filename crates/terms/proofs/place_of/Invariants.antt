use lib.Seq.{slice}
use Rattle.terms.specs.Index.{Every}
use Rattle.terms.specs.Spans.{string_at}
use Rattle.terms.proofs.Index.{Walk}
use Rattle.terms.proofs.place_of.Given as goal

abbrev pub invariant-loop-k : goal.invariant-loop-k
invariant-loop-k l = Walk (string_at l.text l.spans) Every l.count (slice l.from l.to l.text) l.bound l.k

abbrev pub decreases-loop-k : goal.decreases-loop-k
decreases-loop-k l = l.bound
