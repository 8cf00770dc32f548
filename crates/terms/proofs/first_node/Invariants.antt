use lib.Seq.{slice}
use Rattle.nodes.specs.Nodes.{name_at}
use Rattle.terms.specs.Names.{First}
use Rattle.terms.proofs.Index.{Walk}
use Rattle.terms.proofs.first_node.Given as goal

abbrev pub invariant-loop-k : goal.invariant-loop-k
invariant-loop-k l = Walk (name_at l.text l.nodes) (First l.nodes) l.n (slice l.from l.to l.text) l.bound l.k

abbrev pub decreases-loop-k : goal.decreases-loop-k
decreases-loop-k l = l.bound
