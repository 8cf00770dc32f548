use Rattle.ending.specs.Ending.{Written}
use Rattle.ending.proofs.put_words.Given as goal

abbrev pub invariant-loop-q : goal.invariant-loop-q
invariant-loop-q l = Written l.nodes l.coeffs l.keys l.q l.summands
