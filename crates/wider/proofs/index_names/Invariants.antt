use Rattle.terms.specs.Names.{Names}
use Rattle.wider.proofs.index_names.Given as goal

abbrev pub invariant-loop-k : goal.invariant-loop-k
invariant-loop-k l = Names l.text l.nodes l.names l.k
