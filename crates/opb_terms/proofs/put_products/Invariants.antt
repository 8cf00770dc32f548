use Rattle.opb_terms.specs.Making.{ProductsPut}
use Rattle.opb_terms.proofs.put_products.Given as goal

abbrev pub invariant-loop-i : goal.invariant-loop-i
invariant-loop-i l = ProductsPut l.text l.summands l.initial.nodes l.nodes l.pending l.names l.turned l.i l.n l.c l.m
