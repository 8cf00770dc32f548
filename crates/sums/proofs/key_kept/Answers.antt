-- A zero is let pass; another entry's key is looked up.
use mathlib.Core.Path.{sym, ◌∙◌}
use lib.IntN.{pos}
use Rattle.integer.proofs.Signed.{back}
use Rattle.calculus.proofs.TermLaws.{same_integer-tests}
use Rattle.matching.specs.Places.{placed}
use Rattle.matching.proofs.Places.{key-at, coefficient-at}
use Rattle.sums.proofs.Keys.{kept-zero, kept-found}
use Rattle.sums.proofs.key_kept.Goals as goal

pub returns-then-is_zero : goal.returns-then-is_zero
returns-then-is_zero c = kept-zero c.args.nodes.now (placed c.args.from c.args.coeffs.now) (placed c.args.at c.args.keys.now) c.args.i (placed c.args.at2 c.args.keys.now) c.args.m (rw (coefficient-at c.args.from c.args.coeffs.now c.args.i c.requires.i_lt_max_entries.0) (sym (same_integer-tests _ (pos 0) c.is_zero.result (rw (back _ c.is_zero-arg-1.given) at c.is_zero.ensures)) ∙ c.if-is_zero.true))

pub find-requires : goal.find-requires
find-requires c = record {
  variable = rw (key-at c.args.at c.args.keys.now c.args.i c.requires.i_lt_max_entries.0) at c.requires.i_lt_max_entries.5;
  keyed = c.requires.keyed;
}

pub returns : goal.returns
returns c = kept-found c.args.nodes.now (placed c.args.from c.args.coeffs.now) (placed c.args.at c.args.keys.now) c.args.i (placed c.args.at2 c.args.keys.now) c.args.m (rw (coefficient-at c.args.from c.args.coeffs.now c.args.i c.requires.i_lt_max_entries.0) (sym (same_integer-tests _ (pos 0) c.is_zero.result (rw (back _ c.is_zero-arg-1.given) at c.is_zero.ensures)) ∙ c.if-is_zero.false)) _ (sym (key-at c.args.at c.args.keys.now c.args.i c.requires.i_lt_max_entries.0)) c.find.result c.find.ensures
