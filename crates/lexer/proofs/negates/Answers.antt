-- `lexer::negates` owes whether a name stands behind a `~`. Assumes nothing.
use Rattle.lexer.proofs.Meanings.{tilde-other, tilde_alone, tilde_fixed, tilde-name}
use borrow.Author.Rules.{rules}
use native.Mathlib.Omega.{arith}
use Rattle.lexer.proofs.negates.Goals as goal

pub returns-then-text-from-ne126 : goal.returns-then-text-from-ne126
returns-then-text-from-ne126 c = tilde-other c.args.text.now c.args.from c.args.to (search rules) (search rules) c.if-text-from-ne126.true

pub returns-then-to-first : goal.returns-then-to-first
returns-then-to-first c = tilde_alone c.args.text.now c.args.from c.args.to (search rules) (search rules) c.if-text-from-ne126.false c.if-to-first.true

pub returns-then-listed-lt-WORDS : goal.returns-then-listed-lt-WORDS
returns-then-listed-lt-WORDS c = tilde_fixed c.args.text.now c.args.from c.args.to (search rules) (search rules) c.if-text-from-ne126.false c.listed.result c.listed.ensures.0 c.if-listed-lt-WORDS.true

pub is_name-requires : goal.is_name-requires
is_name-requires c = record {
  from_lt_to = search rules;
  names_value = c.name_end.ensures.0;
}

pub returns : goal.returns
returns c = tilde-name c.args.text.now c.args.from c.args.to (search rules) (search rules) c.if-text-from-ne126.false c.listed.result c.listed.ensures.0 (omega arith) c.if-to-first.false c.is_name.result c.is_name.ensures
