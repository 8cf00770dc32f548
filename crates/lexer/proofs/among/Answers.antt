-- `lexer::among` owes the place of a word among those of the table: the loop keeps that this place is k and the place among the words from k on. Assumes nothing.
use Rattle.lexer.proofs.Places.{walk_start, cut-here, cut-more, cut-end}
use borrow.Author.Rules.{rules}
use lib.Seq.{slice}
use native.Mathlib.Omega.{arith}
use mathlib.Core.Path.{◌≡◌, sym, ◌∙◌}
use Rattle.lexer.proofs.among.Goals as goal

pub loop-k-init : goal.loop-k-init
loop-k-init c = walk_start _ _

pub spells-requires : goal.spells-requires
spells-requires c = (c.requires.0.up c.loop-k.k (omega arith), c.requires.0.inside c.loop-k.k (omega arith), search rules, search rules)

pub returns-then-spells : goal.returns-then-spells
returns-then-spells c = (cut-here c.args.words.now c.args.starts.now (slice c.args.from c.args.to c.args.text.now) c.args.n c.loop-k.k _ c.loop-k.invariant (search rules) (sym c.if-spells.true ∙ c.spells.ensures), omega arith)

pub loop-k-preserved : goal.loop-k-preserved
loop-k-preserved c = cut-more c.args.words.now c.args.starts.now (slice c.args.from c.args.to c.args.text.now) c.args.n c.loop-k.k _ c.loop-k.invariant (search rules) (sym c.if-spells.false ∙ c.spells.ensures)

pub returns : goal.returns
returns c = let e : c.loop-k.k ≡ c.args.n = omega arith in (sym e ∙ cut-end c.args.words.now c.args.starts.now (slice c.args.from c.args.to c.args.text.now) c.args.n c.loop-k.k _ c.loop-k.invariant (search rules), omega arith)
