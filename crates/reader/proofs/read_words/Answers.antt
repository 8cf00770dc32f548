-- `reader::read_words` owes the words up to the closing bracket, word by word. Assumes nothing.
use mathlib.Core.Path.{sym, ap, ◌∙◌}
use Rattle.heads.specs.Heads.{step_of, past_of}
use Rattle.heads.proofs.Answers.{past-none, past-some, past_later}
use Rattle.heads.proofs.Refusals.{passed_on}
use native.Mathlib.Omega.{arith}
use Rattle.reader.proofs.Pols.{words-start, words-refused, word-is, words-closed, words-again}
use Rattle.reader.proofs.read_words.Goals as goal

pub loop-i-init : goal.loop-i-init
loop-i-init c = words-start c.args.text.now c.args.at c.requires.0 c.requires.1

pub word_end-requires : goal.word_end-requires
word_end-requires c = c.loop-i.invariant.place

pub returns-in_err-i : goal.returns-in_err-i
returns-in_err-i c = rw (passed_on c.from_residual.result c.from_residual.ensures.1) (words-refused c.args.text.now c.args.at c.loop-i.i c.loop-i.invariant (step_of c.word_end.result) c.word_end.ensures _ _ (ap step_of c.in_err-i.was))

pub closes-requires : goal.closes-requires
closes-requires c = let H = word-is c.args.text.now c.args.at c.loop-i.i c.loop-i.invariant (step_of c.word_end.result) c.word_end.ensures _ (ap step_of c.in_ok-i.was) in H.2

pub returns-in-Some : goal.returns-in-Some
returns-in-Some c = let H = past_later c.args.text.now _ c.closes.result c.closes.ensures.1 c.in-Some.is in words-closed c.args.text.now c.args.at c.loop-i.i c.loop-i.invariant (step_of c.word_end.result) c.word_end.ensures _ (ap step_of c.in_ok-i.was) _ (sym (past-some _ _ c.closes.result c.closes.ensures.1 c.in-Some.is) ∙ c.closes.ensures.0) H.0 H.1

pub loop-i-smaller : goal.loop-i-smaller
loop-i-smaller c = let H = word-is c.args.text.now c.args.at c.loop-i.i c.loop-i.invariant (step_of c.word_end.result) c.word_end.ensures _ (ap step_of c.in_ok-i.was) in omega (arith, H.1, H.2)

pub loop-i-preserved : goal.loop-i-preserved
loop-i-preserved c = words-again c.args.text.now c.args.at c.loop-i.i c.loop-i.invariant (step_of c.word_end.result) c.word_end.ensures _ (ap step_of c.in_ok-i.was) (past_of c.closes.result) c.closes.ensures.0 (past-none c.closes.result c.in_default.is)
