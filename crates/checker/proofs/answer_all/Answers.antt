-- The loop's invariant: the answers of the first k commands stand in the slices, and the numbers of the others are as they were.
use mathlib.Core.Path.{◌∙◌}
use native.Mathlib.Omega.{arith}
use Rattle.sums.proofs.Places.{rooms-kept}
use Rattle.checker.proofs.Answering.{left-more, answers-more, pols-more, answers-all}
use Rattle.checker.proofs.answer_all.Goals as goal
use Rattle.checker.proofs.answer_all.Goals.{then-word_of-eq-POL_KIND, else-word_of-eq-POL_KIND}

pub answer_of-answer-requires-clause-rooms : goal.answer_of-answer-requires-clause-rooms
answer_of-answer-requires-clause-rooms c = rooms-kept c.loop-k.auto.coeffs c.loop-k.auto.keys c.loop-k.auto.slots c.requires.rooms

pub loop-k-preserved : goal.loop-k-preserved
loop-k-preserved c = elim c.if-word_of-eq-POL_KIND.branch [
  | then-word_of-eq-POL_KIND w ↦ rw w.numbers-is (
    pols-more c.args.nodes.now c.args.commands.now c.args.numbers.now c.loop-k.numbers c.args.n c.loop-k.plains c.loop-k.k c.loop-k.invariant.0 (c.loop-k.invariant.1 c.loop-k.k (omega arith)) (omega arith)
        (omega (arith, c.loop-k.auto.plains, c.requires.n_in_bounds.1, c.loop-k-test.true)) (omega (arith, c.word_of.ensures, w.if-word_of-eq-POL_KIND.true)) w.plains-is,
    λ j h. c.loop-k.invariant.1 j (omega arith),
  )
  | else-word_of-eq-POL_KIND w ↦ (
    answers-more c.args.nodes.now c.args.commands.now c.args.numbers.now c.loop-k.numbers c.args.n c.loop-k.plains c.loop-k.k w.answer_of-answer.result c.loop-k.invariant.0
        (omega (arith, c.loop-k.auto.numbers, c.requires.n_in_bounds.0, c.loop-k-test.true)) (omega (arith, c.loop-k.auto.plains, c.requires.n_in_bounds.1, c.loop-k-test.true))
        (λ e. omega (arith, e, c.word_of.ensures, w.if-word_of-eq-POL_KIND.false)) w.answer_of-answer.ensures (w.numbers-is ∙ w.put_answer.ensures.numbers_after) (w.plains-is ∙ w.put_answer.ensures.plains_after),
    left-more c.args.numbers.now c.loop-k.numbers c.loop-k.k _ c.loop-k.invariant.1 (w.numbers-is ∙ w.put_answer.ensures.numbers_after),
  )
]

pub returns : goal.returns
returns c = answers-all c.args.nodes.now c.args.commands.now c.args.numbers.now c.loop-k.numbers c.args.n c.loop-k.plains c.loop-k.k c.loop-k.invariant.0 (omega arith)
