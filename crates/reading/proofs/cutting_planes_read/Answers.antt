-- `reading::cutting_planes_read` owes the answer of each of its ends.
use Rattle.std.specs.Prelude.{Err}
use Rattle.reader.specs.Reading.{file_of}
use mathlib.Core.Path.{ap, ◌∙◌}
use native.Mathlib.Omega.{arith}
use lib.ListN.{length-set}
use lib.Seq.{length-take-le}
use Rattle.reading.specs.Answer.{Lent}
use Rattle.reading.proofs.Answering.{too_small, read, refuses, never}
use Rattle.reading.proofs.cutting_planes_read.Goals as goal

pub returns-then-nodes-lt-NODE_WORDS : goal.returns-then-nodes-lt-NODE_WORDS
returns-then-nodes-lt-NODE_WORDS c =
    too_small c.args.text.now c.args.nodes.now c.args.commands.now c.args.answer.now (λ l. omega (arith, l.nodes, c.if-nodes-lt-NODE_WORDS.true))

pub returns-then-commands-lt-COMMAND_WORDS : goal.returns-then-commands-lt-COMMAND_WORDS
returns-then-commands-lt-COMMAND_WORDS c =
    too_small c.args.text.now c.args.nodes.now c.args.commands.now c.args.answer.now (λ l. omega (arith, l.commands, c.if-commands-lt-COMMAND_WORDS.true))

pub returns-then-answer-lt-ANSWER_WORDS : goal.returns-then-answer-lt-ANSWER_WORDS
returns-then-answer-lt-ANSWER_WORDS c =
    too_small c.args.text.now c.args.nodes.now c.args.commands.now c.args.answer.now (λ l. omega (arith, l.answer, c.if-answer-lt-ANSWER_WORDS.true))

pub bounds-answer-1 : goal.bounds-answer-1
bounds-answer-1 c =
    rw length-set (omega (arith, c.if-answer-lt-ANSWER_WORDS.false))

pub returns-in-Ok : goal.returns-in-Ok
returns-in-Ok c =
    let large : Lent c.args.nodes.now c.args.commands.now c.args.answer.now = record { nodes = omega (arith, c.if-nodes-lt-NODE_WORDS.false); commands = omega (arith, c.if-commands-lt-COMMAND_WORDS.false); answer = omega (arith, c.if-answer-lt-ANSWER_WORDS.false) } in
    read c.args.text.now c.args.nodes.now _ c.read_file.new.nodes _ c.args.commands.now c.read_file.new.commands c.args.answer.now (file_of c.read_file.result) _ _ _ _ large (c.read_file.auto.nodes ∙ length-take-le 16384 c.args.nodes.now large.nodes) c.read_file.ensures (ap file_of c.in-Ok.is)

pub returns-in-Err-Refused : goal.returns-in-Err-Refused
returns-in-Err-Refused c =
    let large : Lent c.args.nodes.now c.args.commands.now c.args.answer.now = record { nodes = omega (arith, c.if-nodes-lt-NODE_WORDS.false); commands = omega (arith, c.if-commands-lt-COMMAND_WORDS.false); answer = omega (arith, c.if-answer-lt-ANSWER_WORDS.false) } in
    rw c.from.ensures (refuses c.args.text.now c.args.nodes.now _ c.read_file.new.nodes _ c.args.commands.now c.read_file.new.commands c.args.answer.now (file_of c.read_file.result) _ _ large c.read_file.ensures (ap file_of (c.in-Err-Refused.is ∙ ap Err c.in-Err-Refused.field-0-is)))

pub returns-in-Err-Small : goal.returns-in-Err-Small
returns-in-Err-Small c =
    let large : Lent c.args.nodes.now c.args.commands.now c.args.answer.now = record { nodes = omega (arith, c.if-nodes-lt-NODE_WORDS.false); commands = omega (arith, c.if-commands-lt-COMMAND_WORDS.false); answer = omega (arith, c.if-answer-lt-ANSWER_WORDS.false) } in
    let z : ⊥ = never c.args.text.now c.args.nodes.now _ c.read_file.new.nodes c.args.commands.now c.read_file.new.commands c.args.answer.now (file_of c.read_file.result) large (length-take-le 16384 c.args.nodes.now large.nodes) c.read_file.ensures (ap file_of (c.in-Err-Small.is ∙ ap Err c.in-Err-Small.field-0-is)) in
    absurd z
