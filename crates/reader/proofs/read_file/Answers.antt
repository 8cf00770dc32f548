-- `reader::read_file` owes the reading of any text with tables of any size. Assumes nothing.
use Rattle.heads.proofs.Refusals.{passed_on}
use mathlib.Core.Path.{refl}
use native.Mathlib.Omega.{arith}
use Rattle.reader.proofs.Filing.{file_begun, file_ok, file-err, file-long}
use Rattle.reader.proofs.read_file.Goals as goal

pub returns-then-nodes-ne-NODE_WORDS : goal.returns-then-nodes-ne-NODE_WORDS
returns-then-nodes-ne-NODE_WORDS c = (λ h g. omega arith, refl, refl)

pub returns-then-commands-lt-COMMAND_WORDS : goal.returns-then-commands-lt-COMMAND_WORDS
returns-then-commands-lt-COMMAND_WORDS c = (λ h g. omega arith, refl, refl)

pub returns-then-text-gt-MAX_TEXT : goal.returns-then-text-gt-MAX_TEXT
returns-then-text-gt-MAX_TEXT c = file-long c.args.text.now c.args.nodes.now c.args.commands.now (omega arith) (omega arith) (omega arith)

pub read_commands-requires : goal.read_commands-requires
read_commands-requires c = file_begun _ _ _ (omega arith) (omega arith) (omega arith)

pub returns : goal.returns
returns c = file_ok c.args.text.now c.args.nodes.now c.args.commands.now (omega arith) (omega arith) (omega arith) c.read_commands.new.nodes c.read_commands.new.commands c.read_commands.result c.read_commands.ensures _ c.in_ok-read_commands.was

pub returns-in_err-read_commands : goal.returns-in_err-read_commands
returns-in_err-read_commands c = rw (passed_on c.from_residual.result c.from_residual.ensures.1) (file-err c.args.text.now c.args.nodes.now c.args.commands.now (omega arith) (omega arith) (omega arith) c.read_commands.new.nodes c.read_commands.new.commands c.read_commands.result c.read_commands.ensures _ c.in_err-read_commands.was)
