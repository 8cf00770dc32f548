-- `opb_reader::read_both` owes both texts: the OPB text first, then the proof text where it stands behind.
use mathlib.Core.Path.{ap}
use Rattle.reader.specs.Reading.{whole_of}
use Rattle.heads.proofs.Refusals.{passed_on}
use native.Mathlib.Omega.{arith}
use Rattle.opb_reader.proofs.Both.{model_is, both-opb, both-not, both_long, both-inside, both-begun, both-all, both-refused, both_later}
use Rattle.opb_reader.proofs.read_both.Goals as goal

pub read_opb-requires : goal.read_opb-requires
read_opb-requires c = both-opb (c.requires)

pub returns-then-text-gt-MAX_TEXT : goal.returns-then-text-gt-MAX_TEXT
returns-then-text-gt-MAX_TEXT c = both_long (c.requires) (model_is _ _ _ _ _ _ c.read_opb.result c.read_opb.ensures _ _ c.in_ok-k.was) c.if-text-gt-MAX_TEXT.true

pub overflow_sub-start : goal.overflow_sub-start
overflow_sub-start c = both-inside (c.requires) (model_is _ _ _ _ _ _ c.read_opb.result c.read_opb.ensures _ _ c.in_ok-k.was) (omega (arith, c.if-text-gt-MAX_TEXT.false))

pub read_commands-requires : goal.read_commands-requires
read_commands-requires c = both-begun (c.requires) (model_is _ _ _ _ _ _ c.read_opb.result c.read_opb.ensures _ _ c.in_ok-k.was) (omega (arith, c.if-text-gt-MAX_TEXT.false))

pub overflow_sub-result : goal.overflow_sub-result
overflow_sub-result c = both_later (c.requires) (model_is _ _ _ _ _ _ c.read_opb.result c.read_opb.ensures _ _ c.in_ok-k.was) (omega (arith, c.if-text-gt-MAX_TEXT.false)) _ _ (whole_of c.read_commands.result) c.read_commands.ensures _ _ (ap whole_of c.in-Err.is)

pub returns-in_err-k : goal.returns-in_err-k
returns-in_err-k c = rw (passed_on c.from_residual.result c.from_residual.ensures.1) (both-not (c.requires) _ _ _ _ c.read_opb.result c.read_opb.ensures _ c.in_err-k.was)

pub returns-in-Err : goal.returns-in-Err
returns-in-Err c = both-refused (c.requires) (model_is _ _ _ _ _ _ c.read_opb.result c.read_opb.ensures _ _ c.in_ok-k.was) (omega (arith, c.if-text-gt-MAX_TEXT.false)) _ _ (whole_of c.read_commands.result) c.read_commands.ensures _ _ (ap whole_of c.in-Err.is)

pub returns-in-Ok : goal.returns-in-Ok
returns-in-Ok c = both-all (c.requires) (model_is _ _ _ _ _ _ c.read_opb.result c.read_opb.ensures _ _ c.in_ok-k.was) (omega (arith, c.if-text-gt-MAX_TEXT.false)) _ _ (whole_of c.read_commands.result) c.read_commands.ensures _ _ _ _ (ap whole_of c.in-Ok.is)
