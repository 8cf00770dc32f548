-- `nodes::put_two` meets its contract: two words of the copy.
use Rattle.std.proofs.Common.{◌+◌, drop, arith, add-zero, length-drop, get_or-drop}
use Rattle.nodes.proofs.Copying.{copy-two}
use Rattle.nodes.proofs.put_two.Goals as goal

pub returns : goal.returns
returns c = rw (← c.child_base.ensures) (copy-two c.args.nodes.now (drop c.args.from c.args.pending.now) (c.child_base.result + c.args.c) (simp length-drop (omega arith)) (omega arith) _ _ (rw (get_or-drop, add-zero) c.word.ensures) (rw get_or-drop c.word-2.ensures))
