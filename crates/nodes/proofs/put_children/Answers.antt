-- `nodes::put_children` owes the copy of the children. The loop's invariant: the first i of them are copied.
use Rattle.std.proofs.Common.{◌≡◌, ◌<◌, ◌-◌, get_or, drop, arith, length-drop, length-take, get_or-take}
use Rattle.std.proofs.lemmas.List.Edits.{paste_more}
use Rattle.nodes.proofs.put_children.Goals as goal

pub loop-i-preserved : goal.loop-i-preserved
loop-i-preserved c =
    let h : c.loop-i.i < c.args.to - c.args.from = omega (arith, simp length-take at c.loop-i-test.true) in
    let w : c.word.result ≡ get_or (drop c.args.from c.args.pending.now) c.loop-i.i 0 = rw c.word.ensures (get_or-take _ _ _ 0 h) in
    rw (c.loop-i.invariant, w) (paste_more c.args.nodes.now _ (drop c.args.from c.args.pending.now) c.loop-i.i 0 (omega arith) (simp length-drop (omega arith)))
