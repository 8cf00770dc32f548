use Rattle.lines.proofs.Filing.{Passed}
use Rattle.lines.proofs.run_commands.Given as goal

abbrev pub invariant-loop-k : goal.invariant-loop-k
invariant-loop-k l = Passed l.text l.initial.nodes l.nodes l.initial.commands l.commands l.names l.numbers l.all l.n l.c l.k l.m l.d
