use Rattle.std.proofs.Common.{◌≡◌}
use Rattle.entries.proofs.Partly.{partly}
use Rattle.entries.proofs.negate_sum.Given as goal

-- the entries before the index are negated, the rest are as they were
abbrev pub invariant-loop-entry : goal.invariant-loop-entry
invariant-loop-entry l = l.sum ≡ partly l.entry-index l.initial.sum
