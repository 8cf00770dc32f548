-- `cutting_planes::append` owes what it stores: the first bytes of src, copied over the part that begins at `at`, all of them or as many as there is room for.
use Rattle.std.proofs.Common.{arith, rules, refl}
use Rattle.std.proofs.lemmas.Slice.{overwrites}
use Rattle.cutting_planes.proofs.append.Goals as goal

pub returns : goal.returns
returns c = record {
  count = c.min-count.result;
  within = omega arith;
  next = refl;
  room = omega arith;
  all = λ h. omega arith;
  bytes = rw c.copy_from_slice.ensures.after (search (rules, overwrites));
}
