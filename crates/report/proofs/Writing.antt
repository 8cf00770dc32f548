-- What was written: nothing, one byte, one piece after another; and what a report is in which it stands.
use mathlib.Core.Path.{◌≡◌, refl, sym, ap, ◌∙◌, subst}
use Prim.Native.Nat.{ℕ, suc, ◌+◌, ◌≤◌, ◌<◌}
use native.Mathlib.Nat.{add-zero}
use native.Mathlib.Numerals.{add-one}
use native.Mathlib.Omega.{arith}
use mathlib.Core.List.{List, [], ◌∷◌, ◌++◌, append_assoc, append-nil}
use lib.ListN.{length, get_or, set, take, drop, length-append, length-set, take-append-drop}
use lib.Seq.{length-take-le, set_split, take_at, drop_at, drop-append-add, drop-drop, take-suc, take_all}
use Rattle.report.specs.Written.{put, Wrote}

-- ---- what is put
-- behind s, which was put from `at` on, t is put as if with s
module _ (d : List ℕ) (at : ℕ) (s : List ℕ) (h : at ≤ length d) where
  head-long : length (take at d ++ s) ≡ at + length s
  head-long = length-append (take at d) s ∙ ap (λ (k : ℕ). k + length s) (length-take-le at d h)

  put-put : (t : List ℕ) → put (put d at s) (at + length s) t ≡ put d at (s ++ t)
  unfolding put
  put-put t =
      let p : List ℕ = take at d ++ s in
      let rest : List ℕ = drop (at + length s) d in
      let a : take (at + length s) (p ++ rest) ≡ p = take_at p rest (at + length s) head-long in
      let b : drop (at + length s + length t) (p ++ rest) ≡ drop (length t) rest =
      ap (λ (k : ℕ). drop (k + length t) (p ++ rest)) (sym head-long) ∙ drop-append-add p rest (length t) in
      let q : drop (length t) rest ≡ drop (at + length (s ++ t)) d =
      let e : at + length s + length t ≡ at + length (s ++ t) = omega (arith, length-append s t) in
      drop-drop (length t) (at + length s) d ∙ ap (λ (k : ℕ). drop k d) e in
      ap (λ (x : List ℕ). x ++ t ++ drop (at + length s + length t) (p ++ rest)) a
      ∙ ap (λ (x : List ℕ). p ++ t ++ x) (b ∙ q)
      ∙ ap (λ (x : List ℕ). x ++ drop (at + length (s ++ t)) d) (append_assoc (take at d) s t)

-- ---- what was written
-- nothing
pub wrote_none : (d : List ℕ) (at : ℕ) → at ≤ length d → Wrote d at [] d at
unfolding put
wrote_none d at h = record {
  next = omega arith;
  room = h;
  size = refl;
  same = sym (ap (λ (k : ℕ). take at d ++ [] ++ drop k d) (add-zero at) ∙ ap (λ (r : List ℕ). r ++ drop at d) (append-nil (take at d)) ∙ take-append-drop at d);
}

-- one byte
pub wrote-byte : (d : List ℕ) (at b : ℕ) → at < length d → Wrote d at (b ∷ []) (set d at b) (at + 1)
unfolding put
wrote-byte d at b h = record {
  next = refl;
  room = omega arith;
  size = length-set d at b;
  same = set_split d at b h ∙ sym (append_assoc (take at d) (b ∷ []) (drop (suc at) d)) ∙ ap (λ (k : ℕ). take at d ++ (b ∷ []) ++ drop k d) (sym (add-one at));
}

infixl 40 ◌⨟◌
-- one piece after another
pub ◌⨟◌ : {d e f s t : List ℕ} {at n r : ℕ} → Wrote d at s e n → Wrote e n t f r → Wrote d at (s ++ t) f r
◌⨟◌ {d} {e} {f} {s} {t} {at} {n} {r} v w =
    let l : length (s ++ t) ≡ length s + length t = length-append s t in
    let i : at ≤ length d = omega (arith, v.next, v.room) in
    record {
      next = omega (arith, v.next, w.next);
      room = omega (arith, v.size, w.room);
      size = w.size ∙ v.size;
      same =
          w.same
          ∙ ap (λ (x : List ℕ). put x n t) v.same
          ∙ ap (λ (k : ℕ). put (put d at s) k t) v.next
          ∙ put-put d at s i t;
    }

-- a turn of the loop that copies s
pub wrote-more : (s : List ℕ) (j : ℕ) {d e : List ℕ} {at o : ℕ} → Wrote d at (take j s) e o → j < length s → o < length e
    → Wrote d at (take (j + 1) s) (set e o (get_or s j 0)) (o + 1)
wrote-more s j {d} {e} {at} {o} w h k =
    subst (λ (x : List ℕ). Wrote d at x (set e o (get_or s j 0)) (o + 1))
    (sym (take-suc s j 0 h) ∙ ap (λ (n : ℕ). take n s) (sym (add-one j)))
    (w ⨟ wrote-byte e o (get_or s j 0) k)

-- all of s was copied
pub wrote-all : (s : List ℕ) (j : ℕ) {d e : List ℕ} {at o : ℕ} → Wrote d at (take j s) e o → length s ≤ j → Wrote d at s e o
wrote-all s j {d} {e} {at} {o} w h = subst (λ (x : List ℕ). Wrote d at x e o) (take_all j s h) w

-- the same bytes under another name
pub wrote_as : {d e s t : List ℕ} {at r : ℕ} → t ≡ s → Wrote d at s e r → Wrote d at t e r
wrote_as {d} {e} {s} {t} {at} {r} p w = subst (λ (x : List ℕ). Wrote d at x e r) (sym p) w

-- ---- what a report is in which s was written
-- from its start on: s in front
pub wrote-front : {d e s : List ℕ} {r : ℕ} → Wrote d 0 s e r → take r e ≡ s
unfolding put
wrote-front {d} {e} {s} {r} w =
    ap (λ (x : List ℕ). take r x) w.same ∙ take_at s (drop (0 + length s) d) r (omega (arith, w.next))

-- the rest is untouched
pub wrote-rest : {d e s : List ℕ} {at r : ℕ} → Wrote d at s e r → drop r e ≡ drop r d
unfolding put
wrote-rest {d} {e} {s} {at} {r} w =
    let i : at ≤ length d = omega (arith, w.next, w.room) in
    ap (λ (x : List ℕ). drop r x) w.same
    ∙ drop_at (take at d ++ s) (drop (at + length s) d) r (head-long d at s i ∙ sym w.next)
    ∙ ap (λ (k : ℕ). drop k d) (sym w.next)
