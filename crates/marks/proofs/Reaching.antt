-- Lines within reach: what a sum is worth where each name is 1, and where each is 0, is no more than its greatest value (02, No. 6).
use mathlib.Core.Path.{◌≡◌, refl, sym, ap, subst, ◌∙◌}
use mathlib.Core.Bool.{Bool, true, false, not, cond, ◌&&◌}
use mathlib.Core.List.{List, [], ◌∷◌, map}
use Prim.Native.Nat.{ℕ, ◌+◌, ◌*◌, ◌≤◌, ◌<◌}
use native.Mathlib.Numerals.{add-one}
use native.Mathlib.Omega.{arith}
use lib.Dec.{T}
use lib.IntN.{ℤ, pos, ◌+ℤ◌}
use lib.ListN.{length, get_or, drop}
use lib.Seq.{drop-cons}
use lib.Signed.{lt_z, le_z, ◌≤ℤ◌, ◌<ℤ◌, le_z_yes, lt_z_yes}
use Rattle.integer.specs.Integers.{Within}
use Rattle.integer.proofs.Fits.{within_more, within-pos, within-add}
use Rattle.integer.proofs.Parts.{int, link, ‹◌›, lit, ◌⊕◌}
use Rattle.calculus.specs.Entries.{Lit, Entry, entry, Inequality}
use Rattle.calculus.specs.Equality.{op_of}
use Rattle.calculus.specs.Greatest.{greatest, beyond}
use Rattle.calculus.specs.Matching.{as_constant, binary, is_name}
use Rattle.calculus.specs.Sums.{same_lit, put, all, summand, summands, sum_or, lone_constant, pb_sum, max_summands, unwrap_inequality, all_names}
use Rattle.calculus.specs.Terms.{Terms, nil, cons, listed}
use Rattle.calculus.specs.Words.{Res, ok, bad, bind, max_numeral}
use Rattle.nodes.specs.Nodes.{decode, Below}
use Rattle.nodes.proofs.Tables.{below_at, below_more}
use Rattle.matching.specs.Matched.{Text, term, ConstantAt, PairAt, lit_at, variable_of, negated_of, SplitIs}
use Rattle.matching.proofs.Checks.{bind-of, bind-bad, or_of, or-bad}
use Rattle.sums.specs.Found.{SummandAt}
use Rattle.sums.specs.Lists.{max_total}
use Rattle.sums.proofs.Reading.{all_cons, all_nil, drop_end, sum-40, by_lone}
use Rattle.theorems.proofs.GreatestLaws.{total-bound}
use Rattle.theorems.proofs.SumLaws.{same_lit-eq, scale, Distinct, total, total-put, distinct-put}
use Rattle.marks.specs.Values.{ReachIs, OtherIs, ReachedIs}
use Rattle.marks.proofs.Values.{beyond-bad}

-- ---- two valuations of the literals
-- each name is 1
abbrev at_one : Lit → Bool
at_one l = not l.negated

-- each name is 0
abbrev at_zero : Lit → Bool
at_zero l = l.negated

-- ---- inequalities within reach
-- a greatest value that is not below the constant
within-reach : (q : Inequality) → q.const ≤ℤ greatest q.sum → beyond (ok q) ≡ false
unfolding beyond
within-reach q h = go (all_names q.sum) (lt_z (greatest q.sum) q.const) (λ u. lt_z_yes u)
  where
    go : (a b : Bool) → (T b → greatest q.sum <ℤ q.const) → (a && b) ≡ false
    go true true f = let l : greatest q.sum <ℤ q.const = f tt in let z : ⊥ = omega int in absurd z
    go true false f = refl
    go false b f = refl

-- ---- the summands, one by one
from-here : (ts : List ℕ) (i : ℕ) → i < length ts → drop i ts ≡ get_or ts i 0 ∷ drop (i + 1) ts
from-here ts i h = rw (add-one i) (drop-cons ts i 0 h)

-- over the text x the first i summands are a sum of these two values, and from there on the answer is that for the whole
pub record Summed {t : List ℕ} (x : Text t) (ts : List ℕ) (ones zeros : ℤ) (i : ℕ) : Type 0 where
  pub sum : List Entry
  pub is : summands (listed (map (term x) ts)) [] ≡ summands (listed (map (term x) (drop i ts))) sum
  pub distinct : Distinct sum
  pub sum_at_one : ones ≡ total at_one sum
  pub sum_at_zero : zeros ≡ total at_zero sum

-- over every text, and both values are small
pub record Reaching (t ts : List ℕ) (ones zeros : ℤ) (i : ℕ) : Type 0 where
  pub summed : (x : Text t) → Below x.n ts → Summed x ts ones zeros i
  pub within-ones : Within (i * max_numeral) ones
  pub within-zeros : Within (i * max_numeral) zeros

pub reach-start : (t ts : List ℕ) → Reaching t ts (pos 0) (pos 0) 0
unfolding Distinct total
reach-start t ts = record {
  summed = λ x b. record { sum = []; is = refl; distinct = tt; sum_at_one = refl; sum_at_zero = refl };
  within-ones = within-pos (omega arith);
  within-zeros = within-pos (omega arith);
}

module _ {t ts : List ℕ} {ones zeros : ℤ} {i : ℕ} (R : Reaching t ts ones zeros i) where
  module _ (few : length ts ≤ max_summands) (most : i ≤ length ts) where
    pub ones-within : Within max_total ones
    ones-within = within_more (omega arith) R.within-ones

    pub zeros_within : Within max_total zeros
    zeros_within = within_more (omega arith) R.within-zeros

  -- a term that is no summand
  pub reach-refused : i < length ts → (number : ℕ) → ((s : List ℕ) → summand (decode s t (get_or ts i 0)) ≡ bad number) → (z : ℤ) → ReachIs t ts z true
  reach-refused h number B z e x b =
      let q : Summed x ts ones zeros i = R.summed x b in
      sym (beyond-bad _ number (bind-bad _ _ number (q.is ∙ rw (from-here ts i h, all_cons) (bind-bad _ _ number (B x.text)))))

  module _ (h : i < length ts) {k : ℕ} {c : ℤ} (S : SummandAt t (get_or ts i 0) k c) where
    more : (i + 1) * max_numeral ≡ i * max_numeral + max_numeral
    more = omega arith

    -- an end that c was added to, and one that is as it was
    counted : (b : Bool) (a z v : ℤ) → b ≡ true → z ≡ a +ℤ c → a ≡ v → z ≡ scale b c +ℤ v
    unfolding scale
    counted b a z v e q w = rw (e, q, w) (omega (int, link (‹ v › ⊕ ‹ c ›), link (‹ c › ⊕ ‹ v ›)))

    passed : (b : Bool) (a v : ℤ) → b ≡ false → a ≡ v → a ≡ scale b c +ℤ v
    unfolding scale
    passed b a v e w = rw (e, w) (omega (int, link (lit 0 ⊕ ‹ v ›)))

    -- one summand more
    one_more : (o z : ℤ) → ((v : ℤ) → ones ≡ v → o ≡ scale (not (negated_of k)) c +ℤ v) → ((v : ℤ) → zeros ≡ v → z ≡ scale (negated_of k) c +ℤ v) → (x : Text t) → Below x.n ts → Summed x ts o z (i + 1)
    one_more o z f g x b = record {
      sum = put (lit_at (term x) k) c E;
      is = q.is ∙ rw (from-here ts i h, all_cons) (bind-of _ _ (entry (lit_at (term x) k) c) (S.is x (below_at ts i b h)));
      distinct = distinct-put (lit_at (term x) k) c E q.distinct;
      sum_at_one = f (total at_one E) q.sum_at_one ∙ sym (total-put at_one (lit_at (term x) k) c E);
      sum_at_zero = g (total at_zero E) q.sum_at_zero ∙ sym (total-put at_zero (lit_at (term x) k) c E);
    }
      where
        q : Summed x ts ones zeros i
        q = R.summed x b

        E : List Entry
        E = q.sum

    -- a negated literal is true where each name is 0
    pub reach-negated : (z : ℤ) → negated_of k ≡ true → z ≡ zeros +ℤ c → Reaching t ts ones z (i + 1)
    reach-negated z e q = record {
      summed = one_more ones z (λ v w. passed _ ones v (ap not e) w) (λ v w. counted _ zeros z v e q w);
      within-ones = within_more (omega arith) R.within-ones;
      within-zeros = rw (q, more) (within-add R.within-zeros S.within);
    }

    -- a plain one where each is 1
    pub reach-plain : (o : ℤ) → negated_of k ≡ false → o ≡ ones +ℤ c → Reaching t ts o zeros (i + 1)
    reach-plain o e q = record {
      summed = one_more o zeros (λ v w. counted _ ones o v (ap not e) q w) (λ v w. passed _ zeros v e w);
      within-ones = rw (q, more) (within-add R.within-ones S.within);
      within-zeros = within_more (omega arith) R.within-zeros;
    }

  module _ (h : length ts ≤ i) where
    all-summed : (x : Text t) (q : Summed x ts ones zeros i) → summands (listed (map (term x) ts)) [] ≡ ok q.sum
    all-summed x q = q.is ∙ rw (drop_end ts i h, all_nil)

    at_least : (x : Text t) (q : Summed x ts ones zeros i) (z : ℤ) → z ≤ℤ greatest q.sum → beyond (bind (summands (listed (map (term x) ts)) []) (λ E. ok (record { sum = E; const = z }))) ≡ false
    at_least x q z h = ap beyond (bind-of _ _ q.sum (all-summed x q)) ∙ within-reach (record { sum = q.sum; const = z }) h

    pub reach_ones : (z : ℤ) (r : Bool) → r ≡ le_z z ones → ReachIs t ts z r
    reach_ones z r e y x b =
        let q : Summed x ts ones zeros i = R.summed x b in
        let l : z ≤ℤ ones = le_z_yes (subst T (sym y ∙ e) tt) in
        at_least x q z (omega (int, l, q.sum_at_one, total-bound at_one (λ l. refl) q.sum q.distinct))

    pub reach_zeros : (z : ℤ) (r : Bool) → r ≡ le_z z zeros → ReachIs t ts z r
    reach_zeros z r e y x b =
        let q : Summed x ts ones zeros i = R.summed x b in
        let l : z ≤ℤ zeros = le_z_yes (subst T (sym y ∙ e) tt) in
        at_least x q z (omega (int, l, q.sum_at_zero, total-bound at_zero (λ l. refl) q.sum q.distinct))

-- ---- sums over other terms
-- each entry is over a name
abbrev over : Entry → Bool
over e = is_name e.lit.variable

both-none : (n : Bool) → (n && false) ≡ false
both-none true = refl
both-none false = refl

both_false : (n a b : Bool) → (n && a) ≡ false → (a ≡ false → b ≡ false) → (n && b) ≡ false
both_false true a b h g = g h
both_false false a b h g = refl

-- an entry that is over no name stays one
put-still : (k : Lit) (c : ℤ) (E : List Entry) → all over E ≡ false → all over (put k c E) ≡ false
unfolding all put
put-still k c [] e = absurd (subst T e tt)
put-still k c (f ∷ E) e = go (same_lit k f.lit) (put-still k c E)
  where
    go : (s : Bool) → (all over E ≡ false → all over (put k c E) ≡ false) → all over (cond s (entry f.lit (f.coefficient +ℤ c) ∷ E) (f ∷ put k c E)) ≡ false
    go true g = e
    go false g = both_false (over f) (all over E) (all over (put k c E)) e g

-- a term that is no name makes such an entry
put_other : (k : Lit) (c : ℤ) (E : List Entry) → is_name k.variable ≡ false → all over (put k c E) ≡ false
unfolding all put
put_other k c [] e = ap (λ (b : Bool). b && true) e
put_other k c (f ∷ E) e = go (same_lit k f.lit) (same_lit-eq k f.lit) (put_other k c E e)
  where
    go : (s : Bool) → (T s → k ≡ f.lit) → all over (put k c E) ≡ false → all over (cond s (entry f.lit (f.coefficient +ℤ c) ∷ E) (f ∷ put k c E)) ≡ false
    go true q h = ap (λ (l : Lit). is_name l.variable && all over E) (sym (q tt)) ∙ ap (λ (b : Bool). b && all over E) e
    go false q h = both_false (over f) false (all over (put k c E)) (both-none (over f)) (λ z. h)

-- and is one of the sum, if there is a sum
stays : (z : ℤ) (ts : Terms) (E : List Entry) → all over E ≡ false → beyond (bind (summands ts E) (λ F. ok (record { sum = F; const = z }))) ≡ false
unfolding summands bind beyond all_names
stays z nil E e = ap (λ (b : Bool). b && lt_z (greatest E) z) e
stays z (cons t ts) E e = go (summand t) (stays z ts)
  where
    go : (r : Res Entry) → ((F : List Entry) → all over F ≡ false → beyond (bind (summands ts F) (λ G. ok (record { sum = G; const = z }))) ≡ false)
        → beyond (bind (bind r (λ d. summands ts (put d.lit d.coefficient E))) (λ F. ok (record { sum = F; const = z }))) ≡ false
    go (ok d) g = g (put d.lit d.coefficient E) (put-still d.lit d.coefficient E e)
    go (bad n) g = refl

-- over every text the first i terms are summands, and from there on the answer is that for the whole
pub record Walked (t ts : List ℕ) (i : ℕ) : Type 0 where
  pub so_far : (x : Text t) → Below x.n ts → (E : List Entry) × (summands (listed (map (term x) ts)) [] ≡ summands (listed (map (term x) (drop i ts))) E)

module _ {t ts : List ℕ} {i : ℕ} (W : Walked t ts i) (h : i < length ts) where
  pub walk_refused : (number : ℕ) → ((s : List ℕ) → summand (decode s t (get_or ts i 0)) ≡ bad number) → OtherIs t ts true
  walk_refused number B z e x b =
      let (E, q) = W.so_far x b in
      sym (beyond-bad _ number (bind-bad _ _ number (q ∙ rw (from-here ts i h, all_cons) (bind-bad _ _ number (B x.text)))))

  module _ {k : ℕ} {c : ℤ} (S : SummandAt t (get_or ts i 0) k c) where
    one-summand : (x : Text t) (b : Below x.n ts) (E : List Entry) → summands (listed (map (term x) (drop i ts))) E ≡ summands (listed (map (term x) (drop (i + 1) ts))) (put (lit_at (term x) k) c E)
    one-summand x b E = rw (from-here ts i h, all_cons) (bind-of _ _ (entry (lit_at (term x) k) c) (S.is x (below_at ts i b h)))

    pub walk-next : Walked t ts (i + 1)
    walk-next = record {
      so_far = λ x b. let (E, q) = W.so_far x b in (put (lit_at (term x) k) c E, q ∙ one-summand x b E);
    }

    pub walk-other : ((s : List ℕ) → false ≡ is_name (decode s t (variable_of k))) → OtherIs t ts true
    walk-other f z e x b =
        let (E, q) = W.so_far x b in
        ap (λ (r : Res (List Entry)). beyond (bind r (λ F. ok (record { sum = F; const = z })))) (q ∙ one-summand x b E)
        ∙ stays z _ (put (lit_at (term x) k) c E) (put_other (lit_at (term x) k) c E (sym (f x.text)))

-- ---- an inequality
module _ {t : List ℕ} {i : ℕ} where
  -- it is no `>=` of two terms
  pub reached-other : ((s : List ℕ) → binary (op_of 3) (decode s t i) ≡ bad 0) → ReachedIs t i true
  unfolding unwrap_inequality op_of
  reached-other q e x h = sym (beyond-bad _ 23 (bind-bad _ _ 23 (or-bad 23 0 _ (q x.text))))

  module _ {a b : ℕ} (P : PairAt t 3 i a b) where
    -- its right side is no numeral
    pub reached-term : ((s : List ℕ) → as_constant (decode s t b) ≡ bad 0) → ReachedIs t i true
    unfolding unwrap_inequality op_of
    reached-term q e x h = sym (beyond-bad _ 24 (bind-of _ _ _ (or_of 23 _ _ (P.is x.text)) ∙ bind-bad _ _ 24 (or-bad 24 0 _ (q x.text))))

    module _ {z : ℤ} (C : ConstantAt t b z) where
      -- it is read as its sum is
      by-sum : (x : Text t) (r : Res (List Entry)) → pb_sum (term x a) ≡ r → unwrap_inequality (term x i) ≡ bind r (λ E. ok (record { sum = E; const = z }))
      unfolding unwrap_inequality op_of
      by-sum x r e = bind-of _ _ _ (or_of 23 _ _ (P.is x.text)) ∙ bind-of _ _ z (or_of 24 _ z (C.is x.text)) ∙ rw e

      module _ {l : List ℕ} (S : SplitIs t a l) where
        pub reached-long : max_summands < length l → ReachedIs t i true
        unfolding bind
        reached-long h e x g = sym (beyond-bad _ 40 (by-sum x (bad 40) (sum-40 S h x.text)))

        pub reached-sum : length l ≤ max_summands → ((s : List ℕ) → lone_constant (listed (map (decode s t) l)) ≡ bad 0) → (y : ℤ) (r : Bool) → y ≡ z → ReachIs t l y r → ReachedIs t i r
        unfolding sum_or
        reached-sum few L y r e R q x h =
            ap beyond (by-sum x _ (by_lone S few x.text (bad 0) (L x.text)))
            ∙ rw e at (R q x (below_more l S.nodes (omega (arith, P.left.before))))
