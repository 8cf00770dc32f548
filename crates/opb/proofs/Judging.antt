-- The judge's loop over the summands of one constraint, step by step.
use mathlib.Core.Path.{◌≡◌, refl, ap, subst, ◌∙◌}
use mathlib.Core.Bool.{Bool, true, false, cond}
use mathlib.Core.List.{List, [], ◌∷◌, ◌++◌}
use Prim.Native.Nat.{ℕ, zero, suc, ◌+◌, ◌-◌, ◌≤◌, ◌<◌}
use native.Mathlib.Nat.{not-suc-le-zero}
use native.Mathlib.Omega.{arith}
use lib.IntN.{ℤ}
use lib.ListN.{length}
use lib.Seq.{slice}
use Rattle.std.specs.Prelude.{Ok, Err}
use Rattle.integer.specs.Integers.{signed}
use Rattle.calculus.specs.Commands.{enough}
use Rattle.calculus.specs.OpbWords.{plain, negated, inside_at}
use Rattle.calculus.specs.OpbWriting.{Summand, times, compare}
use Rattle.calculus.specs.OpbReading.{OneRead, found, fault, constraint_from}
use Rattle.calculus.specs.Limits.{max_text}
use Rattle.lexer.specs.Tokens.{reason_number}
use Rattle.lexer.specs.declared.Fault.{Fault}
use Rattle.opb.specs.Counts.{negations}
use Rattle.opb.specs.Judged.{ItemIs, ConstantIs, judged_at, IsWhole, JudgedIs, put_summand}
use Rattle.opb.specs.Summands.{max_summands, summand_words, literal_over, summands_of, SummandsIn}
use Rattle.opb.specs.Tokens.{relation_of}
use Rattle.opb.specs.declared.Item.{Item}
use Rattle.opb.specs.declared.Item.TheVariants.{Summand as SummandItem, Compared}
use Rattle.opb.proofs.Storing.{put-long, none-stored, more-stored}

-- ---- one summand more
long-snoc : (xs : List Summand) (x : Summand) → length (xs ++ (x ∷ [])) ≡ length xs + 1
long-snoc [] x = refl
long-snoc (y ∷ xs) x = omega (arith, long-snoc xs x)

negations-snoc : (xs : List Summand) (k : ℤ) (d : Bool) (x : List ℕ) → negations (xs ++ (times k (literal_over d x) ∷ [])) ≡ cond d (suc (negations xs)) (negations xs)
unfolding negations literal_over
negations-snoc [] k true x = refl
negations-snoc [] k false x = refl
negations-snoc (times j (plain y) ∷ xs) k d x = negations-snoc xs k d x
negations-snoc (times j (negated y) ∷ xs) k true x = ap suc (negations-snoc xs k true x)
negations-snoc (times j (negated y) ∷ xs) k false x = ap suc (negations-snoc xs k false x)

counted-le : (d : Bool) (g q : ℕ) → g ≤ q → cond d (suc g) g ≤ q + 1
counted-le true g q h = omega arith
counted-le false g q h = omega arith

-- the constraint at `at` is, at any number of steps that is enough, the summands xs and then what stands from i on; the words a hold them, while there is room
pub record Inv (s : List ℕ) (at : ℕ) (a₀ a : List ℕ) (i q g : ℕ) : Type 0 where
  pub xs : List Summand
  pub fuel : ℕ
  pub more : length s - i < fuel
  pub follows : judged_at s at ≡ constraint_from fuel s xs (inside_at s i)
  pub count : length xs ≡ q
  pub bars : negations xs ≡ g
  pub stored : q ≤ max_summands → (summands_of s a q ≡ xs) × SummandsIn s a q
  pub later : at ≤ i
  pub place : i ≤ length s
  pub counted : q ≤ i
  pub fewer : g ≤ q
  pub long : length a ≡ length a₀
  pub room : summand_words ≤ length a
  pub short : length s ≤ max_text

module _ (s : List ℕ) (at : ℕ) (a₀ : List ℕ) where
  pub judge-start : at < length s → length s ≤ max_text → summand_words ≤ length a₀ → Inv s at a₀ a₀ at 0 0
  unfolding judged_at negations
  judge-start h l room = record {
    xs = [];
    fuel = enough;
    more = omega arith;
    follows = refl;
    count = refl;
    bars = refl;
    stored = λ z. none-stored s a₀ room;
    later = omega arith;
    place = omega arith;
    counted = omega arith;
    fewer = omega arith;
    long = refl;
    room = room;
    short = l;
  }

  module _ (a : List ℕ) (i q g : ℕ) (I : Inv s at a₀ a i q g) where
    -- what this item says of the constraint
    one_more : (y : OneRead) → ((f : ℕ) → constraint_from (suc f) s I.xs (inside_at s i) ≡ y) → judged_at s at ≡ y
    one_more y e = go I.fuel I.more I.follows
      where
        go : (f : ℕ) → length s - i < f → judged_at s at ≡ constraint_from f s I.xs (inside_at s i) → judged_at s at ≡ y
        go zero h q = absurd (not-suc-le-zero h)
        go (suc f) h q = q ∙ e f

    pub judge-off : (e : Fault) → ItemIs s i (Err e) → JudgedIs s at a (Err e)
    judge-off e P = one_more (fault (reason_number e.0) e.1) (λ f. P f I.xs)

    module _ (r : Item) (P : ItemIs s i (Ok r)) where
      pub summand : (m : Bool) (v : ℕ) (d : Bool) (n t : ℕ) → r ≡ SummandItem m v d n t → ItemIs s i (Ok (SummandItem m v d n t))
      summand m v d n t x = subst (λ (z : Item). ItemIs s i (Ok z)) x P

      pub compared : (e : Bool) (t : ℕ) → r ≡ Compared e t → ItemIs s i (Ok (Compared e t))
      compared e t x = subst (λ (z : Item). ItemIs s i (Ok z)) x P

      pub judge-more : (m : Bool) (v : ℕ) (d : Bool) (n t : ℕ) → r ≡ SummandItem m v d n t → (b : List ℕ) → b ≡ put_summand a q m v d n t → (h : ℕ) → h ≡ cond d (suc g) g → Inv s at a₀ b t (q + 1) h
      judge-more m v d n t x b e h u = rw (e, u) (go I.fuel I.more I.follows)
        where
          S : ItemIs s i (Ok (SummandItem m v d n t))
          S = summand m v d n t x

          go : (f : ℕ) → length s - i < f → judged_at s at ≡ constraint_from f s I.xs (inside_at s i) → Inv s at a₀ (put_summand a q m v d n t) t (q + 1) (cond d (suc g) g)
          go zero h w = absurd (not-suc-le-zero h)
          go (suc f) h w = record {
            xs = I.xs ++ (times (signed m v) (literal_over d (slice n t s)) ∷ []);
            fuel = f;
            more = omega (arith, S.4, S.6);
            follows = w ∙ S.0 f I.xs;
            count = long-snoc I.xs _ ∙ ap (λ (k : ℕ). k + 1) I.count;
            bars = negations-snoc I.xs _ d _ ∙ ap (λ (k : ℕ). cond d (suc k) k) I.bars;
            stored = more-stored s a q m v d n t I.xs I.stored I.room S.1 S.2 S.5 S.6 S.3;
            later = omega (arith, I.later, S.4);
            place = S.6;
            counted = omega (arith, I.counted, S.4);
            fewer = counted-le d g q I.fewer;
            long = put-long a q m v d n t ∙ I.long;
            room = rw (put-long a q m v d n t) I.room;
            short = I.short;
          }

      module _ (e : Bool) (t : ℕ) (x : r ≡ Compared e t) where
        pub judge_not : (b : Fault) → ConstantIs s t (Err b) → JudgedIs s at a (Err b)
        judge_not b C = one_more (fault (reason_number b.0) b.1) (λ f. (compared e t x).0 f I.xs ∙ C I.xs (relation_of e))

        pub judge-whole : (m : Bool) (v u : ℕ) → ConstantIs s t (Ok (m, v, u)) → IsWhole s at a u e m v q g
        judge-whole m v u K =
            let R : ItemIs s i (Ok (Compared e t)) = compared e t x in
            record {
              xs = I.xs;
              parsed = one_more (found (compare I.xs (relation_of e) (signed m v)) u) (λ f. R.0 f I.xs ∙ K.0 I.xs (relation_of e));
              count = I.count;
              negated = I.bars;
              stored = I.stored;
              later = omega (arith, I.later, R.1, K.3);
              inside = K.4;
              size = K.1;
              minus = K.2;
              counted = omega (arith, I.counted, I.place);
              fewer = I.fewer;
            }
