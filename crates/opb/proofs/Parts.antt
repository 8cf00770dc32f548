-- The parts of a constraint, by the tokens that stand there.
use mathlib.Core.Path.{◌≡◌, ap, subst, ◌∙◌}
use mathlib.Core.Bool.{Bool}
use mathlib.Core.Logic.{◌⊎◌, inl, inr}
use mathlib.Core.List.{List, [], ◌∷◌, ◌++◌}
use Prim.Native.Nat.{ℕ, ◌+◌, ◌<◌}
use native.Mathlib.Omega.{arith}
use lib.ListN.{length}
use Rattle.std.specs.Prelude.{Result, Ok, Err, IsErrAnd}
use Rattle.std.proofs.lemmas.Result.{err_from_is_err_and}
use Rattle.integer.specs.Integers.{signed}
use Rattle.calculus.specs.OpbWords.{inside_at}
use Rattle.calculus.specs.OpbWriting.{times, compare}
use Rattle.calculus.specs.OpbReading.{found, on_begin, on_literal, on_number, on_semicolon, constant_at, constraint_from}
use Rattle.lexer.specs.declared.Reason.TheVariants.{Format}
use Rattle.opb.specs.Judged.{LiteralIs, ItemIs, ClosedIs, ConstantIs}
use Rattle.opb.specs.Tokens.{opb_token_of, OpbPlaced}
use Rattle.lexer.specs.declared.Fault.{Fault}
use Rattle.opb.specs.declared.Item.TheVariants.{Summand, Compared}
use Rattle.opb.specs.declared.OpbToken.{OpbToken}
use Rattle.opb.specs.declared.OpbToken.TheVariants.{End, Number, Literal, Relation, Semicolon}

-- ---- what `?` passes on
pub passed : {T E : Type 0} (q : Result T E) {d : E} → IsErrAnd q (λ f. f ≡ d) → q ≡ Err d
passed q h = let p = err_from_is_err_and q h in p.1 ∙ ap Err p.2

-- ---- a refusal of the token that stands here
module _ (s : List ℕ) (at : ℕ) (b : Fault) (e : opb_token_of s (Err b) ≡ inside_at s at) where
  pub literal-refused : LiteralIs s at (Err b)
  unfolding opb_token_of on_literal
  literal-refused k = rw (← e)

  pub item-refused : ItemIs s at (Err b)
  unfolding opb_token_of constraint_from on_begin
  item-refused f xs = rw (← e)

  pub semicolon-refused : ClosedIs s at (Err b)
  unfolding opb_token_of on_semicolon
  semicolon-refused k = rw (← e)

  pub constant-refused : ConstantIs s at (Err b)
  unfolding opb_token_of constant_at on_number
  constant-refused xs r = rw (← e)

-- ---- a token that stands here
module _ (s : List ℕ) (at : ℕ) (r : OpbToken) (e : opb_token_of s (Ok r) ≡ inside_at s at) (P : OpbPlaced s at (Ok r)) where
  pub literal-named : (d : Bool) (p n t : ℕ) → r ≡ Literal d p n t → LiteralIs s at (Ok (d, n, t))
  unfolding opb_token_of on_literal
  literal-named d p n t x =
      let Q : OpbPlaced s at (Ok (Literal d p n t)) = subst (λ (z : OpbToken). OpbPlaced s at (Ok z)) x P in
      (λ k. rw (← e, x), Q.0, omega (arith, Q.1, Q.2, Q.3), Q.3, Q.4)

  pub semicolon-placed : (p : ℕ) → r ≡ Semicolon p → p < length s
  semicolon-placed p x = (subst (λ (z : OpbToken). OpbPlaced s at (Ok z)) x P).1

  pub semicolon-closed : (p : ℕ) → r ≡ Semicolon p → ClosedIs s at (Ok (p + 1))
  unfolding opb_token_of on_semicolon
  semicolon-closed p x =
      let Q : OpbPlaced s at (Ok (Semicolon p)) = subst (λ (z : OpbToken). OpbPlaced s at (Ok z)) x P in
      (λ k. rw (← e, x), omega (arith, Q.0), omega (arith, Q.1))

  pub relation-compared : (g : Bool) (p t : ℕ) → r ≡ Relation g p t → ItemIs s at (Ok (Compared g t))
  unfolding opb_token_of constraint_from on_begin
  relation-compared g p t x =
      let Q : OpbPlaced s at (Ok (Relation g p t)) = subst (λ (z : OpbToken). OpbPlaced s at (Ok z)) x P in
      (λ f xs. rw (← e, x), omega (arith, Q.0, Q.1), Q.2)

  -- what stands here in their place is refused where it begins
  module _ (p : ℕ) where
    pub no-literal : (r ≡ End p) ⊎ (((m : Bool) × (v : ℕ) × (t : ℕ) × (r ≡ Number m v p t)) ⊎ (((g : Bool) × (t : ℕ) × (r ≡ Relation g p t)) ⊎ (r ≡ Semicolon p))) → LiteralIs s at (Err (Format, p))
    unfolding opb_token_of on_literal
    no-literal (inl x) k = rw (← e, x)
    no-literal (inr (inl (m, v, t, x))) k = rw (← e, x)
    no-literal (inr (inr (inl (g, t, x)))) k = rw (← e, x)
    no-literal (inr (inr (inr x))) k = rw (← e, x)

    pub no-item : (r ≡ End p) ⊎ (((d : Bool) × (n : ℕ) × (t : ℕ) × (r ≡ Literal d p n t)) ⊎ (r ≡ Semicolon p)) → ItemIs s at (Err (Format, p))
    unfolding opb_token_of constraint_from on_begin
    no-item (inl x) f xs = rw (← e, x)
    no-item (inr (inl (d, n, t, x))) f xs = rw (← e, x)
    no-item (inr (inr x)) f xs = rw (← e, x)

    pub no-semicolon : (r ≡ End p) ⊎ (((m : Bool) × (v : ℕ) × (t : ℕ) × (r ≡ Number m v p t)) ⊎ (((d : Bool) × (n : ℕ) × (t : ℕ) × (r ≡ Literal d p n t)) ⊎ ((g : Bool) × (t : ℕ) × (r ≡ Relation g p t)))) → ClosedIs s at (Err (Format, p))
    unfolding opb_token_of on_semicolon
    no-semicolon (inl x) k = rw (← e, x)
    no-semicolon (inr (inl (m, v, t, x))) k = rw (← e, x)
    no-semicolon (inr (inr (inl (d, n, t, x)))) k = rw (← e, x)
    no-semicolon (inr (inr (inr (g, t, x)))) k = rw (← e, x)

    pub no-constant : (r ≡ End p) ⊎ (((d : Bool) × (n : ℕ) × (t : ℕ) × (r ≡ Literal d p n t)) ⊎ (((g : Bool) × (t : ℕ) × (r ≡ Relation g p t)) ⊎ (r ≡ Semicolon p))) → ConstantIs s at (Err (Format, p))
    unfolding opb_token_of constant_at on_number
    no-constant (inl x) xs r = rw (← e, x)
    no-constant (inr (inl (d, n, t, x))) xs r = rw (← e, x)
    no-constant (inr (inr (inl (g, t, x)))) xs r = rw (← e, x)
    no-constant (inr (inr (inr x))) xs r = rw (← e, x)

  module _ (m : Bool) (v p t : ℕ) (x : r ≡ Number m v p t) where
    pub number-placed : OpbPlaced s at (Ok (Number m v p t))
    number-placed = subst (λ (z : OpbToken). OpbPlaced s at (Ok z)) x P

    -- a number and a literal
    pub number-summand : (d : Bool) (n u : ℕ) → LiteralIs s t (Ok (d, n, u)) → ItemIs s at (Ok (Summand m v d n u))
    unfolding opb_token_of constraint_from on_begin
    number-summand d n u N =
        let Q : OpbPlaced s at (Ok (Number m v p t)) = number-placed in (
          λ f xs. rw (← e, x) (N.0 (λ l t. constraint_from f s (xs ++ (times (signed m v) l ∷ [])) (inside_at s t))),
          Q.0,
          Q.1,
          N.1,
          omega (arith, Q.2, Q.3, N.2),
          N.3,
          N.4,
        )

    pub number-alone : (b : Fault) → LiteralIs s t (Err b) → ItemIs s at (Err b)
    unfolding opb_token_of constraint_from on_begin
    number-alone b N f xs = rw (← e, x) (N (λ l t. constraint_from f s (xs ++ (times (signed m v) l ∷ [])) (inside_at s t)))

    -- a number and `;`
    pub number-last : (u : ℕ) → ClosedIs s t (Ok u) → ConstantIs s at (Ok (m, v, u))
    unfolding opb_token_of constant_at on_number
    number-last u N =
        let Q : OpbPlaced s at (Ok (Number m v p t)) = number-placed in
        (λ xs r. rw (← e, x) (N.0 (λ t. found (compare xs r (signed m v)) t)), Q.0, Q.1, omega (arith, Q.2, Q.3, N.1), N.2)

    pub number-open : (b : Fault) → ClosedIs s t (Err b) → ConstantIs s at (Err b)
    unfolding opb_token_of constant_at on_number
    number-open b N xs r = rw (← e, x) (N (λ t. found (compare xs r (signed m v)) t))
