-- What the arms of several tokens refuse: each token is one case of the definition. And what `?` passes on.
use mathlib.Core.Path.{◌≡◌, ap, ◌∙◌}
use mathlib.Core.Bool.{Bool}
use mathlib.Core.List.{List}
use mathlib.Core.Logic.{◌⊎◌, inl, inr}
use Prim.Native.Nat.{ℕ}
use Rattle.std.proofs.Common.{IsErrAnd}
use Rattle.std.proofs.lemmas.Result.{err_from_is_err_and}
use Rattle.std.specs.Prelude.{Result, Ok, Err}
use Rattle.calculus.specs.Tokens.{token_at}
use Rattle.calculus.specs.Grammar.{head_at, on_term, on_operator, on_name}
use Rattle.calculus.specs.Commands.{lead_at, on_lead}
use Rattle.calculus.specs.PolGrammar.{on_factor, on_word, word_at}
use Rattle.lexer.specs.Tokens.{token_of}
use Rattle.lexer.specs.declared.Fault.{Fault}
use Rattle.lexer.specs.declared.Reason.TheVariants.{Grammar}
use Rattle.lexer.specs.declared.Mark as marks
use Rattle.lexer.specs.declared.Token.{Token}
use Rattle.lexer.specs.declared.Token.TheVariants.{End, Mark, Op, Num, Name}
use Rattle.heads.specs.Heads.{head_of, lead_of, seen, Not, the_name, name_of, kind_of, Neither}
use Rattle.heads.specs.PolHeads.{PolWordIs, FactorIs}

-- what `?` passes on
pub passed_on : {T E : Type 0} (r : Result T E) {d : E} → IsErrAnd r (λ f. f ≡ d) → r ≡ Err d
passed_on r h = let p = err_from_is_err_and r h in p.1 ∙ ap Err p.2

-- the token x is one of this kind, which begins at byte p
abbrev MarkAt : Token → ℕ → Type 0
MarkAt x p = (m : marks.Mark) × (t : ℕ) × (x ≡ Mark m p t)

abbrev OpAt : Token → ℕ → Type 0
OpAt x p = (o : ℕ) × (t : ℕ) × (x ≡ Op o p t)

abbrev NumAt : Token → ℕ → Type 0
NumAt x p = (m : Bool) × (v : ℕ) × (t : ℕ) × (x ≡ Num m v p t)

abbrev NameAt : Token → ℕ → Type 0
NameAt x p = (t : ℕ) × (x ≡ Name p t)

module _ (s : List ℕ) (at : ℕ) (r : Result Token Fault) (q : token_of s r ≡ token_at s at) (x : Token) (e : r ≡ Ok x) (p : ℕ) where
  pub operator-off : (x ≡ End p) ⊎ (MarkAt x p ⊎ (NumAt x p ⊎ NameAt x p)) → head_of s (Err (Grammar, p)) ≡ on_operator (token_at s at)
  unfolding head_of on_operator token_of
  operator-off (inl h) = rw (← q, e, h)
  operator-off (inr (inl (m, t, h))) = rw (← q, e, h)
  operator-off (inr (inr (inl (m, v, t, h)))) = rw (← q, e, h)
  operator-off (inr (inr (inr (t, h)))) = rw (← q, e, h)

  pub begin-off : (l n : ℕ) → (x ≡ End p) ⊎ OpAt x p → head_of s (Err (Grammar, p)) ≡ head_at s at l n
  unfolding head_of head_at on_term token_of
  begin-off l n (inl h) = rw (← q, e, h)
  begin-off l n (inr (o, t, h)) = rw (← q, e, h)

  pub seen-off : (x ≡ End p) ⊎ (OpAt x p ⊎ (NumAt x p ⊎ NameAt x p)) → Not 6 p ≡ seen (token_at s at)
  unfolding seen token_of
  seen-off (inl h) = rw (← q, e, h)
  seen-off (inr (inl (o, t, h))) = rw (← q, e, h)
  seen-off (inr (inr (inl (m, v, t, h)))) = rw (← q, e, h)
  seen-off (inr (inr (inr (t, h)))) = rw (← q, e, h)

  pub name-off : (x ≡ End p) ⊎ (MarkAt x p ⊎ (OpAt x p ⊎ NumAt x p)) → name_of s (Err (Grammar, p)) ≡ the_name (token_at s at)
  unfolding name_of the_name on_name token_of
  name-off (inl h) = rw (← q, e, h)
  name-off (inr (inl (m, t, h))) = rw (← q, e, h)
  name-off (inr (inr (inl (o, t, h)))) = rw (← q, e, h)
  name-off (inr (inr (inr (m, v, t, h)))) = rw (← q, e, h)

  pub lead-off : (k : ℕ) → OpAt x p ⊎ (NumAt x p ⊎ NameAt x p) → lead_of (Err (Grammar, p)) ≡ lead_at s at k
  unfolding lead_of lead_at on_lead token_of
  lead-off k (inl (o, t, h)) = rw (← q, e, h)
  lead-off k (inr (inl (m, v, t, h))) = rw (← q, e, h)
  lead-off k (inr (inr (t, h))) = rw (← q, e, h)

  pub kind-off : (x ≡ End p) ⊎ (OpAt x p ⊎ NumAt x p) → Neither 6 p ≡ kind_of (token_at s at)
  unfolding kind_of token_of
  kind-off (inl h) = rw (← q, e, h)
  kind-off (inr (inl (o, t, h))) = rw (← q, e, h)
  kind-off (inr (inr (m, v, t, h))) = rw (← q, e, h)

  pub factor-off : (m : Bool) (v : ℕ) → (x ≡ End p) ⊎ MarkAt x p → FactorIs s at m v (Err (Grammar, p))
  unfolding on_factor token_of
  factor-off m v (inl h) above n = rw (← q, e, h)
  factor-off m v (inr (a, t, h)) above n = rw (← q, e, h)

  pub word-off : (x ≡ End p) ⊎ MarkAt x p → PolWordIs s at (Err (Grammar, p))
  unfolding word_at on_word token_of
  word-off (inl h) above n = rw (← q, e, h)
  word-off (inr (m, t, h)) above n = rw (← q, e, h)
