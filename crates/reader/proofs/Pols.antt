-- Pol lines: a word, the words up to the closing bracket, and the line that was put.
use mathlib.Core.Path.{◌≡◌, refl, sym, ap, subst, ◌∙◌}
use mathlib.Core.Bool.{Bool, true, false, cond}
use mathlib.Core.List.{List, [], ◌∷◌, ◌++◌}
use mathlib.Core.Logic.{◌⊎◌, inl, inr}
use Prim.Native.Nat.{ℕ, zero, suc, ◌+◌, ◌-◌, ◌≤◌, ◌<◌}
use native.Mathlib.Nat.{not-suc-le-zero}
use native.Mathlib.Omega.{arith}
use borrow.Author.Tests.{lt-ltb, le-ltb}
use lib.ListN.{length}
use lib.Seq.{slice}
use Rattle.calculus.specs.Commands.{enough, pol_at}
use Rattle.calculus.specs.Grammar.{got, then, close_at}
use Rattle.calculus.specs.PolGrammar.{more_words, words_at}
use Rattle.calculus.specs.PolGrammar as grammar
use Rattle.calculus.specs.Terms.{PolWord, line_word, plain_word, Command, pol}
use Rattle.calculus.specs.Limits.{known, max_text, max_commands, max_pols}
use Rattle.heads.proofs.Answers.{item-more, item-last}
use Rattle.heads.specs.PolHeads.{pol_word_of, PolWordIs, PolHeadIn}
use Rattle.heads.specs.Heads.{Step, Go, Off}
use Rattle.heads.specs.declared.PolHead.{PolHead}
use Rattle.heads.specs.declared.PolHead.TheVariants.{Plain, Negated, Add, Saturate, Times, Over}
use Rattle.std.specs.Prelude.{Result, Ok, Err}
use Rattle.lexer.specs.Tokens.{reason_number}
use Rattle.lexer.specs.declared.Fault.{Fault}
use Rattle.nodes.specs.Nodes.{children_at, Below}
use Rattle.nodes.proofs.Tables.{kept_refl}
use Rattle.terms.specs.Index.{Fresh, Indexed}
use Rattle.terms.specs.Spans.{max_short}
use Rattle.terms.specs.Reading.{Made, Refused}
use Rattle.reader.specs.Commands.{id_index, pol_kind, above_in, words_in, command_of, part_at, Put}
use Rattle.reader.specs.Reading.{pol_with, Ids, NamedBy, NewId, ReadWord, ReadWords, ReadPol}
use Rattle.reader.proofs.Ids.{known-above}
use Rattle.reader.proofs.Words.{put-pol, put-behind, put-short, put-spans, above_same}

-- ---- a word
-- where the text goes on behind a word
abbrev pub end_of : PolHead → ℕ
end_of (Plain p t) = t
end_of (Negated p t) = t
end_of (Add t) = t
end_of (Saturate t) = t
end_of (Times m v t) = t
end_of (Over m v t) = t

-- the word h is one of this kind, and ends at byte t
abbrev PlainTo : PolHead → ℕ → Type 0
PlainTo h t = (p : ℕ) × (h ≡ Plain p t)

abbrev NegatedTo : PolHead → ℕ → Type 0
NegatedTo h t = (p : ℕ) × (h ≡ Negated p t)

abbrev TimesTo : PolHead → ℕ → Type 0
TimesTo h t = (m : Bool) × (v : ℕ) × (h ≡ Times m v t)

abbrev OverTo : PolHead → ℕ → Type 0
OverTo h t = (m : Bool) × (v : ℕ) × (h ≡ Over m v t)

end-is : (h : PolHead) (t : ℕ) → PlainTo h t ⊎ (NegatedTo h t ⊎ ((h ≡ Add t) ⊎ ((h ≡ Saturate t) ⊎ (TimesTo h t ⊎ OverTo h t)))) → end_of h ≡ t
end-is h t (inl (p, e)) = ap end_of e
end-is h t (inr (inl (p, e))) = ap end_of e
end-is h t (inr (inr (inl e))) = ap end_of e
end-is h t (inr (inr (inr (inl e)))) = ap end_of e
end-is h t (inr (inr (inr (inr (inl (m, v, e)))))) = ap end_of e
end-is h t (inr (inr (inr (inr (inr (m, v, e)))))) = ap end_of e

module _ (s : List ℕ) (at : ℕ) (r : Result PolHead Fault) (q : PolWordIs s at r) (here : PolHeadIn s at r) where
  pub word-refused : (e : Fault) → r ≡ Err e → ReadWord s at (Off (reason_number e.0) e.1)
  word-refused e x = go (subst (PolWordIs s at) x q)
    where
      go : PolWordIs s at (Err e) → ReadWord s at (Off (reason_number e.0) e.1)
      go w = λ above n. sym (w above n)

  pub word-read : (h : PolHead) → r ≡ Ok h → (t : ℕ) → PlainTo h t ⊎ (NegatedTo h t ⊎ ((h ≡ Add t) ⊎ ((h ≡ Saturate t) ⊎ (TimesTo h t ⊎ OverTo h t)))) → ReadWord s at (Go t)
  unfolding pol_word_of
  word-read h x t o = subst (λ (i : ℕ). ReadWord s at (Go i)) (end-is h t o) (go h (subst (PolWordIs s at) x q) (subst (PolHeadIn s at) x here))
    where
      either : (b : Bool) (x y : PolWord) (t n : ℕ) → cond b (got x t n) (got y t n) ≡ got (cond b x y) t n
      either true x y t n = refl
      either false x y t n = refl

      go : (h : PolHead) → PolWordIs s at (Ok h) → PolHeadIn s at (Ok h) → ReadWord s at (Go (end_of h))
      go (Plain p t) q (a, b, c, d) =
          (λ above. (cond (above (slice p t s)) (line_word (slice p t s)) (plain_word (slice p t s)), λ n. sym (q above n) ∙ either (above (slice p t s)) _ _ t n), omega arith, c)
      go (Negated p t) q (a, b, c, d) = (λ above. (_, λ n. sym (q above n)), omega arith, c)
      go (Add t) q (a, b) = (λ above. (_, λ n. sym (q above n)), a, b)
      go (Saturate t) q (a, b) = (λ above. (_, λ n. sym (q above n)), a, b)
      go (Times m v t) q (a, b, c, d) = (λ above. (_, λ n. sym (q above n)), c, d)
      go (Over m v t) q (a, b, c, d) = (λ above. (_, λ n. sym (q above n)), c, d)

-- ---- the words up to the closing bracket
-- some words were read, and a word has to stand at i
pub record Inv (s : List ℕ) (at i : ℕ) : Type 0 where
  pub fuel : ℕ
  pub left : length s - i < fuel
  pub follows : (above : List ℕ → Bool) → (ws : List PolWord) × ((n : ℕ) → words_at enough above s at n ≡ then (grammar.word_at above s i n) (λ w t m. more_words fuel above s t m (ws ++ (w ∷ []))))
  pub place : i ≤ length s
  pub later : at ≤ i

pub words-start : (s : List ℕ) (at : ℕ) → length s ≤ at + max_text → at ≤ length s → Inv s at at
unfolding words_at
words-start s at h place = record { fuel = enough; left = omega arith; follows = λ above. ([], λ n. refl); place = place; later = omega arith }

module _ (s : List ℕ) (at i : ℕ) (I : Inv s at i) (r : Step) (W : ReadWord s i r) where
  pub words-refused : (e b : ℕ) → r ≡ Off e b → ReadWords s at (Off e b)
  unfolding then
  words-refused e b x above n = let (ws, f) = I.follows above in f n ∙ rw ((subst (ReadWord s i) x W) above n)

  module _ (next : ℕ) (x : r ≡ Go next) where
    pub word-is : ReadWord s i (Go next)
    word-is = subst (ReadWord s i) x W

    behind : (above : List ℕ → Bool) → (ws : List PolWord) × ((n : ℕ) → words_at enough above s at n ≡ more_words I.fuel above s next n ws)
    unfolding then
    behind above = let (ws, f) = I.follows above in let (w, g) = word-is.0 above in (ws ++ (w ∷ []), λ n. f n ∙ rw (g n))

    module _ (e : ℕ) (q : e ≡ close_at s next) where
      pub words-closed : next < e → e ≤ length s → ReadWords s at (Go e)
      unfolding more_words
      words-closed later inside = (λ above. let (ws, f) = behind above in (ws, λ n. f n ∙ closed above ws n I.fuel I.left), omega (arith, I.later, word-is.1, later), inside)
        where
          some : e ≡ 0 → ⊥
          some z = omega (arith, later)

          closed : (above : List ℕ → Bool) (ws : List PolWord) (n f : ℕ) → length s - i < f → more_words f above s next n ws ≡ got ws e n
          closed above ws n zero l = absurd (not-suc-le-zero l)
          closed above ws n (suc f) l = item-last s next n _ ws e q some

      pub words-again : e ≡ 0 → Inv s at next
      unfolding more_words
      words-again h = go I.fuel I.left behind
        where
          go : (f : ℕ) → length s - i < f → ((above : List ℕ → Bool) → (ws : List PolWord) × ((n : ℕ) → words_at enough above s at n ≡ more_words f above s next n ws)) → Inv s at next
          go zero l B = absurd (not-suc-le-zero l)
          go (suc f) l B = record {
            fuel = f;
            left = omega (arith, word-is.1, word-is.2);
            follows = λ above. let (ws, g) = B above in (ws, λ n. g n ∙ item-more s next n _ ws e q h);
            place = word-is.2;
            later = omega (arith, I.later, word-is.1);
          }

-- ---- a pol line
module _ (s w : List ℕ) (b at k n c p : ℕ) (place : at ≤ length s) (rest : length s ≤ at + max_text) (I : Ids s w k) (few : k < max_commands) where
  pub pol-full : max_pols ≤ p → ReadPol s w w b at k n c p (Refused 7 b)
  unfolding pol_with
  pol-full h t y T N cs M = rw (le-ltb p max_pols h)

  module _ (h : p < max_pols) (r : Result (ℕ × ℕ) Fault) (N : NewId s w k at r) where
    within : (cs : List Command) → pol_with p cs s b at n ≡ pol_at cs s at n
    unfolding pol_with
    within cs = rw (lt-ltb p max_pols h)

    pub pol-named-refused : (e : Fault) → r ≡ Err e → ReadPol s w w b at k n c p (Refused (reason_number e.0) e.1)
    unfolding pol_at
    pol-named-refused e q t y T L cs M = within cs ∙ (subst (NewId s w k at) q N) cs M _

    module _ (from to : ℕ) (q : r ≡ Ok (from, to)) where
      found : NewId s w k at (Ok (from, to))
      found = subst (NewId s w k at) q N

      -- what read_words asks
      pub pol-left : (length s ≤ to + max_text) × (to ≤ length s)
      pol-left = (omega (arith, found.1, found.2), found.3)

      pub pol-new : (from ≤ to) × (to ≤ length s) × (length s ≤ from + max_short) × Fresh s w k (slice from to s)
      pol-new = let (f, a, b, i, d, z) = found in (omega arith, i, omega arith, z)

      module _ (x : Step) (W : ReadWords s to x) where
        begins : (cs : List Command) → NamedBy cs s w k → pol_with p cs s b at n ≡ then (words_at enough (known cs) s to n) (λ ws t m. got (pol (slice from to s) ws) t m)
        unfolding pol_at
        begins cs M = within cs ∙ found.0 cs M _

        pub pol-words-refused : (e a : ℕ) → x ≡ Off e a → ReadPol s w w b at k n c p (Refused e a)
        unfolding then
        pol-words-refused e a f t y T L cs M = begins cs M ∙ rw ((subst (ReadWords s to) f W) (known cs) n)

        pub pol-done : (end : ℕ) (x' : List ℕ) → x ≡ Go end → Put w x' k (length s - from) (length s - to) pol_kind c 0 c 0 c 0 × Indexed s x' id_index (k + 1) → ReadPol s w x' b at k n c p (Made end n c)
        unfolding children_at Below part_at words_in then
        pol-done end x' f (P, X) t y T L =
            let (g, low, up, inside, short, new) = found in
            let (W', later, last) = subst (ReadWords s to) f W in
            let (ws, read) = W' (above_in s x' k) in
            let same : above_in s x' k ≡ above_in s w k = above_same P.same s k (omega arith) in
            let says : command_of s t x' k ≡ pol (slice from to s) ws = put-pol s P (omega arith) inside refl t ∙ rw (read 0) in
            record {
              parsed = λ cs M. begins cs M ∙ rw (known-above s w k cs M, ← same, read n) (ap (λ (x : Command). got x end n) (sym says));
              later = omega arith;
              inside = last;
              grown = record { kept = kept_refl t n c; table = T; names = L; more = omega arith; wider = omega arith };
              same = P.same;
              ids = put-spans s P (omega arith) inside I.spans few I.room;
              indexed = X;
              short = put-short s P (omega arith) inside short;
              this = record {
                kind = rw P.kinds (omega arith);
                one = λ z. let e : pol_kind ≡ 0 = sym P.kinds ∙ z in let n : ⊥ = omega arith in absurd n;
                clause = rw (P.clause, P.clauses) (omega arith);
                premises = rw (P.premises, P.cited) (omega arith);
                arguments = rw (P.arguments, P.given) (omega arith);
                terms = rw (P.clause, P.clauses) tt;
                above = rw (P.premises, P.cited) tt;
                given = rw (P.arguments, P.given) tt;
              };
              pols = λ _. (ws, end, 0, rw (put-behind s P (omega arith) inside) (read 0));
            }
