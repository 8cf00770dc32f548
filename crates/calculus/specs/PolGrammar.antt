-- The grammar of pol lines as a function: the words behind `(pol ID`, or the leftmost refusal and its byte (02, No. 2).
-- Elsewhere `~x` stays 5 (Grammar, Commands); here it is a word. `above` tells which names are ids that are defined above.
use Rattle.std.specs.Prelude.{Bool, cond, List, [], ◌∷◌, ◌++◌, ℕ, zero, suc, ℤ}
use Rattle.calculus.specs.Bytes.{bytes}
use Rattle.calculus.specs.Equality.{same_op}
use Rattle.calculus.specs.Grammar.{Reads, got, off, then, on_item, close_at}
use Rattle.calculus.specs.Terms.{add, mul, same_name, PolWord, line_word, plain_word, negated_word, plus-word, saturate-word, times-word, over_word}
use Rattle.calculus.specs.Words.{mark, operator, numeral, name, negated-name}
use Rattle.calculus.specs.Tokens.{Token, ended, word, wrong, token_at}

-- where the name x stands, go on with its place and behind it; else r
unfoldable pub on_named : {A : Type 0} → List ℕ → (ℕ → ℕ → Reads A) → Reads A → Token → Reads A
on_named x k r (ended p) = r
on_named x k r (word (mark a) p t) = r
on_named x k r (word (operator o) p t) = r
on_named x k r (word (numeral z) p t) = r
on_named x k r (word (name y) p t) = cond (same_name x y) (k p t) r
on_named x k r (word (negated-name y) p t) = r
on_named x k r (wrong e p) = r

-- behind the numeral m, by the token: `*` or `d`, and a numeral without one of them is 6 at the next token
unfoldable pub on_factor : ℤ → ℕ → Token → Reads PolWord
on_factor m n (ended p) = off 6 p
on_factor m n (word (mark a) p t) = off 6 p
on_factor m n (word (operator o) p t) = cond (same_op mul o) (got (times-word m) t n) (off 6 p)
on_factor m n (word (numeral z) p t) = off 6 p
on_factor m n (word (name x) p t) = cond (same_name (bytes "d") x) (got (over_word m) t n) (off 6 p)
on_factor m n (word (negated-name x) p t) = off 6 p
on_factor m n (wrong e p) = off e p

-- a name: `d` without a numeral before it is 6 at itself, `s` is an operation; an id defined above, or a literal
unfoldable pub named_word : (List ℕ → Bool) → ℕ → List ℕ → ℕ → ℕ → Reads PolWord
named_word above n x p t =
    cond (same_name (bytes "d") x) (off 6 p)
    (cond (same_name (bytes "s") x) (got saturate-word t n)
    (cond (above x) (got (line_word x) t n) (got (plain_word x) t n)))

-- by the token; `*` without a numeral before it is 6 at itself; nodes are not counted
unfoldable pub on_word : (List ℕ → Bool) → List ℕ → ℕ → Token → Reads PolWord
on_word above s n (ended p) = off 6 p
on_word above s n (word (mark a) p t) = off 6 p
on_word above s n (word (operator o) p t) = cond (same_op add o) (got plus-word t n) (off 6 p)
on_word above s n (word (numeral z) p t) = on_factor z n (token_at s t)
on_word above s n (word (name x) p t) = named_word above n x p t
on_word above s n (word (negated-name x) p t) = got (negated_word x) t n
on_word above s n (wrong e p) = off e p

-- the word from byte `at` on
unfoldable pub word_at : (List ℕ → Bool) → List ℕ → ℕ → ℕ → Reads PolWord
word_at above s at n = on_word above s n (token_at s at)

-- the words ws and those up to the closing bracket
unfoldable pub more_words : ℕ → (List ℕ → Bool) → List ℕ → ℕ → ℕ → List PolWord → Reads (List PolWord)
more_words zero above s at n ws = off 0 at
more_words (suc f) above s at n ws = on_item (then (word_at above s at n) (λ w t m. more_words f above s t m (ws ++ (w ∷ [])))) ws n (close_at s at)

-- word+
unfoldable pub words_at : ℕ → (List ℕ → Bool) → List ℕ → ℕ → ℕ → Reads (List PolWord)
words_at f above s at n = then (word_at above s at n) (λ w t m. more_words f above s t m (w ∷ []))
