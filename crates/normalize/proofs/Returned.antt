-- What `?` returns where it does.
use mathlib.Core.Path.{◌≡◌, ap}
use native.Mathlib.Omega.{arith}
use Rattle.std.specs.Prelude.{Option, None, Result, Ok, Err, ok_or}
use Rattle.std.specs.Result.{IsErrAnd}

-- an error as it was
pub passed : {A E : Type 0} (q : Result A E) {d : E} → IsErrAnd q (λ y. y ≡ d) → q ≡ Err d
passed (Ok a) h = absurd h
passed (Err y) h = ap Err h

-- the error that `ok_or` has for what is not there
pub refused : {A B E : Type 0} {o : Option A} {d e : E} (q : Result B E) → IsErrAnd q (λ y. y ≡ d) → o ≡ None → Err d ≡ ok_or o e → q ≡ Err e
refused (Ok b) h n v = absurd h
refused (Err y) h n v = grind arith
