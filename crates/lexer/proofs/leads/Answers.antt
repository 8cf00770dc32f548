-- `lexer::leads` owes that where it says no, no word with one meaning has n bytes and begins with b. Assumes nothing.
use Rattle.lexer.proofs.Meanings.{leads_not, falsely}
use borrow.Author.Tests.{eqb-false}
use mathlib.Core.Path.{sym, ◌∙◌}
use native.Mathlib.Omega.{arith}
use Rattle.lexer.proofs.leads.Goals as goal

pub returns-then-not-is_letter : goal.returns-then-not-is_letter
returns-then-not-is_letter c = λ e. falsely e

pub returns-then-n-eq2 : goal.returns-then-n-eq2
returns-then-n-eq2 c = λ e. leads_not c.args.b c.args.n (sym c.is_letter.ensures ∙ c.if-not-is_letter.false)
    (λ n. eqb-false _ _ e) (λ n. let z : ⊥ = omega (arith, c.if-n-eq2.true) in absurd z) (λ n. let z : ⊥ = omega (arith, c.if-n-eq2.true) in absurd z) (λ n. let z : ⊥ = omega (arith, c.if-n-eq2.true) in absurd z)

pub returns-then-n-eq4 : goal.returns-then-n-eq4
returns-then-n-eq4 c = λ e. leads_not c.args.b c.args.n (sym c.is_letter.ensures ∙ c.if-not-is_letter.false)
    (λ n. let z : ⊥ = omega (arith, c.if-n-eq4.true) in absurd z) (λ n. let z : ⊥ = omega (arith, c.if-n-eq4.true) in absurd z) (λ n. eqb-false _ _ e) (λ n. let z : ⊥ = omega (arith, c.if-n-eq4.true) in absurd z)

pub returns-then-n-eq3 : goal.returns-then-n-eq3
returns-then-n-eq3 c = λ e. leads_not c.args.b c.args.n (sym c.is_letter.ensures ∙ c.if-not-is_letter.false)
    (λ n. let z : ⊥ = omega (arith, c.if-n-eq3.true) in absurd z) (λ n. eqb-false _ _ e) (λ n. let z : ⊥ = omega (arith, c.if-n-eq3.true) in absurd z) (λ n. let z : ⊥ = omega (arith, c.if-n-eq3.true) in absurd z)

pub returns-then-n-eq6 : goal.returns-then-n-eq6
returns-then-n-eq6 c = λ e. leads_not c.args.b c.args.n (sym c.is_letter.ensures ∙ c.if-not-is_letter.false)
    (λ n. let z : ⊥ = omega (arith, c.if-n-eq6.true) in absurd z) (λ n. let z : ⊥ = omega (arith, c.if-n-eq6.true) in absurd z) (λ n. let z : ⊥ = omega (arith, c.if-n-eq6.true) in absurd z) (λ n. eqb-false _ _ e)

pub returns : goal.returns
returns c = λ e. leads_not c.args.b c.args.n (sym c.is_letter.ensures ∙ c.if-not-is_letter.false)
    (λ n. absurd (c.if-n-eq2.false n)) (λ n. absurd (c.if-n-eq3.false n)) (λ n. absurd (c.if-n-eq4.false n)) (λ n. absurd (c.if-n-eq6.false n))
