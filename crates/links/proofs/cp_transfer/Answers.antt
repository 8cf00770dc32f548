-- What the counts leave of the rule is the link itself.
use mathlib.Core.Path.{◌∙◌, sym}
use Rattle.std.proofs.lemmas.Result.{err_from_is_err_and}
use Rattle.links.proofs.Linking.{transfer-is}
use Rattle.links.specs.Steps.{transfer_term}
use Rattle.links.proofs.cp_transfer.Goals as goal

pub returns-in_err-r : goal.returns-in_err-r
returns-in_err-r c = let p = err_from_is_err_and c.from_residual.result c.from_residual.ensures.1 in rw (p.1, p.2) (λ x I. sym ((rw c.in_err-r.was at c.two_premises.ensures) x.text transfer_term) ∙ transfer-is _ _ _)

pub returns : goal.returns
returns c = λ x I. let B = rw c.in_ok-r.was at c.two_premises.ensures in c.transfers.ensures x (B.before x.n I).0 (B.before x.n I).1 (B.before x.n I).2 ∙ sym (B.is x.text transfer_term) ∙ transfer-is _ _ _
