-- `normalize::put_leaf` appends what a term is that flattening does not open: a numeral, a product of two numerals, or an entry.
use native.Mathlib.Omega.{arith}
use Rattle.integer.proofs.Fits.{within_more}
use Rattle.nodes.specs.Nodes.{decode}
use Rattle.matching.proofs.Matches.{kept}
use Rattle.normalize.proofs.Growing.{grown-as, constant-grown}
use Rattle.normalize.proofs.Trees.{leaf-num, leaf-ctv}
use Rattle.normalize.proofs.put_leaf.Goals as goal

pub returns-in-Some : goal.returns-in-Some
returns-in-Some c =
    let number = rw c.in-Some.is at c.as_constant.ensures in
    constant-grown _ c.put_constant.result c.requires.good c.requires.room (λ s. leaf-num (decode s c.args.nodes.now c.args.i) _ (number.is s)) (within_more (omega arith) number.within) (rw (kept (omega arith) number.within) at c.put_constant.ensures)

pub returns-in-Entry : goal.returns-in-Entry
returns-in-Entry c =
    let other = rw c.in_default.is at c.as_constant.ensures in
    let found = rw c.in-Entry.is at c.term_to_ctv.ensures in
    grown-as (λ s. leaf-ctv (decode s c.args.nodes.now c.args.i) _ (other s) (found.is s)) (omega (arith, found.inner.before)) (rw (kept (omega arith) found.within) at c.put_entry.ensures)

pub returns-in-Constant : goal.returns-in-Constant
returns-in-Constant c =
    let other = rw c.in_default.is at c.as_constant.ensures in
    let product = rw c.in-Constant.is at c.term_to_ctv.ensures in
    constant-grown _ c.put_constant-in-Constant.result c.requires.good c.requires.room (λ s. leaf-ctv (decode s c.args.nodes.now c.args.i) _ (other s) (product.is s)) product.within (rw (kept (omega arith) product.within) at c.put_constant-in-Constant.ensures)
