-- `opb_terms::put_product` owes the term of a summand of the words, its sign turned where asked. Assumes nothing.
use Rattle.opb_terms.proofs.Products.{product-numeral, product-name, product-put}
use Rattle.opb_terms.proofs.put_product.Goals as goal

pub sign-negative-requires : goal.sign-negative-requires
sign-negative-requires c = product-numeral c.requires.2

pub put_summand-requires : goal.put_summand-requires
put_summand-requires c = (c.requires.3, c.sign-negative.ensures.numeral, product-name c.requires.2 c.wide-from.ensures c.wide-to.ensures, c.requires.4)

pub returns : goal.returns
returns c = (c.put_summand.ensures.0, product-put c.requires.2 c.wide-from.ensures c.wide-to.ensures c.sign-negative.ensures c.put_summand.ensures.1)
