-- The check computes the list of products `generators` and compares the constant table with it: that the table is right is that test.
use Rattle.bch.specs.Polynomial.{◌⊕◌, ◌⊗◌, poly_at, poly_at_digits}
use Rattle.bch.proofs.Minimal.{minimals}
use Rattle.bch_remainders.proofs.Generators.{product_at, entries_from, generators, generator-at, generator-below}
use Rattle.bch_remainders.proofs.generator_of.Goals as goal

pub returns : goal.returns
unfolding generators entries_from product_at minimals ◌⊗◌ poly_at poly_at_digits ◌⊕◌
returns c =
    let a = c.args in
    let (lo, hi, low, ht, fits) = c.requires in
    let e = generator-at a.m a.t lo hi low ht fits in
    (e, rw e (generator-below a.m a.t lo hi ht fits))
