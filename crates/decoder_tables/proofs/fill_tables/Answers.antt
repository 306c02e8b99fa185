-- The tables are filled one after the other.
use mathlib.Core.Path.{sym, ◌∙◌}
use native.Mathlib.Nat.{mul-le-mul}
use native.Mathlib.Omega.{arith}
use Rattle.decoder_tables.proofs.Tables.{tables-made, first-long, behind-long, tables-whole}
use Rattle.decoder_tables.proofs.fill_tables.Goals as goal

pub fill_values-requires : goal.fill_values-requires
fill_values-requires c =
    let a = c.args in
    let p = c.requires in
    let W = p.0 in
    let r = mul-le-mul W.m-high W.t-high in
    let x = c.fill_code in
    (W.m-low, W.m-high, omega (arith, r), W.n_low, W.n_high, c.fill_field.ensures, behind-long a.bits a.tables.now x.new.positions p.1 x.ensures.1)

pub returns : goal.returns
returns c =
    let a = c.args in
    let p = c.requires in
    let x = c.fill_code in
    let v = c.fill_values in
    let first = x.new.positions in
    let values = v.new.values in
    let behind = behind-long a.bits a.tables.now first p.1 x.ensures.1 in
    let made = tables-made a.m a.t a.bits p.0 first values _ _ x.ensures.0 (first-long a.bits a.tables.now first p.1 x.ensures.1) v.ensures.0
    v.ensures.1 (v.ensures.2 ∙ behind) c.fill_field.ensures (tables-whole a.bits a.tables.now first p.1 x.ensures.1 values) in
    (made.0 ∙ sym p.1, made.1)
