use native.Mathlib.Omega.{arith}
use mathlib.Core.Path.{◌≡◌, ap, ◌∙◌}
use mathlib.Core.List.{List}
use Prim.Native.Nat.{ℕ}
use lib.ListN.{length, get_or}
use Rattle.staircase.specs.Lists.{first_where}
use Rattle.staircase.specs.Rules.{entries}
use Rattle.kit_system.specs.Rows.{unstack_of, row_entry}
use Rattle.kit_inverse.specs.Products.{wrong_in}
use Rattle.kit_inverse.proofs.RowSearch.{row_found, row_clean, rows_none}
use Rattle.kit_inverse.proofs.products.first_in_rows.Invariants.{wrong}
use Rattle.kit_inverse.proofs.products.first_in_rows.Goals as goal

-- the row's first wrong entry x, for the place p that it is sent from
row_first : (own : List ℕ) (n : ℕ) (columns part : List ℕ) (size : ℕ) (t preimages : List ℕ) (e p x : ℕ) → p ≡ get_or preimages (unstack_of size (length part) e) 0
    → x ≡ first_where n (wrong_in (row_entry columns part (entries n own) size p e) t n e) → x ≡ first_where n (wrong own n columns part size t preimages e)
row_first own n columns part size t preimages e p x s d = d ∙ ap (λ (p : ℕ). first_where n (wrong_in (row_entry columns part (entries n own) size p e) t n e)) s

pub returns-then-x-n : goal.returns-then-x-n
returns-then-x-n c =
    let l = c.loop-e in
    let a = c.args in
    let r = c.first_in_row-x in
    let x =
    row_first a.own.now a.n a.columns.now a.part.now a.size a.t.now a.preimages.now l.e _ r.result
    c.preimage_of-p.ensures.0 r.ensures in
    row_found a.n (wrong a.own.now a.n a.columns.now a.part.now a.size a.t.now a.preimages.now) l.e r.result
    (omega arith) (omega arith) x l.invariant

pub loop-e-preserved : goal.loop-e-preserved
loop-e-preserved c =
    let l = c.loop-e in
    let a = c.args in
    let r = c.first_in_row-x in
    let x =
    row_first a.own.now a.n a.columns.now a.part.now a.size a.t.now a.preimages.now l.e _ r.result
    c.preimage_of-p.ensures.0 r.ensures in
    let G = wrong a.own.now a.n a.columns.now a.part.now a.size a.t.now a.preimages.now in
    row_clean a.n G l.e r.result (omega arith) x l.invariant

pub returns : goal.returns
returns c =
    let l = c.loop-e in
    let a = c.args in
    rows_none a.n (wrong a.own.now a.n a.columns.now a.part.now a.size a.t.now a.preimages.now) l.e (omega arith) l.invariant
