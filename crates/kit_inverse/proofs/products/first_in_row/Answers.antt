-- A packed row of A has no bit past n, and its first wrong entry is that of the row.
use native.Mathlib.Omega.{arith}
use mathlib.Core.Path.{◌≡◌, ◌∙◌}
use Prim.Native.Nat.{◌+◌, ◌/◌}
use lib.ListN.{length}
use Rattle.staircase.specs.Rules.{entries}
use Rattle.kit_system.specs.Rows.{row_entry}
use Rattle.words_positions.proofs.Parts.{part-is}
use Rattle.kit_inverse.proofs.RowSizes.{row_zeros}
use Rattle.kit_inverse.proofs.Found.{packed-spare, packed_found}
use Rattle.kit_inverse.proofs.products.first_in_row.Goals as goal

pub first_in_packed-requires : goal.first_in_packed-requires
first_in_packed-requires c =
    let a = c.args in
    let s = c.system_row in
    let f = row_entry a.columns.now a.part.now (entries a.n a.own.now) a.size a.p a.e in
    let d : length s.new.out ≡ (a.n + 7) / 8 = omega arith in
    let h = c.requires in
    let l = h.0 in
    let zeros = row_zeros a.n a.size a.own.now a.columns.now a.part.now a.t.now l a.p a.e h.2 h.1 in
    (l.positive, l.small, omega arith, l.planes_length, packed-spare a.n f s.new.out _ s.ensures.1 (part-is _ _ _ d) zeros)

pub returns : goal.returns
returns c =
    let a = c.args in
    let s = c.system_row in
    let f = row_entry a.columns.now a.part.now (entries a.n a.own.now) a.size a.p a.e in
    let d : length s.new.out ≡ (a.n + 7) / 8 = omega arith in
    c.first_in_packed.ensures ∙ packed_found a.n f s.new.out _ s.ensures.1 (part-is _ _ _ d) a.t.now a.e
