-- The line of a group: how many values it takes, and that it is tidy.
--   group_takes      2 n values
--   tidy_group_line   it is tidy
-- Assumes nothing.
use Prim.Native.Nat.{ℕ, ◌*◌, ◌<◌}
use mathlib.Core.Path.{◌≡◌}
use mathlib.Core.List.{List, [], ◌∷◌, ◌++◌}
use native.Mathlib.Omega.{arith}
use Rattle.text_formats.specs.Format.{Item, byte, dec}
use Rattle.text_formats.specs.Items.{lits, bits}
use Rattle.text_formats.proofs.Spelling.{Tidy, tidy_append, tidy_bits, tidy_dec}
use Rattle.text_formats.proofs.Takes.{takes, takes_append, takes_lits, part_takes, end_takes}
use Rattle.text.specs.FrameText.{group_line}

pub group_takes : (n p : ℕ) → takes (group_line n p) ≡ 2 * n
unfolding group_line
group_takes n p =
    let last : List Item = (byte 32 ∷ bits n) ++ (byte 10 ∷ []) in
    omega (arith, takes_append (lits (dec p)) ((byte 32 ∷ bits n) ++ last), takes_append (byte 32 ∷ bits n) last, takes_lits (dec p), part_takes n, end_takes n)

pub tidy_group_line : (n p : ℕ) → p < 10000 → Tidy (group_line n p)
unfolding group_line
tidy_group_line n p h =
    let last : Tidy ((byte 32 ∷ bits n) ++ (byte 10 ∷ [])) = tidy_append (byte 32 ∷ bits n) (byte 10 ∷ []) (omega arith, tidy_bits n) (omega arith, tt) in
    tidy_append (lits (dec p)) ((byte 32 ∷ bits n) ++ ((byte 32 ∷ bits n) ++ (byte 10 ∷ []))) (tidy_dec p h)
    (tidy_append (byte 32 ∷ bits n) ((byte 32 ∷ bits n) ++ (byte 10 ∷ [])) (omega arith, tidy_bits n) last)
