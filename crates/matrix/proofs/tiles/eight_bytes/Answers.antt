-- The bits of the first four bytes, then those of the second.
use mathlib.Core.Path.{◌≡◌, ap, ◌∙◌}
use mathlib.Core.List.{List}
use Prim.Native.Nat.{ℕ, ◌+◌, ◌-◌, ◌*◌, ◌<◌}
use native.Mathlib.Decide.{dec_lt}
use native.Mathlib.Omega.{arith}
use lib.ListN.{get_or}
use Rattle.matrix.proofs.Bits.{bit}
use Rattle.matrix.proofs.Bytes.{bit_joined_low, bit_joined_high}
use Rattle.matrix.proofs.tiles.eight_bytes.Goals as goal

-- x has the bits of the n bytes of l from a on
abbrev BytesOf : List ℕ → ℕ → ℕ → ℕ → Type 0
BytesOf l a n x = (s i : ℕ) → s < n → i < 8 → bit x (8 * s + i) ≡ bit (get_or l (a + s) 0) i

halves : (l : List ℕ) (a x y : ℕ) → x < 4294967296 → BytesOf l a 4 x → BytesOf l (a + 4) 4 y → BytesOf l a 8 (x + 4294967296 * y)
halves l a x y h first second s i k g = go (dec_lt s 4)
  where
    go : Dec (s < 4) → bit (x + 4294967296 * y) (8 * s + i) ≡ bit (get_or l (a + s) 0) i
    go (yes m) = bit_joined_low x y 32 h (8 * s + i) (omega arith) ∙ first s i m g
    go (no m) =
        let e : 8 * s + i ≡ 32 + (8 * (s - 4) + i) = omega arith in
        let d : a + 4 + (s - 4) ≡ a + s = omega arith in
        ap (bit (x + 4294967296 * y)) e ∙ bit_joined_high x y 32 h (8 * (s - 4) + i) ∙ second (s - 4) i (omega arith) g
        ∙ ap (λ (z : ℕ). bit (get_or l z 0) i) d

pub returns : goal.returns
returns c =
    let a = c.args in
    let low = c.four_bytes in
    halves a.b.now a.at low.result c.four_bytes-2.result low.ensures.0 low.ensures.1 c.four_bytes-2.ensures.1
