-- Laws of rule 8: the spare bits of a row are the bits of its last byte that no column uses.
--   used_bits n               how many bits of a row's last byte are columns
--   spare-none, spare-some   the rule's test by the size of the last byte
--   empty-spare              an empty matrix has no spare bit of 1
-- Assumes nothing.
use mathlib.Core.Path.{◌≡◌, refl, sym, ap, ◌∙◌}
use mathlib.Core.Bool.{Bool, true, false}
use mathlib.Core.List.{List}
use Prim.Native.Nat.{ℕ, zero, suc, ◌+◌, ◌-◌, ◌*◌, ◌/◌, ◌%◌, ◌^◌, ◌≤◌, ◌<◌}
use native.Mathlib.Nat.{add-zero, add-suc, zero-div, div-eq_of_lt, div-lt_iff_lt-mul}
use native.Mathlib.Omega.{arith}
use lib.ListN.{length, get_or, get_or-eq_default}
use lib.Pow.{pow_pos, pow_mono}
use Rattle.staircase.specs.System.{row_bytes, inverse_entry}
use Rattle.staircase.specs.Rules.{spare_row}
use Rattle.staircase.proofs.Rules.{spare-zero, zero-spare}

abbrev pub used_bits : ℕ → ℕ
used_bits n = (n + 7) % 8 + 1

-- a number below 2^(u + s) whose bits from u on are all zero is below 2^u
low_bits : (x u s : ℕ) → x < 2 ^ (u + s) → ((j : ℕ) → j < s → x / 2 ^ (u + j) % 2 ≡ 0) → x < 2 ^ u
low_bits x u zero h z = rw (add-zero u) at h
low_bits x u (suc s) h z =
    low_bits x u s (top (u + s) (rw (add-suc u s) at h) (z s (omega arith))) (λ j l. z j (omega arith))
  where
    top : (k : ℕ) → x < 2 ^ suc k → x / 2 ^ k % 2 ≡ 0 → x < 2 ^ k
    top k h e =
        let p : x < 2 * 2 ^ k = omega arith in
        let q : x / 2 ^ k < 2 = (div-lt_iff_lt-mul (pow_pos k)).1 p in
        let r : x / 2 ^ k < 1 = omega arith in
        let s : x < 1 * 2 ^ k = (div-lt_iff_lt-mul (pow_pos k)).0 r in omega arith

module _ (w : List ℕ) (n i : ℕ) (pos : 0 < n) where
  abbrev last_byte : ℕ
  last_byte = get_or w (i * row_bytes n + (row_bytes n - 1)) 0

  spare-bit : (j : ℕ) → n ≤ j → j < 8 * row_bytes n → inverse_entry w n i j ≡ last_byte / 2 ^ (j % 8) % 2
  unfolding inverse_entry
  spare-bit j a b = let d : j / 8 ≡ row_bytes n - 1 = omega arith in ap (λ (k : ℕ). get_or w (i * row_bytes n + k) 0 / 2 ^ (j % 8) % 2) d

  pub spare-none : get_or w (i * row_bytes n + (row_bytes n - 1)) 0 < 2 ^ used_bits n → spare_row w n i ≡ false
  spare-none h = zero-spare w n i (λ j a b. spare-bit j a b ∙ high j a b)
    where
      high : (j : ℕ) → n ≤ j → j < 8 * row_bytes n → last_byte / 2 ^ (j % 8) % 2 ≡ 0
      high j a b =
          let u : used_bits n ≤ j % 8 = omega arith in
          let e : last_byte / 2 ^ (j % 8) ≡ 0 = div-eq_of_lt (omega (arith, h, pow_mono u)) in ap (λ (k : ℕ). k % 2) e

  pub spare-some : get_or w (i * row_bytes n + (row_bytes n - 1)) 0 < 256 → 2 ^ used_bits n ≤ get_or w (i * row_bytes n + (row_bytes n - 1)) 0
      → spare_row w n i ≡ true
  spare-some l h = go (spare_row w n i) refl
    where
      go : (z : Bool) → spare_row w n i ≡ z → z ≡ true
      go true e = refl
      go false e =
          let u : used_bits n + (8 - used_bits n) ≡ 8 = omega arith in
          let low : last_byte < 2 ^ used_bits n =
          low_bits last_byte (used_bits n) (8 - used_bits n) (rw u l)
          (λ j k.
          let d : (n + j) % 8 ≡ used_bits n + j = omega arith in
          rw (← d) (sym (spare-bit (n + j) (omega arith) (omega arith)) ∙ spare-zero w n i e (n + j) (omega arith) (omega arith))) in
          absurd (omega arith)

pub empty-spare : (w : List ℕ) (n i : ℕ) → length w ≡ 0 → spare_row w n i ≡ false
unfolding inverse_entry
empty-spare w n i e =
    zero-spare w n i (λ j a b. ap (λ (z : ℕ). z / 2 ^ (j % 8) % 2) (get_or-eq_default w 0 (omega (arith, e))) ∙ ap (λ (z : ℕ). z % 2) (zero-div (2 ^ (j % 8))))
