-- Decimal digits of numbers of any size: how many they are, and the last one apart.
--   dec_one_length, dec-more-length   one digit, and one more than the tenth part has
--   dec-more                          the digits of the tenth part, and the last one
--   dec-short, dec_four               at most twenty digits, and at most four
-- Assumes nothing.
use Prim.Native.Nat.{ℕ, ◌+◌, ◌/◌, ◌%◌, ◌^◌, ◌≤◌, ◌<◌}
use mathlib.Core.Path.{◌≡◌, ap, ◌∙◌}
use mathlib.Core.List.{List, [], ◌∷◌, ◌++◌}
use native.Mathlib.Omega.{arith}
use lib.ListN.{length, length-append}
use Rattle.text_formats.specs.Format.{dec}
use Rattle.text_formats.proofs.Digits.{digits_more, digits_enough, digits-length, dec_one, dec-digits}

-- The digits of a number of 64 bits are those of its tenth part and its last one.
pub dec-more : (v : ℕ) → 10 ≤ v → v < 2 ^ 64 → dec v ≡ dec (v / 10) ++ ((48 + v % 10) ∷ [])
unfolding dec
dec-more v l h =
    digits_more 19 v l ∙ ap (λ (ds : List ℕ). ds ++ ((48 + v % 10) ∷ [])) (digits_enough 18 19 (v / 10) (omega arith) (omega arith))

-- No number has more than twenty digits; one below 10,000 has at most four.
pub dec-short : (v : ℕ) → length (dec v) ≤ 20
unfolding dec
dec-short v = digits-length 20 v

pub dec_four : (v : ℕ) → v < 10000 → length (dec v) ≤ 4
dec_four v h = rw (dec-digits 3 v h h) (digits-length 4 v)

pub dec_one_length : (v : ℕ) → v < 10 → length (dec v) ≡ 1
dec_one_length v h = rw (dec_one v h)

pub dec-more-length : (v : ℕ) → 10 ≤ v → v < 2 ^ 64 → length (dec v) ≡ length (dec (v / 10)) + 1
dec-more-length v l h = rw (dec-more v l h) (length-append (dec (v / 10)) ((48 + v % 10) ∷ []))
