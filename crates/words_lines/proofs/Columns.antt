-- Sums over columns of bits, from the slices that code has.
--   listed-entry, listed_below     the byte to which a list sends a place, and that there is one
--   listed-none                    a sum to which nothing is added yet
--   first_asked, second_asked      the halves of a group's redundancy, of its part of the table and of the tables of sums are as `add_stretch` asks
--   ends_added                     what both stretches give, once they are added
--   stretch-same                   what a stretch gives, by the whole redundancy and the whole table
-- Assumes nothing.
use mathlib.Core.Path.{◌≡◌, refl, sym, ap, ap₂, ◌∙◌, subst, subst⁻¹, subst₂}
use mathlib.Core.Bool.{Bool, true, false}
use mathlib.Core.List.{List}
use Prim.Native.Nat.{ℕ, ◌+◌, ◌-◌, ◌*◌, ◌/◌, ◌≤◌, ◌<◌}
use native.Mathlib.Omega.{arith}
use lib.Arith.{digits_lt}
use lib.ListN.{length, get_or, take, drop}
use Rattle.bch.specs.Polynomial.{◌⊕◌, Bits}
use Rattle.bch.specs.Powers.{xor_sum}
use Rattle.bch.proofs.Sum.{⊕-zero-right}
use Rattle.bch.proofs.PowerSum.{xor_sum-same}
use Rattle.staircase.specs.Rules.{entries}
use Rattle.bch_remainders.proofs.Rows.{row-length, row_at, row-bits}
use Rattle.rules.proofs.Entries.{entry-at}
use Rattle.words_tables.specs.Tables.{MaySum, part_of}
use Rattle.words_blocks.specs.Blocks.{part_sum, PartAdded}
use Rattle.words_blocks.proofs.Sums.{part_length, first_half, second_half, adds_part}
use Rattle.words_sums.specs.Listed.{Sends, listed_bit}
use Rattle.words_lines.specs.Words.{entry_at, red_place, stretch_sum, EndsLent, EndsAdded}

module _ (list bits : List ℕ) (p : ℕ) (h : p < length bits) where
  pub listed-entry : get_or bits (entry_at list p) 0 ≡ listed_bit list bits p
  unfolding listed_bit
  listed-entry = ap (λ (e : ℕ). get_or bits e 0) (entry-at (length bits) list p h)

  pub listed_below : Sends list (length bits) → entry_at list p < length bits
  listed_below S = omega (arith, entry-at (length bits) list p h, S.1 p h)

pub listed-none : (x : ℕ) (f : ℕ → ℕ) → x ≡ x ⊕ xor_sum 0 f
unfolding xor_sum
listed-none x f = sym (⊕-zero-right x)

place_below : (list : List ℕ) (n : ℕ) → Sends list n → (rows : Bool) (q : ℕ) → q < n → red_place rows (entries n list) q < n
unfolding red_place
place_below list n S true q h = S.1 q h
place_below list n S false q h = h

-- w words
abbrev Lent : List ℕ → List ℕ → List ℕ → List ℕ → ℕ → Type 0
Lent list bits part tables w = Sends list (length bits) × (length bits ≡ length part * w) × Bits bits × (w ≤ 512) × MaySum part tables

-- the stretch from `at` to `stop`, and the part from `from` to `end`; x bits are read of each word
abbrev StretchAdds : List ℕ → List ℕ → List ℕ → Bool → ℕ → ℕ → ℕ → ℕ → List ℕ → List ℕ → ℕ → Type 0
StretchAdds red positions list rows at stop from end old new x =
    (length new ≡ length old)
    × ((a : ℕ) → a < length old → get_or new a 0 ≡ get_or old a 0 ⊕ xor_sum (length (take (end - from) (drop from positions)))
    (λ j. get_or (take (stop - at) (drop at red)) (red_place rows (entries (length (take (stop - at) (drop at red))) list) (j * length old + a)) 0
    * get_or (take (end - from) (drop from positions)) j 0))
    × (x ≡ length (take (end - from) (drop from positions)))

-- n bits and r entries
module _ (red positions list : List ℕ) (at n stop from r end : ℕ) (es : at + n ≡ stop) (inside : stop ≤ length red) (ee : from + r ≡ end)
    (within : end ≤ length positions) (S : Sends list n) where
  stretch_lent : (tables : List ℕ) (w : ℕ) → n ≡ r * w → Bits red → w ≤ 512 → MaySum (part_of positions from r) tables
      → Lent list (take (stop - at) (drop at red)) (take (end - from) (drop from positions)) tables w
  stretch_lent tables w area bits few sums =
      let long : length (take (stop - at) (drop at red)) ≡ n = part_length red at stop n es inside in
      let wide : r ≡ length (take (end - from) (drop from positions)) = sym (part_length positions from end r ee within) in
      let k : r ≡ end - from = omega arith in (
        subst⁻¹ (Sends list) long S,
        long ∙ area ∙ ap (λ (q : ℕ). q * w) wide,
        row-bits red at (stop - at) bits,
        few,
        subst (λ (q : ℕ). MaySum (take q (drop from positions)) tables) k sums,
      )

  stretch_added : (rows : Bool) (old new : List ℕ) {x : ℕ} → n ≡ r * length old → StretchAdds red positions list rows at stop from end old new x
      → PartAdded positions from r (λ w a j. get_or red (at + red_place rows (entries n list) (j * w + a)) 0) old new
  stretch_added rows old new {x} area added =
      let w : ℕ = length old in
      let all = subst₂ (λ (z u : ℕ). StretchAdds red positions list rows at z from u old new x) (sym es) (sym ee) added in
      let long : length (take (at + n - at) (drop at red)) ≡ n = row-length red at n (omega arith) in
      adds_part positions from r (omega arith)
      (λ w v a j. get_or (take (at + n - at) (drop at red)) (red_place rows (entries (length (take (at + n - at) (drop at red))) list) (j * w + a)) 0)
      (λ w a j. get_or red (at + red_place rows (entries n list) (j * w + a)) 0) old new
      (λ a j h l. ap (λ (k : ℕ). get_or (take (at + n - at) (drop at red)) (red_place rows (entries k list) (j * w + a)) 0) long
      ∙ row_at red at n (red_place rows (entries n list) (j * w + a)) (place_below list n S rows (j * w + a) (omega (arith, digits_lt l h))))
      (all.0, all.1)

-- ---- both stretches of a group

abbrev half : List ℕ → List ℕ
half l = take (length l / 2 - 0) (drop 0 l)

abbrev other_half : List ℕ → List ℕ
other_half l = take (2 * (length l / 2) - length l / 2) (drop (length l / 2) l)

module _ {own parity bits part tables : List ℕ} {w : ℕ} (A : EndsLent own parity bits part tables w) where
  abbrev n : ℕ
  n = length bits / 2

  abbrev r : ℕ
  r = length part / 2

  pub first_asked : Lent own (half bits) (half part) (half tables) w
  first_asked =
      stretch_lent bits part own 0 n n 0 r r (omega arith) (omega arith) (omega arith) (omega arith) A.own_sends (half tables) w A.area A.binary
      A.few-columns (first_half part r r tables refl A.halves)

  pub second_asked : {v : ℕ} → v ≡ w → Lent parity (other_half bits) (other_half part) (other_half tables) v
  second_asked e =
      rw e
      (stretch_lent bits part parity n n (2 * n) r r (2 * r) (omega arith) (omega arith) (omega arith) (omega arith) A.parity_sends (other_half tables) w
      A.area A.binary A.few-columns (second_half part r r tables refl A.halves))

  -- x and v bits are read of each word
  pub ends_added : (rows : Bool) (old two new : List ℕ) {x v : ℕ} → length old ≡ w
      → StretchAdds bits part own rows 0 (length bits / 2) 0 (length part / 2) old two x
      → StretchAdds bits part parity rows (length bits / 2) (2 * (length bits / 2)) (length part / 2) (2 * (length part / 2)) two new v
      → EndsAdded rows own parity bits part old new × (x + v ≡ 2 * (length part / 2))
  ends_added rows old two new e first second =
      let area : n ≡ r * length old = A.area ∙ ap (λ (k : ℕ). r * k) (sym e) in
      let one = stretch_added bits part own 0 n n 0 r r (omega arith) (omega arith) (omega arith) (omega arith) A.own_sends rows old two area first in
      let other =
      stretch_added bits part parity n n (2 * n) r r (2 * r) (omega arith) (omega arith) (omega arith) (omega arith) A.parity_sends rows two new
      (area ∙ ap (λ (k : ℕ). r * k) (sym one.0)) second in (
        (
          other.0 ∙ one.0,
          λ a h. other.1 a (omega (arith, one.0)) ∙ ap₂ (λ (x k : ℕ). x ⊕ stretch_sum rows parity bits part n n r r k a) (one.1 a h) one.0,
        ),
        omega (arith, first.2, second.2, part_length part 0 r r (omega arith) (omega arith), part_length part r (2 * r) r (omega arith) (omega arith)),
      )

-- the same bits and powers in the whole redundancy and in the whole table
pub stretch-same : (rows : Bool) (list bits part red positions : List ℕ) (at n from r w a to x : ℕ) → Sends list n → n ≡ r * w → a < w
    → ((q : ℕ) → q < n → get_or bits (at + q) 0 ≡ get_or red (to + q) 0) → ((j : ℕ) → j < r → get_or part (from + j) 0 ≡ get_or positions (x + j) 0)
    → stretch_sum rows list bits part at n from r w a ≡ stretch_sum rows list red positions to n x r w a
unfolding part_sum
stretch-same rows list bits part red positions at n from r w a to x S area h same powers =
    let place : ℕ → ℕ = λ j. red_place rows (entries n list) (j * w + a) in
    xor_sum-same r (λ j. get_or bits (at + place j) 0 * get_or part (from + j) 0) (λ j. get_or red (to + place j) 0 * get_or positions (x + j) 0)
    (λ j l. ap₂ ◌*◌ (same (place j) (place_below list n S rows (j * w + a) (omega (arith, digits_lt l h)))) (powers j l))
