-- The two halves of a group while Y comes out of the words of the solutions.
--   front_half, behind-bits   Y as it is read again, and P for Y = 0 as it is lent
--   finished_made             the group when both halves are back
--   finished_of-length         its length
-- Assumes nothing.
use mathlib.Core.Path.{◌≡◌, sym, ap, ap₂, ◌∙◌, subst⁻¹}
use mathlib.Core.List.{List, ◌++◌}
use Prim.Native.Nat.{ℕ, ◌+◌, ◌-◌, ◌*◌, ◌/◌, ◌%◌, ◌^◌, ◌<◌}
use native.Mathlib.Nat.{mod-lt, mul_comm}
use native.Mathlib.Omega.{arith}
use lib.ListN.{length, get_or, take, drop, length-append, length-drop}
use lib.Seq.{length-take-le, drop_at, get_or-take, get_or-drop}
use Rattle.bch.specs.Polynomial.{◌⊕◌, Bits}
use Rattle.bch.specs.Powers.{xor_sum}
use Rattle.bch.proofs.Sum.{mod2_bit, ⊕-zero-left}
use Rattle.bch.proofs.PowerSum.{xor_sum-same}
use Rattle.bch_remainders.proofs.Rows.{row-bits}
use Rattle.staircase.specs.Lists.{bit_sum, tabulate}
use Rattle.staircase.specs.System.{Contents}
use Rattle.staircase.proofs.Bounds.{place_below}
use Rattle.staircase.proofs.Fill.{front_last}
use Rattle.staircase.proofs.Tabulate.{tabulate-length, tabulate-at, tabulate-bits, tabulate-same}
use Rattle.words_positions.proofs.Parts.{part-is}
use Rattle.encoder_solution.specs.Bits.{remainder_digit}
use Rattle.encoder_frame.specs.Group.{finished_of}

module _ (words part old ys : List ℕ) (g size r : ℕ) (pos : 0 < size) (long : length part ≡ r) (wide : length words ≡ size * r) (room : length old ≡ 2 * (size * r))
    (made : ys ≡ tabulate (length words) (λ q. get_or words q 0 / 2 ^ g % 2)) where
  abbrev n : ℕ
  n = size * r

  abbrev y : Contents
  y q = get_or words q 0 / 2 ^ g % 2

  abbrev out : List ℕ
  out = ys ++ drop (size * r - 0) old

  abbrev behind : List ℕ
  behind = take (2 * (size * r) - size * r) (drop (size * r) (ys ++ drop (size * r - 0) old))

  y_made : ys ≡ tabulate n y
  y_made = made ∙ ap (λ (k : ℕ). tabulate k y) wide

  ys_length : length ys ≡ n
  ys_length = ap length y_made ∙ tabulate-length n y

  front : take (n - 0) out ≡ tabulate n y
  front = part-is ys (drop (n - 0) old) n ys_length ∙ y_made

  -- a row for each entry of the part, a column for each sum
  pub front_half : (sums : List ℕ) → length sums ≡ size → (length (take (size * r - 0) (ys ++ drop (size * r - 0) old)) ≡ length part * length sums)
      × Bits (take (size * r - 0) (ys ++ drop (size * r - 0) old))
  front_half sums few = (
    ap length front ∙ tabulate-length n y ∙ mul_comm size r ∙ ap₂ ◌*◌ (sym long) (sym few),
    subst⁻¹ Bits front (tabulate-bits n y (λ q. mod2_bit (get_or words q 0 / 2 ^ g))),
  )

  behind-is : drop n out ≡ drop (n - 0) old
  behind-is = drop_at ys (drop (n - 0) old) n ys_length

  pub behind-length : length (take (2 * (size * r) - size * r) (drop (size * r) (ys ++ drop (size * r - 0) old))) ≡ size * r
  behind-length =
      ap (λ (t : List ℕ). length (take (2 * n - n) t)) behind-is ∙ length-take-le (2 * n - n) (drop (n - 0) old) (omega (arith, length-drop (n - 0) old)) ∙ omega arith

  behind-at : (q : ℕ) → q < n → get_or behind q 0 ≡ get_or old (n + q) 0
  behind-at q h =
      ap (λ (t : List ℕ). get_or (take (2 * n - n) t) q 0) behind-is ∙ get_or-take (2 * n - n) (drop (n - 0) old) q 0 (omega arith) ∙ get_or-drop (n - 0) old q 0
      ∙ ap (λ (k : ℕ). get_or old k 0) (let e : n - 0 + q ≡ n + q = omega arith in e)

  pub behind-bits : Bits old → Bits (take (2 * (size * r) - size * r) (drop (size * r) (ys ++ drop (size * r - 0) old)))
  behind-bits b = subst⁻¹ (λ (t : List ℕ). Bits (take (2 * n - n) t)) behind-is (row-bits old (n - 0) (2 * n - n) b)

  module _ (zeros sums lent ps bits bs : List ℕ) (few : length zeros ≡ size) (none : (a : ℕ) → get_or zeros a 0 ≡ 0)
      (added : (a : ℕ) → a < length zeros → get_or sums a 0
      ≡ get_or zeros a 0 ⊕ xor_sum (length part) (λ j. get_or (take (size * r - 0) (ys ++ drop (size * r - 0) old)) (j * length zeros + a) 0 * get_or part j 0))
      (Lent-is : lent ≡ sums) (by_digits : ps ≡ tabulate (size * r) (λ q. get_or lent (q % size) 0 / 2 ^ (r - 1 - q / size) % 2)) (bits_is : bits ≡ ps)
      (summed : bs ≡ tabulate (length (take (2 * (size * r) - size * r) (drop (size * r) (ys ++ drop (size * r - 0) old))))
      (λ q. bit_sum (get_or (take (2 * (size * r) - size * r) (drop (size * r) (ys ++ drop (size * r - 0) old))) q 0) (get_or bits q 0))) where
    sum_is : (a : ℕ) → a < size → get_or sums a 0 ≡ xor_sum r (λ b. y (b * size + a) * get_or part b 0)
    sum_is a h =
        added a (omega (arith, few)) ∙ ap (λ (x : ℕ). x ⊕ xor_sum (length part) (λ j. get_or (take (n - 0) out) (j * length zeros + a) 0 * get_or part j 0)) (none a)
        ∙ ⊕-zero-left (xor_sum (length part) (λ j. get_or (take (n - 0) out) (j * length zeros + a) 0 * get_or part j 0))
        ∙ ap₂ (λ (k m : ℕ). xor_sum k (λ j. get_or (take (n - 0) out) (j * m + a) 0 * get_or part j 0)) long few
        ∙ xor_sum-same r (λ j. get_or (take (n - 0) out) (j * size + a) 0 * get_or part j 0) (λ b. y (b * size + a) * get_or part b 0)
        (λ b l. ap (λ (x : ℕ). x * get_or part b 0)
        (ap (λ (t : List ℕ). get_or t (b * size + a) 0) front ∙ tabulate-at n y 0 (b * size + a) (place_below size r b a l h)))

    digit-is : (q : ℕ) → q < n → get_or bits q 0 ≡ remainder_digit (xor_sum r (λ b. y (b * size + q % size) * get_or part b 0)) r (q / size)
    digit-is q h =
        ap (λ (t : List ℕ). get_or t q 0) (bits_is ∙ by_digits) ∙ tabulate-at n (λ q. get_or lent (q % size) 0 / 2 ^ (r - 1 - q / size) % 2) 0 q h
        ∙ ap (λ (x : ℕ). remainder_digit x r (q / size)) (ap (λ (t : List ℕ). get_or t (q % size) 0) Lent-is ∙ sum_is (q % size) (mod-lt q pos))

    pub finished_made : take (size * r) (ys ++ drop (size * r - 0) old)
        ++ (bs ++ drop (2 * (size * r) - size * r) (drop (size * r) (ys ++ drop (size * r - 0) old))) ≡ finished_of words g part size r old
    unfolding finished_of
    finished_made =
        front_last ys (drop (n - 0) old) bs n (2 * n - n) ys_length (omega (arith, length-drop (n - 0) old))
        ∙ ap₂ ◌++◌ y_made
        (summed ∙ ap (λ (k : ℕ). tabulate k (λ q. bit_sum (get_or behind q 0) (get_or bits q 0))) behind-length
        ∙ tabulate-same n (λ q. bit_sum (get_or behind q 0) (get_or bits q 0))
        (λ q. bit_sum (get_or old (n + q) 0) (remainder_digit (xor_sum r (λ b. y (b * size + q % size) * get_or part b 0)) r (q / size)))
        (λ q h. ap₂ bit_sum (behind-at q h) (digit-is q h)))

pub finished_of-length : (words : List ℕ) (g : ℕ) (part : List ℕ) (size r : ℕ) (old : List ℕ) → length (finished_of words g part size r old) ≡ 2 * (size * r)
unfolding finished_of
finished_of-length words g part size r old =
    let n : ℕ = size * r in
    let y : Contents = λ q. get_or words q 0 / 2 ^ g % 2 in
    let p : Contents = λ q. bit_sum (get_or old (n + q) 0) (remainder_digit (xor_sum r (λ b. y (b * size + q % size) * get_or part b 0)) r (q / size)) in
    length-append (tabulate n y) (tabulate n p) ∙ ap₂ (λ (j k : ℕ). j + k) (tabulate-length n y) (tabulate-length n p) ∙ omega arith
