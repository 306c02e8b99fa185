-- Powers of x, sums of a table's entries, and tables that are written entry by entry. Laws that code meets speak of `bit_xor`, which is ⊕.
--   times_x_over     x times v, where the degree has come to d
--   power_mod-none   x^0 is 1
--   power_mod_next   x^(e + 1) is x times x^e
--   spread-bit      a bit spread over 32 masks a number to itself or to 0
--   xor_sum-more     one term more
--   xor_sum-push     the same where the number of terms is that of the pairs that a loop over a zip has met
--   Added           the entries before n have f added, the others are as they were
--   added_more      one entry more
-- Assumes nothing.
use mathlib.Core.Path.{◌≡◌, sym, ap, ap₂, ◌∙◌}
use mathlib.Core.List.{List, [], ◌∷◌, ◌++◌}
use Prim.Native.Nat.{ℕ, suc, ◌+◌, ◌*◌, ◌/◌, ◌%◌, ◌^◌, ◌≤◌, ◌<◌}
use native.Mathlib.Nat.{zero-mul, one-mul, mod-eq_of_lt, div-eq_of_lt-le}
use native.Mathlib.Numerals.{add-one}
use native.Mathlib.Omega.{arith}
use lib.Bits.{bit_xor, bit_and, and_comm, and_mask}
use lib.ListN.{length, get_or, set, length-append}
use Rattle.bch.specs.Polynomial.{◌⊕◌, times_x, iterate}
use Rattle.bch.specs.Powers.{power_mod, xor_sum}
use Rattle.bch.proofs.Sum.{bit_ind}
use Rattle.bch.proofs.Store.{set_each}

-- ---- powers
pub times_x_over : (f d v : ℕ) → v < 2 ^ d → 2 ^ d ≤ v * 2 → bit_xor (v * 2) f ≡ times_x f d v
unfolding times_x ◌⊕◌
times_x_over f d v h l =
    let e : v * 2 / 2 ^ d ≡ 1 = div-eq_of_lt-le (2 ^ d) (omega arith) (omega arith) in
    sym (ap (λ (n : ℕ). bit_xor (v * 2) ((n % 2) * f)) e ∙ ap (bit_xor (v * 2)) (one-mul f))

pub power_mod-none : (g r e : ℕ) → e ≡ 0 → 1 ≡ power_mod g r e
unfolding power_mod iterate
power_mod-none g r e h = ap (power_mod g r) (sym h)

pub power_mod_next : (g r e k v : ℕ) → v ≡ power_mod g r e → k ≡ suc e → times_x g r v ≡ power_mod g r k
unfolding power_mod iterate
power_mod_next g r e k v h l = ap (times_x g r) h ∙ ap (power_mod g r) (sym l)

-- ---- sums
pub spread-bit : (b v : ℕ) → b < 2 → v < 2 ^ 32 → bit_and (b * 4294967295) v ≡ b * v
spread-bit b v h l =
    bit_ind (λ (b : ℕ). bit_and (b * 4294967295) v ≡ b * v) (sym (zero-mul v))
    (and_comm 4294967295 v ∙ and_mask v 32 ∙ mod-eq_of_lt l ∙ sym (one-mul v)) b h

pub xor_sum-more : (n s : ℕ) (f : ℕ → ℕ) → s ≡ xor_sum n f → bit_xor s (f n) ≡ xor_sum (n + 1) f
unfolding xor_sum ◌⊕◌
xor_sum-more n s f e = ap (λ (k : ℕ). bit_xor k (f n)) e ∙ ap (λ (k : ℕ). xor_sum k f) (sym (add-one n))

pub xor_sum-push : {A : Type 0} (met : List A) (pair : A) (s x : ℕ) (f : ℕ → ℕ) → s ≡ xor_sum (length met) f → x ≡ f (length met)
    → bit_xor s x ≡ xor_sum (length (met ++ (pair ∷ []))) f
xor_sum-push met pair s x f e h = rw (length-append, h) (xor_sum-more (length met) s f e)

-- ---- a list added to, entry by entry
abbrev pub Added : List ℕ → (ℕ → ℕ) → ℕ → List ℕ → Type 0
Added old f n new = (k : ℕ) → (k < n → get_or new k 0 ≡ get_or old k 0 ⊕ f k) × (n ≤ k → get_or new k 0 ≡ get_or old k 0)

pub added_more : (old new : List ℕ) (f : ℕ → ℕ) (n x : ℕ) → n < length new → Added old f n new → x ≡ f n
    → Added old f (n + 1) (set new n (bit_xor (get_or new n 0) x))
unfolding ◌⊕◌
added_more old new f n x h a e =
    set_each (λ k y. (k < n + 1 → y ≡ get_or old k 0 ⊕ f k) × (n + 1 ≤ k → y ≡ get_or old k 0)) new n (bit_xor (get_or new n 0) x) h
    (λ l. ap₂ bit_xor ((a n).1 (omega arith)) e, λ l. absurd (omega arith))
    (λ k d. (λ l. (a k).0 (omega arith), λ l. (a k).1 (omega arith)))
