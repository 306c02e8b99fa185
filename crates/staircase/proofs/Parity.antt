-- The parity of a word by its entries, for a generator g of degree r.
--   bit-⊕             the exclusive or of two bits is their sum
--   parity-sum-at     the parity of a sum of words' information, by the sums of the three stretches
--   codeword_table    a codeword ends in the parity of its information
--   table_codeword    a word that ends so is a codeword
-- Assumes nothing.
use mathlib.Core.Path.{◌≡◌, refl, sym, ap, ap₂, ◌∙◌, subst}
use mathlib.Core.Bool.{true}
use mathlib.Core.List.{List, [], ◌∷◌, ◌++◌}
use Prim.Native.Nat.{ℕ, zero, suc, ◌/◌, ◌^◌, ◌<◌}
use native.Mathlib.Nat.{suc_inj, suc-ne-zero}
use native.Mathlib.Omega.{arith}
use lib.ListN.{length, get_or, length-append}
use lib.Bits.{bit_xor, xor_lt, xor_add_and}
use lib.Seq.{ext_get_or}
use Rattle.bch.specs.Polynomial.{Bits, ◌⊕◌, remainder}
use Rattle.bch.specs.Code.{is_codeword, parity}
use Rattle.bch.proofs.Word.{sum_word}
use Rattle.bch.proofs.Systematic.{sum_word_append, parity-length, parity-bits, parity_makes, parity-alone, parity-sum}
use Rattle.bch.proofs.Bch.{codeword_zero, zero_codeword}
use Rattle.staircase.specs.Lists.{bit_sum, tabulate}
use Rattle.staircase.proofs.Tabulate.{Binary, tabulate-length, tabulate-at, tabulate-bits}
use Rattle.staircase.proofs.Stretches.{three, three-length}

pub bit-⊕ : (a b : ℕ) → a < 2 → b < 2 → a ⊕ b ≡ bit_sum a b
unfolding ◌⊕◌
bit-⊕ a b ha hb = let l : bit_xor a b < 2 = xor_lt 1 a b ha hb in let e = xor_add_and a b in omega (arith, l, e)

-- ---- sums

abbrev pub add : (ℕ → ℕ) → (ℕ → ℕ) → ℕ → ℕ
add f g k = bit_sum (f k) (g k)

sum_word_at : (u v : List ℕ) → Bits u → Bits v → length u ≡ length v → (k : ℕ) → get_or (sum_word u v) k 0 ≡ bit_sum (get_or u k 0) (get_or v k 0)
unfolding sum_word
sum_word_at [] [] hu hv e k = refl
sum_word_at [] (b ∷ v) hu hv e k = absurd (suc-ne-zero (length v) (sym e))
sum_word_at (a ∷ u) [] hu hv e k = absurd (suc-ne-zero (length u) e)
sum_word_at (a ∷ u) (b ∷ v) hu hv e zero = bit-⊕ a b (hu 0) (hv 0)
sum_word_at (a ∷ u) (b ∷ v) hu hv e (suc k) = sum_word_at u v (λ j. hu (suc j)) (λ j. hv (suc j)) (suc_inj e) k

tabulate-sum : (n : ℕ) (f g : ℕ → ℕ) → Binary f → Binary g → tabulate n (add f g) ≡ sum_word (tabulate n f) (tabulate n g)
unfolding tabulate sum_word
tabulate-sum zero f g hf hg = refl
tabulate-sum (suc n) f g hf hg =
    ap₂ (λ (b : ℕ) (t : List ℕ). b ∷ t) (sym (bit-⊕ (f zero) (g zero) (hf zero) (hg zero)))
    (tabulate-sum n (λ k. f (suc k)) (λ k. g (suc k)) (λ k. hf (suc k)) (λ k. hg (suc k)))

module _ (m r : ℕ) (A B X A₂ B₂ X₂ : ℕ → ℕ) (a : Binary A) (b : Binary B) (x : Binary X) (a₂ : Binary A₂) (b₂ : Binary B₂) (x₂ : Binary X₂) where
  three_sum : three m r (add A A₂) (add B B₂) (add X X₂) ≡ sum_word (three m r A B X) (three m r A₂ B₂ X₂)
  three_sum =
      let same : length (tabulate m A) ≡ length (tabulate m A₂) = tabulate-length m A ∙ sym (tabulate-length m A₂) in
      let both : length (tabulate m A ++ tabulate m B) ≡ length (tabulate m A₂ ++ tabulate m B₂) =
      omega (arith, length-append (tabulate m A) (tabulate m B), length-append (tabulate m A₂) (tabulate m B₂), same, tabulate-length m B, tabulate-length m B₂) in
      ap₂ (λ (u v : List ℕ). u ++ v) (ap₂ (λ (u v : List ℕ). u ++ v) (tabulate-sum m A A₂ a a₂) (tabulate-sum m B B₂ b b₂)) (tabulate-sum r X X₂ x x₂)
      ∙ sym (sum_word_append (tabulate m A ++ tabulate m B) (tabulate m A₂ ++ tabulate m B₂) (tabulate r X) (tabulate r X₂) both
      ∙ ap (λ (t : List ℕ). t ++ sum_word (tabulate r X) (tabulate r X₂)) (sum_word_append (tabulate m A) (tabulate m A₂) (tabulate m B) (tabulate m B₂) same))

  pub parity-sum-at : (g k : ℕ)
      → get_or (parity g r (three m r (add A A₂) (add B B₂) (add X X₂))) k 0 ≡ bit_sum (get_or (parity g r (three m r A B X)) k 0) (get_or (parity g r (three m r A₂ B₂ X₂)) k 0)
  parity-sum-at g k =
      let u : List ℕ = three m r A B X in
      let v : List ℕ = three m r A₂ B₂ X₂ in
      ap (λ (w : List ℕ). get_or (parity g r w) k 0) three_sum
      ∙ ap (λ (p : List ℕ). get_or p k 0) (parity-sum g r u v (three-length m r A B X X ∙ sym (three-length m r A₂ B₂ X₂ X₂)))
      ∙ sum_word_at (parity g r u) (parity g r v) (parity-bits g r u) (parity-bits g r v) (parity-length g r u ∙ sym (parity-length g r v)) k

-- ---- words of information u and last bits T

module _ (g r : ℕ) (pos : 0 < r) (deg : g / 2 ^ r ≡ 1) (u : List ℕ) (T : ℕ → ℕ) (hu : Bits u) (h_t : Binary T) where
  pub codeword_table : is_codeword g r (u ++ tabulate r T) ≡ true → (b : ℕ) → b < r → T b ≡ get_or (parity g r u) b 0
  codeword_table c b h =
      sym (tabulate-at r T 0 b h)
      ∙ ap (λ (z : List ℕ). get_or z b 0)
      (parity-alone g r pos deg u hu (tabulate r T) (tabulate-bits r T h_t) (tabulate-length r T) (codeword_zero g r (u ++ tabulate r T) c))

  pub table_codeword : ((b : ℕ) → b < r → T b ≡ get_or (parity g r u) b 0) → is_codeword g r (u ++ tabulate r T) ≡ true
  table_codeword h =
      let e : tabulate r T ≡ parity g r u =
      ext_get_or 0 (tabulate r T) (parity g r u) (tabulate-length r T ∙ sym (parity-length g r u))
      (λ k l. let b : k < r = subst (λ (z : ℕ). k < z) (tabulate-length r T) l in tabulate-at r T 0 k b ∙ h k b) in
      zero_codeword g r (u ++ tabulate r T) (ap (λ (z : List ℕ). remainder g r (u ++ z)) e ∙ parity_makes g r pos deg u hu)
