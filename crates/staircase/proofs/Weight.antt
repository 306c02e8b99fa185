-- What a flipped bit adds to the remainder of a word.
--   weight         the sum of the powers of all positions of a word at which a site stands
--   weight_flip    flipping the site adds it to the remainder
--   weight_at      the one power, in a word in which no sent site stands twice
-- Assumes nothing.
use mathlib.Core.Path.{◌≡◌, sym, ap, ap₂, ◌∙◌, subst, refl}
use mathlib.Core.Bool.{cond}
use mathlib.Core.Logic.{◌≢◌, ◌⊎◌, inl, inr}
use mathlib.Core.List.{List, [], ◌∷◌}
use Prim.Native.Nat.{ℕ, zero, suc, ◌-◌, ◌*◌, ◌<◌}
use native.Mathlib.Nat.{mul-one, zero-mul, one-mul, le_of_suc-le-suc, not-suc-le-zero}
use native.Mathlib.Omega.{arith}
use lib.ListN.{length, get_or}
use Rattle.bch.specs.Polynomial.{◌⊕◌, times_x, iterate, horner, remainder}
use Rattle.bch.specs.Powers.{power_mod}
use Rattle.bch.proofs.Sum.{bit_ind, ⊕_assoc, ⊕_comm, ⊕-self, ⊕-zero-left, ⊕-zero-right}
use Rattle.bch.proofs.Polynomial.{linear_bit}
use Rattle.bch.proofs.Modulus.{times_x_linear, iterate-times_x_linear}
use Rattle.bch.proofs.Word.{horner_cons}
use Rattle.staircase.specs.Frame.{Frame, Site, bit_at, flip, read}
use Rattle.staircase.specs.Frame.Site.{unsent}
use Rattle.staircase.specs.Decoder.{same_site}
use Rattle.staircase.proofs.Search.{cond-true, cond-false}
use Rattle.staircase.proofs.Member.{In}
use Rattle.staircase.proofs.Flip.{Sent, Within, flip-same, flip_other, read_length, Distinct, site?, site_in}
use Rattle.staircase.proofs.Occurrences.{same-site, other_site}

-- "Position j of an n-bit word carries x^(n-1-j)."
unfoldable pub weight : ℕ → ℕ → Site → List Site → ℕ
weight g r x [] = 0
weight g r x (y ∷ w) = cond (same_site x y) (power_mod g r (length w)) 0 ⊕ weight g r x w

module _ (g r : ℕ) where
  remainder_cons : (b : ℕ) (u : List ℕ) → b < 2 → remainder g r (b ∷ u) ≡ b * power_mod g r (length u) ⊕ remainder g r u
  unfolding remainder power_mod
  remainder_cons b u h =
      let T : ℕ → ℕ = times_x g r in
      horner_cons T (times_x_linear g r) b u
      ∙ ap (λ (z : ℕ). z ⊕ horner T 0 u)
      (ap (iterate T (length u)) (sym (mul-one b)) ∙ linear_bit (iterate T (length u)) (iterate-times_x_linear g r (length u)) b 1 h)

  other-bit : (b P : ℕ) → b < 2 → (1 - b) * P ≡ b * P ⊕ P
  other-bit b P h =
      bit_ind (λ (x : ℕ). (1 - x) * P ≡ x * P ⊕ P)
      (one-mul P ∙ sym (ap (λ (z : ℕ). z ⊕ P) (zero-mul P) ∙ ⊕-zero-left P))
      (zero-mul P ∙ sym (ap (λ (z : ℕ). z ⊕ P) (one-mul P) ∙ ⊕-self P)) b h

  exchange : (a b c d : ℕ) → (a ⊕ b) ⊕ (c ⊕ d) ≡ (a ⊕ c) ⊕ (b ⊕ d)
  exchange a b c d =
      ⊕_assoc a b (c ⊕ d) ∙ ap (λ (z : ℕ). a ⊕ z) (sym (⊕_assoc b c d) ∙ ap (λ (z : ℕ). z ⊕ d) (⊕_comm b c) ∙ ⊕_assoc c b d)
      ∙ sym (⊕_assoc a c (b ⊕ d))

  weight_nil : (x : Site) → weight g r x [] ≡ 0
  unfolding weight
  weight_nil x = refl

  weight_here : (x y : Site) (w : List Site) → x ≡ y → weight g r x (y ∷ w) ≡ power_mod g r (length w) ⊕ weight g r x w
  unfolding weight
  weight_here x y w e = ap (λ (z : ℕ). z ⊕ weight g r x w) (cond-true (same_site x y) _ _ (same-site x y e))

  weight_other : (x y : Site) (w : List Site) → x ≢ y → weight g r x (y ∷ w) ≡ weight g r x w
  unfolding weight
  weight_other x y w d =
      ap (λ (z : ℕ). z ⊕ weight g r x w) (cond-false (same_site x y) _ _ (other_site x y d)) ∙ ⊕-zero-left (weight g r x w)

  weight_none : (x : Site) (w : List Site) → ¬ In x w → weight g r x w ≡ 0
  weight_none x [] n = weight_nil x
  weight_none x (y ∷ w) n = weight_other x y w (λ e. n (inl e)) ∙ weight_none x w (λ i. n (inr i))

  pub weight_at : (x : Site) (w : List Site) → Distinct w → (j : ℕ) → j < length w → x ≡ get_or w j unsent → Sent x
      → weight g r x w ≡ power_mod g r (length w - 1 - j)
  weight_at x [] d j l e s = absurd (not-suc-le-zero l)
  weight_at x (y ∷ w) d zero l e s =
      let last : length w ≡ suc (length w) - 1 - 0 = omega arith in
      weight_here x y w e
      ∙ ap (λ (z : ℕ). power_mod g r (length w) ⊕ z) (weight_none x w (λ i. d.0 (subst Sent e s) (subst (λ (z : Site). In z w) e i)))
      ∙ ⊕-zero-right (power_mod g r (length w)) ∙ ap (power_mod g r) last
  weight_at x (y ∷ w) d (suc j) l e s =
      let before : length w - 1 - j ≡ suc (length w) - 1 - suc j = omega arith in
      weight_other x y w (λ q. d.0 (subst Sent q s) (subst (λ (z : Site). In z w) (sym e ∙ q) (site_in w j (le_of_suc-le-suc l))))
      ∙ weight_at x w d.1 j (le_of_suc-le-suc l) e s ∙ ap (power_mod g r) before

  -- any word whatever
  pub weight_flip : (f : Frame) → ((y : Site) → bit_at f y < 2) → (x : Site) → Within x f → (w : List Site)
      → remainder g r (read (flip x f) w) ≡ remainder g r (read f w) ⊕ weight g r x w
  weight_flip f bits x h [] = sym (ap (λ (z : ℕ). remainder g r [] ⊕ z) (weight_nil x) ∙ ⊕-zero-right (remainder g r []))
  weight_flip f bits x h (y ∷ w) = go (site? x y) (weight_flip f bits x h w)
    where
      P : ℕ
      P = power_mod g r (length w)

      a : List ℕ
      a = read f w

      b : List ℕ
      b = read (flip x f) w

      after : (z : ℕ) → z < 2 → remainder g r (z ∷ b) ≡ z * P ⊕ remainder g r b
      after z l = remainder_cons z b l ∙ ap (λ (n : ℕ). z * power_mod g r n ⊕ remainder g r b) (read_length (flip x f) w)

      before : remainder g r (bit_at f y ∷ a) ≡ bit_at f y * P ⊕ remainder g r a
      before = remainder_cons (bit_at f y) a (bits y) ∙ ap (λ (n : ℕ). bit_at f y * power_mod g r n ⊕ remainder g r a) (read_length f w)

      go : (x ≡ y) ⊎ (x ≢ y) → remainder g r b ≡ remainder g r a ⊕ weight g r x w
          → remainder g r (bit_at (flip x f) y ∷ b) ≡ remainder g r (bit_at f y ∷ a) ⊕ weight g r x (y ∷ w)
      go (inl e) rest =
          let turned : bit_at (flip x f) y ≡ 1 - bit_at f y = subst (λ (z : Site). bit_at (flip x f) z ≡ 1 - bit_at f z) e (flip-same x f h) in
          ap (λ (z : ℕ). remainder g r (z ∷ b)) turned
          ∙ after (1 - bit_at f y) (omega arith)
          ∙ ap₂ ◌⊕◌ (other-bit (bit_at f y) P (bits y)) rest
          ∙ exchange (bit_at f y * P) P (remainder g r a) (weight g r x w)
          ∙ ap₂ ◌⊕◌ (sym before) (sym (weight_here x y w e))
      go (inr d) rest =
          ap (λ (z : ℕ). remainder g r (z ∷ b)) (flip_other x y f d)
          ∙ after (bit_at f y) (bits y)
          ∙ ap (λ (z : ℕ). bit_at f y * P ⊕ z) rest
          ∙ sym (⊕_assoc (bit_at f y * P) (remainder g r a) (weight g r x w))
          ∙ ap₂ ◌⊕◌ (sym before) (sym (weight_other x y w d))
