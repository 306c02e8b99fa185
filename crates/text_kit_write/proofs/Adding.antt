-- Lines added one after the other, as a loop adds them.
--   concat-more                            one line more is at most all of them
--   Summed, summed-none .. summed-all      the lengths of the first lines, added up
--   Written, written_none .. written_all   the first lines, written
-- Assumes nothing.
use Prim.Native.Nat.{ℕ, zero, suc, ◌+◌, ◌*◌, ◌≤◌, ◌<◌}
use mathlib.Core.Path.{◌≡◌, refl, sym, ap, ◌∙◌}
use mathlib.Core.List.{List, [], ◌++◌}
use native.Mathlib.Omega.{arith}
use native.Mathlib.Nat.{add-zero}
use native.Mathlib.Numerals.{add-one}
use lib.ListN.{length, length-append}
use lib.Seq.{sets, length-sets}
use Rattle.staircase.specs.Lists.{concat}
use Rattle.staircase.proofs.Tabulate.{concat_last}
use Rattle.text_lines.proofs.Storing.{put_then}

concat-none : (f : ℕ → List ℕ) → concat 0 f ≡ []
unfolding concat
concat-none f = refl

concat-more : (n i : ℕ) (f : ℕ → List ℕ) → i < n → length (concat i f) + length (f i) ≤ length (concat n f)
unfolding concat
concat-more zero i f h = absurd (omega arith)
concat-more (suc n) zero f h = omega (arith, length-append (f zero) (concat n (λ k. f (suc k))))
concat-more (suc n) (suc i) f h =
    omega (
      arith,
      length-append (f zero) (concat n (λ k. f (suc k))),
      length-append (f zero) (concat i (λ k. f (suc k))),
      concat-more n i (λ k. f (suc k)) (omega arith),
    )

-- the first i lines and the next one
concat_next : (i : ℕ) (f : ℕ → List ℕ) → concat i f ++ f i ≡ concat (i + 1) f
concat_next i f = sym (ap (λ (k : ℕ). concat k f) (add-one i) ∙ concat_last i f)

-- ---- lengths

-- The first i lines, of at most `most` bytes each, have s bytes together.
pub record Summed (f : ℕ → List ℕ) (most s i : ℕ) : Type 0 where
  pub sum : s ≡ length (concat i f)
  pub small : s ≤ most * i

module _ (f : ℕ → List ℕ) (most : ℕ) where
  pub summed_none : Summed f most 0 0
  summed_none = record { sum = sym (ap length (concat-none f)); small = omega arith }

  pub summed_more : (s i x : ℕ) → Summed f most s i → x ≡ length (f i) → x ≤ most → Summed f most (s + x) (i + 1)
  summed_more s i x S e h = record {
    sum = omega (arith, S.sum, e, length-append (concat i f) (f i), ap length (concat_next i f));
    small = omega (arith, S.small, h);
  }

  pub summed_all : (s i n : ℕ) → Summed f most s i → i ≤ n → n ≤ i → (s ≡ length (concat n f)) × (s ≤ most * n)
  summed_all s i n S l h =
      let e : i ≡ n = omega arith in
      (S.sum ∙ ap (λ (k : ℕ). length (concat k f)) e, omega (arith, S.small, ap (λ (k : ℕ). most * k) e))

-- ---- bytes

-- The bytes o are those of o₀ with the first i lines from `at` on, and q is the position after them.
pub record Written (f : ℕ → List ℕ) (o₀ : List ℕ) (at : ℕ) (o : List ℕ) (q i : ℕ) : Type 0 where
  pub ends : q ≡ at + length (concat i f)
  pub bytes : o ≡ sets o₀ at (concat i f)

module _ (f : ℕ → List ℕ) (o₀ : List ℕ) (at : ℕ) where
  pub written_none : Written f o₀ at o₀ at 0
  written_none = record {
    ends = sym (ap (λ (l : List ℕ). at + length l) (concat-none f) ∙ add-zero at);
    bytes = sym (ap (sets o₀ at) (concat-none f));
  }

  module _ (o : List ℕ) (q i : ℕ) (W : Written f o₀ at o q i) where
    pub written_same : length o ≡ length o₀
    written_same = ap length W.bytes ∙ length-sets o₀ at (concat i f)

    -- the next line, t
    module _ {t : List ℕ} (e : t ≡ f i) where
      pub written-room : (n : ℕ) → i < n → at + length (concat n f) ≤ length o₀ → q + length t ≤ length o
      written-room n h l = omega (arith, ap length e, W.ends, written_same, concat-more n i f h, l)

      pub written-more : {o₁ : List ℕ} {r : ℕ} → (r ≡ q + length t) × (o₁ ≡ sets o q t) → Written f o₀ at o₁ r (i + 1)
      written-more p =
          let g : concat i f ++ t ≡ concat (i + 1) f = ap (λ (l : List ℕ). concat i f ++ l) e ∙ concat_next i f in
          let b = put_then o₀ (concat i f) t at (W.ends, W.bytes) p in
          record { ends = b.0 ∙ ap (λ (l : List ℕ). at + length l) g; bytes = b.1 ∙ ap (sets o₀ at) g }

    pub written_all : (n : ℕ) → i ≤ n → n ≤ i → (q ≡ at + length (concat n f)) × (o ≡ sets o₀ at (concat n f))
    written_all n l h =
        let e : i ≡ n = omega arith in
        (W.ends ∙ ap (λ (k : ℕ). at + length (concat k f)) e, W.bytes ∙ ap (λ (k : ℕ). sets o₀ at (concat k f)) e)
