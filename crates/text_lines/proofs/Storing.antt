-- Runs of stores, one after another.
--   sets-append, put_then               one run behind another
--   put_one, put_last                   `put_digits`
--   placed                              a text copied into its part of a buffer
--   Copied, copied_none .. copied_all   a text copied byte by byte
-- Assumes nothing.
use Prim.Native.Nat.{ℕ, suc, ◌+◌, ◌-◌, ◌/◌, ◌%◌, ◌^◌, ◌≤◌, ◌<◌}
use mathlib.Core.Path.{◌≡◌, refl, sym, ap, ap₂, ◌∙◌}
use mathlib.Core.List.{List, [], ◌∷◌, ◌++◌, append_assoc}
use native.Mathlib.Omega.{arith}
use native.Mathlib.Nat.{add-zero, add-sub_cancel_left}
use native.Mathlib.Numerals.{add-one}
use borrow.Rule.Slice.PartMut.{put_mid}
use lib.ListN.{length, set, take, drop, get_or, length-set, length-append, drop_of_length-le}
use lib.Seq.{sets, sets-eq, drop-cons, drop-drop}
use Rattle.text_formats.specs.Format.{dec}
use Rattle.text_formats.proofs.Digits.{dec_one}
use Rattle.text_lines.proofs.Decimal.{dec-more}

-- One run after another is their bytes in one run.
pub sets-append : (xs ys l : List ℕ) (i : ℕ) → sets l i (xs ++ ys) ≡ sets (sets l i xs) (i + length xs) ys
sets-append [] ys l i = ap (λ (k : ℕ). sets l k ys) (sym (add-zero i))
sets-append (x ∷ xs) ys l i =
    let e : suc i + length xs ≡ i + suc (length xs) = omega arith in
    sets-append xs ys (set l i x) (suc i) ∙ ap (λ (k : ℕ). sets (sets (set l i x) (suc i) xs) k ys) e

-- Two texts, the second behind the first.
pub put_then : (o xs ys : List ℕ) (at : ℕ) {o₁ o₂ : List ℕ} {i r : ℕ} → (i ≡ at + length xs) × (o₁ ≡ sets o at xs)
    → (r ≡ i + length ys) × (o₂ ≡ sets o₁ i ys) → (r ≡ at + length (xs ++ ys)) × (o₂ ≡ sets o at (xs ++ ys))
put_then o xs ys at {o₁} {o₂} {i} {r} p q = (
  omega (arith, p.0, q.0, length-append xs ys),
  q.1 ∙ ap (λ (l : List ℕ). sets l i ys) p.1 ∙ ap (λ (k : ℕ). sets (sets o at xs) k ys) p.0 ∙ sym (sets-append xs ys o at),
)

-- One byte.
pub put_byte : (o : List ℕ) (at v : ℕ) → (at + 1 ≡ at + length (v ∷ [])) × (set o at v ≡ sets o at (v ∷ []))
put_byte o at v = (refl, refl)

-- A number below 10, and a number's last digit behind the others.
pub put_one : (o : List ℕ) (at v : ℕ) → v < 10 → (at + 1 ≡ at + length (dec v)) × (set o at (48 + v) ≡ sets o at (dec v))
put_one o at v h = rw (dec_one v h) (put_byte o at (48 + v))

pub put_last : (o : List ℕ) (at v : ℕ) {o₁ : List ℕ} {i : ℕ} → 10 ≤ v → v < 2 ^ 64
    → (i ≡ at + length (dec (v / 10))) × (o₁ ≡ sets o at (dec (v / 10)))
    → (i + 1 ≡ at + length (dec v)) × (set o₁ i (48 + v % 10) ≡ sets o at (dec v))
put_last o at v {o₁} {i} l h p = rw (dec-more v l h) (put_then o (dec (v / 10)) ((48 + v % 10) ∷ []) at p (put_byte o₁ i (48 + v % 10)))

-- A text, copied into the part of a buffer that it has.
pub placed : (o t new : List ℕ) (at : ℕ) → at + length t ≤ length o → new ≡ t → put_mid at (at + length t - at) o new ≡ sets o at t
placed o t new at h e =
    ap₂ (λ (l : List ℕ) (k : ℕ). take at o ++ (l ++ drop k (drop at o))) e (add-sub_cancel_left at (length t))
    ∙ ap (λ (l : List ℕ). take at o ++ (t ++ l)) (drop-drop (length t) at o)
    ∙ sym (append_assoc (take at o) t (drop (at + length t) o))
    ∙ sym (sets-eq t o at h)

-- i bytes of the text t are copied: what is left of it, written behind them, gives the bytes that are asked for.
pub record Copied (o₀ t : List ℕ) (at : ℕ) (o : List ℕ) (i : ℕ) : Type 0 where
  pub same : length o ≡ length o₀
  pub left : sets o (at + i) (drop i t) ≡ sets o₀ at t

module _ (o₀ t : List ℕ) (at : ℕ) where
  pub copied_none : Copied o₀ t at o₀ 0
  copied_none = record { same = refl; left = ap (λ (k : ℕ). sets o₀ k t) (add-zero at) }

  module _ (o : List ℕ) (i : ℕ) (C : Copied o₀ t at o i) where
    pub copied_more : (v : ℕ) → i < length t → v ≡ get_or t i 0 → Copied o₀ t at (set o (at + i) v) (i + 1)
    copied_more v h e =
        let k : suc (at + i) ≡ at + (i + 1) = omega arith in
        let l : sets o (at + i) (get_or t i 0 ∷ drop (suc i) t) ≡ sets o₀ at t = sym (ap (sets o (at + i)) (drop-cons t i 0 h)) ∙ C.left in
        record { same = length-set o (at + i) v ∙ C.same; left = rw (e, ← k, add-one i) l }

    pub copied_all : length t ≤ i → o ≡ sets o₀ at t
    copied_all h = sym (ap (sets o (at + i)) (drop_of_length-le t h)) ∙ C.left
