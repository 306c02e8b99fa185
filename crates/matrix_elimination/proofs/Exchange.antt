-- Two rows are exchanged, by three additions.
--   exchanged_row x y i   the row that comes to row i where x and y are exchanged
--   exchanged_row_left, exchanged_row_right, exchanged_row_other   its values
--   exchanged_row_same, exchanged_row_below, exchanged_row_back    where x is y; it is a row; twice it is row i again
--   Exchanged            two rows were exchanged, byte by byte
--   three_added          three additions exchange two rows
--   exchanged_bit        the rows are exchanged bit by bit
-- Assumes nothing.
use mathlib.Core.Path.{◌≡◌, refl, sym, ap, ap₂, ◌∙◌}
use mathlib.Core.Bool.{Bool, true, false, cond}
use mathlib.Core.Logic.{◌≢◌}
use mathlib.Core.List.{List}
use Prim.Native.Nat.{ℕ, ◌+◌, ◌*◌, ◌/◌, ◌%◌, ◌<◌}
use native.Mathlib.Decide.{ℕ_discrete}
use native.Mathlib.Omega.{arith}
use lib.Bits.{bit_xor, xor_comm}
use lib.Dec.{eqb}
use lib.ListN.{get_or}
use borrow.Author.Tests.{eq-eqb, ne_eqb}
use Rattle.bch.specs.Polynomial.{◌⊕◌}
use Rattle.bch.proofs.Sum.{⊕_assoc, ⊕-self, ⊕-zero-right}
use Rattle.staircase.specs.Square.{digit}
use Rattle.matrix_elimination.specs.Steps.{bit_at}
use Rattle.matrix_elimination.proofs.RowBits.{Added}

-- ---- the rows

abbrev pub exchanged_row : ℕ → ℕ → ℕ → ℕ
exchanged_row x y i = cond (eqb i x) y (cond (eqb i y) x i)

module _ (x y : ℕ) where
  pub exchanged_row_left : (i : ℕ) → i ≡ x → exchanged_row x y i ≡ y
  exchanged_row_left i e = ap (λ (z : Bool). cond z y (cond (eqb i y) x i)) (eq-eqb i x e)

  pub exchanged_row_right : (i : ℕ) → i ≢ x → i ≡ y → exchanged_row x y i ≡ x
  exchanged_row_right i d e = ap₂ (λ (v z : Bool). cond v y (cond z x i)) (ne_eqb i x d) (eq-eqb i y e)

  pub exchanged_row_other : (i : ℕ) → i ≢ x → i ≢ y → exchanged_row x y i ≡ i
  exchanged_row_other i d e = ap₂ (λ (v z : Bool). cond v y (cond z x i)) (ne_eqb i x d) (ne_eqb i y e)

  pub exchanged_row_same : x ≡ y → (i : ℕ) → exchanged_row x y i ≡ i
  exchanged_row_same e i = go (ℕ_discrete i x)
    where
      go : Dec (i ≡ x) → exchanged_row x y i ≡ i
      go (yes d) = exchanged_row_left i d ∙ sym e ∙ sym d
      go (no d) = exchanged_row_other i d (λ f. d (f ∙ sym e))

  pub exchanged_row_below : (n : ℕ) → x < n → y < n → (i : ℕ) → i < n → exchanged_row x y i < n
  exchanged_row_below n hx hy i hi = go (eqb i x) (eqb i y)
    where
      go : (v z : Bool) → cond v y (cond z x i) < n
      go true z = hy
      go false true = hx
      go false false = hi

  pub exchanged_row_back : x ≢ y → (i : ℕ) → exchanged_row x y (exchanged_row x y i) ≡ i
  exchanged_row_back apart i = go (ℕ_discrete i x) (ℕ_discrete i y)
    where
      go : Dec (i ≡ x) → Dec (i ≡ y) → exchanged_row x y (exchanged_row x y i) ≡ i
      go (yes e) f = ap (exchanged_row x y) (exchanged_row_left i e) ∙ exchanged_row_right y (λ d. apart (sym d)) refl ∙ sym e
      go (no d) (yes f) = ap (exchanged_row x y) (exchanged_row_right i d f) ∙ exchanged_row_left x refl ∙ sym f
      go (no d) (no e) = ap (exchanged_row x y) (exchanged_row_other i d e) ∙ exchanged_row_other i d e

-- ---- the bytes

abbrev pub Exchanged : ℕ → ℕ → ℕ → ℕ → List ℕ → List ℕ → Type 0
Exchanged k w x y old new = (i c : ℕ) → i < k → c < w → get_or new (i * w + c) 0 ≡ get_or old (exchanged_row x y i * w + c) 0

xor_back : (a b : ℕ) → bit_xor (bit_xor a b) b ≡ a
unfolding ◌⊕◌
xor_back a b = ⊕_assoc a b b ∙ ap (λ (z : ℕ). a ⊕ z) (⊕-self b) ∙ ⊕-zero-right a

module _ (k w to from : ℕ) (old new : List ℕ) (f : Added k w to from old new) where
  added_there : to < k → (c : ℕ) → c < w → get_or new (to * w + c) 0 ≡ bit_xor (get_or old (to * w + c) 0) (get_or old (from * w + c) 0)
  added_there h c hc =
      f to c h hc
      ∙ ap (λ (z : Bool). cond z (bit_xor (get_or old (to * w + c) 0) (get_or old (from * w + c) 0)) (get_or old (to * w + c) 0)) (eq-eqb to to refl)

  added_other : (i : ℕ) → i < k → i ≢ to → (c : ℕ) → c < w → get_or new (i * w + c) 0 ≡ get_or old (i * w + c) 0
  added_other i h e c hc =
      f i c h hc
      ∙ ap (λ (z : Bool). cond z (bit_xor (get_or old (to * w + c) 0) (get_or old (from * w + c) 0)) (get_or old (i * w + c) 0)) (ne_eqb i to e)

module _ (k w x y : ℕ) (hx : x < k) (hy : y < k) (d : x ≢ y) (m₀ m₁ m₂ m₃ : List ℕ)
    (one : Added k w x y m₀ m₁) (two : Added k w y x m₁ m₂) (three : Added k w x y m₂ m₃) where
  -- row y after the second addition: y and x + y
  second : (c : ℕ) → c < w → get_or m₂ (y * w + c) 0 ≡ get_or m₀ (x * w + c) 0
  second c hc =
      added_there k w y x m₁ m₂ two hy c hc
      ∙ ap₂ bit_xor (added_other k w x y m₀ m₁ one y hy (λ e. d (sym e)) c hc) (added_there k w x y m₀ m₁ one hx c hc)
      ∙ xor_comm (get_or m₀ (y * w + c) 0) (bit_xor (get_or m₀ (x * w + c) 0) (get_or m₀ (y * w + c) 0))
      ∙ xor_back (get_or m₀ (x * w + c) 0) (get_or m₀ (y * w + c) 0)

  -- row x after the third: x + y and x
  third : (c : ℕ) → c < w → get_or m₃ (x * w + c) 0 ≡ get_or m₀ (y * w + c) 0
  third c hc =
      added_there k w x y m₂ m₃ three hx c hc
      ∙ ap₂ bit_xor (added_other k w y x m₁ m₂ two x hx d c hc ∙ added_there k w x y m₀ m₁ one hx c hc) (second c hc)
      ∙ ap (λ (z : ℕ). bit_xor z (get_or m₀ (x * w + c) 0)) (xor_comm (get_or m₀ (x * w + c) 0) (get_or m₀ (y * w + c) 0))
      ∙ xor_back (get_or m₀ (y * w + c) 0) (get_or m₀ (x * w + c) 0)

  pub three_added : Exchanged k w x y m₀ m₃
  three_added i c hi hc = go (ℕ_discrete i x) (ℕ_discrete i y)
    where
      from : (z : ℕ) → exchanged_row x y i ≡ z → get_or m₀ (z * w + c) 0 ≡ get_or m₀ (exchanged_row x y i * w + c) 0
      from z e = ap (λ (r : ℕ). get_or m₀ (r * w + c) 0) (sym e)

      go : Dec (i ≡ x) → Dec (i ≡ y) → get_or m₃ (i * w + c) 0 ≡ get_or m₀ (exchanged_row x y i * w + c) 0
      go (yes e) f = ap (λ (z : ℕ). get_or m₃ (z * w + c) 0) e ∙ third c hc ∙ from y (exchanged_row_left x y i e)
      go (no e) (yes f) =
          ap (λ (z : ℕ). get_or m₃ (z * w + c) 0) f ∙ added_other k w x y m₂ m₃ three y hy (λ g. d (sym g)) c hc ∙ second c hc
          ∙ from x (exchanged_row_right x y i e f)
      go (no e) (no f) =
          added_other k w x y m₂ m₃ three i hi e c hc ∙ added_other k w y x m₁ m₂ two i hi f c hc ∙ added_other k w x y m₀ m₁ one i hi e c hc
          ∙ from i (exchanged_row_other x y i e f)

-- ---- the bits

pub exchanged_bit : (k w x y : ℕ) (old new : List ℕ) → Exchanged k w x y old new → (i j : ℕ) → i < k → j < 8 * w
    → bit_at new w i j ≡ bit_at old w (exchanged_row x y i) j
unfolding bit_at
exchanged_bit k w x y old new f i j hi hj = ap (λ (z : ℕ). digit z (j % 8)) (f i (j / 8) hi (omega arith))
