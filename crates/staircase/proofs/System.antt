-- The system of a group: A y + c is linear in the blocks and in Y.
--   Proper s                              sizes that are not 0, and generators of degree r
--   order-positive .. column-of           places of Y and of P, their rows and their columns
--   unstack-lt .. unstack-stack           the order of the stack
--   column_parity-lt .. constant_entry-lt   P, Q, A y + c, A and c have bits
--   column_parity-same .. residual-same    P, Q and A y + c by the entries that the words read
--   residual-matrix                       A y + c is the matrix at the stacked Y, plus c
-- Assumes nothing.
use mathlib.Core.Path.{◌≡◌, refl, sym, ap, ap₂, ◌∙◌, subst, fun_ext}
use mathlib.Core.List.{List}
use Prim.Native.Nat.{ℕ, ◌+◌, ◌*◌, ◌/◌, ◌%◌, ◌^◌, ◌<◌}
use native.Mathlib.Nat.{mod-lt, div-add-mod', div-lt_iff_lt-mul, mul_comm, mul-pos}
use native.Mathlib.Omega.{arith}
use lib.Arith.{digits_lt, digits_div, digits_mod}
use lib.ListN.{get_or}
use Rattle.bch.specs.Code.{parity}
use Rattle.bch.proofs.Systematic.{parity-bits}
use Rattle.staircase.specs.Lists.{bit_sum, sum_bits}
use Rattle.staircase.specs.Design.{Params, Interleavers, column_generator, order}
use Rattle.staircase.specs.Word.{row_info, column_info}
use Rattle.staircase.specs.System.{Contents, zeros, unit, stack, unstack, preimage, column_parity, row_parity, residual, system_entry, constant_entry, apply}
use Rattle.staircase.specs.Demand2.{Permutes}
use Rattle.staircase.proofs.Bounds.{place_below}
use Rattle.staircase.proofs.Matrix.{bit_sum_swap, bit_sum-zero, zero-bit_sum, sum_bits-same, linear_units, sum_of_units}
use Rattle.staircase.proofs.Stretches.{three_same}
use Rattle.staircase.proofs.Parity.{add, parity-sum-at}
use Rattle.staircase.proofs.Tabulate.{Binary}

-- what is asked of a design: sizes that are not 0, and generators of degree r
pub record Proper (s : Params) : Type 0 where
  pub mpos : 0 < s.M
  pub rpos : 0 < s.r
  pub degree : s.g / 2 ^ s.r ≡ 1
  pub column_degree : column_generator s / 2 ^ s.r ≡ 1

-- the same entries at the places below n
abbrev pub Same : ℕ → Contents → Contents → Type 0
Same n f g = (k : ℕ) → k < n → f k ≡ g k

-- ---- places of Y and of P: row b, column a is place b × M + a; and the order of the stack

module _ (s : Params) (ok : Proper s) where
  pub order-positive : 0 < order s
  order-positive = mul-pos ok.mpos ok.rpos

  pub place_lt : (b a : ℕ) → b < s.r → a < s.M → b * s.M + a < order s
  place_lt = place_below s.M s.r

  pub row-of : (q : ℕ) → q < order s → q / s.M < s.r
  row-of q h = (div-lt_iff_lt-mul ok.mpos).1 (subst (λ (z : ℕ). q < z) (mul_comm s.M s.r) h)

  pub column-of : (q : ℕ) → q % s.M < s.M
  column-of q = mod-lt q ok.mpos

  pub unstack-lt : (e : ℕ) → e < order s → unstack s e < order s
  unstack-lt e h = place_lt (e % s.r) (e / s.r) (mod-lt e ok.rpos) ((div-lt_iff_lt-mul ok.rpos).1 h)

  pub stack-lt : (q : ℕ) → q < order s → stack s q < order s
  stack-lt q h = digits_lt {q = q % s.M} {m = s.M} {r = q / s.M} {c = s.r} (column-of q) (row-of q h)

  pub stack-unstack : (e : ℕ) → e < order s → stack s (unstack s e) ≡ e
  stack-unstack e h =
      let k : e / s.r < s.M = (div-lt_iff_lt-mul ok.rpos).1 h in
      ap₂ (λ (x y : ℕ). x * s.r + y) (digits_mod (e % s.r) k) (digits_div (e % s.r) k) ∙ div-add-mod' e s.r

  pub unstack-stack : (q : ℕ) → q < order s → unstack s (stack s q) ≡ q
  unstack-stack q h =
      ap₂ (λ (x y : ℕ). x * s.M + y) (digits_mod (q % s.M) (row-of q h)) (digits_div (q % s.M) (row-of q h)) ∙ div-add-mod' q s.M

-- ---- P and Q are linear

module _ (s : Params) (l : Interleavers) (ok : Proper s) where
  pub column_parity-lt : (o e y : Contents) → Binary (column_parity s o e y)
  unfolding column_parity
  column_parity-lt o e y q = parity-bits (column_generator s) s.r (column_info s o e y (q % s.M)) (q / s.M)

  pub row_parity-lt : (f o y : Contents) → Binary (row_parity s l f o y)
  unfolding row_parity
  row_parity-lt f o y p = parity-bits s.g s.r (row_info s l f o y (p % s.M)) (p / s.M)

  column_parity-sum : (o e y o₂ e₂ y₂ : Contents) → Binary o → Binary e → Binary y → Binary o₂ → Binary e₂ → Binary y₂ → (q : ℕ)
      → column_parity s (add o o₂) (add e e₂) (add y y₂) q ≡ bit_sum (column_parity s o e y q) (column_parity s o₂ e₂ y₂ q)
  unfolding column_parity column_info
  column_parity-sum o e y o₂ e₂ y₂ h1 h2 h3 h4 h5 h6 q =
      let at : ℕ → ℕ = λ j. j * s.M + q % s.M in
      parity-sum-at s.M s.r (λ j. o (at j)) (λ j. e (at j)) (λ b. y (at b)) (λ j. o₂ (at j)) (λ j. e₂ (at j)) (λ b. y₂ (at b))
      (λ j. h1 (at j)) (λ j. h2 (at j)) (λ b. h3 (at b)) (λ j. h4 (at j)) (λ j. h5 (at j)) (λ b. h6 (at b)) (column_generator s) (q / s.M)

  row_parity-sum : (f o y f₂ o₂ y₂ : Contents) → Binary f → Binary o → Binary y → Binary f₂ → Binary o₂ → Binary y₂ → (p : ℕ)
      → row_parity s l (add f f₂) (add o o₂) (add y y₂) p ≡ bit_sum (row_parity s l f o y p) (row_parity s l f₂ o₂ y₂ p)
  unfolding row_parity row_info
  row_parity-sum f o y f₂ o₂ y₂ h1 h2 h3 h4 h5 h6 p =
      let at : ℕ → ℕ = λ j. p % s.M * s.M + j in
      let to : ℕ → ℕ = λ b. get_or l.self (b * s.M + p % s.M) 0 in
      parity-sum-at s.M s.r (λ j. f (at j)) (λ j. o (at j)) (λ b. y (to b)) (λ j. f₂ (at j)) (λ j. o₂ (at j)) (λ b. y₂ (to b))
      (λ j. h1 (at j)) (λ j. h2 (at j)) (λ b. h3 (to b)) (λ j. h4 (at j)) (λ j. h5 (at j)) (λ b. h6 (to b)) s.g (p / s.M)

  -- ---- A y + c is linear

  pub residual-lt : (f o e y : Contents) → Binary (residual s l f o e y)
  unfolding residual
  residual-lt f o e y k = omega arith

  pub system_entry-lt : (i j : ℕ) → system_entry s l i j < 2
  unfolding system_entry
  system_entry-lt i j = residual-lt zeros zeros zeros (unit (unstack s j)) i

  pub constant_entry-lt : (f o e : Contents) → Binary (constant_entry s l f o e)
  unfolding constant_entry
  constant_entry-lt f o e = residual-lt f o e zeros

  residual-sum : (f o e y f₂ o₂ e₂ y₂ : Contents) → Binary f → Binary o → Binary e → Binary y → Binary f₂ → Binary o₂ → Binary e₂ → Binary y₂ → (k : ℕ)
      → residual s l (add f f₂) (add o o₂) (add e e₂) (add y y₂) k ≡ bit_sum (residual s l f o e y k) (residual s l f₂ o₂ e₂ y₂ k)
  unfolding residual
  residual-sum f o e y f₂ o₂ e₂ y₂ h1 h2 h3 h4 h5 h6 h7 h8 k =
      let q : ℕ = unstack s k in
      let p : ℕ = preimage l.parity (order s) q in
      ap₂ bit_sum (column_parity-sum o e y o₂ e₂ y₂ h2 h3 h4 h6 h7 h8 q) (row_parity-sum f o y f₂ o₂ y₂ h1 h2 h4 h5 h6 h8 p)
      ∙ bit_sum_swap (column_parity s o e y q) (column_parity s o₂ e₂ y₂ q) (row_parity s l f o y p) (row_parity s l f₂ o₂ y₂ p)

  pub zeros-binary : Binary zeros
  zeros-binary k = omega arith

  -- the sum for the blocks and Y is the one for Y alone plus the one for the blocks alone
  pub residual-split : (f o e y : Contents) → Binary f → Binary o → Binary e → Binary y → (k : ℕ)
      → residual s l f o e y k ≡ bit_sum (residual s l zeros zeros zeros y k) (constant_entry s l f o e k)
  unfolding constant_entry
  residual-split f o e y hf ho he hy k =
      ap (λ (t : Contents). residual s l t o e y k) (fun_ext (λ j. sym (zero-bit_sum (f j) (hf j))))
      ∙ ap (λ (t : Contents). residual s l (add zeros f) t e y k) (fun_ext (λ j. sym (zero-bit_sum (o j) (ho j))))
      ∙ ap (λ (t : Contents). residual s l (add zeros f) (add zeros o) t y k) (fun_ext (λ j. sym (zero-bit_sum (e j) (he j))))
      ∙ ap (λ (t : Contents). residual s l (add zeros f) (add zeros o) (add zeros e) t k) (fun_ext (λ j. sym (bit_sum-zero (y j) (hy j))))
      ∙ residual-sum zeros zeros zeros y f o e zeros zeros-binary zeros-binary zeros-binary hy hf ho he zeros-binary k

  -- at the unit vectors
  residual-units : (y : Contents) → Binary y → (k : ℕ)
      → residual s l zeros zeros zeros (λ q. sum_bits (order s) (λ j. y (unstack s j) * unit (unstack s j) q)) k
      ≡ apply (order s) (system_entry s l) (λ j. y (unstack s j)) k
  unfolding system_entry
  residual-units y hy k =
      linear_units (λ v. residual s l zeros zeros zeros v k) (λ v. residual-lt zeros zeros zeros v k)
      (λ v w hv hw. residual-sum zeros zeros zeros v zeros zeros zeros w zeros-binary zeros-binary zeros-binary hv zeros-binary zeros-binary zeros-binary hw k)
      (order s) (unstack s) (λ j. y (unstack s j)) (λ j. hy (unstack s j))
      ∙ sum_bits-same (order s) (λ j. y (unstack s j) * residual s l zeros zeros zeros (unit (unstack s j)) k)
      (λ j. residual s l zeros zeros zeros (unit (unstack s j)) k * y (unstack s j))
      (λ j m. mul_comm (y (unstack s j)) (residual s l zeros zeros zeros (unit (unstack s j)) k))

  module _ (ps : Permutes (order s) (λ p. get_or l.self p 0)) (pp : Permutes (order s) (λ p. get_or l.parity p 0)) where
    -- only the entries that a word reads count
    pub column_parity-same : (o e y o₂ e₂ y₂ : Contents) → Same (s.M * s.M) o o₂ → Same (s.M * s.M) e e₂ → Same (order s) y y₂ → (q : ℕ)
        → column_parity s o e y q ≡ column_parity s o₂ e₂ y₂ q
    unfolding column_parity column_info
    column_parity-same o e y o₂ e₂ y₂ ho he hy q =
        let at : ℕ → ℕ = λ j. j * s.M + q % s.M in
        let below : (j : ℕ) → j < s.M → at j < s.M * s.M = λ j m. digits_lt m (column-of s ok q) in
        ap (λ (u : List ℕ). get_or (parity (column_generator s) s.r u) (q / s.M) 0)
        (three_same s.M s.r (λ j. o (at j)) (λ j. e (at j)) (λ b. y (at b)) (λ j. o₂ (at j)) (λ j. e₂ (at j)) (λ b. y₂ (at b))
        (λ j m. ho (at j) (below j m)) (λ j m. he (at j) (below j m)) (λ b m. hy (at b) (place_lt s ok b (q % s.M) m (column-of s ok q))))

    pub row_parity-same : (f o y f₂ o₂ y₂ : Contents) → Same (s.M * s.M) f f₂ → Same (s.M * s.M) o o₂ → Same (order s) y y₂ → (p : ℕ)
        → row_parity s l f o y p ≡ row_parity s l f₂ o₂ y₂ p
    unfolding row_parity row_info
    row_parity-same f o y f₂ o₂ y₂ hf ho hy p =
        let at : ℕ → ℕ = λ j. p % s.M * s.M + j in
        let from : ℕ → ℕ = λ b. b * s.M + p % s.M in
        let below : (j : ℕ) → j < s.M → at j < s.M * s.M = λ j m. digits_lt (column-of s ok p) m in
        ap (λ (u : List ℕ). get_or (parity s.g s.r u) (p / s.M) 0)
        (three_same s.M s.r (λ j. f (at j)) (λ j. o (at j)) (λ b. y (get_or l.self (from b) 0))
        (λ j. f₂ (at j)) (λ j. o₂ (at j)) (λ b. y₂ (get_or l.self (from b) 0))
        (λ j m. hf (at j) (below j m)) (λ j m. ho (at j) (below j m))
        (λ b m. hy (get_or l.self (from b) 0) (ps.below (from b) (place_lt s ok b (p % s.M) m (column-of s ok p)))))

    pub residual-same : (f o e y f₂ o₂ e₂ y₂ : Contents) → Same (s.M * s.M) f f₂ → Same (s.M * s.M) o o₂ → Same (s.M * s.M) e e₂ → Same (order s) y y₂
        → (k : ℕ) → residual s l f o e y k ≡ residual s l f₂ o₂ e₂ y₂ k
    unfolding residual
    residual-same f o e y f₂ o₂ e₂ y₂ hf ho he hy k =
        ap₂ bit_sum (column_parity-same o e y o₂ e₂ y₂ ho he hy (unstack s k))
        (row_parity-same f o y f₂ o₂ y₂ hf ho hy (preimage l.parity (order s) (unstack s k)))

    -- A y + c is the matrix at the stacked Y, plus c
    pub residual-matrix : (f o e y : Contents) → Binary f → Binary o → Binary e → Binary y → (k : ℕ)
        → residual s l f o e y k ≡ bit_sum (apply (order s) (system_entry s l) (λ j. y (unstack s j)) k) (constant_entry s l f o e k)
    residual-matrix f o e y hf ho he hy k =
        residual-split f o e y hf ho he hy k
        ∙ ap (λ (z : ℕ). bit_sum z (constant_entry s l f o e k))
        (residual-same zeros zeros zeros y zeros zeros zeros (λ q. sum_bits (order s) (λ j. y (unstack s j) * unit (unstack s j) q))
        (λ q m. refl) (λ q m. refl) (λ q m. refl)
        (λ q m. sym (sum_of_units (order s) (unstack s) (stack s) y hy q (stack-lt s ok q m) (unstack-stack s ok q m) (stack-unstack s ok))) k
        ∙ residual-units y hy k)
