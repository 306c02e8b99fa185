-- The powers of the root, tables over them, and two errors from the sum of their powers and the sum of the cubes, for m from 4 to 10.
--   power_below, power_cycle, power_one_only, power-not-zero   the powers of the root
--   power-rounds, power-mod   an exponent reduced by the number of powers
--   power-add, power_square, power_cube, power_fifth   products of powers
--   quotient       a power over a power
--   not_one        a power that is not 1, and its square, plus 1 are not 0
--   log-power      what a table of logarithms says of an element
--   solution_only, solution_positive   power e solves the equation for one v, and 1 for none
--   pair_sum       two powers differ
--   pair_defect    the sum of the cubes is not the cube of the sum
--   pair_halving   the equation z² + z = power v, from which the two are found, has a solution
--   pair_root      and each solution leads to one of the two
--   quarter_powers, quarter_logs, quarter_halves, quarter_cubics   the tables of a field as they are lent on, by quarters
-- Assumes nothing.
use mathlib.Core.Path.{◌≡◌, refl, sym, ap, ap₂, ◌∙◌, subst⁻¹}
use mathlib.Core.Logic.{◌≢◌, ◌⊎◌, ⊎_map}
use mathlib.Core.List.{List}
use Prim.Native.Nat.{ℕ, zero, suc, ◌+◌, ◌-◌, ◌*◌, ◌/◌, ◌%◌, ◌^◌, ◌≤◌, ◌<◌}
use native.Mathlib.Nat.{add_comm, zero-add, zero-mul, mul-zero, one-mul, suc-mul, div-add-mod', zero-lt-suc}
use native.Mathlib.Decide.{ℕ_discrete}
use native.Mathlib.Omega.{arith}
use lib.ListN.{length, get_or, take, drop}
use Rattle.bch.specs.Polynomial.{◌⊕◌, times_x, iterate}
use Rattle.bch.specs.Field.{field_poly, power, power_table}
use Rattle.bch.specs.Locator.{LogTable, Solution, HalfTable, CubicTable, FieldTables}
use Rattle.bch.proofs.Sum.{⊕·simp, ⊕-self, ⊕-self-left, ⊕_equal, ⊕-below}
use Rattle.bch.proofs.Polynomial.{iterate-add}
use Rattle.bch.proofs.Field.{Field, mul, power_below as x-power-below, cycle, power_nonzero, power_injective, iterate-mul}
use Rattle.bch.proofs.Primitive.{primitive, field_laws, every_power}
use Rattle.bch.proofs.Algebra.{sum-mul, square_sum, cubes, cancel, two_roots}

module _ (m : ℕ) (low : 4 ≤ m) (high : m ≤ 10) where
  -- ---- the powers of the root
  F : Field m (mul (field_poly m) m)
  F = field_laws m low high

  pub power_below : (j : ℕ) → power m j < 2 ^ m
  unfolding power
  power_below = x-power-below (field_poly m) m (primitive m low high)

  pub power_cycle : (j : ℕ) → power m (j + (2 ^ m - 1)) ≡ power m j
  unfolding power
  power_cycle j =
      ap (power m) (add_comm j (2 ^ m - 1)) ∙ iterate-add (times_x (field_poly m) m) (2 ^ m - 1) j 1
      ∙ cycle (field_poly m) m (primitive m low high) (power m j) (power_below j)

  pub power-rounds : (q r : ℕ) → power m (q * (2 ^ m - 1) + r) ≡ power m r
  power-rounds zero r = ap (power m) (ap (λ n. n + r) (zero-mul (2 ^ m - 1)) ∙ zero-add r)
  power-rounds (suc q) r =
      let once : suc q * (2 ^ m - 1) + r ≡ q * (2 ^ m - 1) + r + (2 ^ m - 1) = omega (arith, suc-mul q (2 ^ m - 1)) in
      ap (power m) once ∙ power_cycle (q * (2 ^ m - 1) + r) ∙ power-rounds q r

  pub power-mod : (j : ℕ) → power m (j % (2 ^ m - 1)) ≡ power m j
  power-mod j = sym (ap (power m) (sym (div-add-mod' j (2 ^ m - 1))) ∙ power-rounds (j / (2 ^ m - 1)) (j % (2 ^ m - 1)))

  pub power_one_only : (i j : ℕ) → i < 2 ^ m - 1 → j < 2 ^ m - 1 → power m i ≡ power m j → i ≡ j
  unfolding power
  power_one_only = power_injective (field_poly m) m (primitive m low high)

  pub power-not-zero : (j : ℕ) → power m j ≢ 0
  unfolding power
  power-not-zero = power_nonzero (field_poly m) m (primitive m low high)

  -- the product of the field
  infixl 70 ◌·◌
  abbrev ◌·◌ : ℕ → ℕ → ℕ
  a · b = mul (field_poly m) m a b

  pub power-add : (i j : ℕ) → power m (i + j) ≡ mul (field_poly m) m (power m i) (power m j)
  unfolding power
  power-add i j = iterate-add (times_x (field_poly m) m) i j 1 ∙ iterate-mul (field_poly m) m (primitive m low high) i (power m j) (power_below j)

  pub power_square : (e : ℕ) → power m (2 * e) ≡ mul (field_poly m) m (power m e) (power m e)
  power_square e = ap (power m) (omega arith) ∙ power-add e e

  pub power_cube : (e : ℕ) → power m (3 * e) ≡ mul (field_poly m) m (power m e) (mul (field_poly m) m (power m e) (power m e))
  power_cube e = ap (power m) (omega arith) ∙ power-add e (e + e) ∙ ap (λ n. power m e · n) (power-add e e)

  pub power_fifth : (e : ℕ)
      → power m (5 * e) ≡ mul (field_poly m) m (power m e) (mul (field_poly m) m (mul (field_poly m) m (power m e) (power m e)) (mul (field_poly m) m (power m e) (power m e)))
  power_fifth e =
      let q : 5 * e ≡ e + (2 * e + 2 * e) = omega arith in
      ap (power m) q ∙ power-add e (2 * e + 2 * e)
      ∙ ap (λ n. power m e · n) (power-add (2 * e) (2 * e) ∙ ap₂ (λ (a b : ℕ). a · b) (power_square e) (power_square e))

  -- equal products of powers with one power are of equal powers
  power_cancel : (x a b : ℕ) → power m (x + a) ≡ power m (x + b) → power m a ≡ power m b
  power_cancel x a b e =
      cancel m ◌·◌ F (power m a) (power m b) (power m x) (power_below a) (power_below b) (power_below x) (power-not-zero x)
      (sym (power-add x a) ∙ e ∙ power-add x b)

  -- a power over a power
  pub quotient : (e x : ℕ) → (h : ℕ) × (h < 2 ^ m - 1) × (power m (h + x) ≡ power m e)
  quotient e x =
      let (y, y-below, y_is) = every_power m low high (power m x) (power_below x) (power-not-zero x) in
      let k : ℕ = e + (2 ^ m - 1 - y) in
      let (h, h-below, h-is) = every_power m low high (power m k) (power_below k) (power-not-zero k) in
      let back : k + y ≡ e + (2 ^ m - 1) = omega arith in (
        h,
        h-below,
        power-add h x ∙ ap₂ (λ (a b : ℕ). a · b) h-is (sym y_is) ∙ sym (power-add k y) ∙ ap (power m) back ∙ power_cycle e,
      )

  -- ---- tables
  plus_one_not-zero : (e : ℕ) → 0 < e → e < 2 ^ m - 1 → power m e ⊕ 1 ≢ 0
  unfolding power iterate
  plus_one_not-zero e pos below z = let q : e ≡ 0 = power_one_only e 0 below (omega arith) (⊕_equal z) in omega arith

  pub not_one : (k e : ℕ) → 1 ≤ k → k ≤ 2 → 0 < e → e < 2 ^ m - 1 → power m (k * e) ⊕ 1 ≢ 0
  not_one k e k-low k-high pos below z = go (ℕ_discrete k 1)
    where
      p : ℕ
      p = power m e

      one : p ⊕ 1 ≢ 0
      one = plus_one_not-zero e pos below

      go : Dec (k ≡ 1) → ⊥
      go (yes q) = one (ap (λ n. power m n ⊕ 1) (sym (ap (λ k. k * e) q ∙ one-mul e)) ∙ z)
      go (no d) =
          let q : k ≡ 2 = omega arith in
          let h : p ⊕ 1 < 2 ^ m = ⊕-below m p 1 (power_below e) F.one_below in
          one (F.domain (p ⊕ 1) (p ⊕ 1) h h one
          (square_sum m ◌·◌ F p 1 ∙ ap₂ ◌⊕◌ (sym (ap (λ k. power m (k * e)) q ∙ power_square e)) (F.mul-one 1 F.one_below) ∙ z))

  pub log-power : (logs : List ℕ) → LogTable m logs → (a : ℕ) → a < 2 ^ m → a ≢ 0 → power m (get_or logs a 0) ≡ a
  log-power logs L a below nz =
      let (j, j_below, j-is) = every_power m low high a below nz in
      ap (power m) (ap (λ n. get_or logs n 0) (sym j-is) ∙ L.log j j_below) ∙ j-is

  pub solution_only : (k v w e : ℕ) → v < 2 ^ m - 1 → w < 2 ^ m - 1 → Solution m k v e → Solution m k w e → v ≡ w
  solution_only k v w e v_below w-below (f, f-is, v-is) (g, g-is, w-is) =
      power_one_only v w v_below w-below
      (sym v-is ∙ power-add e f ∙ ap (λ n. power m e · n) (f-is ∙ sym g-is) ∙ sym (power-add e g) ∙ w-is)

  pub solution_positive : (k v e : ℕ) → Solution m k v e → 0 < e
  unfolding power iterate
  solution_positive k v zero (f, f-is, v-is) = absurd (power-not-zero f (f-is ∙ ap (λ n. power m n ⊕ 1) (mul-zero k) ∙ ⊕-self 1))
  solution_positive k v (suc e) s = zero-lt-suc e

  -- ---- a pair of powers and their sum
  -- (z + 1) s is z s + s
  plus_one_times : (x h : ℕ) → (power m h ⊕ 1) · power m x ≡ power m (h + x) ⊕ power m x
  plus_one_times x h =
      sum-mul m ◌·◌ F (power m h) 1 (power m x) ∙ ap₂ ◌⊕◌ (sym (power-add h x)) (F.mul-one (power m x) (power_below x))

  pub pair_sum : (e f : ℕ) → e < 2 ^ m - 1 → f < 2 ^ m - 1 → e ≢ f → power m e ⊕ power m f ≢ 0
  pair_sum e f e-below f_below apart z = apart (power_one_only e f e-below f_below (⊕_equal z))

  product : (e f x : ℕ) → power m x ≡ power m e ⊕ power m f → power m (3 * e) ⊕ power m (3 * f) ⊕ power m (3 * x) ≡ power m (x + (e + f))
  product e f x sum =
      let s : ℕ = power m e ⊕ power m f in
      ap₂ ◌⊕◌ (ap₂ ◌⊕◌ (power_cube e) (power_cube f) ∙ cubes m ◌·◌ F (power m e) (power m f)) (power_cube x ∙ ap (λ n. n · (n · n)) sum)
      ∙ drop (s · (s · s)) (s · (power m e · power m f))
      ∙ sym (power-add x (e + f) ∙ ap₂ (λ (a b : ℕ). a · b) sum (power-add e f))
    where
      drop : (a b : ℕ) → a ⊕ b ⊕ a ≡ b
      drop a b = simp ⊕·simp

  pub pair_defect : (e f x : ℕ) → e < 2 ^ m - 1 → f < 2 ^ m - 1 → e ≢ f → power m x ≡ power m e ⊕ power m f
      → power m (3 * e) ⊕ power m (3 * f) ⊕ power m (3 * x) ≢ 0
  pair_defect e f x e-below f_below apart sum z = power-not-zero (x + (e + f)) (sym (product e f x sum) ∙ z)

  pub pair_halving : (e f x v : ℕ) → e < 2 ^ m - 1 → f < 2 ^ m - 1 → e ≢ f → power m x ≡ power m e ⊕ power m f
      → power m (v + 3 * x) ≡ power m (3 * e) ⊕ power m (3 * f) ⊕ power m (3 * x) → (h : ℕ) × (0 < h) × (h < 2 ^ m - 1) × Solution m 1 v h
  pair_halving e f x v e-below f_below apart sum cube =
      let (h, h-below, h-is) = quotient e x in
      let (g, g-below, g-is) = quotient f x in
      let plus_one : power m g ≡ power m h ⊕ 1 =
      cancel m ◌·◌ F (power m g) (power m h ⊕ 1) (power m x) (power_below g) (⊕-below m (power m h) 1 (power_below h) F.one_below) (power_below x) (power-not-zero x)
      (F.mul_comm (power m x) (power m g) ∙ sym (power-add g x) ∙ g-is ∙ sym (⊕-self-left (power m e) (power m f)) ∙ ap₂ ◌⊕◌ (sym h-is) (sym sum)
      ∙ sym (F.mul_comm (power m x) (power m h ⊕ 1) ∙ plus_one_times x h))
      in
      let solves : power m (h + g) ≡ power m v =
      power_cancel (3 * x) (h + g) v
      (ap (power m) (let q : 3 * x + (h + g) ≡ x + ((h + x) + (g + x)) = omega arith in q) ∙ power-add x ((h + x) + (g + x))
      ∙ ap (λ n. power m x · n) (power-add (h + x) (g + x) ∙ ap₂ (λ (a b : ℕ). a · b) h-is g-is ∙ sym (power-add e f))
      ∙ sym (power-add x (e + f)) ∙ sym (product e f x sum) ∙ sym cube ∙ ap (power m) (add_comm v (3 * x)))
      in
      let solved : Solution m 1 v h = (g, plus_one ∙ ap (λ n. power m n ⊕ 1) (sym (one-mul h)), solves) in
      (h, solution_positive 1 v h solved, h-below, solved)

  pub pair_root : (e f x v h : ℕ) → e < 2 ^ m - 1 → f < 2 ^ m - 1 → e ≢ f → power m x ≡ power m e ⊕ power m f
      → power m (v + 3 * x) ≡ power m (3 * e) ⊕ power m (3 * f) ⊕ power m (3 * x) → Solution m 1 v h
      → (power m (h + x) ≡ power m e) ⊎ (power m (h + x) ≡ power m f)
  pair_root e f x v h e-below f_below apart sum cube (g, plus-one', solves) =
      let plus_one : power m g ≡ power m h ⊕ 1 = plus-one' ∙ ap (λ n. power m n ⊕ 1) (one-mul h) in
      let other : power m e ⊕ power m x ≡ power m f = ap (λ n. power m e ⊕ n) sum ∙ ⊕-self-left (power m e) (power m f) in
      let same : power m ((h + x) + (g + x)) ≡ power m (e + f) =
      power_cancel x ((h + x) + (g + x)) (e + f)
      (ap (power m) (let q : x + ((h + x) + (g + x)) ≡ (h + g) + 3 * x = omega arith in q) ∙ power-add (h + g) (3 * x) ∙ ap (λ n. n · power m (3 * x)) solves
      ∙ sym (power-add v (3 * x)) ∙ cube ∙ product e f x sum)
      in
      ⊎_map (λ q. q) (λ q. q ∙ other)
      (two_roots m ◌·◌ F (power m (h + x)) (power m e) (power m x) (power_below (h + x)) (power_below e) (power_below x)
      (ap (λ n. power m (h + x) · n) (sym (power-add g x ∙ ap (λ n. n · power m x) plus_one ∙ plus_one_times x h))
      ∙ sym (power-add (h + x) (g + x)) ∙ same ∙ power-add e f
      ∙ ap (λ n. power m e · n) (sym other)))

-- ---- the tables of a field
module _ {m : ℕ} {field : List ℕ} (T : FieldTables m field) where
  abbrev q : ℕ
  q = length field / 4

  q_is : length field / 4 ≡ 2 ^ m
  q_is = omega (arith, T.long)

  part_same : (k a i b : ℕ) → k ≡ i → a ≡ b → take k (drop a field) ≡ take i (drop b field)
  part_same k a i b e f = ap₂ (λ (k a : ℕ). take k (drop a field)) e f

  pub quarter_powers : take (length field / 4 - 1 - 0) field ≡ power_table m (2 ^ m - 1)
  quarter_powers = part_same (q - 1 - 0) 0 (2 ^ m - 1) 0 (omega (arith, q_is)) refl ∙ T.powers

  pub quarter_logs : LogTable m (take (2 * (length field / 4) - length field / 4) (drop (length field / 4) field))
  quarter_logs = subst⁻¹ (LogTable m) (part_same (2 * q - q) q (2 ^ m) (2 ^ m) (omega (arith, q_is)) q_is) T.logs

  pub quarter_halves : HalfTable m (take (3 * (length field / 4) - 1 - 2 * (length field / 4)) (drop (2 * (length field / 4)) field))
  quarter_halves =
      subst⁻¹ (HalfTable m) (part_same (3 * q - 1 - 2 * q) (2 * q) (2 ^ m - 1) (2 * 2 ^ m) (omega (arith, q_is)) (omega (arith, q_is))) T.halves

  pub quarter_cubics : CubicTable m (take (4 * (length field / 4) - 1 - 3 * (length field / 4)) (drop (3 * (length field / 4)) field))
  quarter_cubics =
      subst⁻¹ (CubicTable m) (part_same (4 * q - 1 - 3 * q) (3 * q) (2 ^ m - 1) (3 * 2 ^ m) (omega (arith, q_is)) (omega (arith, q_is))) T.cubics
