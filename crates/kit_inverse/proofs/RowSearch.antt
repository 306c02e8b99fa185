-- The first place of a square that passes a test, row by row, as a loop over its rows finds it. A test of row i, column j.
--   row_found, row_clean, rows_none   the row that has it; a row without; no row
-- Assumes nothing.
use mathlib.Core.Path.{◌≡◌, sym, ap, ap₂, ◌∙◌, subst}
use mathlib.Core.Bool.{Bool, false}
use Prim.Native.Nat.{ℕ, suc, ◌+◌, ◌-◌, ◌*◌, ◌/◌, ◌%◌, ◌≤◌, ◌<◌}
use native.Mathlib.Nat.{suc-mul, mul-le-mul_right}
use native.Mathlib.Decide.{dec_lt}
use native.Mathlib.Omega.{arith}
use lib.Arith.{digits_lt, digits_div, digits_mod}
use Rattle.staircase.specs.Lists.{first_where}
use Rattle.staircase.proofs.Search.{first_where-le, first_where-none, first_where-before, first_where_holds, first_where-is}

module _ (n : ℕ) (G : ℕ → ℕ → Bool) where
  abbrev F : ℕ → Bool
  F i = G (i / n) (i % n)

  at_place : (e x : ℕ) → x < n → G ((e * n + x) / n) ((e * n + x) % n) ≡ G e x
  at_place e x h = ap₂ G (digits_div e h) (digits_mod e h)

  -- no place before row e passes, and the row's places before x do not
  before_place : (e x : ℕ) → x ≤ n → ((i : ℕ) → i < e * n → F i ≡ false) → ((y : ℕ) → y < x → G e y ≡ false) → (i : ℕ) → i < e * n + x → F i ≡ false
  before_place e x hx clean none i l = go (dec_lt i (e * n))
    where
      go : Dec (i < e * n) → F i ≡ false
      go (yes h) = clean i h
      go (no h) =
          let y : ℕ = i - e * n in
          let d : e * n + y ≡ i = omega arith in
          subst (λ (z : ℕ). F z ≡ false) d (at_place e y (omega arith) ∙ none y (omega arith))

  pub row_found : (e x : ℕ) → e < n → x < n → x ≡ first_where n (G e) → ((i : ℕ) → i < e * n → G (i / n) (i % n) ≡ false)
      → e * n + x ≡ first_where (n * n) (λ i. G (i / n) (i % n))
  row_found e x he hx d clean =
      sym (first_where-is (n * n) F (e * n + x) (digits_lt {q = e} {m = n} {r = x} {c = n} he hx)
      (at_place e x hx ∙ ap (G e) d ∙ first_where_holds n (G e) (subst (λ (z : ℕ). z < n) d hx))
      (before_place e x (omega arith) clean (λ y l. first_where-before n (G e) y (subst (λ (z : ℕ). y < z) d l))))

  pub row_clean : (e x : ℕ) → n ≤ x → x ≡ first_where n (G e) → ((i : ℕ) → i < e * n → G (i / n) (i % n) ≡ false)
      → (i : ℕ) → i < (e + 1) * n → G (i / n) (i % n) ≡ false
  row_clean e x hx d clean i l =
      before_place e n (omega arith) clean (λ y m. first_where-before n (G e) y (let z = first_where-le n (G e) in omega (arith, d, z))) i
      (let z : (e + 1) * n ≡ e * n + n = ap (λ (k : ℕ). k * n) (let q : e + 1 ≡ suc e = omega arith in q) ∙ suc-mul e n in omega (arith, z))

  pub rows_none : (e : ℕ) → n ≤ e → ((i : ℕ) → i < e * n → G (i / n) (i % n) ≡ false) → n * n ≡ first_where (n * n) (λ i. G (i / n) (i % n))
  rows_none e h clean = sym (first_where-none (n * n) F (λ i l. clean i (let z = mul-le-mul_right n h in omega (arith, z))))
