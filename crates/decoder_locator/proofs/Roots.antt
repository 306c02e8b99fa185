-- Powers of the root by their exponents, and the search for two exponents from the sum of the powers and that of their cubes.
--   count-is, count-size             how many powers there are
--   power-read, log-read, solution_read   what an entry of a table of the field is
--   log-only                         a power has one logarithm
--   Wrapped, wrapped_same            an exponent that may be less by the number of powers
--   root_none, root_is               what `root` answers
--   exponents_zero, exponents_none, exponents_are   what `exponents` answers
-- Assumes nothing.
use mathlib.Core.Path.{◌≡◌, sym, ap, ap₂, ◌∙◌, subst, subst⁻¹}
use mathlib.Core.Logic.{◌≢◌, ◌⊎◌, inl, inr}
use mathlib.Core.List.{List}
use Prim.Native.Nat.{ℕ, zero, suc, ◌+◌, ◌-◌, ◌*◌, ◌/◌, ◌%◌, ◌^◌, ◌≤◌, ◌<◌}
use native.Mathlib.Decide.{ℕ_discrete}
use native.Mathlib.Omega.{arith}
use lib.Pow.{pow_pos, pow_mono}
use lib.ListN.{length, get_or, take, drop}
use Rattle.std.specs.Prelude.{Some}
use Rattle.bch.specs.Polynomial.{◌⊕◌}
use Rattle.bch.specs.Field.{power}
use Rattle.bch.specs.Locator.{SolutionTable}
use Rattle.bch.proofs.Sum.{⊕_comm, ⊕-self-left}
use Rattle.bch.proofs.Powers.{power_table-at}
use Rattle.bch.proofs.Locator.{power_below, power_cycle, power_one_only, power-not-zero, log-power, quarter_powers, quarter_logs, quarter_halves, quarter_cubics, pair_sum, pair_defect, pair_halving, pair_root}
use Rattle.decoder_locator.specs.Steps.{Field, LogIs, SolutionIs, PairOf, RootOf, ExponentsAre}

odd : (m : ℕ) → 4 ≤ m → (2 ^ m - 1) % 2 ≡ 1
odd zero h = absurd (omega arith)
odd (suc m) h = omega (arith, pow_pos m)

module _ {m : ℕ} {field : List ℕ} (F : Field m field) where
  pub count-is : length field / 4 - 1 ≡ 2 ^ m - 1
  count-is = omega (arith, F.tables.long)

  pub count-size : (15 ≤ length field / 4 - 1) × (length field / 4 - 1 < 1024) × ((length field / 4 - 1) % 2 ≡ 1)
  count-size =
      let a : 16 ≤ 2 ^ m = pow_mono {i = 4} {j = m} F.m-low in
      let b : 2 ^ m ≤ 1024 = pow_mono {i = m} {j = 10} F.m-high in
      (omega (arith, count-is), omega (arith, count-is), ap (λ (n : ℕ). n % 2) count-is ∙ odd m F.m-low)

  pub power-read : {n e a : ℕ} → n ≡ 2 ^ m - 1 → e < 2 ^ m - 1 → a ≡ get_or (take (n - 0) field) e 0 → (a ≡ power m e) × (a < 2 ^ m)
  power-read {n} {e} count l q =
      let is = q ∙ ap (λ (k : ℕ). get_or (take (k - 0) field) e 0) (count ∙ sym count-is) ∙ ap (λ (z : List ℕ). get_or z e 0) (quarter_powers F.tables) ∙ power_table-at m (2 ^ m - 1) e l in
      (is, subst⁻¹ (λ (z : ℕ). z < 2 ^ m) is (power_below m F.m-low F.m-high e))

  pub log-read : {x a : ℕ} → x < 2 ^ m → a ≡ get_or (take (2 * (length field / 4) - length field / 4) (drop (length field / 4) field)) x 0 → LogIs m x a
  log-read {x} l e =
      let L = quarter_logs F.tables in
      subst⁻¹ (LogIs m x) e (L.below x, log-power m F.m-low F.m-high _ L x l)

  -- the third quarter has those of z² + z, and the last those of z³ + z
  solutions : (k : ℕ) → Dec (k ≡ 1) → 1 ≤ k → k ≤ 2
      → SolutionTable m k (take ((k + 1) * (length field / 4) + length field / 4 - 1 - (k + 1) * (length field / 4)) (drop ((k + 1) * (length field / 4)) field))
  solutions k (yes e) a b =
      let q = length field / 4 in
      let n : 3 * q - 1 - 2 * q ≡ 2 * q + q - 1 - 2 * q = omega arith in
      subst⁻¹ (λ (i : ℕ). SolutionTable m i (take ((i + 1) * q + q - 1 - (i + 1) * q) (drop ((i + 1) * q) field))) e
      (subst (λ (i : ℕ). SolutionTable m 1 (take i (drop (2 * q) field))) n (quarter_halves F.tables))
  solutions k (no d) a b =
      let q = length field / 4 in
      let e : k ≡ 2 = omega arith in
      let n : 4 * q - 1 - 3 * q ≡ 3 * q + q - 1 - 3 * q = omega arith in
      subst⁻¹ (λ (i : ℕ). SolutionTable m i (take ((i + 1) * q + q - 1 - (i + 1) * q) (drop ((i + 1) * q) field))) e
      (subst (λ (i : ℕ). SolutionTable m 2 (take i (drop (3 * q) field))) n (quarter_cubics F.tables))

  pub solution_read : (k : ℕ) {v a : ℕ} → 1 ≤ k → k ≤ 2 → v < 2 ^ m - 1
      → a ≡ get_or (take ((k + 1) * (length field / 4) + length field / 4 - 1 - (k + 1) * (length field / 4)) (drop ((k + 1) * (length field / 4)) field)) v 0
      → SolutionIs m k v a
  solution_read k {v} low high l e =
      let S = solutions k (ℕ_discrete k 1) low high in
      subst⁻¹ (SolutionIs m k v) e (S.below v, S.sound v l, λ g. S.complete v g l)

pub log-only : {m x a : ℕ} → 4 ≤ m → m ≤ 10 → (j : ℕ) → LogIs m x a → j < 2 ^ m - 1 → x ≡ power m j → a ≡ j
log-only {m} {x} {a} low high j L l e = power_one_only m low high a j L.0 l (L.1 (λ z. power-not-zero m low high j (sym e ∙ z)) ∙ e)

-- r is x, or less by the number of powers
abbrev pub Wrapped : ℕ → ℕ → ℕ → Type 0
Wrapped n x r = (r ≡ x) ⊎ (r + n ≡ x)

module _ {m : ℕ} {field : List ℕ} (F : Field m field) {n : ℕ} (count : n ≡ 2 ^ m - 1) where
  low : 4 ≤ m
  low = F.m-low

  high : m ≤ 10
  high = F.m-high

  pub wrapped_same : {x r : ℕ} → Wrapped n x r → power m r ≡ power m x
  wrapped_same (inl e) = ap (power m) e
  wrapped_same {x} {r} (inr e) = let q : r + (2 ^ m - 1) ≡ x = omega (arith, count, e) in sym (power_cycle m low high r) ∙ ap (power m) q

  wrapped_more : (x r y : ℕ) → Wrapped n x r → Wrapped n (x + y) (r + y)
  wrapped_more x r y (inl e) = inl (ap (λ (z : ℕ). z + y) e)
  wrapped_more x r y (inr e) = inr (omega (arith, e))

  -- c is 3 a, wrapped twice, and w its power
  module _ (a : ℕ) {r c w : ℕ} (twice : Wrapped n (2 * a) r) (thrice : Wrapped n (r + a) c) (w-is : w ≡ power m c) where
    triple_power : (y : ℕ) → power m (c + y) ≡ power m (3 * a + y)
    triple_power y =
        let p : r + a + y ≡ r + (a + y) = omega arith in
        let q : 2 * a + (a + y) ≡ 3 * a + y = omega arith in
        wrapped_same (wrapped_more (r + a) c y thrice) ∙ ap (power m) p ∙ wrapped_same (wrapped_more (2 * a) r (a + y) twice) ∙ ap (power m) q

    cube_is : w ≡ power m (3 * a)
    cube_is =
        let p : c ≡ c + 0 = omega arith in
        let q : 3 * a + 0 ≡ 3 * a = omega arith in
        w-is ∙ ap (power m) p ∙ triple_power 0 ∙ ap (power m) q

    pub root_none : {cubes h : ℕ} → cubes ⊕ w ≡ 0 → RootOf m a cubes h
    root_none z i k P =
        absurd (pair_defect m low high i k a P.i_below P.k_below P.apart P.sum (ap₂ ◌⊕◌ (sym P.cubes) (sym cube_is) ∙ z))

    pub root_is : {cubes b v h : ℕ} → c < n → cubes ⊕ w ≢ 0 → LogIs m (cubes ⊕ w) b → Wrapped n (b + n - c) v → SolutionIs m 1 v h
        → (h < 2 ^ m - 1) × RootOf m a cubes h
    root_is {cubes} {b} {v} {h} c-below d B over S = (S.0, found)
      where
        -- power v, times the cube of the sum, is what the sum of the cubes has more than the cube of the sum
        more : (i k : ℕ) → PairOf m (power m a) cubes i k → power m (v + 3 * a) ≡ power m (3 * i) ⊕ power m (3 * k) ⊕ power m (3 * a)
        more i k P =
            let p : v + 3 * a ≡ 3 * a + v = omega arith in
            let q : c + v ≡ v + c = omega arith in
            let o : b + n - c + c ≡ b + (2 ^ m - 1) = omega (arith, count) in
            ap (power m) p ∙ sym (triple_power v) ∙ ap (power m) q ∙ wrapped_same (wrapped_more (b + n - c) v c over) ∙ ap (power m) o
            ∙ power_cycle m low high b ∙ B.1 d ∙ ap₂ ◌⊕◌ P.cubes cube_is

        found : RootOf m a cubes h
        found i k P =
            let (g, g-above, g-below, half) = pair_halving m low high i k a v P.i_below P.k_below P.apart P.sum (more i k P) in
            let some : h ≢ 0 = S.2 g g-above g-below half in
            (some, pair_root m low high i k a v h P.i_below P.k_below P.apart P.sum (more i k P) (S.1 some))

module _ {m : ℕ} {field : List ℕ} (F : Field m field) where
  pub exponents_zero : {s c : ℕ} → s ≡ 0 → (i k : ℕ) → PairOf m s c i k → ⊥
  exponents_zero e i k P = pair_sum m F.m-low F.m-high i k P.i_below P.k_below P.apart (sym P.sum ∙ e)

  -- a is the logarithm of s, and h what `root` finds
  module _ {s a c h : ℕ} (d : s ≢ 0) (A : LogIs m s a) (R : RootOf m a c h) where
    pair_of : (i k : ℕ) → PairOf m s c i k → PairOf m (power m a) c i k
    pair_of i k P = record { i_below = P.i_below; k_below = P.k_below; apart = P.apart; sum = A.1 d ∙ P.sum; cubes = P.cubes }

    pub exponents_none : h ≡ 0 → (i k : ℕ) → PairOf m s c i k → ⊥
    exponents_none z i k P = (R i k (pair_of i k P)).0 z

    pub exponents_are : {n e w f : ℕ} → n ≡ 2 ^ m - 1 → e < n → Wrapped n (h + a) e → w ≡ power m e → LogIs m (s ⊕ w) f → ExponentsAre m s c (Some (e, f))
    unfolding ExponentsAre
    exponents_are {n} {e} {w} {f} count e-below wrapped w-is B = (d, λ i k P. go i k P (R i k (pair_of i k P)).1)
      where
        -- e is the one, so f is the other
        one : (i k : ℕ) → i < 2 ^ m - 1 → k < 2 ^ m - 1 → s ≡ power m i ⊕ power m k → power m (h + a) ≡ power m i → (e ≡ i) × (f ≡ k)
        one i k i_below k_below sum z =
            let x : power m e ≡ power m i = wrapped_same F count wrapped ∙ z in (
              power_one_only m F.m-low F.m-high e i (omega (arith, count)) i_below x,
              log-only F.m-low F.m-high k B k_below (⊕_comm s w ∙ ap₂ ◌⊕◌ (w-is ∙ x) sum ∙ ⊕-self-left (power m i) (power m k)),
            )

        go : (i k : ℕ) → PairOf m s c i k → (power m (h + a) ≡ power m i) ⊎ (power m (h + a) ≡ power m k) → ((e ≡ i) × (f ≡ k)) ⊎ ((e ≡ k) × (f ≡ i))
        go i k P (inl z) = inl (one i k P.i_below P.k_below P.sum z)
        go i k P (inr z) = inr (one k i P.k_below P.i_below (P.sum ∙ ⊕_comm (power m i) (power m k)) z)
