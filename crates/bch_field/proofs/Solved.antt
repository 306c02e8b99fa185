-- Tables over a field that are filled entry by entry, for m from 4 to 10.
--   sizes           the bounds of 2^m
--   Logged          a table of logarithms that has those of the first n powers, with a law for each step
--   Solved          a table of solutions that has those with exponents below n, with a law for each step
--   solution_made   what the solution of exponent e solves
--   cube_exponent   three times an exponent, reduced after each sum
-- Assumes nothing.
use mathlib.Core.Path.{◌≡◌, refl, sym, ap, ap₂, ◌∙◌, subst⁻¹}
use mathlib.Core.Logic.{◌≢◌}
use mathlib.Core.List.{List}
use Prim.Native.Nat.{ℕ, ◌+◌, ◌-◌, ◌*◌, ◌%◌, ◌^◌, ◌≤◌, ◌<◌}
use native.Mathlib.Nat.{mod-add-mod}
use native.Mathlib.Omega.{arith}
use lib.Pow.{pow_mono}
use lib.Bits.{bit_xor}
use lib.ListN.{length, get_or, set, replicate, length-set, length-replicate}
use Rattle.bch.specs.Polynomial.{◌⊕◌}
use Rattle.bch.specs.Field.{power}
use Rattle.bch.specs.Locator.{LogTable, Solution, SolutionTable}
use Rattle.bch.proofs.Sum.{⊕-below}
use Rattle.bch.proofs.Store.{zeros-at, set_each}
use Rattle.bch.proofs.Locator.{power_below, power-mod, power_one_only, not_one, log-power, solution_only}

pub sizes : (m : ℕ) → 4 ≤ m → m ≤ 10 → (16 ≤ 2 ^ m) × (2 ^ m ≤ 1024)
sizes m low high = (pow_mono {i = 4} {j = m} low, pow_mono {i = m} {j = 10} high)

-- ---- logarithms
pub record Logged (m n : ℕ) (logs : List ℕ) : Type 0 where
  pub long : length logs ≡ 2 ^ m
  pub below : (x : ℕ) → get_or logs x 0 < 2 ^ m - 1
  pub log : (j : ℕ) → j < n → get_or logs (power m j) 0 ≡ j

module _ (m : ℕ) (low : 4 ≤ m) (high : m ≤ 10) where
  zero-below : (n x : ℕ) → get_or (replicate n 0) x 0 < 2 ^ m - 1
  zero-below n x = subst⁻¹ (λ k. k < 2 ^ m - 1) (zeros-at n x) (omega (arith, sizes m low high))

  pub logged_none : (n : ℕ) → n ≡ 2 ^ m → Logged m 0 (replicate n 0)
  logged_none n is = record {
    long = length-replicate n 0 ∙ is;
    below = zero-below n;
    log = λ j h. absurd (omega arith);
  }

  pub logged_more : (n x : ℕ) (logs : List ℕ) → n < 2 ^ m - 1 → x ≡ power m n → Logged m n logs → Logged m (n + 1) (set logs x n)
  logged_more n x logs h is L = record {
    long = length-set logs x n ∙ L.long;
    below = set_each (λ k y. y < 2 ^ m - 1) logs x n inside h (λ k d. L.below k);
    log = λ j l.
        set_each (λ k y. (j : ℕ) → j < n + 1 → power m j ≡ k → y ≡ j) logs x n inside
        (λ j l q. power_one_only m low high n j h (omega arith) (sym is ∙ sym q))
        (λ k d j l q. ap (λ z. get_or logs z 0) (sym q) ∙ L.log j (earlier j k d l q))
        (power m j) j l refl;
  }
    where
      inside : x < length logs
      inside = omega (arith, power_below m low high n, L.long)

      earlier : (j k : ℕ) → (k ≡ x → ⊥) → j < n + 1 → power m j ≡ k → j < n
      earlier j k d l q = let ne : j ≢ n = λ e. d (sym q ∙ ap (power m) e ∙ sym is) in omega arith

-- ---- solutions of z^(k+1) + z = power v
pub record Solved (m k n : ℕ) (table : List ℕ) : Type 0 where
  pub long : length table ≡ 2 ^ m - 1
  pub below : (v : ℕ) → get_or table v 0 < 2 ^ m - 1
  pub sound : (v : ℕ) → get_or table v 0 ≢ 0 → Solution m k v (get_or table v 0)
  pub complete : (v e : ℕ) → v < 2 ^ m - 1 → 0 < e → e < n → Solution m k v e → get_or table v 0 ≢ 0

module _ (m : ℕ) (low : 4 ≤ m) (high : m ≤ 10) where
  -- z^k + 1 is power f, where f is its logarithm
  pub solution_made : (k : ℕ) (logs : List ℕ) → LogTable m logs → (e d x n v : ℕ) → 1 ≤ k → k ≤ 2 → 0 < e → e < 2 ^ m - 1 → d ≡ (k * e) % n → x ≡ power m d
      → n ≡ 2 ^ m - 1 → v ≡ (e + get_or logs (bit_xor x 1) 0) % n → Solution m k v e
  unfolding ◌⊕◌
  solution_made k logs L e d x n v k-low k-high pos h d-is x-is n-is v-is =
      let y : ℕ = power m (k * e) ⊕ 1 in
      let f : ℕ = get_or logs y 0 in
      let x-power : x ≡ power m (k * e) = x-is ∙ ap (power m) (d-is ∙ ap (λ n. (k * e) % n) n-is) ∙ power-mod m low high (k * e) in (
        f,
        log-power m low high logs L y (⊕-below m (power m (k * e)) 1 (power_below m low high (k * e)) (omega (arith, sizes m low high)))
            (not_one m low high k e k-low k-high pos h),
        sym (ap (power m) (v-is ∙ ap₂ (λ y n. (e + get_or logs (bit_xor y 1) 0) % n) x-power n-is) ∙ power-mod m low high (e + f)),
      )

  module _ (k : ℕ) where
    pub solved_none : (n : ℕ) → n ≡ 2 ^ m - 1 → Solved m k 1 (replicate n 0)
    solved_none n is = record {
      long = length-replicate n 0 ∙ is;
      below = zero-below m low high n;
      sound = λ v d. absurd (d (zeros-at n v));
      complete = λ v e h pos l. absurd (omega arith);
    }

    pub solved_more : (e v : ℕ) (table : List ℕ) → 0 < e → e < 2 ^ m - 1 → v < 2 ^ m - 1 → Solution m k v e → Solved m k e table
        → Solved m k (e + 1) (set table v e)
    solved_more e v table pos e-below v_below solves H = record {
      long = length-set table v e ∙ H.long;
      below = set_each (λ i y. y < 2 ^ m - 1) table v e inside e-below (λ i d. H.below i);
      sound = set_each (λ i y. y ≢ 0 → Solution m k i y) table v e inside (λ d. solves) (λ i d. H.sound i);
      complete =
          set_each (λ i y. (e' : ℕ) → i < 2 ^ m - 1 → 0 < e' → e' < e + 1 → Solution m k i e' → y ≢ 0) table v e inside
          (λ e' h p l s z. omega arith)
          (λ i d e' h p l s. H.complete i e' h p (earlier i e' d h l s) s);
    }
      where
        inside : v < length table
        inside = omega (arith, H.long)

        earlier : (i e' : ℕ) → (i ≡ v → ⊥) → i < 2 ^ m - 1 → e' < e + 1 → Solution m k i e' → e' < e
        earlier i e' d h l s =
            let ne : e' ≢ e = λ q. d (solution_only m low high k i v e h v_below (subst⁻¹ (Solution m k i) (sym q) s) solves) in omega arith

    pub solved_all : (n : ℕ) (table : List ℕ) → n ≡ 2 ^ m - 1 → Solved m k n table → SolutionTable m k table
    solved_all n table is H = record {
      long = H.long;
      below = H.below;
      sound = λ v h. H.sound v;
      complete = λ v e h pos l. H.complete v e h pos (omega arith);
    }

  pub cube_exponent : (e n d v : ℕ) → n ≡ 2 ^ m - 1 → d ≡ 2 * e % n → v ≡ (d + e) % n → power m v ≡ power m (3 * e)
  cube_exponent e n d v n-is d-is v-is =
      ap (power m) (v-is ∙ ap (λ d. (d + e) % n) d-is ∙ mod-add-mod (2 * e) n e ∙ ap (λ n. (2 * e + e) % n) n-is)
      ∙ power-mod m low high (2 * e + e) ∙ ap (power m) (omega arith)
