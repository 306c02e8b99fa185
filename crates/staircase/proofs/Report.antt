-- Common divisors, and the share in lowest terms.
--   Same                    two pairs of numbers have the same common divisors
--   same_start, same_step   Euclid's division keeps them
--   same_end                where the second number is 0, the first is the greatest common divisor
--   share-none, share-some  the share of no sent bits, and of some
--   lowest                  the two numbers of `share_of` are the share in lowest terms
-- Assumes nothing.
use mathlib.Core.Path.{◌≡◌, refl, sym, ap, ap₂, ◌∙◌, subst}
use mathlib.Core.Bool.{Bool, cond, ◌&&◌}
use mathlib.Core.Logic.{◌≢◌}
use Prim.Native.Nat.{ℕ, zero, suc, ◌*◌, ◌/◌, ◌%◌, ◌≤◌, ◌<◌, ◌∣◌}
use native.Mathlib.Nat.{dvd_refl, dvd-zero, dvd-mod_iff, dvd-mul_right, le_of_dvd, pos_of_dvd_of_pos, dvd_of_mod-eq-zero, mod-eq-zero_of_dvd, div-add-mod, mul_assoc, mul_comm, zero-mul, one-dvd}
use native.Mathlib.Decide.{ℕ_discrete, dec_lt}
use native.Mathlib.Omega.{arith}
use borrow.Author.Tests.{eq-eqb, ne_eqb}
use Rattle.staircase.specs.Report.{divides, greatest_up_to, greatest_common, share_of, Lowest}

pub record Same (a b x y : ℕ) : Type 0 where
  pub out : (d : ℕ) → d ∣ a → d ∣ b → (d ∣ x) × (d ∣ y)
  pub back : (d : ℕ) → d ∣ x → d ∣ y → (d ∣ a) × (d ∣ b)

pub same_start : (a b : ℕ) → Same a b a b
same_start a b = record { out = λ d p q. (p, q); back = λ d p q. (p, q) }

pub same_step : (a b x y : ℕ) → Same a b x y → Same a b y (x % y)
same_step a b x y h =
    record {
      out = λ d p q. let r = h.out d p q in (r.1, (dvd-mod_iff d {m = x} {n = y} r.1).1 r.0);
      back = λ d p q. h.back d ((dvd-mod_iff d {m = x} {n = y} p).0 q) p;
    }

-- g divides both, and every number that does is at most g
pub record Greatest (a b g : ℕ) : Type 0 where
  pub first : g ∣ a
  pub second : g ∣ b
  pub positive : 0 < g
  pub most : (d : ℕ) → d ∣ a → d ∣ b → d ≤ g

greatest_is : (a b g n : ℕ) → Greatest a b g → g ≤ n → greatest_up_to a b n ≡ g
unfolding greatest_up_to
greatest_is a b g zero G h = omega (arith, G.positive, h)
greatest_is a b g (suc n) G h = go (ℕ_discrete (a % suc n) 0) (ℕ_discrete (b % suc n) 0) (λ l. greatest_is a b g n G l)
  where
    below : suc n ≢ g → g ≤ n
    below d = at_most (dec_lt n g)
      where
        at_most : Dec (n < g) → g ≤ n
        at_most (yes l) = absurd (d (omega (arith, l, h)))
        at_most (no l) = omega (arith, l)

    go : Dec (a % suc n ≡ 0) → Dec (b % suc n ≡ 0) → (g ≤ n → greatest_up_to a b n ≡ g) → cond (divides (suc n) a && divides (suc n) b) (suc n) (greatest_up_to a b n) ≡ g
    go (yes p) (yes q) rec =
        ap₂ (λ (x y : Bool). cond (x && y) (suc n) (greatest_up_to a b n)) (eq-eqb (a % suc n) 0 p) (eq-eqb (b % suc n) 0 q)
        ∙ omega (arith, G.most (suc n) (dvd_of_mod-eq-zero (suc n) p) (dvd_of_mod-eq-zero (suc n) q), h)
    go (no p) q rec =
        ap (λ (x : Bool). cond (x && divides (suc n) b) (suc n) (greatest_up_to a b n)) (ne_eqb (a % suc n) 0 p)
        ∙ rec (below (λ e. p (mod-eq-zero_of_dvd (suc n) (subst (λ (z : ℕ). z ∣ a) (sym e) G.first))))
    go (yes p) (no q) rec =
        ap₂ (λ (x y : Bool). cond (x && y) (suc n) (greatest_up_to a b n)) (eq-eqb (a % suc n) 0 p) (ne_eqb (b % suc n) 0 q)
        ∙ rec (below (λ e. q (mod-eq-zero_of_dvd (suc n) (subst (λ (z : ℕ). z ∣ b) (sym e) G.second))))

same_greatest : (a b x : ℕ) → 0 < b → Same a b x 0 → Greatest a b x
same_greatest a b x h s =
    let p = s.back x (dvd_refl x) (dvd-zero x) in
    let pos : 0 < x = pos_of_dvd_of_pos p.1 h in
    record { first = p.0; second = p.1; positive = pos; most = λ d u v. le_of_dvd pos (s.out d u v).0 }

pub same_end : (a b x y : ℕ) → 0 < b → y ≡ 0 → Same a b x y → (x ≡ greatest_common a b) × (0 < x)
same_end a b x y h e s =
    let G : Greatest a b x = same_greatest a b x h (subst (λ (z : ℕ). Same a b x z) e s) in
    (sym (greatest_is a b x b G (le_of_dvd h G.second)), G.positive)

-- ---- the share

-- of 1, .., n: what `greatest_up_to` finds
record Found (a b n g : ℕ) : Type 0 where
  first : g ∣ a
  second : g ∣ b
  positive : 0 < g
  most : (d : ℕ) → d ≤ n → d ∣ a → d ∣ b → d ≤ g

-- a number more, which is no common divisor
found_later : (a b n g : ℕ) → ¬ ((suc n ∣ a) × (suc n ∣ b)) → Found a b n g → Found a b (suc n) g
found_later a b n g d h =
    record {
      first = h.first;
      second = h.second;
      positive = h.positive;
      most = λ e l u v. go e l u v (ℕ_discrete e (suc n));
    }
  where
    go : (e : ℕ) → e ≤ suc n → e ∣ a → e ∣ b → Dec (e ≡ suc n) → e ≤ g
    go e l u v (yes q) = absurd (d (subst (λ (z : ℕ). z ∣ a) q u, subst (λ (z : ℕ). z ∣ b) q v))
    go e l u v (no q) = h.most e (below q l) u v
      where
        below : e ≢ suc n → e ≤ suc n → e ≤ n
        below q l = at_most (dec_lt n e)
          where
            at_most : Dec (n < e) → e ≤ n
            at_most (yes k) = absurd (q (omega (arith, k, l)))
            at_most (no k) = omega (arith, k)

found_next : (a b n : ℕ) → (¬ ((suc n ∣ a) × (suc n ∣ b)) → Found a b n (greatest_up_to a b n)) → Found a b (suc n) (greatest_up_to a b (suc n))
unfolding greatest_up_to
found_next a b n rest = go (ℕ_discrete (a % suc n) 0) (ℕ_discrete (b % suc n) 0)
  where
    go : Dec (a % suc n ≡ 0) → Dec (b % suc n ≡ 0) → Found a b (suc n) (cond (divides (suc n) a && divides (suc n) b) (suc n) (greatest_up_to a b n))
    go (yes p) (yes q) =
        subst (Found a b (suc n)) (sym (ap₂ (λ (x y : Bool). cond (x && y) (suc n) (greatest_up_to a b n)) (eq-eqb (a % suc n) 0 p) (eq-eqb (b % suc n) 0 q)))
        (record { first = dvd_of_mod-eq-zero (suc n) p; second = dvd_of_mod-eq-zero (suc n) q; positive = omega arith; most = λ d l u v. l })
    go (no p) q =
        let d : ¬ ((suc n ∣ a) × (suc n ∣ b)) = λ u. p (mod-eq-zero_of_dvd (suc n) u.0) in
        subst (Found a b (suc n)) (sym (ap (λ (x : Bool). cond (x && divides (suc n) b) (suc n) (greatest_up_to a b n)) (ne_eqb (a % suc n) 0 p)))
        (found_later a b n (greatest_up_to a b n) d (rest d))
    go (yes p) (no q) =
        let d : ¬ ((suc n ∣ a) × (suc n ∣ b)) = λ u. q (mod-eq-zero_of_dvd (suc n) u.1) in
        subst (Found a b (suc n)) (sym (ap₂ (λ (x y : Bool). cond (x && y) (suc n) (greatest_up_to a b n)) (eq-eqb (a % suc n) 0 p) (ne_eqb (b % suc n) 0 q)))
        (found_later a b n (greatest_up_to a b n) d (rest d))

found : (a b n : ℕ) → Found a b (suc n) (greatest_up_to a b (suc n))
found a b zero = found_next a b zero (λ d. absurd (d (one-dvd a, one-dvd b)))
found a b (suc n) = found_next a b (suc n) (λ d. found a b n)

dvd_product : (a g : ℕ) → g ∣ a → a ≡ g * (a / g)
dvd_product a g h = let e : a % g ≡ 0 = mod-eq-zero_of_dvd g h in omega (arith, div-add-mod a g, e)

-- of a and b, a pair whose greatest common divisor is g
module _ (a b g p q : ℕ) (pos : 0 < g) (ea : a ≡ g * p) (eb : b ≡ g * q) (h : 0 < b) (most : (d : ℕ) → d ∣ a → d ∣ b → d ≤ g) where
  share-same : p * b ≡ a * q
  share-same = ap (λ (z : ℕ). p * z) eb ∙ sym (mul_assoc p g q) ∙ ap (λ (z : ℕ). z * q) (mul_comm p g) ∙ ap (λ (z : ℕ). z * q) (sym ea)

  share-positive : 0 < q
  share-positive = go q eb
    where
      go : (q : ℕ) → b ≡ g * q → 0 < q
      go zero e = omega (arith, e, h)
      go (suc q) e = omega arith

  share-apart : (d x y : ℕ) → p ≡ d * x → q ≡ d * y → d ≡ 1
  share-apart d x y ep eq = go d ep eq (most (g * d) (subst (λ (z : ℕ). g * d ∣ z) (sym (ea ∙ ap (λ (z : ℕ). g * z) ep ∙ sym (mul_assoc g d x))) (dvd-mul_right (g * d) x))
      (subst (λ (z : ℕ). g * d ∣ z) (sym (eb ∙ ap (λ (z : ℕ). g * z) eq ∙ sym (mul_assoc g d y))) (dvd-mul_right (g * d) y)))
    where
      go : (d : ℕ) → p ≡ d * x → q ≡ d * y → g * d ≤ g → d ≡ 1
      go zero ep eq l = absurd (omega (arith, eq, share-positive, zero-mul y))
      go (suc zero) ep eq l = refl
      go (suc (suc d)) ep eq l = absurd (omega (arith, l, pos))

-- "0 and 1 for no sent bits"
pub share-none : (a b : ℕ) → b ≡ 0 → share_of a b ≡ record { top = 0; bottom = 1 }
unfolding share_of
share-none a b e = ap (λ (z : Bool). cond z (record { top = 0; bottom = 1 }) (record { top = a / greatest_common a b; bottom = b / greatest_common a b })) (eq-eqb b 0 e)

pub share-some : (a b : ℕ) → b ≢ 0 → share_of a b ≡ record { top = a / greatest_common a b; bottom = b / greatest_common a b }
unfolding share_of
share-some a b d = ap (λ (z : Bool). cond z (record { top = 0; bottom = 1 }) (record { top = a / greatest_common a b; bottom = b / greatest_common a b })) (ne_eqb b 0 d)

-- "two whole numbers with no common factor"
pub lowest : (a b : ℕ) → 0 < b → Lowest a b (share_of a b)
lowest a zero h = absurd (omega (arith, h))
lowest a (suc n) h =
    let b : ℕ = suc n in
    let f : Found a b b (greatest_up_to a b b) = found a b n in
    let g : ℕ = greatest_up_to a b b in
    let ea : a ≡ g * (a / g) = dvd_product a g f.first in
    let eb : b ≡ g * (b / g) = dvd_product b g f.second in
    let most : (d : ℕ) → d ∣ a → d ∣ b → d ≤ g = λ d u v. f.most d (le_of_dvd h v) u v in
    subst (Lowest a (suc n)) (sym (share-some a (suc n) (λ e. omega (arith, e))))
    (record {
      same = share-same a b g (a / g) (b / g) f.positive ea eb h most;
      positive = share-positive a b g (a / g) (b / g) f.positive ea eb h most;
      apart = share-apart a b g (a / g) (b / g) f.positive ea eb h most;
    })
