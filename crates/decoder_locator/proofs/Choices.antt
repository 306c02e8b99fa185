-- Which positions a sum locates.
--   Rising, rising_positions, positions_rising   a choice of positions is a rising list
--   one_choice       at most one choice of at most t positions has a sum: the BCH bound
--   located-is       a choice with the sum is what is located
--   located-none     nothing is located where no choice has the sum
--   located-zero, located_one, located_two, located_three, located_nowhere   the same for choices by their number of positions
-- Assumes nothing.
use mathlib.Core.Path.{◌≡◌, refl, sym, ap, ◌∙◌, subst}
use mathlib.Core.Bool.{Bool, cond}
use mathlib.Core.Logic.{◌≢◌, inl, inr}
use mathlib.Core.List.{List, [], ◌∷◌}
use Prim.Native.Nat.{ℕ, zero, suc, ◌+◌, ◌-◌, ◌*◌, ◌^◌, ◌≤◌, ◌<◌, zero-le}
use native.Mathlib.Nat.{le_trans, zero-add, add-zero, add-suc, suc-add}
use native.Mathlib.Decide.{ℕ_discrete}
use native.Mathlib.Omega.{arith}
use lib.ListN.{length, get_or, replicate, length-replicate}
use borrow.Author.Tests.{ne_eqb}
use Rattle.bch.specs.Polynomial.{Bits, ◌⊕◌, remainder, times_x}
use Rattle.bch.specs.Code.{generator}
use Rattle.bch.specs.Powers.{PositionPowers}
use Rattle.bch.proofs.Sum.{⊕-self, ⊕-zero-left, ⊕-zero-right, ⊕_equal}
use Rattle.bch.proofs.Polynomial.{linear_zero}
use Rattle.bch.proofs.Modulus.{times_x_linear}
use Rattle.bch.proofs.Systematic.{zeros-bits, horner-zeros}
use Rattle.bch.proofs.Bch.{Code, one_codeword, codeword_zero, zero_codeword}
use Rattle.staircase.specs.Lists.{tabulate}
use Rattle.staircase.specs.Design.{Params, params}
use Rattle.staircase.specs.Decoder.{choices, flip_bits, error_positions}
use Rattle.staircase.proofs.Member.{In, Sub, done, skip, keep, sub_nil, choices-sub}
use Rattle.staircase.proofs.Errors.{Positions, positions-below, error_positions_found, flip_bits-length, flip_bits-bits, flip_bits-distance, flips-once}
use Rattle.decoder_locator.specs.Located.{sum_at, first_with_sum, located}
use Rattle.decoder_locator.specs.Steps.{NotOne, NotTwo, NotThree}
use Rattle.decoder_locator.proofs.ErrorPositions.{flip_bits-remainder, error_positions-located}

-- ---- choices of positions

-- from a on and below n, each above the one before
abbrev pub Rising : ℕ → ℕ → List ℕ → Type 0
Rising a n [] = Unit {0}
Rising a n (p ∷ c) = (a ≤ p) × (p < n) × Rising (suc p) n c

rising_more : (a n : ℕ) (c : List ℕ) → Rising (suc a) n c → Rising a n c
rising_more a n [] h = tt
rising_more a n (p ∷ c) h = (omega arith, h.1, h.2)

shift : (a k : ℕ) → suc a + k ≡ a + suc k
shift a k = suc-add a k ∙ sym (add-suc a k)

sub_rising : {c : List ℕ} (n a : ℕ) (f : ℕ → ℕ) → ((k : ℕ) → f k ≡ a + k) → Sub c (tabulate n f) → Rising a (a + n) c
unfolding tabulate
sub_rising zero a f h done = tt
sub_rising (suc n) a f h (skip {c = c} s) =
    rising_more a (a + suc n) c
    (subst (λ (z : ℕ). Rising (suc a) z c) (shift a n) (sub_rising n (suc a) (λ k. f (suc k)) (λ k. h (suc k) ∙ sym (shift a k)) s))
sub_rising (suc n) a f h (keep {c = c} s) =
    let e : f 0 ≡ a = h 0 ∙ add-zero a in (
      omega arith,
      omega arith,
      subst (λ (z : ℕ). Rising (suc z) (a + suc n) c) (sym e)
          (subst (λ (z : ℕ). Rising (suc a) z c) (shift a n) (sub_rising n (suc a) (λ k. f (suc k)) (λ k. h (suc k) ∙ sym (shift a k)) s)),
    )

rising_sub : (n a : ℕ) (f : ℕ → ℕ) → ((k : ℕ) → f k ≡ a + k) → (c : List ℕ) → Rising a (a + n) c → Sub c (tabulate n f)
unfolding tabulate
rising_sub zero a f h [] r = done
rising_sub zero a f h (p ∷ c) r = absurd (omega arith)
rising_sub (suc n) a f h [] r = sub_nil (tabulate (suc n) f)
rising_sub (suc n) a f h (p ∷ c) r = go (ℕ_discrete p a) (rising_sub n (suc a) (λ k. f (suc k)) (λ k. h (suc k) ∙ sym (shift a k)))
  where
    later : (d : List ℕ) → Rising (suc a) (a + suc n) d → Rising (suc a) (suc a + n) d
    later d = subst (λ (z : ℕ). Rising (suc a) z d) (sym (shift a n))

    go : Dec (p ≡ a) → ((d : List ℕ) → Rising (suc a) (suc a + n) d → Sub d (tabulate n (λ k. f (suc k)))) → Sub (p ∷ c) (f 0 ∷ tabulate n (λ k. f (suc k)))
    go (yes e) rest =
        subst (λ (z : ℕ). Sub (z ∷ c) (f 0 ∷ tabulate n (λ k. f (suc k)))) (h 0 ∙ add-zero a ∙ sym e)
        (keep (rest c (later c (subst (λ (z : ℕ). Rising (suc z) (a + suc n) c) e r.2))))
    go (no d) rest = skip (rest (p ∷ c) (later (p ∷ c) (omega arith, r.1, r.2)))

pub positions_rising : {n t : ℕ} {c : List ℕ} → Positions n t c → Rising 0 n c
positions_rising {n} {t} {c} p = subst (λ (z : ℕ). Rising 0 z c) (zero-add n) (sub_rising n 0 (λ j. j) (λ k. sym (zero-add k)) p.sub)

pub rising_positions : {n t : ℕ} {c : List ℕ} → Rising 0 n c → length c ≤ t → Positions n t c
rising_positions {n} {t} {c} r l =
    record { sub = rising_sub n 0 (λ j. j) (λ k. sym (zero-add k)) c (subst (λ (z : ℕ). Rising 0 z c) (sym (zero-add n)) r); few = l }

-- ---- one choice has a sum

module _ (m t : ℕ) (table : List ℕ) (at : PositionPowers (generator m t) (m * t) table) (fits : length table ≤ 2 ^ m - 1) (C : Code m t) where
  abbrev n : ℕ
  n = length table

  -- the word of zeros
  abbrev zeros : List ℕ
  zeros = replicate n 0

  zeros-remainder : remainder (generator m t) (m * t) zeros ≡ 0
  unfolding remainder
  zeros-remainder = horner-zeros (times_x (generator m t) (m * t)) (linear_zero _ (times_x_linear (generator m t) (m * t))) n

  word-bits : (c : List ℕ) → Bits (flip_bits c zeros)
  word-bits c = flip_bits-bits c zeros (zeros-bits n)

  word-length : (c : List ℕ) → length table ≡ length (flip_bits c zeros)
  word-length c = sym (flip_bits-length c zeros ∙ length-replicate n 0)

  -- the word with errors at the positions c has the sum of their entries as its remainder
  word-remainder : (c : List ℕ) → Positions n t c → remainder (generator m t) (m * t) (flip_bits c zeros) ≡ sum_at table c
  word-remainder c p =
      flip_bits-remainder (generator m t) (m * t) table zeros (zeros-bits n) (sym (length-replicate n 0)) at c
      (λ j i. subst (λ (z : ℕ). j < z) (sym (length-replicate n 0)) (positions-below p j i))
      ∙ ap (λ (z : ℕ). z ⊕ sum_at table c) zeros-remainder ∙ ⊕-zero-left (sum_at table c)

  again-remainder : (c d : List ℕ) → Positions n t c → Positions n t d
      → remainder (generator m t) (m * t) (flip_bits d (flip_bits c zeros)) ≡ sum_at table c ⊕ sum_at table d
  again-remainder c d p q =
      flip_bits-remainder (generator m t) (m * t) table (flip_bits c zeros) (word-bits c) (word-length c) at d
      (λ j i. subst (λ (z : ℕ). j < z) (word-length c) (positions-below q j i))
      ∙ ap (λ (z : ℕ). z ⊕ sum_at table d) (word-remainder c p)

  pub one_choice : (c d : List ℕ) → Positions n t c → Positions n t d → sum_at table c ≡ sum_at table d → c ≡ d
  one_choice c d p q e =
      let u : List ℕ = flip_bits c zeros in
      let len : (b : List ℕ) → length u ≡ length (flip_bits b u) = λ b. sym (flip_bits-length b u) in
      let same : flip_bits c u ≡ flip_bits d u =
      one_codeword m t C u (flip_bits c u) (flip_bits d u) (flip_bits-bits c u (word-bits c)) (flip_bits-bits d u (word-bits c)) (len c) (len d)
      (subst (λ (z : ℕ). z ≤ 2 ^ m - 1) (word-length c) fits)
      (zero_codeword (generator m t) (m * t) (flip_bits c u) (again-remainder c c p p ∙ ⊕-self (sum_at table c)))
      (zero_codeword (generator m t) (m * t) (flip_bits d u) (again-remainder c d p q ∙ ap (λ (z : ℕ). z ⊕ sum_at table d) e ∙ ⊕-self (sum_at table d)))
      (le_trans (flip_bits-distance c u) p.few) (le_trans (flip_bits-distance d u) q.few)
      in
      flips-once n t c d u (sym (word-length c)) p q (word-bits c) same

  pub located-is : (x : ℕ) (c : List ℕ) → Positions n t c → sum_at table c ≡ x → located table t x ≡ c
  located-is x c p e =
      let s : Params = params m t 1 0 in
      let u : List ℕ = flip_bits c zeros in
      let found =
      error_positions_found s u c (subst (λ (z : ℕ). Positions z t c) (word-length c) p)
      (zero_codeword (generator m t) (m * t) (flip_bits c u) (again-remainder c c p p ∙ ⊕-self (sum_at table c)))
      in
      let d : List ℕ = error_positions s u in
      let q : Positions n t d = subst (λ (z : ℕ). Positions z t d) (sym (word-length c)) found.0 in
      ap (located table t) (sym e ∙ sym (word-remainder c p)) ∙ sym (error_positions-located s u table (word-bits c) (word-length c) at)
      ∙ one_choice d c q p (sym (⊕_equal (sym (again-remainder c d p q) ∙ codeword_zero (generator m t) (m * t) (flip_bits d u) found.1)))

  pub located-zero : located table t 0 ≡ []
  unfolding sum_at
  located-zero = located-is 0 [] (rising_positions tt zero-le) refl

  pub located_one : (x p : ℕ) → p < length table → get_or table p 0 ≡ x → located table t x ≡ p ∷ []
  unfolding sum_at
  located_one x p l e = located-is x (p ∷ []) (rising_positions (zero-le, l, tt) C.t-low) (⊕-zero-right (get_or table p 0) ∙ e)

  pub located_two : 2 ≤ t → (x p q : ℕ) → p < q → q < length table → get_or table p 0 ⊕ get_or table q 0 ≡ x → located table t x ≡ p ∷ q ∷ []
  unfolding sum_at
  located_two h x p q l b e =
      located-is x (p ∷ q ∷ []) (rising_positions (zero-le, omega arith, (l, b, tt)) h)
      (ap (λ (z : ℕ). get_or table p 0 ⊕ z) (⊕-zero-right (get_or table q 0)) ∙ e)

  pub located_three : 3 ≤ t → (x j p q : ℕ) → j < p → p < q → q < length table → get_or table j 0 ⊕ (get_or table p 0 ⊕ get_or table q 0) ≡ x
      → located table t x ≡ j ∷ p ∷ q ∷ []
  unfolding sum_at
  located_three h x j p q k l b e =
      located-is x (j ∷ p ∷ q ∷ []) (rising_positions (zero-le, omega arith, (k, omega arith, (l, b, tt))) h)
      (ap (λ (z : ℕ). get_or table j 0 ⊕ (get_or table p 0 ⊕ z)) (⊕-zero-right (get_or table q 0)) ∙ e)

-- ---- no choice has a sum

none_first : (table : List ℕ) (x : ℕ) (cs : List (List ℕ)) → ((c : List ℕ) → In c cs → sum_at table c ≢ x) → first_with_sum table x cs ≡ []
unfolding first_with_sum
none_first table x [] h = refl
none_first table x (c ∷ cs) h =
    ap (λ (z : Bool). cond z c (first_with_sum table x cs)) (ne_eqb (sum_at table c) x (h c (inl refl))) ∙ none_first table x cs (λ d i. h d (inr i))

pub located-none : (table : List ℕ) (t x : ℕ) → ((c : List ℕ) → Positions (length table) t c → sum_at table c ≢ x) → located table t x ≡ []
unfolding located
located-none table t x h =
    let ps : List ℕ = tabulate (length table) (λ j. j) in
    none_first table x (choices t ps) (λ c i. let p = choices-sub ps t c i in h c (record { sub = p.0; few = p.1 }))

pub located_nowhere : (table : List ℕ) (t x : ℕ) → t ≤ 3 → x ≢ 0 → NotOne table x → (2 ≤ t → NotTwo table x) → (3 ≤ t → NotThree table x)
    → located table t x ≡ []
unfolding sum_at
located_nowhere table t x few d one two three = located-none table t x (λ c p. go c (positions_rising p) p.few)
  where
    go : (c : List ℕ) → Rising 0 (length table) c → length c ≤ t → sum_at table c ≢ x
    go [] r l e = d (sym e)
    go (p ∷ []) r l e = one p r.1 (sym (⊕-zero-right (get_or table p 0)) ∙ e)
    go (p ∷ q ∷ []) r l e =
        two l p q r.2.0 r.2.1 (ap (λ (z : ℕ). get_or table p 0 ⊕ z) (sym (⊕-zero-right (get_or table q 0))) ∙ e)
    go (j ∷ p ∷ q ∷ []) r l e =
        three l j p q r.2.0 r.2.2.0 r.2.2.1 (ap (λ (z : ℕ). get_or table j 0 ⊕ (get_or table p 0 ⊕ z)) (sym (⊕-zero-right (get_or table q 0))) ∙ e)
    go (j ∷ p ∷ q ∷ u ∷ c) r l e = absurd (omega arith)
