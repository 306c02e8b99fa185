-- Mixed lists: they are permutations, for every seed, and two redundancy bits of one row word never meet in one column word.
--   swapped-length, swapped-permutes     two entries that change places: the length stays, and a permutation stays one
--   shuffled-length, shuffled-permutes   the same of a shuffle
--   rows-length, rows_permute            the rows of a column word are a permutation of 0, .., r - 1
--   mixed-lt                             a mixed place is below M × r
--   mixed-permutes, mixed-lists          both lists are permutations, and pass rule 7
--   mixed-apart                          the two bits never meet
-- Assumes nothing.
use mathlib.Core.Path.{◌≡◌, refl, sym, ap, ◌∙◌, subst}
use mathlib.Core.Logic.{◌≢◌}
use mathlib.Core.List.{List}
use Prim.Native.Nat.{ℕ, zero, suc, ◌+◌, ◌-◌, ◌*◌, ◌%◌, ◌≤◌, ◌<◌}
use native.Mathlib.Nat.{mod-lt}
use native.Mathlib.Decide.{ℕ_discrete}
use native.Mathlib.Omega.{arith}
use lib.ListN.{length, get_or, set, length-set}
use lib.Seq.{get_or-set_same, get_or-set_other}
use Rattle.staircase.specs.Lists.{tabulate}
use Rattle.staircase.specs.Design.{Params, order}
use Rattle.staircase.specs.Rules.{list_rule}
use Rattle.staircase.specs.Rules.Verdict.{accepted}
use Rattle.staircase.specs.Demand2.{Permutes}
use Rattle.staircase.specs.Spread.{Apart}
use Rattle.staircase.specs.Load.{state_after, drawn}
use Rattle.staircase.specs.Mixed.{swapped, shuffled, shuffle_steps, rows_in, mixed_to, after_list, mixed}
use Rattle.staircase.proofs.Tabulate.{tabulate-length, tabulate-at}
use Rattle.staircase.proofs.System.{Proper}
use Rattle.staircase.proofs.Rules.{permute_lists}
use Rattle.staircase.proofs.Spread.{Spreads, sent-mod, sent-lt, sent-permutes, columns-apart}

-- ---- two entries change places

pub swapped-length : (l : List ℕ) (i j : ℕ) → length (swapped l i j) ≡ length l
unfolding swapped
swapped-length l i j = simp length-set

-- entry k after the change was entry q before it
data Moved (i j k q : ℕ) : Type 0 where
  second : k ≡ j → q ≡ i → Moved i j k q
  first : k ≢ j → k ≡ i → q ≡ j → Moved i j k q
  other : k ≢ j → k ≢ i → q ≡ k → Moved i j k q

moved-once : (i j a b p q : ℕ) → Moved i j a p → Moved i j b q → p ≡ q → a ≡ b
moved-once i j a b p q (second x y) (second z w) e = omega arith
moved-once i j a b p q (second x y) (first d z w) e = omega arith
moved-once i j a b p q (second x y) (other d f w) e = omega arith
moved-once i j a b p q (first c x y) (second z w) e = omega arith
moved-once i j a b p q (first c x y) (first d z w) e = omega arith
moved-once i j a b p q (first c x y) (other d f w) e = omega arith
moved-once i j a b p q (other c x y) (second z w) e = omega arith
moved-once i j a b p q (other c x y) (first d z w) e = omega arith
moved-once i j a b p q (other c x y) (other d f w) e = omega arith

moved-lt : (n i j k q : ℕ) → Moved i j k q → i < n → j < n → k < n → q < n
moved-lt n i j k q (second x y) hi hj hk = omega arith
moved-lt n i j k q (first c x y) hi hj hk = omega arith
moved-lt n i j k q (other c x y) hi hj hk = omega arith

module _ (l : List ℕ) (i j : ℕ) (hi : i < length l) (hj : j < length l) where
  swapped_at : (k : ℕ) → (q : ℕ) × Moved i j k q × (get_or (swapped l i j) k 0 ≡ get_or l q 0)
  unfolding swapped
  swapped_at k = go (ℕ_discrete k j) (ℕ_discrete k i)
    where
      once : List ℕ
      once = set l i (get_or l j 0)

      go : Dec (k ≡ j) → Dec (k ≡ i) → (q : ℕ) × Moved i j k q × (get_or (set once j (get_or l i 0)) k 0 ≡ get_or l q 0)
      go (yes e) d =
          (i, second e refl, ap (λ (z : ℕ). get_or (set once j (get_or l i 0)) z 0) e ∙ get_or-set_same once j (get_or l i 0) 0 (omega (arith, length-set l i (get_or l j 0))))
      go (no c) (yes e) =
          (j, first c e refl, get_or-set_other once j k (get_or l i 0) 0 c ∙ ap (λ (z : ℕ). get_or once z 0) e ∙ get_or-set_same l i (get_or l j 0) 0 hi)
      go (no c) (no d) = (k, other c d refl, get_or-set_other once j k (get_or l i 0) 0 c ∙ get_or-set_other l i k (get_or l j 0) 0 d)

  pub swapped-permutes : Permutes (length l) (λ k. get_or l k 0) → Permutes (length l) (λ k. get_or (swapped l i j) k 0)
  swapped-permutes P = record {
    below = λ k h.
        let x = swapped_at k in
        subst (λ (z : ℕ). z < length l) (sym x.2) (P.below x.0 (moved-lt (length l) i j k x.0 x.1 hi hj h));
    once = λ a b ha hb e.
        let x = swapped_at a in
        let y = swapped_at b in
        moved-once i j a b x.0 y.0 x.1 y.1
        (P.once x.0 y.0 (moved-lt (length l) i j a x.0 x.1 hi hj ha) (moved-lt (length l) i j b y.0 y.1 hi hj hb)
        (sym x.2 ∙ e ∙ y.2));
  }

-- ---- a shuffle

pub shuffled-length : (s i : ℕ) (l : List ℕ) → length (shuffled s i l) ≡ length l
unfolding shuffled
shuffled-length s zero l = refl
shuffled-length s (suc i) l =
    shuffled-length (state_after s 16) i (swapped l (suc i) (drawn s % (suc i + 1))) ∙ swapped-length l (suc i) (drawn s % (suc i + 1))

pub shuffled-permutes : (s i : ℕ) (l : List ℕ) → i < length l → Permutes (length l) (λ k. get_or l k 0) → Permutes (length l) (λ k. get_or (shuffled s i l) k 0)
unfolding shuffled
shuffled-permutes s zero l h P = P
shuffled-permutes s (suc i) l h P =
    let j : ℕ = drawn s % (suc i + 1) in
    let less : j < suc i + 1 = mod-lt (drawn s) (omega arith) in
    let next : List ℕ = swapped l (suc i) j in
    let long : length next ≡ length l = swapped-length l (suc i) j in
    subst (λ (n : ℕ). Permutes n (λ k. get_or (shuffled (state_after s 16) i next) k 0)) long
    (shuffled-permutes (state_after s 16) i next (omega arith)
    (subst (λ (n : ℕ). Permutes n (λ k. get_or next k 0)) (sym long) (swapped-permutes l (suc i) j h (omega arith) P)))

-- ---- the rows of a column word

pub rows-length : (s : Params) (seed c : ℕ) → length (rows_in s seed c) ≡ s.r
unfolding rows_in
rows-length s seed c =
    shuffled-length (state_after seed (shuffle_steps s c)) (s.r - 1) (tabulate s.r (λ j. j)) ∙ tabulate-length s.r (λ j. j)

module _ (s : Params) (ok : Proper s) (seed : ℕ) where
  pub rows_permute : (c : ℕ) → Permutes s.r (λ j. get_or (rows_in s seed c) j 0)
  unfolding rows_in
  rows_permute c =
      let start : List ℕ = tabulate s.r (λ j. j) in
      let long : length start ≡ s.r = tabulate-length s.r (λ j. j) in
      let at : (k : ℕ) → k < s.r → get_or start k 0 ≡ k = tabulate-at s.r (λ j. j) 0 in
      let P : Permutes s.r (λ k. get_or start k 0) = record {
        below = λ k h. subst (λ (z : ℕ). z < s.r) (sym (at k h)) h;
        once = λ j k hj hk e. sym (at j hj) ∙ e ∙ at k hk;
      } in
      subst (λ (n : ℕ). Permutes n (λ j. get_or (shuffled (state_after seed (shuffle_steps s c)) (s.r - 1) start) j 0)) long
      (shuffled-permutes (state_after seed (shuffle_steps s c)) (s.r - 1) start (omega (arith, long, ok.rpos))
      (subst (λ (n : ℕ). Permutes n (λ k. get_or start k 0)) (sym long) P))

  -- ---- the lists

  abbrev rows : ℕ → ℕ → ℕ
  rows c j = get_or (rows_in s seed c) j 0

  module _ (by : ℕ) where
    pub mixed-lt : (p : ℕ) → p < order s → mixed_to s by seed p < order s
    unfolding mixed_to
    mixed-lt = sent-lt s ok by rows (λ c h. rows_permute c)

    module _ (l : List ℕ) (e : (p : ℕ) → p < order s → get_or l p 0 ≡ mixed_to s by seed p) where
      places_permute : Permutes (order s) (λ p. get_or l p 0)
      unfolding mixed_to
      places_permute = sent-permutes s ok by rows (λ c h. rows_permute c) l e

      places-spread : Spreads s by l
      unfolding mixed_to
      places-spread p h = ap (λ (z : ℕ). z % s.M) (e p h) ∙ sent-mod s ok by rows p

module _ (s : Params) (ok : Proper s) (seed : ℕ) where
  self-entry : (p : ℕ) → p < order s → get_or (mixed s seed).self p 0 ≡ mixed_to s 0 seed p
  unfolding mixed
  self-entry p h = tabulate-at (order s) (mixed_to s 0 seed) 0 p h

  parity-entry : (p : ℕ) → p < order s → get_or (mixed s seed).parity p 0 ≡ mixed_to s s.r (after_list s seed) p
  unfolding mixed
  parity-entry p h = tabulate-at (order s) (mixed_to s s.r (after_list s seed)) 0 p h

  pub mixed-permutes : Permutes (order s) (λ p. get_or (mixed s seed).self p 0) × Permutes (order s) (λ p. get_or (mixed s seed).parity p 0)
  mixed-permutes = (
    places_permute s ok seed 0 (mixed s seed).self self-entry,
    places_permute s ok (after_list s seed) s.r (mixed s seed).parity parity-entry,
  )

  pub mixed-lists : list_rule s (mixed s seed) ≡ accepted
  mixed-lists = permute_lists s (mixed s seed) mixed-permutes.0 mixed-permutes.1

  pub mixed-apart : 2 * s.r ≤ s.M → Apart s (mixed s seed)
  mixed-apart =
      columns-apart s ok (mixed s seed) (places-spread s ok seed 0 (mixed s seed).self self-entry)
      (places-spread s ok (after_list s seed) s.r (mixed s seed).parity parity-entry)
