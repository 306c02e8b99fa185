-- Laws of bits that turn, as the loops and the calls meet them.
--   turn_bit                  entry k of a list whose bits turn by a test
--   turned-all               a list of which all entries are such
--   drawn_on                 the draws of a list go on where those of the list before it ended
--   run_front                a run in a list that is counted from 0
-- Assumes nothing.
use mathlib.Core.Path.{◌≡◌, refl, ap, ◌∙◌}
use mathlib.Core.Bool.{Bool, cond}
use mathlib.Core.List.{List}
use Prim.Native.Nat.{ℕ, ◌+◌, ◌-◌, ◌*◌}
use native.Mathlib.Nat.{zero-add}
use native.Mathlib.Omega.{arith}
use lib.Dec.{ltb}
use lib.ListN.{length, get_or}
use Rattle.staircase.specs.Load.{state_after, drawn, random_turns, run_turns, turned_where}
use Rattle.staircase.proofs.Fill.{filled, filled-all}
use Rattle.staircase.proofs.Load.{turned_same}
use Rattle.generator.proofs.States.{after-add}

abbrev pub turn_bit : (ℕ → Bool) → List ℕ → ℕ → ℕ
turn_bit test l k = cond (test k) (1 - get_or l k 0) (get_or l k 0)

pub turned-all : (test : ℕ → Bool) (l : List ℕ) (k : ℕ) → k ≡ length l → filled (turn_bit test l) l k ≡ turned_where test l
unfolding turned_where
turned-all test l k e = filled-all (turn_bit test l) l k (length l) e refl

pub drawn_on : (seed limit n : ℕ) (l : List ℕ)
    → turned_where (random_turns (state_after seed (16 * n)) limit) l ≡ turned_where (λ j. random_turns seed limit (n + j)) l
drawn_on seed limit n l =
    turned_same (random_turns (state_after seed (16 * n)) limit) l (λ j. random_turns seed limit (n + j))
    (λ j h.
    let e : 16 * n + 16 * j ≡ 16 * (n + j) = omega arith in
    ap (λ (s : ℕ). ltb (drawn s) limit) (after-add seed (16 * n) (16 * j) ∙ ap (state_after seed) e))

pub run_front : (place long : ℕ) (l : List ℕ) → turned_where (λ k. run_turns place long (0 + k)) l ≡ turned_where (run_turns place long) l
run_front place long l = turned_same (λ k. run_turns place long (0 + k)) l (run_turns place long) (λ k h. ap (run_turns place long) (zero-add k))
