-- Laws of a loop that counts the places in which two lists differ: what the rest of both adds.
--   rest_next   the next place
--   rest-none   where one of them is at its end
-- Assumes nothing.
use mathlib.Core.Path.{◌≡◌, refl, ◌∙◌}
use mathlib.Core.List.{List}
use Prim.Native.Nat.{ℕ, ◌+◌, ◌≤◌, ◌<◌, min}
use native.Mathlib.Decide.{dec_le}
use native.Mathlib.Numerals.{add-one}
use native.Mathlib.Omega.{arith}
use lib.ListN.{length, get_or, drop, drop_of_length-le}
use lib.Seq.{drop-cons}
use Rattle.bch.specs.Code.{unlike, distance}
use Rattle.bch.proofs.Distance.{distance_comm}

pub rest_next : (a b : List ℕ) (k : ℕ) → k < length a → k < length b
    → distance (drop k a) (drop k b) ≡ unlike (get_or a k 0) (get_or b k 0) + distance (drop (k + 1) a) (drop (k + 1) b)
unfolding distance
rest_next a b k h g = rw (drop-cons a k 0 h, drop-cons b k 0 g, add-one k) refl

pub rest-none : (a b : List ℕ) (k : ℕ) → k ≡ min (length a) (length b) → distance (drop k a) (drop k b) ≡ 0
unfolding distance
rest-none a b k h = go (dec_le (length a) k)
  where
    go : Dec (length a ≤ k) → distance (drop k a) (drop k b) ≡ 0
    go (yes e) = rw (drop_of_length-le a {i = k} e) refl
    go (no n) = distance_comm (drop k a) (drop k b) ∙ rw (drop_of_length-le b {i = k} (omega arith)) refl
