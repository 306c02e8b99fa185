-- The remainder of a word of a line, as it is read, by a table of words that are read so.
--   xor_sum-backwards  a sum from the last to the first
--   word-remainder    the sum of the entries at the ones of the word as it is written
-- Assumes nothing.
use mathlib.Core.Path.{◌≡◌, refl, sym, ap, ap₂, ◌∙◌}
use mathlib.Core.Bool.{Bool, true, false}
use mathlib.Core.List.{List}
use Prim.Native.Nat.{ℕ, zero, suc, ◌+◌, ◌-◌, ◌*◌, ◌<◌}
use native.Mathlib.Omega.{arith}
use lib.ListN.{length, get_or, get_or-map}
use Rattle.bch.specs.Polynomial.{◌⊕◌, remainder}
use Rattle.bch.specs.Powers.{power_mod, xor_sum}
use Rattle.bch.proofs.Sum.{⊕_comm, ⊕-zero-left}
use Rattle.bch.proofs.PowerSum.{xor_sum-same, xor_sum-append, remainder-powers}
use Rattle.staircase.specs.Design.{Params, Interleavers}
use Rattle.staircase.specs.Frame.{Site, bit_at, read, frame_of}
use Rattle.staircase.specs.Frame.Site.{unsent}
use Rattle.staircase.specs.Layout.{Fits}
use Rattle.staircase.proofs.Flip.{read-bits, read_length}
use Rattle.staircase.proofs.Lawful.{fits_received}
use Rattle.design.specs.declared.Design.{Design}
use Rattle.design.specs.Sizes.{params_of}
use Rattle.layout.specs.declared.Shape.{Shape}
use Rattle.layout.specs.Layouts.{lines_in, bits_in, turned_in, turn_in, straight_in, sites_in, layout_in, AllowedIn, PermutesIn}
use Rattle.layout.proofs.Layouts.{lawful_in, read_in, turn_at, turn-not}
use Rattle.words_lines.specs.Words.{ReadTable}

xor_sum-backwards : (n : ℕ) (F : ℕ → ℕ) → xor_sum n (λ j. F (n - 1 - j)) ≡ xor_sum n F
unfolding xor_sum
xor_sum-backwards zero F = refl
xor_sum-backwards (suc n) F =
    let K : ℕ → ℕ = λ j. F (suc n - 1 - j) in
    let one : 1 + n ≡ suc n = omega arith in
    ap (λ (k : ℕ). xor_sum k K) (sym one)
    ∙ xor_sum-append 1 n K
    ∙ ap₂ ◌⊕◌ (⊕-zero-left (K 0) ∙ ap F (let e : suc n - 1 - 0 ≡ n = omega arith in e))
    (xor_sum-same n (λ j. K (1 + j)) (λ j. F (n - 1 - j)) (λ j l. ap F (let e : suc n - 1 - (1 + j) ≡ n - 1 - j = omega arith in e)) ∙ xor_sum-backwards n F)
    ∙ ⊕_comm (F n) (xor_sum n F)

module _ (z : Shape) (d : Design) (l : Interleavers) (L : ℕ) (A : AllowedIn z d) (P : PermutesIn z (params_of d) l) (info red : List ℕ)
    (F : Fits (layout_in z (params_of d) l L) info red) (k a : ℕ) (hk : k < lines_in z L) (ha : a < d.size) (positions : List ℕ)
    (T : ReadTable z (params_of d) (turned_in z (params_of d) k) positions) where
  abbrev s : Params
  s = params_of d

  abbrev n : ℕ
  n = bits_in z s

  abbrev w : List Site
  w = sites_in z s l L k a

  abbrev u : List ℕ
  u = read (frame_of info red) w

  -- the bit at a position of the word as it is written
  abbrev B : ℕ → ℕ
  B p = bit_at (frame_of info red) (get_or (straight_in z s l L k a) p unsent)

  abbrev X : ℕ → ℕ
  X j = power_mod s.g s.r j

  long : length u ≡ n
  long = read_length (frame_of info red) w ∙ (lawful_in z d l L A P).long k a hk ha

  bit-read : (j : ℕ) → j < n → get_or u j 0 ≡ B (turn_in z s k j)
  bit-read j h = get_or-map (bit_at (frame_of info red)) w j unsent ∙ ap (bit_at (frame_of info red)) (read_in z d l L k a j A P h)

  -- the table has the power of the position as it is read
  power_at : (j : ℕ) → j < n → get_or positions j 0 ≡ X (n - 1 - turn_in z s k j)
  unfolding turn_in
  power_at j h = T.powers j h

  by-table : xor_sum n (λ j. B (turn_in z s k j) * X (n - 1 - j)) ≡ xor_sum n (λ j. B j * get_or positions j 0)
  by-table = go (turned_in z s k) refl
    where
      go : (b : Bool) → turned_in z s k ≡ b → xor_sum n (λ j. B (turn_in z s k j) * X (n - 1 - j)) ≡ xor_sum n (λ j. B j * get_or positions j 0)
      go false e =
          xor_sum-same n (λ j. B (turn_in z s k j) * X (n - 1 - j)) (λ j. B j * get_or positions j 0)
          (λ j h. let t = turn-not z s k j e in ap₂ (λ (p x : ℕ). B p * x) t (ap (λ (p : ℕ). X (n - 1 - p)) (sym t) ∙ sym (power_at j h)))
      go true e =
          xor_sum-same n (λ j. B (turn_in z s k j) * X (n - 1 - j)) (λ j. B (n - 1 - j) * X (n - 1 - j))
          (λ j h. ap (λ (p : ℕ). B p * X (n - 1 - j)) (turn_at z s k j e))
          ∙ xor_sum-backwards n (λ j. B j * X j)
          ∙ xor_sum-same n (λ j. B j * X j) (λ j. B j * get_or positions j 0)
          (λ j h. ap (λ (x : ℕ). B j * x)
          (ap X (let q : j ≡ n - 1 - (n - 1 - j) = omega arith in q) ∙ ap (λ (p : ℕ). X (n - 1 - p)) (sym (turn_at z s k j e)) ∙ sym (power_at j h)))

  pub word-remainder : remainder (params_of d).g (params_of d).r (read (frame_of info red) (sites_in z (params_of d) l L k a))
      ≡ xor_sum (bits_in z (params_of d)) (λ j. bit_at (frame_of info red) (get_or (straight_in z (params_of d) l L k a) j unsent) * get_or positions j 0)
  word-remainder =
      remainder-powers s.g s.r u (read-bits (frame_of info red) (frame_of info red) (fits_received F) w)
      ∙ ap (λ (m : ℕ). xor_sum m (λ j. get_or u j 0 * X (m - suc j))) long
      ∙ xor_sum-same n (λ j. get_or u j 0 * X (n - suc j)) (λ j. B (turn_in z s k j) * X (n - 1 - j))
      (λ j h. ap₂ (λ (b e : ℕ). b * X e) (bit-read j h) (let q : n - suc j ≡ n - 1 - j = omega arith in q))
      ∙ by-table
