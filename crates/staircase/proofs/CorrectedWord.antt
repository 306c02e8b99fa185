-- What correcting a word does to the word itself, also where a site stands in it more than once.
--   correction-same       the correction is that of the word's bits
--   correction_codeword   a word that is corrected is a codeword then
-- That a codeword stays is `correction-none` (proofs/Idle.antt).
-- Assumes nothing.
use mathlib.Core.Path.{◌≡◌, refl, sym, ap, ◌∙◌, subst}
use mathlib.Core.Bool.{true}
use mathlib.Core.Logic.{◌≢◌, ◌⊎◌, inl, inr}
use mathlib.Core.List.{List, [], ◌∷◌, map}
use Prim.Native.Nat.{ℕ, ◌-◌, ◌<◌}
use native.Mathlib.Decide.{ℕ_discrete}
use native.Mathlib.Omega.{arith}
use lib.ListN.{length, get_or, get_or-map}
use lib.Seq.{ext_get_or}
use Rattle.bch.specs.Code.{is_codeword}
use Rattle.staircase.specs.Lists.{tabulate}
use Rattle.staircase.specs.Design.{Params}
use Rattle.staircase.specs.Frame.{Frame, Site, bit_at, read, in_code}
use Rattle.staircase.specs.Frame.Site.{unsent}
use Rattle.staircase.specs.Decoder.{choices, flip_bits, first_correcting, error_positions, all_sent, occurrences, every_occurrence, once, permitted, correction, flip_all}
use Rattle.staircase.proofs.Search.{cond_ind}
use Rattle.staircase.proofs.Member.{In, in?, in_map, in_tabulate, Sub, done, skip, keep}
use Rattle.staircase.proofs.Flip.{Sent, all_sent_each, Within, Received, flip_all_other, read_length, site_in}
use Rattle.staircase.proofs.Errors.{Positions, flip_bits-length, flip_bits_other, flip_bits-here, positions-once, error_positions-positions}
use Rattle.staircase.proofs.Occurrences.{occurrences-here, every_occurrence_each, once_in, in_once, once_single, permitted_ind, flip_all-here, sub-occurrences, map-sub, map-sites}

pub correction-same : (s : Params) (w : List Site) (f a : Frame) → read f w ≡ read a w → correction s f w ≡ correction s a w
unfolding correction
correction-same s w f a e = ap (λ (u : List ℕ). permitted w (map (λ j. get_or w j unsent) (error_positions s u))) e

first_correcting_codeword : (s : Params) (u : List ℕ) (cs : List (List ℕ)) → first_correcting s u cs ≢ []
    → is_codeword s.g s.r (flip_bits (first_correcting s u cs) u) ≡ true
unfolding first_correcting
first_correcting_codeword s u [] = λ d. absurd (d refl)
first_correcting_codeword s u (c ∷ cs) =
    cond_ind (λ (z : List ℕ). z ≢ [] → is_codeword s.g s.r (flip_bits z u) ≡ true) (is_codeword s.g s.r (flip_bits c u)) c (first_correcting s u cs)
    (λ e d. e) (λ e d. first_correcting_codeword s u cs d)

error_positions_codeword : (s : Params) (u : List ℕ) → error_positions s u ≢ [] → is_codeword s.g s.r (flip_bits (error_positions s u) u) ≡ true
unfolding error_positions
error_positions_codeword s u d = first_correcting_codeword s u (choices s.t (tabulate (length u) (λ j. j))) d

-- positions that leave out one at which the site y stands have it less often than all have
left_out : (S : ℕ → Site) (y : Site) (k : ℕ) → y ≡ S k → {c l : List ℕ} → Sub c l → In k l → ¬ In k c → occurrences y (map S c) < occurrences y (map S l)
unfolding occurrences
left_out S y k e done i n = absurd i
left_out S y k e (skip {x = x} {c = c} {l = l} s) (inl q) n =
    let h = occurrences-here y (S x) (map S l) (e ∙ ap S q) in omega (arith, h, sub-occurrences y (map-sub S s))
left_out S y k e (skip {x = x} s) (inr i) n = omega (arith, left_out S y k e s i n)
left_out S y k e (keep {x = x} s) (inl q) n = absurd (n (inl q))
left_out S y k e (keep {x = x} s) (inr i) n = omega (arith, left_out S y k e s i (λ j. n (inr j)))

number? : (x y : ℕ) → (x ≡ y) ⊎ (x ≢ y)
number? x y = go (ℕ_discrete x y)
  where
    go : Dec (x ≡ y) → (x ≡ y) ⊎ (x ≢ y)
    go (yes e) = inl e
    go (no d) = inr d

-- each sent site of the word is a byte of the frame
module _ (s : Params) (f : Frame) (w : List Site) (g : Received f f) (within : (y : Site) → Sent y → In y w → Within y f) where
  abbrev found : List ℕ
  found = error_positions s (read f w)

  abbrev at : ℕ → Site
  at j = get_or w j unsent

  abbrev c : List Site
  c = map at found

  good : Positions (length (read f w)) s.t found
  good = error_positions-positions s (read f w)

  bit-at : (x : Frame) (k : ℕ) → get_or (read x w) k 0 ≡ bit_at x (at k)
  bit-at x k = get_or-map (bit_at x) w k unsent

  -- a position that is not found has no found site: that would be flipped in one of its places only
  not_found : every_occurrence w c c ≡ true → (k : ℕ) → k < length w → ¬ In k found → ¬ In (at k) c
  not_found every k l n m =
      let few = left_out at (at k) k refl good.sub (in_tabulate (length (read f w)) (λ j. j) k (subst (λ (n : ℕ). k < n) (sym (read_length f w)) l)) n in
      let all : map at (tabulate (length (read f w)) (λ j. j)) ≡ w =
      ap (λ (n : ℕ). map at (tabulate n (λ j. j))) (read_length f w) ∙ map-sites w at (λ j. j) (λ j. refl) in
      omega (arith, few, ap (occurrences (at k)) all, every_occurrence_each w c c every (at k) m)

  flipped : all_sent c ≡ true → every_occurrence w c c ≡ true → read (flip_all (once c) f) w ≡ flip_bits found (read f w)
  flipped sent every =
      ext_get_or 0 (read (flip_all (once c) f) w) (flip_bits found (read f w))
      (read_length (flip_all (once c) f) w ∙ sym (flip_bits-length found (read f w) ∙ read_length f w))
      (λ k l. go k (subst (λ (n : ℕ). k < n) (read_length (flip_all (once c) f) w) l) (in? number? k found))
    where
      go : (k : ℕ) → k < length w → In k found ⊎ (¬ In k found) → get_or (read (flip_all (once c) f) w) k 0 ≡ get_or (flip_bits found (read f w)) k 0
      go k l (inl i) =
          let m : In (at k) c = in_map at found k i in
          bit-at (flip_all (once c) f) k
          ∙ flip_all-here (once c) (once_single c) f f g (at k) (within (at k) (all_sent_each c sent (at k) m) (site_in w k l)) (in_once c (at k) m)
          ∙ ap (λ (z : ℕ). 1 - z) (sym (bit-at f k))
          ∙ sym (flip_bits-here found (read f w) (positions-once good) k i (subst (λ (n : ℕ). k < n) (sym (read_length f w)) l))
      go k l (inr n) =
          bit-at (flip_all (once c) f) k
          ∙ flip_all_other (once c) f (at k) (λ m. not_found every k l n (once_in c (at k) m))
          ∙ sym (bit-at f k) ∙ sym (flip_bits_other found (read f w) k n)

  pub correction_codeword : correction s f w ≢ [] → in_code s (flip_all (correction s f w) f) w ≡ true
  unfolding correction once
  correction_codeword =
      permitted_ind w c (λ (d : List Site). d ≢ [] → in_code s (flip_all d f) w ≡ true)
      (λ sent every n.
      ap (is_codeword s.g s.r) (flipped sent every) ∙ error_positions_codeword s (read f w) (λ z. n (ap (λ (p : List ℕ). once (map at p)) z)))
      (λ n. absurd (n refl))
