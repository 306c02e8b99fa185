-- The places of rules 4, 6 and 10 that each call on kits and frames has.
--   places-both, places-accepted   one rule after another, and none
--   places_other, places-first    rules of other numbers
--   places-size, places-design, places-lists, places-spare, places-inverse, places-rounds   such rules
--   places-slice, places_list_lengths, places-kit_lengths, places-frame_lengths   rule 6
--   places-number, places_count   rule 4
--   places-bytes, places-bits, places-frame-bits, places_content   rule 10, and rules 7, 8, 10 and 9 of a kit and the information under it
--   make-placed .. turn-placed    the rules of the calls
--   kit-places, make_places, spread-places, encode-places, batch-places, words-places, decode-places, window-places, tally-places, show_places,
--   fill_places, errors-places, run_places   the calls
-- Assumes nothing.
use mathlib.Core.Path.{◌≡◌, refl, sym, subst, subst⁻¹}
use mathlib.Core.Bool.{Bool, true, false, not, true≢false}
use mathlib.Core.Logic.{inl, inr}
use mathlib.Core.List.{List, [], ◌∷◌}
use Prim.Native.Nat.{ℕ, ◌+◌, ◌*◌, ◌^◌, ◌-◌, ◌≤◌}
use native.Mathlib.Omega.{arith}
use borrow.Author.Tests.{ltb-true}
use lib.Dec.{ltb, eqb}
use lib.ListN.{length, get_or}
use Rattle.staircase.specs.Lists.{first_where}
use Rattle.staircase.specs.Design.{Params, Interleavers, params, word_length, order, least_m, most-m, most-t, most-M, most-col, most-order, most-blocks, most-rounds}
use Rattle.staircase.specs.Frame.{groups}
use Rattle.staircase.specs.System.{system_entry, inverse_entry, row_bytes}
use Rattle.staircase.specs.Square.{dependent}
use Rattle.staircase.specs.Rules.{Verdict, ◌then◌, refuse, refuse_first, out_of_range, Part, size_rule, long_rule, large_rule, design_rules, count_rule, rounds_rule, length_rule, list_lengths, kit_lengths, info_length, red_length, frame_lengths, kit_work, word_work, decoder_work, interleavers, bad_entry, list_rule, spare_row, spare_rule, wrong_entry, inverse_rule, kit_rules, bit_rule, frame_bits, content_rules}
use Rattle.staircase.specs.Rules.Verdict.{accepted, refused}
use Rattle.staircase.specs.Rules.Part.{block, group}
use Rattle.staircase.specs.Calls.{kit_verdict, encode_verdict, encode_call, words_verdict, words_call, decode_verdict, decode_call, show_verdict, show_call}
use Rattle.staircase.specs.Maker.{make_work, singular_rule, make_verdict, make_call}
use Rattle.staircase.specs.Spread.{narrow_rule, spread_verdict, spread_call}
use Rattle.staircase.specs.Batch.{most-frames, batch_rule, batch_lengths, batch_verdict, batch_call}
use Rattle.staircase.specs.Window.{most-window, window_rule, window_verdict, window_call}
use Rattle.staircase.specs.Tally.{Tally, Decode, total_rule, full_rule, tally_verdict, tally_call}
use Rattle.staircase.specs.Load.{fill_verdict, fill_call, turn_verdict, errors_call, run_call}
use Rattle.staircase.specs.Demand1.{among}
use Rattle.staircase.specs.Places.{OfBlocks, OfPart, NoCount, Places}
use Rattle.staircase.proofs.Decoded.{corrected_by-verdict}
use Rattle.staircase.proofs.Encoded.{encoded_by-verdict}
use Rattle.staircase.proofs.SpreadCall.{spread_by-verdict}
use Rattle.staircase.proofs.Maker.{made_by-verdict}
use Rattle.staircase.proofs.Demand1.{none-or_above, counted_by-verdict, shown_by-verdict}
use Rattle.staircase.proofs.Tally.{tally-verdict}
use Rattle.staircase.proofs.Load.{filled_by-verdict, errors_by-verdict, run_by-verdict}

-- a number that is none of these rules'
abbrev other : ℕ → Bool
other n = not (among n (4 ∷ 6 ∷ 10 ∷ []))

module _ (slices : List ℕ) (counts : ℕ → Type 0) (bytes : ℕ) where
  pub places-both : (u v : Verdict) → Places slices counts bytes u → Places slices counts bytes v → Places slices counts bytes (u then v)
  places-both accepted v a b = b
  places-both (refused n p) v a b = a

  pub places-accepted : Places slices counts bytes accepted
  places-accepted =
      record {
        slice = λ p e. let z : ◌≡◌ {A = ℕ} 0 1 = cc in absurd (omega arith);
        count = λ p e. let z : ◌≡◌ {A = ℕ} 0 1 = cc in absurd (omega arith);
        byte = λ p e. let z : ◌≡◌ {A = ℕ} 0 1 = cc in absurd (omega arith);
      }

  -- ---- rules of other numbers

  pub places_other : (z : Bool) (n p : ℕ) → other n ≡ true → Places slices counts bytes (refuse z n p)
  places_other false n p h = places-accepted
  places_other true n p h =
      record {
        slice = λ q e. let f : n ≡ 6 = cc in absurd (true≢false (sym (subst (λ (k : ℕ). other k ≡ true) f h)));
        count = λ q e. let f : n ≡ 4 = cc in absurd (true≢false (sym (subst (λ (k : ℕ). other k ≡ true) f h)));
        byte = λ q e. let f : n ≡ 10 = cc in absurd (true≢false (sym (subst (λ (k : ℕ). other k ≡ true) f h)));
      }

  pub places-first : (rule base n : ℕ) (f : ℕ → Bool) → other rule ≡ true → Places slices counts bytes (refuse_first rule base n f)
  unfolding refuse_first
  places-first rule base n f h = places_other (ltb (first_where n f) n) rule (base + first_where n f) h

  pub places-size : (m t M col : ℕ) → Places slices counts bytes (size_rule m t M col)
  unfolding size_rule
  places-size m t M col =
      places-both _ _ (places_other (out_of_range least_m most-m m) 1 1 refl)
      (places-both _ _ (places_other (out_of_range 1 most-t t) 1 2 refl)
      (places-both _ _ (places_other (out_of_range 1 most-M M) 1 3 refl) (places_other (ltb most-col col) 1 4 refl)))

  pub places-design : (m t M col : ℕ) → Places slices counts bytes (design_rules m t M col)
  unfolding design_rules long_rule large_rule
  places-design m t M col =
      let s : Params = params m t M col in
      places-both _ _ (places-size m t M col)
      (places-both _ _ (places_other (ltb (2 ^ m - 1) (word_length s)) 2 (word_length s) refl) (places_other (ltb most-order (order s)) 3 (order s) refl))

  pub places-rounds : (k : ℕ) → Places slices counts bytes (rounds_rule k)
  unfolding rounds_rule
  places-rounds k = places_other (ltb most-rounds k) 5 k refl

  pub places-lists : (s : Params) (l : Interleavers) → Places slices counts bytes (list_rule s l)
  unfolding list_rule
  places-lists s l =
      places-both _ _ (places-first 7 0 (order s) (bad_entry (order s) l.self) refl) (places-first 7 (order s) (order s) (bad_entry (order s) l.parity) refl)

  pub places-spare : (s : Params) (w : List ℕ) → Places slices counts bytes (spare_rule s w)
  unfolding spare_rule
  places-spare s w = places-first 8 0 (order s) (spare_row w (order s)) refl

  pub places-inverse : (s : Params) (l : Interleavers) (w : List ℕ) → Places slices counts bytes (inverse_rule s l w)
  unfolding inverse_rule
  places-inverse s l w = places-first 9 0 (order s * order s) (wrong_entry (order s) (system_entry s l) (inverse_entry w (order s))) refl

  -- ---- rule 6

  pub places-slice : (p a b : ℕ) → among p slices ≡ true → Places slices counts bytes (length_rule p a b)
  places-slice p a b h = go (not (eqb a b))
    where
      go : (z : Bool) → Places slices counts bytes (refuse z 6 p)
      go false = places-accepted
      go true =
          record {
            slice = λ q e. let f : p ≡ q = cc in subst (λ (k : ℕ). among k slices ≡ true) f h;
            count = λ q e. let f : ◌≡◌ {A = ℕ} 6 4 = cc in absurd (omega arith);
            byte = λ q e. let f : ◌≡◌ {A = ℕ} 6 10 = cc in absurd (omega arith);
          }

  pub places_list_lengths : among 1 slices ≡ true → among 2 slices ≡ true → (s : Params) (self parity : List ℕ)
      → Places slices counts bytes (list_lengths s self parity)
  unfolding list_lengths
  places_list_lengths h1 h2 s self parity =
      places-both _ _ (places-slice 1 (length self) (2 * order s) h1) (places-slice 2 (length parity) (2 * order s) h2)

  pub places-kit_lengths : among 1 slices ≡ true → among 2 slices ≡ true → among 3 slices ≡ true → (s : Params) (self parity w : List ℕ)
      → Places slices counts bytes (kit_lengths s self parity w)
  unfolding kit_lengths
  places-kit_lengths h1 h2 h3 s self parity w =
      places-both _ _ (places_list_lengths h1 h2 s self parity) (places-slice 3 (length w) (order s * row_bytes (order s)) h3)

  pub places-frame_lengths : among 4 slices ≡ true → among 5 slices ≡ true → (s : Params) (L : ℕ) (info red : List ℕ)
      → Places slices counts bytes (frame_lengths s L info red)
  unfolding frame_lengths
  places-frame_lengths h4 h5 s L info red =
      places-both _ _ (places-slice 4 (length info) (info_length s L) h4) (places-slice 5 (length red) (red_length s L) h5)

  -- ---- rule 4

  pub places-number : (most n : ℕ) → (out_of_range 1 most n ≡ true → counts n) → Places slices counts bytes (refuse (out_of_range 1 most n) 4 n)
  places-number most n h = go (out_of_range 1 most n) refl
    where
      go : (z : Bool) → out_of_range 1 most n ≡ z → Places slices counts bytes (refuse z 4 n)
      go false e = places-accepted
      go true e =
          record {
            slice = λ q f. let g : ◌≡◌ {A = ℕ} 4 6 = cc in absurd (omega arith);
            count = λ q f. let g : n ≡ q = cc in subst counts g (h e);
            byte = λ q f. let g : ◌≡◌ {A = ℕ} 4 10 = cc in absurd (omega arith);
          }

  -- ---- rule 10

  pub places-bytes : (base n : ℕ) (f : ℕ → Bool) → base + n ≤ bytes → Places slices counts bytes (refuse_first 10 base n f)
  unfolding refuse_first
  places-bytes base n f fits = go (ltb (first_where n f) n) refl
    where
      go : (z : Bool) → ltb (first_where n f) n ≡ z → Places slices counts bytes (refuse z 10 (base + first_where n f))
      go false e = places-accepted
      go true e =
          record {
            slice = λ q d. let g : ◌≡◌ {A = ℕ} 10 6 = cc in absurd (omega arith);
            count = λ q d. let g : ◌≡◌ {A = ℕ} 10 4 = cc in absurd (omega arith);
            byte = λ q d. let g : base + first_where n f ≡ q = cc in omega (arith, ltb-true (first_where n f) n e);
          }

  pub places-bits : (base : ℕ) (b : List ℕ) → base + length b ≤ bytes → Places slices counts bytes (bit_rule base b)
  unfolding bit_rule
  places-bits base b fits = places-bytes base (length b) (λ k. ltb 1 (get_or b k 0)) fits

  pub places-frame-bits : (info red : List ℕ) → length info + length red ≤ bytes → Places slices counts bytes (frame_bits info red)
  unfolding frame_bits
  places-frame-bits info red fits = places-both _ _ (places-bits 0 info (omega arith)) (places-bits (length info) red fits)

  pub places_content : (s : Params) (l : Interleavers) (w info : List ℕ) → length info ≤ bytes → Places slices counts bytes (content_rules s l w info)
  unfolding content_rules
  places_content s l w info fits =
      places-both _ _ (places-lists s l) (places-both _ _ (places-spare s w) (places-both _ _ (places-bits 0 info (omega arith)) (places-inverse s l w)))

-- a number of blocks
module _ (slices : List ℕ) (L bytes : ℕ) where
  pub places_count : Places slices (OfBlocks L) bytes (count_rule L)
  unfolding count_rule
  places_count = places-number slices (OfBlocks L) bytes most-blocks L (λ e. (refl, none-or_above most-blocks L e))

-- ---- the calls

module _ (m t M col : ℕ) (self parity : List ℕ) where
  abbrev s : Params
  s = params m t M col

  abbrev l : Interleavers
  l = interleavers (params m t M col) self parity

  pub kit-places : (w : List ℕ) (work : ℕ) → Places (1 ∷ 2 ∷ 3 ∷ 6 ∷ []) NoCount 0 (kit_verdict m t M col self parity w work)
  unfolding kit_verdict kit_rules
  kit-places w work =
      let own : List ℕ = 1 ∷ 2 ∷ 3 ∷ 6 ∷ [] in
      places-both own NoCount 0 _ _ (places-design own NoCount 0 m t M col)
      (places-both own NoCount 0 _ _ (places-kit_lengths own NoCount 0 refl refl refl s self parity w)
      (places-both own NoCount 0 _ _ (places-slice own NoCount 0 6 work (kit_work s) refl)
      (places-both own NoCount 0 _ _ (places-lists own NoCount 0 s l)
      (places-both own NoCount 0 _ _ (places-spare own NoCount 0 s w) (places-inverse own NoCount 0 s l w)))))

  make_placed : (old : List ℕ) (work : ℕ) → Places (1 ∷ 2 ∷ 3 ∷ 6 ∷ []) NoCount 0 (make_verdict m t M col self parity old work)
  unfolding make_verdict singular_rule
  make_placed old work =
      let own : List ℕ = 1 ∷ 2 ∷ 3 ∷ 6 ∷ [] in
      places-both own NoCount 0 _ _ (places-design own NoCount 0 m t M col)
      (places-both own NoCount 0 _ _ (places-kit_lengths own NoCount 0 refl refl refl s self parity old)
      (places-both own NoCount 0 _ _ (places-slice own NoCount 0 6 work (make_work s) refl)
      (places-both own NoCount 0 _ _ (places-lists own NoCount 0 s l)
      (places-first own NoCount 0 14 0 (order s) (dependent (order s) (system_entry s l)) refl))))

  spread_placed : Places (1 ∷ 2 ∷ []) NoCount 0 (spread_verdict m t M col self parity)
  unfolding spread_verdict narrow_rule
  spread_placed =
      let own : List ℕ = 1 ∷ 2 ∷ [] in
      places-both own NoCount 0 _ _ (places-design own NoCount 0 m t M col)
      (places-both own NoCount 0 _ _ (places_other own NoCount 0 (ltb M (2 * (m * t))) 15 M refl) (places_list_lengths own NoCount 0 refl refl s self parity))

module _ (m t M col L : ℕ) (self parity info red : List ℕ) (work : ℕ) where
  abbrev sizes : Params
  sizes = params m t M col

  abbrev lists : Interleavers
  lists = interleavers (params m t M col) self parity

  encode_placed : (w : List ℕ) → Places (1 ∷ 2 ∷ 3 ∷ 4 ∷ 5 ∷ 6 ∷ []) (OfBlocks L) (length info) (encode_verdict m t M col L self parity w info red work)
  unfolding encode_verdict
  encode_placed w =
      let own : List ℕ = 1 ∷ 2 ∷ 3 ∷ 4 ∷ 5 ∷ 6 ∷ [] in
      let n : ℕ = length info in
      places-both own (OfBlocks L) n _ _ (places-design own (OfBlocks L) n m t M col)
      (places-both own (OfBlocks L) n _ _ (places_count own L n)
      (places-both own (OfBlocks L) n _ _ (places-kit_lengths own (OfBlocks L) n refl refl refl sizes self parity w)
      (places-both own (OfBlocks L) n _ _ (places-frame_lengths own (OfBlocks L) n refl refl sizes L info red)
      (places-both own (OfBlocks L) n _ _ (places-slice own (OfBlocks L) n 6 work (kit_work sizes) refl)
      (places_content own (OfBlocks L) n sizes lists w info (omega arith))))))

  batch_placed : (n : ℕ) (w : List ℕ)
      → Places (1 ∷ 2 ∷ 3 ∷ 4 ∷ 5 ∷ 6 ∷ []) (OfBlocks L) (length info) (batch_verdict m t M col L n self parity w info red work)
  unfolding batch_verdict batch_rule batch_lengths
  batch_placed n w =
      let own : List ℕ = 1 ∷ 2 ∷ 3 ∷ 4 ∷ 5 ∷ 6 ∷ [] in
      let k : ℕ = length info in
      places-both own (OfBlocks L) k _ _ (places-design own (OfBlocks L) k m t M col)
      (places-both own (OfBlocks L) k _ _ (places_count own L k)
      (places-both own (OfBlocks L) k _ _ (places_other own (OfBlocks L) k (out_of_range 1 most-frames n) 17 n refl)
      (places-both own (OfBlocks L) k _ _ (places-kit_lengths own (OfBlocks L) k refl refl refl sizes self parity w)
      (places-both own (OfBlocks L) k _ _
      (places-both own (OfBlocks L) k _ _ (places-slice own (OfBlocks L) k 4 (length info) (n * info_length sizes L) refl)
      (places-slice own (OfBlocks L) k 5 (length red) (n * red_length sizes L) refl))
      (places-both own (OfBlocks L) k _ _ (places-slice own (OfBlocks L) k 6 work (kit_work sizes) refl)
      (places_content own (OfBlocks L) k sizes lists w info (omega arith)))))))

  -- rules 6, 7 and 10 of a received frame
  received_places : (due : ℕ)
      → Places (1 ∷ 2 ∷ 4 ∷ 5 ∷ 6 ∷ []) (OfBlocks L) (length info + length red)
      (list_lengths sizes self parity then frame_lengths sizes L info red then length_rule 6 work due then list_rule sizes lists then frame_bits info red)
  received_places due =
      let own : List ℕ = 1 ∷ 2 ∷ 4 ∷ 5 ∷ 6 ∷ [] in
      let n : ℕ = length info + length red in
      places-both own (OfBlocks L) n _ _ (places_list_lengths own (OfBlocks L) n refl refl sizes self parity)
      (places-both own (OfBlocks L) n _ _ (places-frame_lengths own (OfBlocks L) n refl refl sizes L info red)
      (places-both own (OfBlocks L) n _ _ (places-slice own (OfBlocks L) n 6 work due refl)
      (places-both own (OfBlocks L) n _ _ (places-lists own (OfBlocks L) n sizes lists) (places-frame-bits own (OfBlocks L) n info red (omega arith)))))

  -- rules 1 to 4, and then others
  numbers-places : (rest : Verdict) → Places (1 ∷ 2 ∷ 4 ∷ 5 ∷ 6 ∷ []) (OfBlocks L) (length info + length red) rest
      → Places (1 ∷ 2 ∷ 4 ∷ 5 ∷ 6 ∷ []) (OfBlocks L) (length info + length red) (design_rules m t M col then count_rule L then rest)
  numbers-places rest h =
      let own : List ℕ = 1 ∷ 2 ∷ 4 ∷ 5 ∷ 6 ∷ [] in
      let n : ℕ = length info + length red in
      places-both own (OfBlocks L) n _ _ (places-design own (OfBlocks L) n m t M col) (places-both own (OfBlocks L) n _ _ (places_count own L n) h)

  words_placed : Places (1 ∷ 2 ∷ 4 ∷ 5 ∷ 6 ∷ []) (OfBlocks L) (length info + length red) (words_verdict m t M col L self parity info red work)
  unfolding words_verdict
  words_placed = numbers-places _ (received_places (word_work sizes))

  decode_placed : (k : ℕ) → Places (1 ∷ 2 ∷ 4 ∷ 5 ∷ 6 ∷ []) (OfBlocks L) (length info + length red) (decode_verdict m t M col L k self parity info red work)
  unfolding decode_verdict
  decode_placed k =
      let own : List ℕ = 1 ∷ 2 ∷ 4 ∷ 5 ∷ 6 ∷ [] in
      let n : ℕ = length info + length red in
      numbers-places _ (places-both own (OfBlocks L) n _ _ (places-rounds own (OfBlocks L) n k) (received_places (decoder_work sizes L)))

  window_placed : (k v : ℕ)
      → Places (1 ∷ 2 ∷ 4 ∷ 5 ∷ 6 ∷ []) (OfBlocks L) (length info + length red) (window_verdict m t M col L k v self parity info red work)
  unfolding window_verdict window_rule
  window_placed k v =
      let own : List ℕ = 1 ∷ 2 ∷ 4 ∷ 5 ∷ 6 ∷ [] in
      let n : ℕ = length info + length red in
      numbers-places _ (places-both own (OfBlocks L) n _ _ (places-rounds own (OfBlocks L) n k)
      (places-both own (OfBlocks L) n _ _ (places_other own (OfBlocks L) n (out_of_range 1 most-window v) 18 v refl) (received_places (decoder_work sizes L))))

tally_placed : (y : Tally) (x : Decode) → Places (1 ∷ 2 ∷ 4 ∷ 5 ∷ 6 ∷ []) (OfBlocks x.L) (length x.info + length x.red) (tally_verdict y x)
unfolding tally_verdict full_rule
tally_placed y x =
    let own : List ℕ = 1 ∷ 2 ∷ 4 ∷ 5 ∷ 6 ∷ [] in
    let n : ℕ = length x.info + length x.red in
    let one : (p a : ℕ) → Places own (OfBlocks x.L) n (total_rule p a) = λ p a. places_other own (OfBlocks x.L) n (ltb (2 ^ 62) a) 16 p refl in
    places-both own (OfBlocks x.L) n _ _
    (decode_placed x.m x.t x.M x.col x.L x.self x.parity x.info x.red x.work x.rounds)
    (places-both own (OfBlocks x.L) n _ _ (one 1 y.frames) (places-both own (OfBlocks x.L) n _ _ (one 2 y.bits)
    (places-both own (OfBlocks x.L) n _ _ (one 3 y.turned) (places-both own (OfBlocks x.L) n _ _ (one 4 y.rounds)
    (places-both own (OfBlocks x.L) n _ _ (one 5 y.outside) (one 6 y.stuck))))))

module _ (m t M col L : ℕ) (info red : List ℕ) where
  show_placed : (x : Part) → Places (4 ∷ 5 ∷ []) (OfPart L x) 0 (show_verdict m t M col L x info red)
  unfolding show_verdict count_rule
  show_placed (block b) =
      let own : List ℕ = 4 ∷ 5 ∷ [] in
      let c : ℕ → Type 0 = OfPart L (block b) in
      places-both own c 0 _ _ (places-design own c 0 m t M col)
      (places-both own c 0 _ _ (places-number own c 0 most-blocks L (λ e. inl (refl, none-or_above most-blocks L e)))
      (places-both own c 0 _ _ (places-number own c 0 L b (λ e. inr (refl, none-or_above L b e))) (places-frame_lengths own c 0 refl refl (params m t M col) L info red)))
  show_placed (group i) =
      let own : List ℕ = 4 ∷ 5 ∷ [] in
      let c : ℕ → Type 0 = OfPart L (group i) in
      places-both own c 0 _ _ (places-design own c 0 m t M col)
      (places-both own c 0 _ _ (places-number own c 0 most-blocks L (λ e. inl (refl, none-or_above most-blocks L e)))
      (places-both own c 0 _ _ (places-number own c 0 (groups L) i (λ e. inr (refl, none-or_above (groups L) i e)))
      (places-frame_lengths own c 0 refl refl (params m t M col) L info red)))

  fill_placed : Places (4 ∷ []) (OfBlocks L) 0 (fill_verdict m t M col L info)
  unfolding fill_verdict
  fill_placed =
      let own : List ℕ = 4 ∷ [] in
      places-both own (OfBlocks L) 0 _ _ (places-design own (OfBlocks L) 0 m t M col)
      (places-both own (OfBlocks L) 0 _ _ (places_count own L 0) (places-slice own (OfBlocks L) 0 4 (length info) (info_length (params m t M col) L) refl))

  -- of the load's two calls that turn bits
  turn_placed : Places (4 ∷ 5 ∷ []) (OfBlocks L) (length info + length red) (turn_verdict m t M col L info red)
  unfolding turn_verdict
  turn_placed =
      let own : List ℕ = 4 ∷ 5 ∷ [] in
      let n : ℕ = length info + length red in
      places-both own (OfBlocks L) n _ _ (places-design own (OfBlocks L) n m t M col)
      (places-both own (OfBlocks L) n _ _ (places_count own L n)
      (places-both own (OfBlocks L) n _ _ (places-frame_lengths own (OfBlocks L) n refl refl (params m t M col) L info red)
      (places-frame-bits own (OfBlocks L) n info red (omega arith))))

-- what each answers

module _ (m t M col : ℕ) (self parity : List ℕ) where
  pub make_places : (old : List ℕ) (work : ℕ) → Places (1 ∷ 2 ∷ 3 ∷ 6 ∷ []) NoCount 0 (make_call m t M col self parity old work).verdict
  unfolding make_call
  make_places old work =
      subst⁻¹ (Places (1 ∷ 2 ∷ 3 ∷ 6 ∷ []) NoCount 0) (made_by-verdict (make_verdict m t M col self parity old work) old _) (make_placed m t M col self parity old work)

  pub spread-places : Places (1 ∷ 2 ∷ []) NoCount 0 (spread_call m t M col self parity).verdict
  unfolding spread_call
  spread-places =
      subst⁻¹ (Places (1 ∷ 2 ∷ []) NoCount 0) (spread_by-verdict (spread_verdict m t M col self parity) (params m t M col) self parity) (spread_placed m t M col self parity)

module _ (m t M col L : ℕ) (self parity info red : List ℕ) (work : ℕ) where
  pub encode-places : (w : List ℕ)
      → Places (1 ∷ 2 ∷ 3 ∷ 4 ∷ 5 ∷ 6 ∷ []) (OfBlocks L) (length info) (encode_call m t M col L self parity w info red work).verdict
  unfolding encode_call
  encode-places w =
      subst⁻¹ (Places (1 ∷ 2 ∷ 3 ∷ 4 ∷ 5 ∷ 6 ∷ []) (OfBlocks L) (length info)) (encoded_by-verdict (encode_verdict m t M col L self parity w info red work) red _)
      (encode_placed m t M col L self parity info red work w)

  pub batch-places : (n : ℕ) (w : List ℕ)
      → Places (1 ∷ 2 ∷ 3 ∷ 4 ∷ 5 ∷ 6 ∷ []) (OfBlocks L) (length info) (batch_call m t M col L n self parity w info red work).verdict
  unfolding batch_call
  batch-places n w =
      subst⁻¹ (Places (1 ∷ 2 ∷ 3 ∷ 4 ∷ 5 ∷ 6 ∷ []) (OfBlocks L) (length info)) (encoded_by-verdict (batch_verdict m t M col L n self parity w info red work) red _)
      (batch_placed m t M col L self parity info red work n w)

  pub words-places : Places (1 ∷ 2 ∷ 4 ∷ 5 ∷ 6 ∷ []) (OfBlocks L) (length info + length red) (words_call m t M col L self parity info red work).verdict
  unfolding words_call
  words-places =
      subst⁻¹ (Places (1 ∷ 2 ∷ 4 ∷ 5 ∷ 6 ∷ []) (OfBlocks L) (length info + length red)) (counted_by-verdict (words_verdict m t M col L self parity info red work) _)
      (words_placed m t M col L self parity info red work)

  pub decode-places : (k : ℕ) → Places (1 ∷ 2 ∷ 4 ∷ 5 ∷ 6 ∷ []) (OfBlocks L) (length info + length red) (decode_call m t M col L k self parity info red work).verdict
  unfolding decode_call
  decode-places k =
      subst⁻¹ (Places (1 ∷ 2 ∷ 4 ∷ 5 ∷ 6 ∷ []) (OfBlocks L) (length info + length red))
      (corrected_by-verdict (decode_verdict m t M col L k self parity info red work) _ _ _) (decode_placed m t M col L self parity info red work k)

  pub window-places : (k v : ℕ)
      → Places (1 ∷ 2 ∷ 4 ∷ 5 ∷ 6 ∷ []) (OfBlocks L) (length info + length red) (window_call m t M col L k v self parity info red work).verdict
  unfolding window_call
  window-places k v =
      subst⁻¹ (Places (1 ∷ 2 ∷ 4 ∷ 5 ∷ 6 ∷ []) (OfBlocks L) (length info + length red))
      (corrected_by-verdict (window_verdict m t M col L k v self parity info red work) _ _ _) (window_placed m t M col L self parity info red work k v)

pub tally-places : (y : Tally) (x : Decode)
    → Places (1 ∷ 2 ∷ 4 ∷ 5 ∷ 6 ∷ []) (OfBlocks x.L) (length x.info + length x.red) (tally_call y x).corrected.verdict
tally-places y x =
    subst⁻¹ (Places (1 ∷ 2 ∷ 4 ∷ 5 ∷ 6 ∷ []) (OfBlocks x.L) (length x.info + length x.red)) (tally-verdict y x) (tally_placed y x)

module _ (m t M col L : ℕ) (info red : List ℕ) where
  pub show_places : (x : Part) → Places (4 ∷ 5 ∷ []) (OfPart L x) 0 (show_call m t M col L x info red).verdict
  unfolding show_call
  show_places x = subst⁻¹ (Places (4 ∷ 5 ∷ []) (OfPart L x) 0) (shown_by-verdict (show_verdict m t M col L x info red) _) (show_placed m t M col L info red x)

  pub fill_places : (seed : ℕ) → Places (4 ∷ []) (OfBlocks L) 0 (fill_call m t M col L seed info).verdict
  unfolding fill_call
  fill_places seed = subst⁻¹ (Places (4 ∷ []) (OfBlocks L) 0) (filled_by-verdict (fill_verdict m t M col L info) _ _ _) (fill_placed m t M col L info red)

  pub errors-places : (seed limit : ℕ) → Places (4 ∷ 5 ∷ []) (OfBlocks L) (length info + length red) (errors_call m t M col L seed limit info red).verdict
  unfolding errors_call
  errors-places seed limit =
      subst⁻¹ (Places (4 ∷ 5 ∷ []) (OfBlocks L) (length info + length red)) (errors_by-verdict (turn_verdict m t M col L info red) _ _ _) (turn_placed m t M col L info red)

  pub run_places : (place long : ℕ) → Places (4 ∷ 5 ∷ []) (OfBlocks L) (length info + length red) (run_call m t M col L place long info red).verdict
  unfolding run_call
  run_places place long =
      subst⁻¹ (Places (4 ∷ 5 ∷ []) (OfBlocks L) (length info + length red)) (run_by-verdict (turn_verdict m t M col L info red) _ _) (turn_placed m t M col L info red)
