-- Demand 1 of the calls on kits and frames.
--   by_table_then, by_table-refuse, by_table-first   one rule after another; a rule of a test; a rule of a search
--   size-by_table, long-by_table, design-by_table, lists-by_table, ..   the rules
--   by_table-more, by_table-front                   a call that has more rules
--   design_demand1, kit_demand1, make_demand1, spread_demand1, mixed_demand1, encode_demand1, batch_demand1, words_demand1, decode_demand1, window_demand1, show_demand1
--                                                 the calls
--   encoded_by-untouched, corrected_by-untouched    what a refused call leaves
-- Assumes nothing.
use mathlib.Core.Path.{◌≡◌, refl, sym, ap, subst, ◌∙◌, subst⁻¹}
use mathlib.Core.Bool.{Bool, true, false, not, ◌||◌, true≢false}
use mathlib.Core.Logic.{◌≢◌}
use mathlib.Core.List.{List, [], ◌∷◌, ◌++◌}
use Prim.Native.Nat.{ℕ, ◌+◌, ◌-◌, ◌*◌, ◌^◌, ◌≤◌, ◌<◌}
use native.Mathlib.Decide.{dec_lt}
use native.Mathlib.Omega.{arith}
use borrow.Author.Tests.{ltb-true}
use lib.Dec.{ltb, eqb}
use lib.Pow.{pow-add, pow_pos}
use lib.ListN.{length, get_or}
use Rattle.staircase.specs.Lists.{first_where}
use Rattle.staircase.specs.Design.{Params, Interleavers, params, word_length, order, least_m, most-m, most-t, most-M, most-col, most-order, most-blocks, most-rounds}
use Rattle.staircase.specs.Frame.{Frame, groups}
use Rattle.staircase.specs.System.{system_entry, inverse_entry, row_bytes, redundancy}
use Rattle.staircase.specs.Rules.{Verdict, ◌then◌, refuse, refuse_first, out_of_range, Part, size_rule, long_rule, large_rule, design_rules, count_rule, part_rule, rounds_rule, length_rule, list_lengths, kit_lengths, info_length, red_length, frame_lengths, kit_work, word_work, decoder_work, interleavers, bad_entry, list_rule, spare_row, spare_rule, wrong_entry, inverse_rule, kit_rules, bit_rule, frame_bits, content_rules}
use Rattle.staircase.specs.Rules.Verdict.{accepted, refused}
use Rattle.staircase.specs.Rules.Part.{block, group}
use Rattle.staircase.specs.Calls.{kit_verdict, encode_verdict, encoded_by, encode_call, words_verdict, counted_by, words_call, Counts, corrected_by, decode_verdict, decode_call, show_verdict, shown_by, show_call}
use Rattle.staircase.specs.Square.{dependent, inverse_matrix, packed_matrix}
use Rattle.staircase.specs.Maker.{make_work, singular_rule, make_verdict, made_by, make_call}
use Rattle.staircase.specs.Spread.{narrow_rule, spread_verdict, spread_by, spread_call}
use Rattle.staircase.specs.Mixed.{mixed_by, mixed_call}
use Rattle.staircase.specs.Batch.{most-frames, batch_rule, batch_lengths, batch_verdict, batch_redundancy, batch_call}
use Rattle.staircase.specs.Window.{most-window, window_rule, window_verdict, window_call}
use Rattle.staircase.specs.Demand1.{Table, among, ByTable, worked, refused_by, Demand1}
use Rattle.staircase.specs.Demand1 as table
use Rattle.staircase.proofs.Bounds.{small_product}
use Rattle.staircase.proofs.Rules.{in_range, size_limits, design_limits}
use Rattle.staircase.proofs.Decoded.{corrected_by-verdict}
use Rattle.staircase.proofs.Encoded.{encoded_by-verdict}
use Rattle.staircase.proofs.Maker.{made_by-verdict}
use Rattle.staircase.proofs.SpreadCall.{spread_by-verdict}
use Rattle.staircase.proofs.MixedCall.{mixed_by-verdict}

module _ (rules : List ℕ) where
  pub by_table_then : (u v : Verdict) → ByTable rules u → (u ≡ accepted → ByTable rules v) → ByTable rules (u then v)
  by_table_then u v (worked e) k = subst (λ (z : Verdict). ByTable rules (z then v)) (sym e) (k e)
  by_table_then u v (refused_by n p e a t) k = refused_by n p (ap (λ (z : Verdict). z then v) e) a t

  pub by_table-refuse : (b : Bool) (n p : ℕ) → among n rules ≡ true → (b ≡ true → Table n p) → ByTable rules (refuse b n p)
  by_table-refuse true n p a t = refused_by n p refl a (t refl)
  by_table-refuse false n p a t = worked refl

  pub by_table-first : (rule base n : ℕ) (f : ℕ → Bool) → among rule rules ≡ true → ((i : ℕ) → i < n → Table rule (base + i))
      → ByTable rules (refuse_first rule base n f)
  unfolding refuse_first
  by_table-first rule base n f a t =
      by_table-refuse (ltb (first_where n f) n) rule (base + first_where n f) a (λ e. t (first_where n f) (ltb-true (first_where n f) n e))

  -- ---- rules 1 to 6

  pub size-by_table : among 1 rules ≡ true → (m t M col : ℕ) → ByTable rules (size_rule m t M col)
  unfolding size_rule
  size-by_table has1 m t M col =
      let rm : Verdict = refuse (out_of_range least_m most-m m) 1 1 in
      let rt : Verdict = refuse (out_of_range 1 most-t t) 1 2 in
      let r_m : Verdict = refuse (out_of_range 1 most-M M) 1 3 in
      let rc : Verdict = refuse (ltb most-col col) 1 4 in
      by_table_then rm (rt then r_m then rc) (by_table-refuse (out_of_range least_m most-m m) 1 1 has1 (λ e. table.size refl (omega arith) (omega arith)))
      (λ a. by_table_then rt (r_m then rc) (by_table-refuse (out_of_range 1 most-t t) 1 2 has1 (λ e. table.size refl (omega arith) (omega arith)))
      (λ b. by_table_then r_m rc (by_table-refuse (out_of_range 1 most-M M) 1 3 has1 (λ e. table.size refl (omega arith) (omega arith)))
      (λ c. by_table-refuse (ltb most-col col) 1 4 has1 (λ e. table.size refl (omega arith) (omega arith)))))

  long_place : (m n : ℕ) → 4 ≤ m → 2 ^ m - 1 < n → 15 < n
  long_place m n h l =
      let e : m ≡ 4 + (m - 4) = omega arith in
      let p : 2 ^ m ≡ 16 * 2 ^ (m - 4) = ap (λ (k : ℕ). 2 ^ k) e ∙ pow-add 2 4 (m - 4) in
      omega (arith, p, pow_pos (m - 4))

  -- rule 2 for words of n bits, after rule 1
  pub long-by_table : among 2 rules ≡ true → (m t M col n : ℕ) → size_rule m t M col ≡ accepted → ByTable rules (refuse (ltb (2 ^ m - 1) n) 2 n)
  long-by_table has2 m t M col n a =
      by_table-refuse (ltb (2 ^ m - 1) n) 2 n has2 (λ e. table.long refl (long_place m n (size_limits m t M col a).0 (ltb-true (2 ^ m - 1) n e)))

  pub design-by_table : among 1 rules ≡ true → among 2 rules ≡ true → among 3 rules ≡ true → (m t M col : ℕ) → ByTable rules (design_rules m t M col)
  unfolding design_rules long_rule large_rule
  design-by_table has1 has2 has3 m t M col =
      let s : Params = params m t M col in
      by_table_then (size_rule m t M col) (long_rule m s then large_rule s) (size-by_table has1 m t M col)
      (λ a. by_table_then (long_rule m s) (large_rule s) (long-by_table has2 m t M col (word_length s) a)
      (λ b. by_table-refuse (ltb most-order (order s)) 3 (order s) has3 (λ e. table.large refl (ltb-true most-order (order s) e))))

  pub count-by_table : among 4 rules ≡ true → (L : ℕ) → ByTable rules (count_rule L)
  unfolding count_rule
  count-by_table h L = by_table-refuse (out_of_range 1 most-blocks L) 4 L h (λ e. table.count refl)

  pub part-by_table : among 4 rules ≡ true → (L : ℕ) (x : Part) → ByTable rules (part_rule L x)
  part-by_table h L (block b) = by_table-refuse (out_of_range 1 L b) 4 b h (λ e. table.count refl)
  part-by_table h L (group i) = by_table-refuse (out_of_range 1 (groups L) i) 4 i h (λ e. table.count refl)

  pub rounds-by_table : among 5 rules ≡ true → (k : ℕ) → ByTable rules (rounds_rule k)
  unfolding rounds_rule
  rounds-by_table h k = by_table-refuse (ltb most-rounds k) 5 k h (λ e. table.rounds refl (ltb-true most-rounds k e))

  module _ (has6 : among 6 rules ≡ true) where
    pub length-by_table : (p a b : ℕ) → 1 ≤ p → p ≤ 7 → ByTable rules (length_rule p a b)
    length-by_table p a b low high = by_table-refuse (not (eqb a b)) 6 p has6 (λ e. table.length refl low high)

    pub lists-fit-by_table : (s : Params) (self parity : List ℕ) → ByTable rules (list_lengths s self parity)
    unfolding list_lengths
    lists-fit-by_table s self parity =
        by_table_then (length_rule 1 (length self) (2 * order s)) (length_rule 2 (length parity) (2 * order s))
        (length-by_table 1 (length self) (2 * order s) (omega arith) (omega arith))
        (λ e. length-by_table 2 (length parity) (2 * order s) (omega arith) (omega arith))

    pub kit-fits-by_table : (s : Params) (self parity w : List ℕ) → ByTable rules (kit_lengths s self parity w)
    unfolding kit_lengths
    kit-fits-by_table s self parity w =
        by_table_then (list_lengths s self parity) (length_rule 3 (length w) (order s * row_bytes (order s))) (lists-fit-by_table s self parity)
        (λ e. length-by_table 3 (length w) (order s * row_bytes (order s)) (omega arith) (omega arith))

    pub frame-fits-by_table : (s : Params) (L : ℕ) (info red : List ℕ) → ByTable rules (frame_lengths s L info red)
    unfolding frame_lengths
    frame-fits-by_table s L info red =
        by_table_then (length_rule 4 (length info) (info_length s L)) (length_rule 5 (length red) (red_length s L))
        (length-by_table 4 (length info) (info_length s L) (omega arith) (omega arith))
        (λ e. length-by_table 5 (length red) (red_length s L) (omega arith) (omega arith))

  -- ---- rules 7 to 10

  module _ (s : Params) (small : order s ≤ most-order) where
    pub lists-by_table : among 7 rules ≡ true → (l : Interleavers) → ByTable rules (list_rule s l)
    unfolding list_rule
    lists-by_table h l =
        let n : ℕ = order s in
        by_table_then (refuse_first 7 0 n (bad_entry n l.self)) (refuse_first 7 n n (bad_entry n l.parity))
        (by_table-first 7 0 n (bad_entry n l.self) h (λ i k. table.entry refl (omega arith)))
        (λ e. by_table-first 7 n n (bad_entry n l.parity) h (λ i k. table.entry refl (omega arith)))

    pub spare-by_table : among 8 rules ≡ true → (w : List ℕ) → ByTable rules (spare_rule s w)
    unfolding spare_rule
    spare-by_table h w = by_table-first 8 0 (order s) (spare_row w (order s)) h (λ i k. table.spare refl (omega arith))

    pub inverse-by_table : among 9 rules ≡ true → (l : Interleavers) (w : List ℕ) → ByTable rules (inverse_rule s l w)
    unfolding inverse_rule
    inverse-by_table h l w =
        let n : ℕ = order s in
        let a : ℕ → ℕ → ℕ = system_entry s l in
        let b : ℕ → ℕ → ℕ = inverse_entry w n in
        let square : n * n ≤ most-order * most-order = small_product n n most-order most-order small small in
        by_table-first 9 0 (n * n) (wrong_entry n a b) h (λ i k. table.inverse refl (within (n * n) i square k))
      where
        within : (q i : ℕ) → q ≤ most-order * most-order → i < q → 0 + i < most-order * most-order
        within q i c k = omega arith

    pub kit-by_table : among 7 rules ≡ true → among 8 rules ≡ true → among 9 rules ≡ true → (l : Interleavers) (w : List ℕ) → ByTable rules (kit_rules s l w)
    unfolding kit_rules
    kit-by_table h7 h8 h9 l w =
        by_table_then (list_rule s l) (spare_rule s w then inverse_rule s l w) (lists-by_table h7 l)
        (λ e. by_table_then (spare_rule s w) (inverse_rule s l w) (spare-by_table h8 w) (λ f. inverse-by_table h9 l w))

  module _ (has10 : among 10 rules ≡ true) where
    pub bits-by_table : (base : ℕ) (b : List ℕ) → ByTable rules (bit_rule base b)
    unfolding bit_rule
    bits-by_table base b = by_table-first 10 base (length b) (λ k. ltb 1 (get_or b k 0)) has10 (λ i k. table.bit refl)

    pub content_by_table : among 7 rules ≡ true → among 8 rules ≡ true → among 9 rules ≡ true → (s : Params) → order s ≤ most-order
        → (l : Interleavers) (w info : List ℕ) → ByTable rules (content_rules s l w info)
    unfolding content_rules
    content_by_table h7 h8 h9 s small l w info =
        by_table_then (list_rule s l) (spare_rule s w then bit_rule 0 info then inverse_rule s l w) (lists-by_table s small h7 l)
        (λ e. by_table_then (spare_rule s w) (bit_rule 0 info then inverse_rule s l w) (spare-by_table s small h8 w)
        (λ f. by_table_then (bit_rule 0 info) (inverse_rule s l w) (bits-by_table 0 info) (λ g. inverse-by_table s small h9 l w)))

    pub frame-bits-by_table : (info red : List ℕ) → ByTable rules (frame_bits info red)
    unfolding frame_bits
    frame-bits-by_table info red = by_table_then (bit_rule 0 info) (bit_rule (length info) red) (bits-by_table 0 info) (λ e. bits-by_table (length info) red)

-- a call that has more rules, behind or before these
among-more : (n : ℕ) (rules others : List ℕ) → among n rules ≡ true → among n (rules ++ others) ≡ true
among-more n [] others h = let z : ◌≡◌ {A = ℕ} 0 1 = cc in absurd (omega arith)
among-more n (m ∷ ms) others h = either (eqb n m) (among-more n ms others) h
  where
    either : (b : Bool) → (among n ms ≡ true → among n (ms ++ others) ≡ true) → (b || among n ms) ≡ true → (b || among n (ms ++ others)) ≡ true
    either true more e = refl
    either false more e = more e

pub by_table-more : (rules others : List ℕ) (v : Verdict) → ByTable rules v → ByTable (rules ++ others) v
by_table-more rules others v (worked e) = worked e
by_table-more rules others v (refused_by n p e a t) = refused_by n p e (among-more n rules others a) t

among-front : (n : ℕ) (others rules : List ℕ) → among n rules ≡ true → among n (others ++ rules) ≡ true
among-front n [] rules h = h
among-front n (m ∷ ms) rules h = either (eqb n m) (among-front n ms rules h)
  where
    either : (b : Bool) → among n (ms ++ rules) ≡ true → (b || among n (ms ++ rules)) ≡ true
    either true e = refl
    either false e = e

pub by_table-front : (others rules : List ℕ) (v : Verdict) → ByTable rules v → ByTable (others ++ rules) v
by_table-front others rules v (worked e) = worked e
by_table-front others rules v (refused_by n p e a t) = refused_by n p e (among-front n others rules a) t

-- ---- what a refused call leaves

pub encoded_by-untouched : (v : Verdict) (old new : List ℕ) → (encoded_by v old new).verdict ≢ accepted → (encoded_by v old new).red ∷ [] ≡ old ∷ []
encoded_by-untouched accepted old new h = absurd (h refl)
encoded_by-untouched (refused n p) old new h = refl

pub corrected_by-untouched : (v : Verdict) (old new : Frame) (c : Counts) → (corrected_by v old new c).verdict ≢ accepted
    → (corrected_by v old new c).frame.info ∷ (corrected_by v old new c).frame.red ∷ [] ≡ old.info ∷ old.red ∷ []
corrected_by-untouched accepted old new c h = absurd (h refl)
corrected_by-untouched (refused n p) old new c h = refl

pub counted_by-verdict : (v : Verdict) (o : ℕ) → (counted_by v o).verdict ≡ v
counted_by-verdict accepted o = refl
counted_by-verdict (refused n p) o = refl

pub shown_by-verdict : (v : Verdict) (l : List ℕ) → (shown_by v l).verdict ≡ v
shown_by-verdict accepted l = refl
shown_by-verdict (refused n p) l = refl

-- ---- the calls

pub design_demand1 : (m t M col : ℕ) → Demand1 (1 ∷ 2 ∷ 3 ∷ []) (design_rules m t M col) [] []
design_demand1 m t M col = record { by_table = design-by_table (1 ∷ 2 ∷ 3 ∷ []) refl refl refl m t M col; untouched = λ h. refl }

-- "The kit checker has 1 to 3 and 6 to 9"
abbrev kit_numbers : List ℕ
kit_numbers = 1 ∷ 2 ∷ 3 ∷ 6 ∷ 7 ∷ 8 ∷ 9 ∷ []

pub kit_demand1 : (m t M col : ℕ) (self parity w : List ℕ) (work : ℕ)
    → Demand1 (1 ∷ 2 ∷ 3 ∷ 6 ∷ 7 ∷ 8 ∷ 9 ∷ []) (kit_verdict m t M col self parity w work) [] []
unfolding kit_verdict
kit_demand1 m t M col self parity w work =
    let s : Params = params m t M col in
    let v9 : Verdict = kit_rules s (interleavers s self parity) w in
    let v6 : Verdict = length_rule 6 work (kit_work s) in
    record {
      by_table =
          by_table_then kit_numbers (design_rules m t M col) (kit_lengths s self parity w then v6 then v9) (design-by_table kit_numbers refl refl refl m t M col)
          (λ d. by_table_then kit_numbers (kit_lengths s self parity w) (v6 then v9) (kit-fits-by_table kit_numbers refl s self parity w)
          (λ e. by_table_then kit_numbers v6 v9 (length-by_table kit_numbers refl 6 work (kit_work s) (omega arith) (omega arith))
          (λ f. kit-by_table kit_numbers s (design_limits m t M col d).order-high refl refl refl (interleavers s self parity) w)));
      untouched = λ h. refl;
    }

-- document 02: the maker has 1 to 3, 6, 7 and 14
abbrev maker_numbers : List ℕ
maker_numbers = 1 ∷ 2 ∷ 3 ∷ 6 ∷ 7 ∷ 14 ∷ []

made_by-untouched : (v : Verdict) (old new : List ℕ) → (made_by v old new).verdict ≢ accepted → (made_by v old new).inverse ∷ [] ≡ old ∷ []
made_by-untouched accepted old new h = absurd (h refl)
made_by-untouched (refused n p) old new h = refl

make_by_table : (m t M col : ℕ) (self parity old : List ℕ) (work : ℕ) → ByTable maker_numbers (make_verdict m t M col self parity old work)
unfolding make_verdict singular_rule
make_by_table m t M col self parity old work =
    let s : Params = params m t M col in
    let l : Interleavers = interleavers s self parity in
    let v14 : Verdict = refuse_first 14 0 (order s) (dependent (order s) (system_entry s l)) in
    let v6 : Verdict = length_rule 6 work (make_work s) in
    by_table_then maker_numbers (design_rules m t M col) (kit_lengths s self parity old then v6 then list_rule s l then v14) (design-by_table maker_numbers refl refl refl m t M col)
    (λ d. by_table_then maker_numbers (kit_lengths s self parity old) (v6 then list_rule s l then v14) (kit-fits-by_table maker_numbers refl s self parity old)
    (λ e. by_table_then maker_numbers v6 (list_rule s l then v14) (length-by_table maker_numbers refl 6 work (make_work s) (omega arith) (omega arith))
    (λ f. by_table_then maker_numbers (list_rule s l) v14 (lists-by_table maker_numbers s (design_limits m t M col d).order-high refl l)
    (λ g. by_table-first maker_numbers 14 0 (order s) (dependent (order s) (system_entry s l)) refl
    (λ i k. table.singular refl (omega (arith, k, (design_limits m t M col d).order-high)))))))

pub make_demand1 : (m t M col : ℕ) (self parity old : List ℕ) (work : ℕ)
    → Demand1 (1 ∷ 2 ∷ 3 ∷ 6 ∷ 7 ∷ 14 ∷ []) (make_call m t M col self parity old work).verdict (old ∷ []) ((make_call m t M col self parity old work).inverse ∷ [])
unfolding make_call
make_demand1 m t M col self parity old work =
    let s : Params = params m t M col in
    let v : Verdict = make_verdict m t M col self parity old work in
    let new : List ℕ = packed_matrix (order s) (inverse_matrix (order s) (system_entry s (interleavers s self parity))) in
    record {
      by_table = subst⁻¹ (ByTable maker_numbers) (made_by-verdict v old new) (make_by_table m t M col self parity old work);
      untouched = made_by-untouched v old new;
    }

-- document 02: spread lists have 1 to 3, 15 and 6
abbrev spread_numbers : List ℕ
spread_numbers = 1 ∷ 2 ∷ 3 ∷ 6 ∷ 15 ∷ []

spread-by_table : (m t M col : ℕ) (self parity : List ℕ) → ByTable spread_numbers (spread_verdict m t M col self parity)
unfolding spread_verdict narrow_rule
spread-by_table m t M col self parity =
    let s : Params = params m t M col in
    let v15 : Verdict = refuse (ltb M (2 * (m * t))) 15 M in
    by_table_then spread_numbers (design_rules m t M col) (v15 then list_lengths s self parity) (design-by_table spread_numbers refl refl refl m t M col)
    (λ d. by_table_then spread_numbers v15 (list_lengths s self parity)
    (by_table-refuse spread_numbers (ltb M (2 * (m * t))) 15 M refl (λ e. table.narrow refl (design_limits m t M col d).M-high))
    (λ e. lists-fit-by_table spread_numbers refl s self parity))

spread_by-untouched : (v : Verdict) (s : Params) (self parity : List ℕ) → (spread_by v s self parity).verdict ≢ accepted
    → (spread_by v s self parity).self ∷ (spread_by v s self parity).parity ∷ [] ≡ self ∷ parity ∷ []
spread_by-untouched accepted s self parity h = absurd (h refl)
spread_by-untouched (refused n p) s self parity h = refl

pub spread_demand1 : (m t M col : ℕ) (self parity : List ℕ)
    → Demand1 (1 ∷ 2 ∷ 3 ∷ 6 ∷ 15 ∷ []) (spread_call m t M col self parity).verdict (self ∷ parity ∷ [])
    ((spread_call m t M col self parity).self ∷ (spread_call m t M col self parity).parity ∷ [])
unfolding spread_call
spread_demand1 m t M col self parity =
    let v : Verdict = spread_verdict m t M col self parity in
    record {
      by_table = subst⁻¹ (ByTable spread_numbers) (spread_by-verdict v (params m t M col) self parity) (spread-by_table m t M col self parity);
      untouched = spread_by-untouched v (params m t M col) self parity;
    }

-- mixed lists have the rules of spread lists
mixed_by-untouched : (v : Verdict) (s : Params) (seed : ℕ) (self parity : List ℕ) → (mixed_by v s seed self parity).verdict ≢ accepted
    → (mixed_by v s seed self parity).self ∷ (mixed_by v s seed self parity).parity ∷ [] ≡ self ∷ parity ∷ []
mixed_by-untouched accepted s seed self parity h = absurd (h refl)
mixed_by-untouched (refused n p) s seed self parity h = refl

pub mixed_demand1 : (m t M col seed : ℕ) (self parity : List ℕ)
    → Demand1 (1 ∷ 2 ∷ 3 ∷ 6 ∷ 15 ∷ []) (mixed_call m t M col seed self parity).verdict (self ∷ parity ∷ [])
    ((mixed_call m t M col seed self parity).self ∷ (mixed_call m t M col seed self parity).parity ∷ [])
unfolding mixed_call
mixed_demand1 m t M col seed self parity =
    let v : Verdict = spread_verdict m t M col self parity in
    record {
      by_table = subst⁻¹ (ByTable spread_numbers) (mixed_by-verdict v (params m t M col) seed self parity) (spread-by_table m t M col self parity);
      untouched = mixed_by-untouched v (params m t M col) seed self parity;
    }

-- "the encoder 1 to 4 and 6 to 10"
abbrev encoder_numbers : List ℕ
encoder_numbers = 1 ∷ 2 ∷ 3 ∷ 4 ∷ 6 ∷ 7 ∷ 8 ∷ 9 ∷ 10 ∷ []

-- rules 6 to 10 of a call with a kit, by those on its frames
framed_by_table : (rules : List ℕ) → among 6 rules ≡ true → among 7 rules ≡ true → among 8 rules ≡ true → among 9 rules ≡ true → among 10 rules ≡ true
    → (m t M col : ℕ) → design_rules m t M col ≡ accepted → (self parity w info : List ℕ) (work : ℕ) (frame : Verdict) → ByTable rules frame
    → ByTable rules
    (kit_lengths (params m t M col) self parity w then frame then length_rule 6 work (kit_work (params m t M col))
    then content_rules (params m t M col) (interleavers (params m t M col) self parity) w info)
framed_by_table rules h6 h7 h8 h9 h10 m t M col d self parity w info work frame fits =
    let s : Params = params m t M col in
    let l : Interleavers = interleavers s self parity in
    let v9 : Verdict = content_rules s l w info in
    let v6 : Verdict = length_rule 6 work (kit_work s) in
    by_table_then rules (kit_lengths s self parity w) (frame then v6 then v9) (kit-fits-by_table rules h6 s self parity w)
    (λ e. by_table_then rules frame (v6 then v9) fits
    (λ f. by_table_then rules v6 v9 (length-by_table rules h6 6 work (kit_work s) (omega arith) (omega arith))
    (λ g. content_by_table rules h10 h7 h8 h9 s (design_limits m t M col d).order-high l w info)))

encode-by_table : (m t M col L : ℕ) (self parity w info red : List ℕ) (work : ℕ) → ByTable encoder_numbers (encode_verdict m t M col L self parity w info red work)
unfolding encode_verdict
encode-by_table m t M col L self parity w info red work =
    let s : Params = params m t M col in
    let frame : Verdict = frame_lengths s L info red in
    let rest : Verdict = kit_lengths s self parity w then frame then length_rule 6 work (kit_work s) then content_rules s (interleavers s self parity) w info in
    by_table_then encoder_numbers (design_rules m t M col) (count_rule L then rest) (design-by_table encoder_numbers refl refl refl m t M col)
    (λ d. by_table_then encoder_numbers (count_rule L) rest (count-by_table encoder_numbers refl L)
    (λ c. framed_by_table encoder_numbers refl refl refl refl refl m t M col d self parity w info work frame (frame-fits-by_table encoder_numbers refl s L info red)))

pub encode_demand1 : (m t M col L : ℕ) (self parity w info red : List ℕ) (work : ℕ)
    → Demand1 (1 ∷ 2 ∷ 3 ∷ 4 ∷ 6 ∷ 7 ∷ 8 ∷ 9 ∷ 10 ∷ []) (encode_call m t M col L self parity w info red work).verdict
    (red ∷ []) ((encode_call m t M col L self parity w info red work).red ∷ [])
unfolding encode_call
encode_demand1 m t M col L self parity w info red work =
    let s : Params = params m t M col in
    let v : Verdict = encode_verdict m t M col L self parity w info red work in
    let new : List ℕ = redundancy s (interleavers s self parity) w L info in
    record {
      by_table = subst (ByTable encoder_numbers) (sym (encoded_by-verdict v red new)) (encode-by_table m t M col L self parity w info red work);
      untouched = encoded_by-untouched v red new;
    }

-- a number that a rule wants from 1 to a limit
pub none-or_above : (high n : ℕ) → out_of_range 1 high n ≡ true → 0 < n → high < n
none-or_above high n e pos = go (dec_lt high n)
  where
    go : Dec (high < n) → high < n
    go (yes h) = h
    go (no h) = absurd (true≢false (sym e ∙ in_range 1 high n pos (omega arith)))

-- document 02: the batch has the encoder's and 17
abbrev batch_numbers : List ℕ
batch_numbers = 1 ∷ 2 ∷ 3 ∷ 4 ∷ 6 ∷ 7 ∷ 8 ∷ 9 ∷ 10 ∷ 17 ∷ []

batch-by_table : (m t M col L n : ℕ) (self parity w info red : List ℕ) (work : ℕ) → ByTable batch_numbers (batch_verdict m t M col L n self parity w info red work)
unfolding batch_verdict batch_rule batch_lengths
batch-by_table m t M col L n self parity w info red work =
    let s : Params = params m t M col in
    let v17 : Verdict = refuse (out_of_range 1 most-frames n) 17 n in
    let v4 : Verdict = length_rule 4 (length info) (n * info_length s L) in
    let v5 : Verdict = length_rule 5 (length red) (n * red_length s L) in
    let rest : Verdict = kit_lengths s self parity w then (v4 then v5) then length_rule 6 work (kit_work s) then content_rules s (interleavers s self parity) w info in
    by_table_then batch_numbers (design_rules m t M col) (count_rule L then v17 then rest) (design-by_table batch_numbers refl refl refl m t M col)
    (λ d. by_table_then batch_numbers (count_rule L) (v17 then rest) (count-by_table batch_numbers refl L)
    (λ c. by_table_then batch_numbers v17 rest (by_table-refuse batch_numbers (out_of_range 1 most-frames n) 17 n refl (λ e. table.batch refl (none-or_above most-frames n e)))
    (λ b. framed_by_table batch_numbers refl refl refl refl refl m t M col d self parity w info work (v4 then v5)
    (by_table_then batch_numbers v4 v5 (length-by_table batch_numbers refl 4 (length info) (n * info_length s L) (omega arith) (omega arith))
    (λ f. length-by_table batch_numbers refl 5 (length red) (n * red_length s L) (omega arith) (omega arith))))))

pub batch_demand1 : (m t M col L n : ℕ) (self parity w info red : List ℕ) (work : ℕ)
    → Demand1 (1 ∷ 2 ∷ 3 ∷ 4 ∷ 6 ∷ 7 ∷ 8 ∷ 9 ∷ 10 ∷ 17 ∷ []) (batch_call m t M col L n self parity w info red work).verdict
    (red ∷ []) ((batch_call m t M col L n self parity w info red work).red ∷ [])
unfolding batch_call
batch_demand1 m t M col L n self parity w info red work =
    let s : Params = params m t M col in
    let v : Verdict = batch_verdict m t M col L n self parity w info red work in
    let new : List ℕ = batch_redundancy s (interleavers s self parity) w L n info in
    record {
      by_table = subst⁻¹ (ByTable batch_numbers) (encoded_by-verdict v red new) (batch-by_table m t M col L n self parity w info red work);
      untouched = encoded_by-untouched v red new;
    }

-- a received frame, behind the rules on numbers: rules 6, 7 and 10
received_by_table : (rules : List ℕ) → among 6 rules ≡ true → among 7 rules ≡ true → among 10 rules ≡ true → (m t M col L : ℕ) → design_rules m t M col ≡ accepted
    → (self parity info red : List ℕ) (work due : ℕ)
    → ByTable rules
    (list_lengths (params m t M col) self parity then frame_lengths (params m t M col) L info red then length_rule 6 work due
    then list_rule (params m t M col) (interleavers (params m t M col) self parity) then frame_bits info red)
received_by_table rules h6 h7 h10 m t M col L d self parity info red work due =
    let s : Params = params m t M col in
    let l : Interleavers = interleavers s self parity in
    let v10 : Verdict = frame_bits info red in
    let v7 : Verdict = list_rule s l in
    let v6 : Verdict = length_rule 6 work due in
    let frame : Verdict = frame_lengths s L info red in
    by_table_then rules (list_lengths s self parity) (frame then v6 then v7 then v10) (lists-fit-by_table rules h6 s self parity)
    (λ e. by_table_then rules frame (v6 then v7 then v10) (frame-fits-by_table rules h6 s L info red)
    (λ f. by_table_then rules v6 (v7 then v10) (length-by_table rules h6 6 work due (omega arith) (omega arith))
    (λ g. by_table_then rules v7 v10 (lists-by_table rules s (design_limits m t M col d).order-high h7 l) (λ h. frame-bits-by_table rules h10 info red))))

-- "the word checker 1 to 4, 6, 7 and 10"
abbrev word_numbers : List ℕ
word_numbers = 1 ∷ 2 ∷ 3 ∷ 4 ∷ 6 ∷ 7 ∷ 10 ∷ []

words-by_table : (m t M col L : ℕ) (self parity info red : List ℕ) (work : ℕ) → ByTable word_numbers (words_verdict m t M col L self parity info red work)
unfolding words_verdict
words-by_table m t M col L self parity info red work =
    let s : Params = params m t M col in
    let rest : Verdict = list_lengths s self parity then frame_lengths s L info red then length_rule 6 work (word_work s)
    then list_rule s (interleavers s self parity) then frame_bits info red in
    by_table_then word_numbers (design_rules m t M col) (count_rule L then rest) (design-by_table word_numbers refl refl refl m t M col)
    (λ d. by_table_then word_numbers (count_rule L) rest (count-by_table word_numbers refl L)
    (λ c. received_by_table word_numbers refl refl refl m t M col L d self parity info red work (word_work s)))

pub words_demand1 : (m t M col L : ℕ) (self parity info red : List ℕ) (work : ℕ)
    → Demand1 (1 ∷ 2 ∷ 3 ∷ 4 ∷ 6 ∷ 7 ∷ 10 ∷ []) (words_call m t M col L self parity info red work).verdict [] []
unfolding words_call
words_demand1 m t M col L self parity info red work =
    record {
      by_table =
          subst (ByTable word_numbers) (sym (counted_by-verdict (words_verdict m t M col L self parity info red work) _)) (words-by_table m t M col L self parity info red work);
      untouched = λ h. refl;
    }

-- "the decoder 1 to 7 and 10"
abbrev decoder_numbers : List ℕ
decoder_numbers = 1 ∷ 2 ∷ 3 ∷ 4 ∷ 5 ∷ 6 ∷ 7 ∷ 10 ∷ []

pub decode-by_table : (m t M col L k : ℕ) (self parity info red : List ℕ) (work : ℕ) → ByTable decoder_numbers (decode_verdict m t M col L k self parity info red work)
unfolding decode_verdict
decode-by_table m t M col L k self parity info red work =
    let s : Params = params m t M col in
    let rest : Verdict = list_lengths s self parity then frame_lengths s L info red then length_rule 6 work (decoder_work s L)
    then list_rule s (interleavers s self parity) then frame_bits info red in
    by_table_then decoder_numbers (design_rules m t M col) (count_rule L then rounds_rule k then rest) (design-by_table decoder_numbers refl refl refl m t M col)
    (λ d. by_table_then decoder_numbers (count_rule L) (rounds_rule k then rest) (count-by_table decoder_numbers refl L)
    (λ c. by_table_then decoder_numbers (rounds_rule k) rest (rounds-by_table decoder_numbers refl k)
    (λ r. received_by_table decoder_numbers refl refl refl m t M col L d self parity info red work (decoder_work s L))))

pub decode_demand1 : (m t M col L k : ℕ) (self parity info red : List ℕ) (work : ℕ)
    → Demand1 (1 ∷ 2 ∷ 3 ∷ 4 ∷ 5 ∷ 6 ∷ 7 ∷ 10 ∷ []) (decode_call m t M col L k self parity info red work).verdict (info ∷ red ∷ [])
    ((decode_call m t M col L k self parity info red work).frame.info ∷ (decode_call m t M col L k self parity info red work).frame.red ∷ [])
unfolding decode_call
decode_demand1 m t M col L k self parity info red work =
    let v : Verdict = decode_verdict m t M col L k self parity info red work in
    record {
      by_table = subst (ByTable decoder_numbers) (sym (corrected_by-verdict v _ _ _)) (decode-by_table m t M col L k self parity info red work);
      untouched = corrected_by-untouched v _ _ _;
    }

-- document 02: under a window the decoder has 18, too
abbrev window_numbers : List ℕ
window_numbers = 1 ∷ 2 ∷ 3 ∷ 4 ∷ 5 ∷ 6 ∷ 7 ∷ 10 ∷ 18 ∷ []

window-by_table : (m t M col L k v : ℕ) (self parity info red : List ℕ) (work : ℕ) → ByTable window_numbers (window_verdict m t M col L k v self parity info red work)
unfolding window_verdict window_rule
window-by_table m t M col L k v self parity info red work =
    let s : Params = params m t M col in
    let v18 : Verdict = refuse (out_of_range 1 most-window v) 18 v in
    let rest : Verdict = list_lengths s self parity then frame_lengths s L info red then length_rule 6 work (decoder_work s L)
    then list_rule s (interleavers s self parity) then frame_bits info red in
    by_table_then window_numbers (design_rules m t M col) (count_rule L then rounds_rule k then v18 then rest) (design-by_table window_numbers refl refl refl m t M col)
    (λ d. by_table_then window_numbers (count_rule L) (rounds_rule k then v18 then rest) (count-by_table window_numbers refl L)
    (λ c. by_table_then window_numbers (rounds_rule k) (v18 then rest) (rounds-by_table window_numbers refl k)
    (λ r. by_table_then window_numbers v18 rest
    (by_table-refuse window_numbers (out_of_range 1 most-window v) 18 v refl (λ e. table.window refl (none-or_above most-window v e)))
    (λ w. received_by_table window_numbers refl refl refl m t M col L d self parity info red work (decoder_work s L)))))

pub window_demand1 : (m t M col L k v : ℕ) (self parity info red : List ℕ) (work : ℕ)
    → Demand1 (1 ∷ 2 ∷ 3 ∷ 4 ∷ 5 ∷ 6 ∷ 7 ∷ 10 ∷ 18 ∷ []) (window_call m t M col L k v self parity info red work).verdict (info ∷ red ∷ [])
    ((window_call m t M col L k v self parity info red work).frame.info ∷ (window_call m t M col L k v self parity info red work).frame.red ∷ [])
unfolding window_call
window_demand1 m t M col L k v self parity info red work =
    let x : Verdict = window_verdict m t M col L k v self parity info red work in
    record {
      by_table = subst⁻¹ (ByTable window_numbers) (corrected_by-verdict x _ _ _) (window-by_table m t M col L k v self parity info red work);
      untouched = corrected_by-untouched x _ _ _;
    }

-- "showing 1 to 4 and 6"
abbrev show_numbers : List ℕ
show_numbers = 1 ∷ 2 ∷ 3 ∷ 4 ∷ 6 ∷ []

pub show_demand1 : (m t M col L : ℕ) (x : Part) (info red : List ℕ)
    → Demand1 (1 ∷ 2 ∷ 3 ∷ 4 ∷ 6 ∷ []) (show_call m t M col L x info red).verdict [] []
unfolding show_call show_verdict
show_demand1 m t M col L x info red =
    let frame : Verdict = frame_lengths (params m t M col) L info red in
    record {
      by_table =
          subst (ByTable show_numbers) (sym (shown_by-verdict (design_rules m t M col then count_rule L then part_rule L x then frame) _))
          (by_table_then show_numbers (design_rules m t M col) (count_rule L then part_rule L x then frame) (design-by_table show_numbers refl refl refl m t M col)
          (λ d. by_table_then show_numbers (count_rule L) (part_rule L x then frame) (count-by_table show_numbers refl L)
          (λ c. by_table_then show_numbers (part_rule L x) frame (part-by_table show_numbers refl L x)
          (λ e. frame-fits-by_table show_numbers refl (params m t M col) L info red))));
      untouched = λ h. refl;
    }
