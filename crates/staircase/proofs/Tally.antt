-- Totals over many decodes.
--   plus-empty, empty-plus, plus_assoc   laws of adding totals
--   account-sum     the tally after a list of decodes is the tally before it and the sum over the accepted ones
--   account-empty   from an empty tally
--   further_verdict, further_counts    the decoder with one more rule: its verdict, and what it counts
--   further_none                       and with one that refuses nothing
--   full-within                        totals that rule 16 accepts
--   decode-few                         an accepted decode counts little
--   tally-refused, tally-accepted      the totals after a decode that is refused, and after one that is accepted
--   tally_demand1                      demand 1 of a decode with a tally
-- Assumes nothing.
use mathlib.Core.Path.{◌≡◌, refl, sym, ap, ap₂, subst⁻¹, ◌∙◌}
use mathlib.Core.Bool.{true}
use mathlib.Core.Logic.{◌≢◌}
use mathlib.Core.List.{List, [], ◌∷◌, ◌++◌}
use Prim.Native.Nat.{ℕ, zero, suc, ◌+◌, ◌*◌, ◌≤◌}
use native.Mathlib.Nat.{add-zero, zero-add, add_assoc}
use native.Mathlib.Decide.{ℕ_discrete}
use native.Mathlib.Omega.{arith}
use borrow.Author.Tests.{ltb-false}
use lib.Dec.{ltb}
use lib.ListN.{length}
use Rattle.staircase.specs.Design.{Params, Interleavers, params, order, most-M, most-order, most-blocks, most-rounds}
use Rattle.staircase.specs.Frame.{Frame, Word, frame_of, groups, words, outside}
use Rattle.staircase.specs.Decoder.{Decoded, round_of, run_each, rounds_allowed, decoded}
use Rattle.staircase.specs.Outcomes.{last_stuck}
use Rattle.staircase.specs.Lines.{word_count}
use Rattle.staircase.specs.Rules.{Verdict, ◌then◌, rounds_rule, interleavers}
use Rattle.staircase.specs.Rules.Verdict.{accepted, refused}
use Rattle.staircase.specs.Calls.{Counts, counts_of, corrected_by, decode_call}
use Rattle.staircase.specs.Tally.{Tally, empty, plus, totals, Decode, call_of, contribution, most_total, total_rule, full_rule, verdict_for, further_call, tally_verdict, tallied_by, tally_call, account, kept_if, accepted_of, sum_of, Within, most_added, Few}
use Rattle.staircase.specs.Demand1.{among, ByTable, Demand1}
use Rattle.staircase.specs.Demand1 as table
use Rattle.staircase.proofs.Bounds.{small_product}
use Rattle.staircase.proofs.Rules.{then_first, then_rest, refuse-false, design_limits, count_limits, frame-lengths}
use Rattle.staircase.proofs.Rounds.{run_each-idle, run_each-more}
use Rattle.staircase.proofs.Outside.{outside_each-bound}
use Rattle.staircase.proofs.LineErrors.{line_errors-bound}
use Rattle.staircase.proofs.Outcomes.{last_stuck-bound}
use Rattle.staircase.proofs.Lines.{words-length}
use Rattle.staircase.proofs.Decoded.{corrected_by-verdict, Decodes, decode-accepted}
use Rattle.staircase.proofs.Demand1.{by_table_then, by_table-refuse, by_table-more, decode-by_table, corrected_by-untouched}

plus-empty : (x : Tally) → plus x empty ≡ x
plus-empty x =
    λ i. record {
      frames = add-zero x.frames i;
      bits = add-zero x.bits i;
      turned = add-zero x.turned i;
      rounds = add-zero x.rounds i;
      outside = add-zero x.outside i;
      stuck = add-zero x.stuck i;
    }

empty-plus : (x : Tally) → plus empty x ≡ x
empty-plus x =
    λ i. record {
      frames = zero-add x.frames i;
      bits = zero-add x.bits i;
      turned = zero-add x.turned i;
      rounds = zero-add x.rounds i;
      outside = zero-add x.outside i;
      stuck = zero-add x.stuck i;
    }

plus_assoc : (x y z : Tally) → plus (plus x y) z ≡ plus x (plus y z)
plus_assoc x y z =
    λ i. record {
      frames = add_assoc x.frames y.frames z.frames i;
      bits = add_assoc x.bits y.bits z.bits i;
      turned = add_assoc x.turned y.turned z.turned i;
      rounds = add_assoc x.rounds y.rounds z.rounds i;
      outside = add_assoc x.outside y.outside z.outside i;
      stuck = add_assoc x.stuck y.stuck z.stuck i;
    }

-- "each total equals the sum over the accepted ones; a refused decode changes no total"
pub account-sum : (y : Tally) (xs : List Decode) → account y xs ≡ plus y (sum_of (accepted_of y xs))
unfolding account accepted_of sum_of tally_call
account-sum y [] = sym (plus-empty y)
account-sum y (x ∷ xs) = go (tally_verdict y x) (account-sum (tallied_by (tally_verdict y x) y (contribution x)) xs)
  where
    go : (v : Verdict)
        → account (tallied_by v y (contribution x)) xs ≡ plus (tallied_by v y (contribution x)) (sum_of (accepted_of (tallied_by v y (contribution x)) xs))
        → account (tallied_by v y (contribution x)) xs ≡ plus y (sum_of (kept_if v x (accepted_of (tallied_by v y (contribution x)) xs)))
    go accepted h = h ∙ plus_assoc y (contribution x) (sum_of (accepted_of (plus y (contribution x)) xs))
    go (refused n p) h = h

-- "For every list of decodes from an empty tally"
pub account-empty : (xs : List Decode) → account empty xs ≡ sum_of (accepted_of empty xs)
account-empty xs = account-sum empty xs ∙ empty-plus (sum_of (accepted_of empty xs))

-- ---- the decoder with one more rule

pub further_verdict : (v : Verdict) (x : Decode) → (further_call v x).verdict ≡ (verdict_for x then v)
unfolding further_call
further_verdict v x = corrected_by-verdict (verdict_for x then v) (frame_of x.info x.red) (call_of x).frame (call_of x).counts

-- an accepted call counts what the decoder does
pub further_counts : (v : Verdict) (x : Decode) → (verdict_for x then v) ≡ accepted → (further_call v x).counts ≡ (call_of x).counts
unfolding further_call
further_counts v x e = ap (λ (u : Verdict). (corrected_by u (frame_of x.info x.red) (call_of x).frame (call_of x).counts).counts) e

again : (u : Verdict) (f g : Frame) (c : Counts)
    → corrected_by (u then accepted) f (corrected_by u f g c).frame (corrected_by u f g c).counts ≡ corrected_by u f g c
again accepted f g c = refl
again (refused n p) f g c = refl

-- a rule that refuses nothing
pub further_none : (x : Decode) → further_call accepted x ≡ call_of x
unfolding further_call decode_call
further_none x =
    let s : Params = params x.m x.t x.M x.col in
    let l : Interleavers = interleavers s x.self x.parity in
    let f : Frame = frame_of x.info x.red in
    again (verdict_for x) f (decoded s l x.L x.rounds f).frame (counts_of s l x.L x.rounds f)

further_untouched : (v : Verdict) (x : Decode) → (further_call v x).verdict ≢ accepted
    → (further_call v x).frame.info ∷ (further_call v x).frame.red ∷ [] ≡ x.info ∷ x.red ∷ []
unfolding further_call
further_untouched v x h = corrected_by-untouched (verdict_for x then v) (frame_of x.info x.red) (call_of x).frame (call_of x).counts h

-- ---- rule 16

total_within : (p n : ℕ) → total_rule p n ≡ accepted → n ≤ most_total
total_within p n e = ltb-false most_total n (refuse-false (ltb most_total n) 16 p e)

pub full-within : (y : Tally) → full_rule y ≡ accepted → Within y
unfolding full_rule
full-within y e =
    let v6 : Verdict = total_rule 6 y.stuck in
    let v5 : Verdict = total_rule 5 y.outside then v6 in
    let v4 : Verdict = total_rule 4 y.rounds then v5 in
    let v3 : Verdict = total_rule 3 y.turned then v4 in
    let v2 : Verdict = total_rule 2 y.bits then v3 in
    let e2 : v2 ≡ accepted = then_rest (total_rule 1 y.frames) v2 e in
    let e3 : v3 ≡ accepted = then_rest (total_rule 2 y.bits) v3 e2 in
    let e4 : v4 ≡ accepted = then_rest (total_rule 3 y.turned) v4 e3 in
    let e5 : v5 ≡ accepted = then_rest (total_rule 4 y.rounds) v5 e4 in
    let e6 : v6 ≡ accepted = then_rest (total_rule 5 y.outside) v6 e5 in
    record {
      frames = total_within 1 y.frames (then_first (total_rule 1 y.frames) v2 e);
      bits = total_within 2 y.bits (then_first (total_rule 2 y.bits) v3 e2);
      turned = total_within 3 y.turned (then_first (total_rule 3 y.turned) v4 e3);
      rounds = total_within 4 y.rounds (then_first (total_rule 4 y.rounds) v5 e4);
      outside = total_within 5 y.outside (then_first (total_rule 5 y.outside) v6 e5);
      stuck = total_within 6 y.stuck e6;
    }

-- ---- an accepted decode counts little

module _ (ws : List Word) where
  run_each-rounds : (k : ℕ) (f : Frame) → (run_each ws k f).rounds ≤ k
  unfolding run_each
  run_each-rounds zero f = omega arith
  run_each-rounds (suc k) f = go (ℕ_discrete (round_of ws f).flips 0) (run_each-rounds k (round_of ws f).frame)
    where
      go : Dec ((round_of ws f).flips ≡ 0) → (run_each ws k (round_of ws f).frame).rounds ≤ k → (run_each ws (suc k) f).rounds ≤ suc k
      go (yes e) h = subst⁻¹ (λ (d : Decoded). d.rounds ≤ suc k) (run_each-idle ws k f e) (omega arith)
      go (no d) h = subst⁻¹ (λ (d : Decoded). d.rounds ≤ suc k) (run_each-more ws k f d) (omega (arith, h))

rounds_limit : (k : ℕ) → rounds_rule k ≡ accepted → k ≤ most-rounds
unfolding rounds_rule
rounds_limit k e = ltb-false most-rounds k (refuse-false (ltb most-rounds k) 5 k e)

allowed-most : (k : ℕ) → k ≤ most-rounds → rounds_allowed k ≤ most-rounds
allowed-most zero h = omega arith
allowed-most (suc k) h = h

module _ (x : Decode) (ok : verdict_for x ≡ accepted) where
  abbrev s : Params
  s = params x.m x.t x.M x.col

  abbrev l : Interleavers
  l = interleavers s x.self x.parity

  abbrev f : Frame
  f = frame_of x.info x.red

  D : Decodes x.m x.t x.M x.col x.L x.rounds x.self x.parity x.info x.red
  D = decode-accepted x.m x.t x.M x.col x.L x.rounds x.self x.parity x.info x.red x.work ok

  few-groups : groups x.L ≤ 2048
  few-groups = omega (arith, (count_limits x.L D.count).1)

  few_words : length (words s l x.L) ≤ 4096 * most-M
  few_words =
      let e : length (words s l x.L) ≡ word_count s x.L =
      words-length s l x.L in
      subst⁻¹ (λ (n : ℕ). n ≤ 4096 * most-M) e
      (small_product (2 * groups x.L) x.M 4096 most-M (omega (arith, few-groups)) (design_limits x.m x.t x.M x.col D.design).M-high)

  few_bits : length x.info + length x.red ≤ most_added
  few_bits =
      let fits = frame-lengths s x.L x.info x.red D.frame-fits in
      let lim = design_limits x.m x.t x.M x.col D.design in
      let area = small_product x.M x.M most-M most-M lim.M-high lim.M-high in
      let a = small_product x.L (x.M * x.M) most-blocks (most-M * most-M) (count_limits x.L D.count).1 area in
      let b = small_product (groups x.L) (2 * order s) 2048 (2 * most-order) few-groups (omega (arith, lim.order-high)) in
      omega (arith, fits.0, fits.1, a, b)

  few-rounds : (decoded s l x.L x.rounds f).rounds ≤ most-rounds
  unfolding decoded
  few-rounds =
      let a = allowed-most x.rounds (rounds_limit x.rounds D.rounds) in
      omega (arith, run_each-rounds (words s l x.L) (rounds_allowed x.rounds) f, a)

  few-outside : (g : Frame) → outside s l x.L g ≤ 4096 * most-M
  unfolding outside
  few-outside g = omega (arith, outside_each-bound g (words s l x.L), few_words)

  few_stuck : last_stuck (words s l x.L) (rounds_allowed x.rounds) f ≤ 4096 * most-M
  few_stuck =
      let ws : List Word = words s l x.L in
      omega (arith, last_stuck-bound ws (rounds_allowed x.rounds) f, few_words)

  counts-few : Few (counts_of s l x.L x.rounds f) (length x.info + length x.red)
  unfolding counts_of
  counts-few =
      record {
        bits = few_bits;
        turned = omega (arith, line_errors-bound f (decoded s l x.L x.rounds f).frame, few_bits);
        rounds = omega (arith, few-rounds);
        outside = omega (arith, few-outside (decoded s l x.L x.rounds f).frame);
        stuck = omega (arith, few_stuck);
      }

  pub decode-few : Few (call_of x).counts (length x.info + length x.red)
  unfolding decode_call
  decode-few =
      subst⁻¹ (λ (v : Verdict). Few (corrected_by v f (decoded s l x.L x.rounds f).frame (counts_of s l x.L x.rounds f)).counts
      (length x.info + length x.red)) ok counts-few

-- ---- demand 1

-- rules 1 to 7, 10 and 16
abbrev tally_numbers : List ℕ
tally_numbers = 1 ∷ 2 ∷ 3 ∷ 4 ∷ 5 ∷ 6 ∷ 7 ∷ 10 ∷ 16 ∷ []

module _ (rules : List ℕ) (has16 : among 16 rules ≡ true) where
  total_by_table : (p n : ℕ) → 1 ≤ p → p ≤ 6 → ByTable rules (total_rule p n)
  total_by_table p n low high = by_table-refuse rules (ltb most_total n) 16 p has16 (λ e. table.full refl low high)

  pub full-by_table : (y : Tally) → ByTable rules (full_rule y)
  unfolding full_rule
  full-by_table y =
      let v6 : Verdict = total_rule 6 y.stuck in
      let v5 : Verdict = total_rule 5 y.outside then v6 in
      let v4 : Verdict = total_rule 4 y.rounds then v5 in
      let v3 : Verdict = total_rule 3 y.turned then v4 in
      let v2 : Verdict = total_rule 2 y.bits then v3 in
      by_table_then rules (total_rule 1 y.frames) v2 (total_by_table 1 y.frames (omega arith) (omega arith))
      (λ a. by_table_then rules (total_rule 2 y.bits) v3 (total_by_table 2 y.bits (omega arith) (omega arith))
      (λ b. by_table_then rules (total_rule 3 y.turned) v4 (total_by_table 3 y.turned (omega arith) (omega arith))
      (λ c. by_table_then rules (total_rule 4 y.rounds) v5 (total_by_table 4 y.rounds (omega arith) (omega arith))
      (λ d. by_table_then rules (total_rule 5 y.outside) v6 (total_by_table 5 y.outside (omega arith) (omega arith))
      (λ e. total_by_table 6 y.stuck (omega arith) (omega arith))))))

tallied_by-untouched : (v : Verdict) (y c : Tally) → v ≢ accepted → tallied_by v y c ≡ y
tallied_by-untouched accepted y c h = absurd (h refl)
tallied_by-untouched (refused n p) y c h = refl

pub tally-verdict : (y : Tally) (x : Decode) → (tally_call y x).corrected.verdict ≡ tally_verdict y x
unfolding tally_call tally_verdict
tally-verdict y x = further_verdict (full_rule y) x

pub tally-refused : (y : Tally) (x : Decode) → tally_verdict y x ≢ accepted → (tally_call y x).tally ≡ y
unfolding tally_call
tally-refused y x h = tallied_by-untouched (tally_verdict y x) y (contribution x) h

pub tally-accepted : (y : Tally) (x : Decode) → tally_verdict y x ≡ accepted → (tally_call y x).tally ≡ plus y (contribution x)
unfolding tally_call
tally-accepted y x e = ap (λ (v : Verdict). tallied_by v y (contribution x)) e

tally-untouched : (y : Tally) (x : Decode) → (tally_call y x).corrected.verdict ≢ accepted
    → (tally_call y x).corrected.frame.info ∷ (tally_call y x).corrected.frame.red ∷ [] ≡ x.info ∷ x.red ∷ []
unfolding tally_call
tally-untouched y x h = further_untouched (full_rule y) x h

tally-by_table : (y : Tally) (x : Decode) → ByTable tally_numbers (tally_verdict y x)
unfolding tally_verdict
tally-by_table y x =
    by_table_then tally_numbers (verdict_for x) (full_rule y)
    (by_table-more (1 ∷ 2 ∷ 3 ∷ 4 ∷ 5 ∷ 6 ∷ 7 ∷ 10 ∷ []) (16 ∷ []) (verdict_for x)
    (decode-by_table x.m x.t x.M x.col x.L x.rounds x.self x.parity x.info x.red x.work))
    (λ e. full-by_table tally_numbers refl y)

pub tally_demand1 : (y : Tally) (x : Decode)
    → Demand1 (1 ∷ 2 ∷ 3 ∷ 4 ∷ 5 ∷ 6 ∷ 7 ∷ 10 ∷ 16 ∷ []) (tally_call y x).corrected.verdict (x.info ∷ x.red ∷ totals y ∷ [])
    ((tally_call y x).corrected.frame.info ∷ (tally_call y x).corrected.frame.red ∷ totals (tally_call y x).tally ∷ [])
tally_demand1 y x =
    record {
      by_table = subst⁻¹ (ByTable tally_numbers) (tally-verdict y x) (tally-by_table y x);
      untouched =
          λ h. ap₂ (λ (l : List (List ℕ)) (z : Tally). l ++ (totals z ∷ [])) (tally-untouched y x h) (tally-refused y x (λ e. h (tally-verdict y x ∙ e)));
    }
