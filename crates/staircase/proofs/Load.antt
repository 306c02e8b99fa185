-- Laws of the test load.
--   output-bit, draw_below                        an output is a bit, and a number drawn in n steps is below 2^n
--   turned-length, turned-at, turned-bits         bits of which some are turned: as many, each of them, and that they are bits
--   turned_same, turned_none, turned-twice        by tests that agree; by one that no bit passes; twice by one test
--   turned-append, turned_joined                  two lists one after the other, and a frame, as one list
--   turn-bits, turn_lengths                       what the rules of the calls that turn leave of a frame
--   fill-bits                                     what is filled is bits, which rule 10 accepts
--   errors-twice, run_twice                       a call made twice gives the frame back
--   errors-none, errors-all                       a limit of 0 turns nothing, and one of 65,536 or more everything
--   run-test-in, run-test-before, run-test-behind the test of a run
--   run_inside, run_before, run_behind            a run bit by bit
--   run_count, run_past                           how many bits it turns, and that it turns none past the end
--   fill_demand1, errors_demand1, run_demand1     demand 1 of the calls
--   load_rows                                      the rows of specs/LoadRows.antt
-- Assumes nothing.
use mathlib.Core.Path.{◌≡◌, refl, sym, ap, ap₂, ◌∙◌, subst⁻¹}
use mathlib.Core.Bool.{Bool, true, false, cond, ◌&&◌}
use mathlib.Core.Logic.{◌≢◌}
use mathlib.Core.List.{List, [], ◌∷◌, ◌++◌}
use Prim.Native.Nat.{ℕ, zero, suc, ◌+◌, ◌-◌, ◌*◌, ◌^◌, ◌≤◌, ◌<◌}
use native.Mathlib.Numerals.{add-one}
use native.Mathlib.Decide.{dec_lt}
use native.Mathlib.Omega.{arith}
use borrow.Author.Tests.{lt-ltb, le-ltb, le-leb, lt-leb, eq-eqb, ne_eqb}
use lib.Dec.{ltb}
use lib.ListN.{length, get_or, length-append, get_or-append, get_or-eq_default}
use lib.Seq.{ext_get_or, get_or-append-add}
use Rattle.bch.specs.Polynomial.{Bits}
use Rattle.bch.specs.Code.{unlike, distance}
use Rattle.staircase.specs.Lists.{tabulate, first_where}
use Rattle.staircase.specs.Design.{Params, params}
use Rattle.staircase.specs.Frame.{Frame, frame_of}
use Rattle.staircase.specs.Rules.{Verdict, ◌then◌, refuse_first, size_rule, long_rule, large_rule, design_rules, count_rule, length_rule, info_length, red_length, frame_lengths, bit_rule, frame_bits}
use Rattle.staircase.specs.Rules.Verdict.{accepted, refused}
use Rattle.staircase.specs.Demand1.{ByTable, Demand1}
use Rattle.staircase.specs.Load.{output, state_after, load_bit, drawn_bits, drawn, random_turns, run_turns, turned_where, turned_frame, fill_verdict, turn_verdict, filled_by, fill_call, errors_by, errors_call, run_by, run_call}
use Rattle.staircase.specs.LoadRows.{LoadRows}
use Rattle.staircase.proofs.Tabulate.{tabulate-length, tabulate-at, tabulate-bits, tabulate-same, tabulate-append}
use Rattle.staircase.proofs.Rules.{then_first, then_rest, then_accepted, length-accepted, frame-lengths, frame-bits, bits-accepted}
use Rattle.staircase.proofs.Demand1.{by_table_then, design-by_table, count-by_table, length-by_table, frame-fits-by_table, frame-bits-by_table}

-- ---- the generator

pub output-bit : (s n : ℕ) → output (state_after s (suc n)) < 2
unfolding state_after
output-bit s n = omega arith

pub draw_below : (s n : ℕ) → drawn_bits s n < 2 ^ n
unfolding drawn_bits
draw_below s zero = omega arith
draw_below s (suc n) = omega (arith, draw_below s n, output-bit s n)

-- ---- bits that turn

abbrev turn : Bool → ℕ → ℕ
turn z b = cond z (1 - b) b

turn-bit : (z : Bool) (b : ℕ) → b < 2 → turn z b < 2
turn-bit true b h = omega arith
turn-bit false b h = h

turn_twice : (z : Bool) (b : ℕ) → b < 2 → turn z (turn z b) ≡ b
turn_twice true b h = omega arith
turn_twice false b h = refl

module _ (test : ℕ → Bool) (l : List ℕ) where
  pub turned-length : length (turned_where test l) ≡ length l
  unfolding turned_where
  turned-length = tabulate-length (length l) (λ k. turn (test k) (get_or l k 0))

  pub turned-at : (k : ℕ) → k < length l → get_or (turned_where test l) k 0 ≡ cond (test k) (1 - get_or l k 0) (get_or l k 0)
  unfolding turned_where
  turned-at k h = tabulate-at (length l) (λ j. turn (test j) (get_or l j 0)) 0 k h

  pub turned-bits : Bits l → Bits (turned_where test l)
  turned-bits h k = go (dec_lt k (length l))
    where
      go : Dec (k < length l) → get_or (turned_where test l) k 0 < 2
      go (yes i) = rw (turned-at k i) (turn-bit (test k) (get_or l k 0) (h k))
      go (no i) = let z : get_or (turned_where test l) k 0 ≡ 0 = get_or-eq_default (turned_where test l) 0 (omega (arith, turned-length)) in omega arith

  pub turned_same : (other : ℕ → Bool) → ((k : ℕ) → k < length l → test k ≡ other k) → turned_where test l ≡ turned_where other l
  unfolding turned_where
  turned_same other h =
      tabulate-same (length l) (λ k. turn (test k) (get_or l k 0)) (λ k. turn (other k) (get_or l k 0)) (λ k i. ap (λ (z : Bool). turn z (get_or l k 0)) (h k i))

  pub turned_none : ((k : ℕ) → k < length l → test k ≡ false) → turned_where test l ≡ l
  turned_none h =
      ext_get_or 0 (turned_where test l) l turned-length
      (λ k i. let j : k < length l = omega (arith, turned-length) in turned-at k j ∙ ap (λ (z : Bool). turn z (get_or l k 0)) (h k j))

pub turned-twice : (test : ℕ → Bool) (l : List ℕ) → Bits l → turned_where test (turned_where test l) ≡ l
turned-twice test l h =
    let once : List ℕ = turned_where test l in
    ext_get_or 0 (turned_where test once) l (turned-length test once ∙ turned-length test l)
    (λ k i.
    let j : k < length once = omega (arith, turned-length test once) in
    let b : get_or once k 0 ≡ turn (test k) (get_or l k 0) = turned-at test l k (omega (arith, turned-length test l)) in
    turned-at test once k j ∙ ap (turn (test k)) b ∙ turn_twice (test k) (get_or l k 0) (h k))

pub turned-append : (test : ℕ → Bool) (a b : List ℕ) → turned_where test a ++ turned_where (λ j. test (length a + j)) b ≡ turned_where test (a ++ b)
unfolding turned_where
turned-append test a b =
    let f : ℕ → ℕ = λ k. turn (test k) (get_or (a ++ b) k 0) in
    sym (ap (λ (n : ℕ). tabulate n f) (length-append a b) ∙ tabulate-append (length a) (length b) f
    ∙ ap₂ ◌++◌
    (tabulate-same (length a) f (λ k. turn (test k) (get_or a k 0)) (λ k h. ap (turn (test k)) (get_or-append a b 0 k h)))
    (tabulate-same (length b) (λ k. f (length a + k)) (λ k. turn (test (length a + k)) (get_or b k 0))
    (λ k h. ap (turn (test (length a + k))) (get_or-append-add a b k 0))))

-- ---- a frame

module _ (test : ℕ → Bool) (f : Frame) where
  pub turned_joined : (turned_frame test f).info ++ (turned_frame test f).red ≡ turned_where test (f.info ++ f.red)
  turned_joined = turned-append test f.info f.red

  frame-none : ((k : ℕ) → test k ≡ false) → turned_frame test f ≡ f
  frame-none h =
      ap₂ frame_of (turned_none test f.info (λ k i. h k)) (turned_none (λ j. test (length f.info + j)) f.red (λ k i. h (length f.info + k)))

  frame-twice : Bits f.info → Bits f.red → turned_frame test (turned_frame test f) ≡ f
  frame-twice hi hr =
      let again : (n : ℕ) → List ℕ = λ n. turned_where (λ j. test (n + j)) (turned_where (λ j. test (length f.info + j)) f.red) in
      ap₂ frame_of (turned-twice test f.info hi)
      (ap again (turned-length test f.info) ∙ turned-twice (λ j. test (length f.info + j)) f.red hr)

  lengths_stay : length (turned_frame test f).info + length (turned_frame test f).red ≡ length f.info + length f.red
  lengths_stay = ap₂ (λ (x y : ℕ). x + y) (turned-length test f.info) (turned-length (λ j. test (length f.info + j)) f.red)

-- ---- what the rules of the calls that turn say of an accepted frame, and that they accept what is left of it

module _ (m t M col L : ℕ) (info red : List ℕ) (e : turn_verdict m t M col L info red ≡ accepted) where
  abbrev s : Params
  s = params m t M col

  abbrev lengths : Verdict
  lengths = frame_lengths s L info red

  counted : (count_rule L then lengths then frame_bits info red) ≡ accepted
  unfolding turn_verdict
  counted = then_rest (design_rules m t M col) (count_rule L then lengths then frame_bits info red) e

  measured : (lengths then frame_bits info red) ≡ accepted
  measured = then_rest (count_rule L) (lengths then frame_bits info red) counted

  pub turn-bits : Bits info × Bits red
  turn-bits = frame-bits info red (then_rest lengths (frame_bits info red) measured)

  pub turn_lengths : (length info ≡ info_length s L) × (length red ≡ red_length s L)
  turn_lengths = frame-lengths s L info red (then_first lengths (frame_bits info red) measured)

  turn-again : (i r : List ℕ) → length i ≡ length info → length r ≡ length red → Bits i → Bits r → turn_verdict m t M col L i r ≡ accepted
  unfolding turn_verdict frame_lengths frame_bits
  turn-again i r li lr bi br =
      then_accepted (then_first (design_rules m t M col) (count_rule L then lengths then frame_bits info red) e)
      (then_accepted (then_first (count_rule L) (lengths then frame_bits info red) counted)
      (then_accepted
      (then_accepted (length-accepted 4 (length i) (info_length s L) (li ∙ turn_lengths.0)) (length-accepted 5 (length r) (red_length s L) (lr ∙ turn_lengths.1)))
      (then_accepted (bits-accepted 0 i bi) (bits-accepted (length i) r br))))

  turned-accepted : (test : ℕ → Bool) → turn_verdict m t M col L (turned_frame test (frame_of info red)).info (turned_frame test (frame_of info red)).red ≡ accepted
  turned-accepted test =
      turn-again (turned_where test info) (turned_where (λ j. test (length info + j)) red) (turned-length test info) (turned-length (λ j. test (length info + j)) red)
      (turned-bits test info turn-bits.0) (turned-bits (λ j. test (length info + j)) red turn-bits.1)

-- ---- the verdicts of the calls

pub filled_by-verdict : (v : Verdict) (old new : List ℕ) (s : ℕ) → (filled_by v old new s).verdict ≡ v
filled_by-verdict accepted old new s = refl
filled_by-verdict (refused n p) old new s = refl

pub errors_by-verdict : (v : Verdict) (old new : Frame) (s : ℕ) → (errors_by v old new s).verdict ≡ v
errors_by-verdict accepted old new s = refl
errors_by-verdict (refused n p) old new s = refl

pub run_by-verdict : (v : Verdict) (old new : Frame) → (run_by v old new).verdict ≡ v
run_by-verdict accepted old new = refl
run_by-verdict (refused n p) old new = refl

-- ---- filling

pub fill-bits : (m t M col L seed : ℕ) (info : List ℕ) → (fill_call m t M col L seed info).verdict ≡ accepted → Bits (fill_call m t M col L seed info).info
unfolding fill_call
fill-bits m t M col L seed info e =
    let new : List ℕ = tabulate (length info) (load_bit seed) in
    let last : ℕ = state_after seed (length info) in
    let v : fill_verdict m t M col L info ≡ accepted = sym (filled_by-verdict (fill_verdict m t M col L info) info new last) ∙ e in
    subst⁻¹ Bits (ap (λ (z : Verdict). (filled_by z info new last).info) v) (tabulate-bits (length info) (load_bit seed) (λ k. rw (add-one k) (output-bit seed k)))

-- ---- turning twice gives the frame back; a refused call is refused again

module _ (m t M col L seed limit : ℕ) (info red : List ℕ) where
  abbrev old : Frame
  old = frame_of info red

  abbrev new : Frame
  new = turned_frame (random_turns seed limit) (frame_of info red)

  abbrev last : ℕ
  last = state_after seed (16 * (length info + length red))

  pub errors-twice : errors_call m t M col L seed limit (errors_call m t M col L seed limit info red).frame.info (errors_call m t M col L seed limit info red).frame.red
      ≡ record { verdict = (errors_call m t M col L seed limit info red).verdict; frame = frame_of info red; state = (errors_call m t M col L seed limit info red).state }
  unfolding errors_call
  errors-twice = go (turn_verdict m t M col L info red) refl
    where
      go : (v : Verdict) → turn_verdict m t M col L info red ≡ v
          → errors_call m t M col L seed limit (errors_by v old new last).frame.info (errors_by v old new last).frame.red
          ≡ record { verdict = (errors_by v old new last).verdict; frame = old; state = (errors_by v old new last).state }
      go accepted e =
          ap (λ (z : Verdict). errors_by z new (turned_frame (random_turns seed limit) new) (state_after seed (16 * (length new.info + length new.red))))
          (turned-accepted m t M col L info red e (random_turns seed limit))
          ∙ ap₂ (λ (f : Frame) (n : ℕ). record { verdict = accepted; frame = f; state = state_after seed (16 * n) })
          (frame-twice (random_turns seed limit) old (turn-bits m t M col L info red e).0 (turn-bits m t M col L info red e).1) (lengths_stay (random_turns seed limit) old)
      go (refused n p) e = ap (λ (z : Verdict). errors_by z old new last) e

module _ (m t M col L place long : ℕ) (info red : List ℕ) where
  abbrev before : Frame
  before = frame_of info red

  abbrev after : Frame
  after = turned_frame (run_turns place long) (frame_of info red)

  pub run_twice : run_call m t M col L place long (run_call m t M col L place long info red).frame.info (run_call m t M col L place long info red).frame.red
      ≡ record { verdict = (run_call m t M col L place long info red).verdict; frame = frame_of info red }
  unfolding run_call
  run_twice = go (turn_verdict m t M col L info red) refl
    where
      go : (v : Verdict) → turn_verdict m t M col L info red ≡ v
          → run_call m t M col L place long (run_by v before after).frame.info (run_by v before after).frame.red
          ≡ record { verdict = (run_by v before after).verdict; frame = before }
      go accepted e =
          ap (λ (z : Verdict). run_by z after (turned_frame (run_turns place long) after)) (turned-accepted m t M col L info red e (run_turns place long))
          ∙ ap (λ (f : Frame). record { verdict = accepted; frame = f })
          (frame-twice (run_turns place long) before (turn-bits m t M col L info red e).0 (turn-bits m t M col L info red e).1)
      go (refused n p) e = ap (λ (z : Verdict). run_by z before after) e

-- ---- limits that turn nothing, or everything

errors-kept : (v : Verdict) (old new : Frame) (s : ℕ) → new ≡ old → (errors_by v old new s).frame ≡ old
errors-kept accepted old new s e = e
errors-kept (refused n p) old new s e = refl

module _ (m t M col L seed : ℕ) (info red : List ℕ) where
  pub errors-none : (errors_call m t M col L seed 0 info red).frame ≡ frame_of info red
  unfolding errors_call
  errors-none =
      errors-kept (turn_verdict m t M col L info red) (frame_of info red) (turned_frame (random_turns seed 0) (frame_of info red)) _
      (frame-none (random_turns seed 0) (frame_of info red) (λ k. le-ltb (drawn (state_after seed (16 * k))) 0 (omega arith)))

  pub errors-all : (limit : ℕ) → 65536 ≤ limit → (errors_call m t M col L seed limit info red).verdict ≡ accepted
      → (errors_call m t M col L seed limit info red).frame ≡ turned_frame (λ k. true) (frame_of info red)
  unfolding errors_call
  errors-all limit h e =
      let below : (k : ℕ) → random_turns seed limit k ≡ true =
      λ k. lt-ltb (drawn (state_after seed (16 * k))) limit (omega (arith, draw_below (state_after seed (16 * k)) 16)) in
      ap (λ (v : Verdict). (errors_by v (frame_of info red) (turned_frame (random_turns seed limit) (frame_of info red)) (state_after seed (16 * (length info + length red)))).frame)
      (sym (errors_by-verdict (turn_verdict m t M col L info red) (frame_of info red) (turned_frame (random_turns seed limit) (frame_of info red)) _) ∙ e)
      ∙ ap₂ frame_of (turned_same (random_turns seed limit) info (λ k. true) (λ k i. below k))
      (turned_same (λ j. random_turns seed limit (length info + j)) red (λ k. true) (λ k i. below (length info + k)))

-- ---- the bits of a run

pub run_test_in : (place long k : ℕ) → place ≤ k → k < place + long → run_turns place long k ≡ true
run_test_in place long k h i = ap (λ (z : Bool). z && ltb k (place + long)) (le-leb place k h) ∙ lt-ltb k (place + long) i

pub run_test_before : (place long k : ℕ) → k < place → run_turns place long k ≡ false
run_test_before place long k h = ap (λ (z : Bool). z && ltb k (place + long)) (lt-leb place k h)

pub run_test_behind : (place long k : ℕ) → place + long ≤ k → run_turns place long k ≡ false
run_test_behind place long k h =
    let i : place ≤ k = omega arith in
    ap (λ (z : Bool). z && ltb k (place + long)) (le-leb place k i) ∙ le-ltb k (place + long) h

-- how many of the first n numbers pass a test
passing : ℕ → (ℕ → Bool) → ℕ
passing zero f = 0
passing (suc n) f = cond (f zero) 1 0 + passing n (λ k. f (suc k))

passing_same : (n : ℕ) (f g : ℕ → Bool) → ((k : ℕ) → f k ≡ g k) → passing n f ≡ passing n g
unfolding passing
passing_same zero f g h = refl
passing_same (suc n) f g h = ap₂ (λ (z : Bool) (x : ℕ). cond z 1 0 + x) (h zero) (passing_same n (λ k. f (suc k)) (λ k. g (suc k)) (λ k. h (suc k)))

turn-unlike : (z : Bool) (b : ℕ) → unlike b (turn z b) ≡ cond z 1 0
unfolding unlike
turn-unlike true b = ap (λ (y : Bool). cond y 0 1) (ne_eqb b (1 - b) (λ e. omega arith))
turn-unlike false b = ap (λ (y : Bool). cond y 0 1) (eq-eqb b b refl)

turned-distance : (test : ℕ → Bool) (l : List ℕ) → distance l (turned_where test l) ≡ passing (length l) test
unfolding turned_where tabulate distance passing
turned-distance test [] = refl
turned-distance test (b ∷ l) = ap₂ (λ (x y : ℕ). x + y) (turn-unlike (test zero) b) (turned-distance (λ k. test (suc k)) l)

-- two runs, one of which may be in a list without its first bit
run_same : (p n k q o j : ℕ) → (k < p → j < q) → (p ≤ k → q ≤ j) → (k < p + n → j < q + o) → (p + n ≤ k → q + o ≤ j) → run_turns p n k ≡ run_turns q o j
run_same p n k q o j before from within behind = go (dec_lt k p) (dec_lt k (p + n))
  where
    go : Dec (k < p) → Dec (k < p + n) → run_turns p n k ≡ run_turns q o j
    go (yes h) i = run_test_before p n k h ∙ sym (run_test_before q o j (before h))
    go (no h) (yes i) = run_test_in p n k (omega arith) i ∙ sym (run_test_in q o j (from (omega arith)) (within i))
    go (no h) (no i) = run_test_behind p n k (omega arith) ∙ sym (run_test_behind q o j (behind (omega arith)))

passing_first : (n p long q more : ℕ) (z : Bool) → run_turns p long zero ≡ z → ((k : ℕ) → run_turns p long (suc k) ≡ run_turns q more k)
    → passing (suc n) (run_turns p long) ≡ cond z 1 0 + passing n (run_turns q more)
unfolding passing
passing_first n p long q more z e h =
    ap₂ (λ (y : Bool) (x : ℕ). cond y 1 0 + x) e (passing_same n (λ k. run_turns p long (suc k)) (run_turns q more) h)

passing_run : (n place long : ℕ) → (place + long ≤ n → passing n (run_turns place long) ≡ long) × (n ≤ place + long → passing n (run_turns place long) ≡ n - place)
unfolding passing
passing_run zero place long = (λ h. omega arith, λ h. omega arith)
passing_run (suc n) (suc place) long =
    let c : passing (suc n) (run_turns (suc place) long) ≡ 0 + passing n (run_turns place long) =
    passing_first n (suc place) long place long false (run_test_before (suc place) long zero (omega arith))
    (λ k. run_same (suc place) long (suc k) place long k (λ h. omega arith) (λ h. omega arith) (λ h. omega arith) (λ h. omega arith)) in
    let i = passing_run n place long in
    (λ h. omega (arith, c, i.0 (omega arith)), λ h. omega (arith, c, i.1 (omega arith)))
passing_run (suc n) zero zero =
    let c : passing (suc n) (run_turns zero zero) ≡ 0 + passing n (run_turns zero zero) =
    passing_first n zero zero zero zero false (run_test_behind zero zero zero (omega arith))
    (λ k. run_same zero zero (suc k) zero zero k (λ h. omega arith) (λ h. omega arith) (λ h. omega arith) (λ h. omega arith)) in
    let i = passing_run n zero zero in
    (λ h. omega (arith, c, i.0 (omega arith)), λ h. omega arith)
passing_run (suc n) zero (suc long) =
    let c : passing (suc n) (run_turns zero (suc long)) ≡ 1 + passing n (run_turns zero long) =
    passing_first n zero (suc long) zero long true (run_test_in zero (suc long) zero (omega arith) (omega arith))
    (λ k. run_same zero (suc long) (suc k) zero long k (λ h. omega arith) (λ h. omega arith) (λ h. omega arith) (λ h. omega arith)) in
    let i = passing_run n zero long in
    (λ h. omega (arith, c, i.0 (omega arith)), λ h. omega (arith, c, i.1 (omega arith)))

-- ---- a run bit by bit, the bits of the frame counted through both buffers, and how many bits it turns

module _ (m t M col L place long : ℕ) (info red : List ℕ) (e : (run_call m t M col L place long info red).verdict ≡ accepted) where
  abbrev bits : List ℕ
  bits = info ++ red

  left : (run_call m t M col L place long info red).frame.info ++ (run_call m t M col L place long info red).frame.red ≡ turned_where (run_turns place long) bits
  unfolding run_call
  left =
      ap (λ (v : Verdict). (run_by v (frame_of info red) (turned_frame (run_turns place long) (frame_of info red))).frame.info
      ++ (run_by v (frame_of info red) (turned_frame (run_turns place long) (frame_of info red))).frame.red)
      (sym (run_by-verdict (turn_verdict m t M col L info red) (frame_of info red) (turned_frame (run_turns place long) (frame_of info red))) ∙ e)
      ∙ turned_joined (run_turns place long) (frame_of info red)

  bit_of : (k : ℕ) → k < length (info ++ red) → (z : Bool) → run_turns place long k ≡ z
      → get_or ((run_call m t M col L place long info red).frame.info ++ (run_call m t M col L place long info red).frame.red) k 0 ≡ turn z (get_or (info ++ red) k 0)
  bit_of k h z r = ap (λ (l : List ℕ). get_or l k 0) left ∙ turned-at (run_turns place long) bits k h ∙ ap (λ (y : Bool). turn y (get_or bits k 0)) r

  pub run_inside : (k : ℕ) → k < length (info ++ red) → place ≤ k → k < place + long
      → get_or ((run_call m t M col L place long info red).frame.info ++ (run_call m t M col L place long info red).frame.red) k 0 ≡ 1 - get_or (info ++ red) k 0
  run_inside k h i j = bit_of k h true (run_test_in place long k i j)

  pub run_before : (k : ℕ) → k < length (info ++ red) → k < place
      → get_or ((run_call m t M col L place long info red).frame.info ++ (run_call m t M col L place long info red).frame.red) k 0 ≡ get_or (info ++ red) k 0
  run_before k h i = bit_of k h false (run_test_before place long k i)

  pub run_behind : (k : ℕ) → k < length (info ++ red) → place + long ≤ k
      → get_or ((run_call m t M col L place long info red).frame.info ++ (run_call m t M col L place long info red).frame.red) k 0 ≡ get_or (info ++ red) k 0
  run_behind k h i = bit_of k h false (run_test_behind place long k i)

  pub run_count :
      (place + long ≤ length (info ++ red)
      → distance (info ++ red) ((run_call m t M col L place long info red).frame.info ++ (run_call m t M col L place long info red).frame.red) ≡ long)
      × (length (info ++ red) ≤ place + long
      → distance (info ++ red) ((run_call m t M col L place long info red).frame.info ++ (run_call m t M col L place long info red).frame.red) ≡ length (info ++ red) - place)
  run_count =
      let d = ap (distance bits) left ∙ turned-distance (run_turns place long) bits in
      let n = passing_run (length bits) place long in
      (λ h. d ∙ n.0 h, λ h. d ∙ n.1 h)

runs_kept : (v : Verdict) (old new : Frame) → new ≡ old → (run_by v old new).frame ≡ old
runs_kept accepted old new e = e
runs_kept (refused n p) old new e = refl

pub run_past : (m t M col L place long : ℕ) (info red : List ℕ) → length info + length red ≤ place → (run_call m t M col L place long info red).frame ≡ frame_of info red
unfolding run_call
run_past m t M col L place long info red h =
    runs_kept (turn_verdict m t M col L info red) (frame_of info red) (turned_frame (run_turns place long) (frame_of info red))
    (ap₂ frame_of (turned_none (run_turns place long) info (λ k i. run_test_before place long k (omega arith)))
    (turned_none (λ j. run_turns place long (length info + j)) red (λ k i. run_test_before place long (length info + k) (omega arith))))

-- ---- demand 1

abbrev fill_numbers : List ℕ
fill_numbers = 1 ∷ 2 ∷ 3 ∷ 4 ∷ 6 ∷ []

abbrev turn_numbers : List ℕ
turn_numbers = 1 ∷ 2 ∷ 3 ∷ 4 ∷ 6 ∷ 10 ∷ []

fill_by_table : (m t M col L : ℕ) (info : List ℕ) → ByTable fill_numbers (fill_verdict m t M col L info)
unfolding fill_verdict
fill_by_table m t M col L info =
    let v6 : Verdict = length_rule 4 (length info) (info_length (params m t M col) L) in
    by_table_then fill_numbers (design_rules m t M col) (count_rule L then v6) (design-by_table fill_numbers refl refl refl m t M col)
    (λ d. by_table_then fill_numbers (count_rule L) v6 (count-by_table fill_numbers refl L)
    (λ c. length-by_table fill_numbers refl 4 (length info) (info_length (params m t M col) L) (omega arith) (omega arith)))

turn-by_table : (m t M col L : ℕ) (info red : List ℕ) → ByTable turn_numbers (turn_verdict m t M col L info red)
unfolding turn_verdict
turn-by_table m t M col L info red =
    let v6 : Verdict = frame_lengths (params m t M col) L info red in
    let v10 : Verdict = frame_bits info red in
    by_table_then turn_numbers (design_rules m t M col) (count_rule L then v6 then v10) (design-by_table turn_numbers refl refl refl m t M col)
    (λ d. by_table_then turn_numbers (count_rule L) (v6 then v10) (count-by_table turn_numbers refl L)
    (λ c. by_table_then turn_numbers v6 v10 (frame-fits-by_table turn_numbers refl (params m t M col) L info red)
    (λ f. frame-bits-by_table turn_numbers refl info red)))

filled_by-untouched : (v : Verdict) (old new : List ℕ) (s : ℕ) → (filled_by v old new s).verdict ≢ accepted → (filled_by v old new s).info ∷ [] ≡ old ∷ []
filled_by-untouched accepted old new s h = absurd (h refl)
filled_by-untouched (refused n p) old new s h = refl

errors_by-untouched : (v : Verdict) (old new : Frame) (s : ℕ) → (errors_by v old new s).verdict ≢ accepted
    → (errors_by v old new s).frame.info ∷ (errors_by v old new s).frame.red ∷ [] ≡ old.info ∷ old.red ∷ []
errors_by-untouched accepted old new s h = absurd (h refl)
errors_by-untouched (refused n p) old new s h = refl

run_by-untouched : (v : Verdict) (old new : Frame) → (run_by v old new).verdict ≢ accepted
    → (run_by v old new).frame.info ∷ (run_by v old new).frame.red ∷ [] ≡ old.info ∷ old.red ∷ []
run_by-untouched accepted old new h = absurd (h refl)
run_by-untouched (refused n p) old new h = refl

pub fill_demand1 : (m t M col L seed : ℕ) (info : List ℕ)
    → Demand1 (1 ∷ 2 ∷ 3 ∷ 4 ∷ 6 ∷ []) (fill_call m t M col L seed info).verdict (info ∷ []) ((fill_call m t M col L seed info).info ∷ [])
unfolding fill_call
fill_demand1 m t M col L seed info =
    let v : Verdict = fill_verdict m t M col L info in
    record {
      by_table = subst⁻¹ (ByTable fill_numbers) (filled_by-verdict v _ _ _) (fill_by_table m t M col L info);
      untouched = filled_by-untouched v _ _ _;
    }

pub errors_demand1 : (m t M col L seed limit : ℕ) (info red : List ℕ)
    → Demand1 (1 ∷ 2 ∷ 3 ∷ 4 ∷ 6 ∷ 10 ∷ []) (errors_call m t M col L seed limit info red).verdict (info ∷ red ∷ [])
    ((errors_call m t M col L seed limit info red).frame.info ∷ (errors_call m t M col L seed limit info red).frame.red ∷ [])
unfolding errors_call
errors_demand1 m t M col L seed limit info red =
    let v : Verdict = turn_verdict m t M col L info red in
    record {
      by_table = subst⁻¹ (ByTable turn_numbers) (errors_by-verdict v _ _ _) (turn-by_table m t M col L info red);
      untouched = errors_by-untouched v _ _ _;
    }

pub run_demand1 : (m t M col L place long : ℕ) (info red : List ℕ)
    → Demand1 (1 ∷ 2 ∷ 3 ∷ 4 ∷ 6 ∷ 10 ∷ []) (run_call m t M col L place long info red).verdict (info ∷ red ∷ [])
    ((run_call m t M col L place long info red).frame.info ∷ (run_call m t M col L place long info red).frame.red ∷ [])
unfolding run_call
run_demand1 m t M col L place long info red =
    let v : Verdict = turn_verdict m t M col L info red in
    record {
      by_table = subst⁻¹ (ByTable turn_numbers) (run_by-verdict v _ _) (turn-by_table m t M col L info red);
      untouched = run_by-untouched v _ _;
    }

-- ---- rows

pub load_rows : LoadRows
unfolding state_after drawn_bits turned_where tabulate first_where refuse_first size_rule long_rule large_rule design_rules count_rule frame_lengths bit_rule frame_bits fill_verdict turn_verdict fill_call errors_call run_call
load_rows =
    record {
      state1 = refl;
      state2 = refl;
      state3 = refl;
      state4 = refl;
      filled = refl;
      first_draw = refl;
      errors = refl;
      errors_at_limit = refl;
      across = refl;
      cut = refl;
      past = refl;
      short_info = refl;
      short_red = refl;
      info_refused = refl;
      red_refused = refl;
    }
