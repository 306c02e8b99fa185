-- Laws of a tally that a host lends as a slice.
--   lent_six, lent_other        the rules of a decode, by the slice's length
--   totals_in                   the totals of a slice of six
--   numbers-low, bytes_late     the decoder's rules up to 6, and those behind them, by their numbers
--   late_verdict, early-verdict   what the code chooses by them
--   tallied, tallied_forty, tallied_other, tallied_is   the call by the working bytes that it lends on, where the slice has six numbers
--   untallied, untallied_forty, untallied_other, untallied_is   and where it has others
--   lent_told                   what a host is told, whatever the report's length
--   report_other, report_six    what a report tells
--   bauchleton_decode_tallied_demand1, bauchleton_report_demand1   demand 1 of both calls
-- Assumes nothing.
use Rattle.answers.specs.declared.Counts as declared
use Rattle.answers.specs.declared.Refusal.{Refusal}
use Rattle.std.specs.Prelude.{Result}
use mathlib.Core.Path.{◌≡◌, refl, sym, ap, ap₂, subst, subst⁻¹, ◌∙◌}
use mathlib.Core.Bool.{Bool, true, false, cond, not, true≢false}
use mathlib.Core.Logic.{◌≢◌}
use mathlib.Core.List.{List, [], ◌∷◌, ◌++◌}
use Prim.Native.Nat.{ℕ, ◌+◌, ◌≤◌, ◌<◌}
use native.Mathlib.Nat.{suc_inj, suc-ne-zero}
use native.Mathlib.Omega.{arith}
use borrow.Author.Tests.{eq-eqb, ne_eqb, lt-ltb, le-ltb, ltb-true, ltb-false}
use lib.Dec.{eqb, ltb}
use lib.ListN.{length, get_or}
use Rattle.staircase.specs.Lists.{first_where}
use Rattle.staircase.specs.Design.{Params, Interleavers, params, order}
use Rattle.staircase.specs.Frame.{Frame, frame_of}
use Rattle.staircase.specs.Rules.{Verdict, ◌then◌, refuse, refuse_first, design_rules, count_rule, rounds_rule, length_rule, list_lengths, frame_lengths, decoder_work, interleavers, bad_entry, list_rule, bit_rule, frame_bits}
use Rattle.staircase.specs.Rules.Verdict.{accepted, refused}
use Rattle.staircase.specs.Calls.{Counts, no_counts, Corrected, corrected_by}
use Rattle.staircase.specs.Tally.{Tally, plus, totals, Decode, call_of, contribution, full_rule, verdict_for, further_call, tally_verdict, tallied_by, Tallied, tally_call}
use Rattle.staircase.specs.Report.{Report, report_call}
use Rattle.staircase.specs.Demand1.{among, ByTable, worked, refused_by}
use Rattle.staircase.specs.Demand1 as table
use Rattle.staircase.proofs.Decoded.{corrected_by-verdict}
use Rattle.staircase.proofs.Demand1.{by_table_then, by_table-refuse, by_table-more, design-by_table, count-by_table, rounds-by_table, length-by_table, lists-fit-by_table, frame-fits-by_table, decode-by_table, corrected_by-untouched}
use Rattle.staircase.proofs.Tally.{full-by_table}
use Rattle.answers.specs.Answers.{corrected_of, refused_frame}
use Rattle.rules.proofs.Chain.{then_assoc}
use Rattle.tally.specs.declared.TallyReport.{TallyReport}
use Rattle.tally.specs.Answers.{report_of}
use Rattle.rules_verdict.specs.Number.{number, place_of, told}
use Rattle.rules_verdict.specs.Demand1.{Demand1C}
use Rattle.rules_verdict.proofs.Demand1.{demand1_number}
use Rattle.rules_verdict.proofs.Stores.{told_alike}
use Rattle.bauchleton.specs.Answers.{corrected_answer}
use Rattle.bauchleton.specs.Report.{numbers_for, bytes_for, report_bytes, lent_length}
use Rattle.bauchleton.specs.LentTally.{tally_in, tally_length, lent_verdict, length_first, LentTally, tally_left, lent_tally_call, reported, report_answer}
use Rattle.bauchleton.proofs.Answers.{corrected-left}
use Rattle.bauchleton.proofs.Demand1.{by_table-first-part, by_table-rest, report-by_table}
use Rattle.bauchleton.proofs.Report.{then_refused, report_forty, report-bytes, decode_parts, lending, OneRule, decode_one, corrected-frame, report-told}

-- ---- the rules

tally_six : (l : List ℕ) → length l ≡ 6 → tally_length l ≡ accepted
tally_six l e = ap (λ (b : Bool). refuse (not b) 6 9) (eq-eqb (length l) 6 e)

tally_other : (l : List ℕ) → length l ≢ 6 → tally_length l ≡ refused 6 9
tally_other l h = ap (λ (b : Bool). refuse (not b) 6 9) (ne_eqb (length l) 6 h)

tally_chain : (y : Tally) (x : Decode) → (verdict_for x then full_rule y) ≡ tally_verdict y x
unfolding tally_verdict
tally_chain y x = refl

module _ (report l : List ℕ) (x : Decode) (forty : length report ≡ 40) where
  pub lent_six : length l ≡ 6 → lent_verdict report l x ≡ tally_verdict (tally_in l) x
  unfolding lent_verdict tally_verdict
  lent_six e =
      report_forty report (numbers_for x) (tally_length l then bytes_for x then full_rule (tally_in l)) forty
      ∙ ap (λ (v : Verdict). numbers_for x then v then bytes_for x then full_rule (tally_in l)) (tally_six l e)
      ∙ sym (then_assoc (numbers_for x) (bytes_for x) (full_rule (tally_in l))) ∙ ap (λ (v : Verdict). v then full_rule (tally_in l)) (sym (decode_parts x))

  pub lent_other : length l ≢ 6 → lent_verdict report l x ≡ (numbers_for x then refused 6 9)
  unfolding lent_verdict
  lent_other h =
      report_forty report (numbers_for x) (tally_length l then bytes_for x then full_rule (tally_in l)) forty
      ∙ ap (λ (v : Verdict). numbers_for x then v then bytes_for x then full_rule (tally_in l)) (tally_other l h)

-- ---- the slice

pub totals_in : (l : List ℕ) → length l ≡ 6 → totals (tally_in l) ≡ l
totals_in (a ∷ b ∷ c ∷ d ∷ e ∷ f ∷ []) h = refl
totals_in [] h = absurd (suc-ne-zero 5 (sym h))
totals_in (a ∷ []) h = absurd (suc-ne-zero 4 (sym (suc_inj h)))
totals_in (a ∷ b ∷ []) h = absurd (suc-ne-zero 3 (sym (suc_inj (suc_inj h))))
totals_in (a ∷ b ∷ c ∷ []) h = absurd (suc-ne-zero 2 (sym (suc_inj (suc_inj (suc_inj h)))))
totals_in (a ∷ b ∷ c ∷ d ∷ []) h = absurd (suc-ne-zero 1 (sym (suc_inj (suc_inj (suc_inj (suc_inj h))))))
totals_in (a ∷ b ∷ c ∷ d ∷ e ∷ []) h = absurd (suc-ne-zero 0 (sym (suc_inj (suc_inj (suc_inj (suc_inj (suc_inj h)))))))
totals_in (a ∷ b ∷ c ∷ d ∷ e ∷ f ∷ g ∷ l) h =
    absurd (suc-ne-zero (length l) (suc_inj (suc_inj (suc_inj (suc_inj (suc_inj (suc_inj h)))))))

left-totals : (v : Verdict) (l : List ℕ) (c : Tally) → length l ≡ 6 → totals (tallied_by v (tally_in l) c) ≡ tally_left v l (plus (tally_in l) c)
left-totals accepted l c e = refl
left-totals (refused n p) l c e = totals_in l e

-- a refused call answers and leaves the same, whatever a decode would have made
lent_by : (v : Verdict) (l : List ℕ) (y : Tally) (f g : Frame) (c : Counts) → v ≢ accepted
    → ◌≡◌ {A = LentTally} (record { corrected = record { verdict = v; frame = f; counts = no_counts }; tally = l })
    (record { corrected = corrected_by v f g c; tally = tally_left v l y })
lent_by accepted l y f g c h = absurd (h refl)
lent_by (refused n p) l y f g c h = refl

left-untouched : (v : Verdict) (l : List ℕ) (y : Tally) → v ≢ accepted → l ≡ tally_left v l y
left-untouched accepted l y h = absurd (h refl)
left-untouched (refused n p) l y h = refl

-- what a call leaves
abbrev Left : Type 0
Left = Frame × List ℕ

abbrev left : LentTally → Left
left z = (z.corrected.frame, z.tally)

-- two refusals by one rule
tallied_alike : (v w : Verdict) (l : List ℕ) (y z : Tally) (f g o : Frame) (c d : Counts) → OneRule v w
    → (number (corrected_by v f g c).verdict ≡ number (corrected_by w f o d).verdict)
    × (◌≡◌ {A = Left} ((corrected_by v f g c).frame, tally_left v l y) ((corrected_by w f o d).frame, tally_left w l z))
tallied_alike accepted w l y z f g o c d h = absurd (h.1 refl)
tallied_alike (refused n p) accepted l y z f g o c d h = absurd (h.2 refl)
tallied_alike (refused n p) (refused k q) l y z f g o c d h = (h.0, refl)

-- ---- rules up to 6, and those behind them

up_to_six : (n : ℕ) → among n (1 ∷ 2 ∷ 3 ∷ 4 ∷ 5 ∷ 6 ∷ []) ≡ true → n ≤ 6
up_to_six n a = by_test (ltb 6 n) refl
  where
    by_test : (b : Bool) → ltb 6 n ≡ b → n ≤ 6
    by_test false e = ltb-false 6 n e
    by_test true e =
        let h : 6 < n = ltb-true 6 n e in
        let none : among n (1 ∷ 2 ∷ 3 ∷ 4 ∷ 5 ∷ 6 ∷ []) ≡ false =
        rw (
          ne_eqb n 1 (λ z. omega arith),
          ne_eqb n 2 (λ z. omega arith),
          ne_eqb n 3 (λ z. omega arith),
          ne_eqb n 4 (λ z. omega arith),
          ne_eqb n 5 (λ z. omega arith),
          ne_eqb n 6 (λ z. omega arith),
        ) in
        absurd (true≢false (sym a ∙ none))

low-number : (v : Verdict) → ByTable (1 ∷ 2 ∷ 3 ∷ 4 ∷ 5 ∷ 6 ∷ []) v → number v ≤ 6
unfolding number
low-number v (worked e) = rw e (omega arith)
low-number v (refused_by n p e a t) = rw e (up_to_six n a)

numbers-low : (x : Decode) → number (numbers_for x) ≤ 6
unfolding numbers_for
numbers-low x =
    let R : List ℕ = 1 ∷ 2 ∷ 3 ∷ 4 ∷ 5 ∷ 6 ∷ [] in
    let s : Params = params x.m x.t x.M x.col in
    let work : Verdict = length_rule 6 x.work (decoder_work s x.L) in
    let frame : Verdict = frame_lengths s x.L x.info x.red in
    let lists : Verdict = list_lengths s x.self x.parity in
    low-number (numbers_for x)
    (by_table_then R (design_rules x.m x.t x.M x.col) (count_rule x.L then rounds_rule x.rounds then lists then frame then work)
    (design-by_table R refl refl refl x.m x.t x.M x.col)
    (λ a. by_table_then R (count_rule x.L) (rounds_rule x.rounds then lists then frame then work) (count-by_table R refl x.L)
    (λ b. by_table_then R (rounds_rule x.rounds) (lists then frame then work) (rounds-by_table R refl x.rounds)
    (λ c. by_table_then R lists (frame then work) (lists-fit-by_table R refl s x.self x.parity)
    (λ d. by_table_then R frame work (frame-fits-by_table R refl s x.L x.info x.red)
    (λ e. length-by_table R refl 6 x.work (decoder_work s x.L) (omega arith) (omega arith)))))))

abbrev Late : Verdict → Type 0
Late v = v ≢ accepted → 6 < number v

late_then : (u v : Verdict) → Late u → Late v → Late (u then v)
late_then accepted v hu hv = hv
late_then (refused n p) v hu hv = hu

late_first : (rule base n : ℕ) (f : ℕ → Bool) → 6 < rule → Late (refuse_first rule base n f)
unfolding refuse_first number
late_first rule base n f h = by_test (ltb (first_where n f) n)
  where
    by_test : (b : Bool) → Late (refuse b rule (base + first_where n f))
    by_test true a = h
    by_test false a = absurd (a refl)

bytes_late : (x : Decode) → Late (bytes_for x)
unfolding bytes_for list_rule frame_bits bit_rule
bytes_late x =
    let s : Params = params x.m x.t x.M x.col in
    let n : ℕ = order s in
    let l : Interleavers = interleavers s x.self x.parity in
    late_then (list_rule s l) (frame_bits x.info x.red)
    (late_then (refuse_first 7 0 n (bad_entry n l.self)) (refuse_first 7 n n (bad_entry n l.parity))
    (late_first 7 0 n (bad_entry n l.self) (omega arith)) (late_first 7 n n (bad_entry n l.parity) (omega arith)))
    (late_then (bit_rule 0 x.info) (bit_rule (length x.info) x.red)
    (late_first 10 0 (length x.info) (λ k. ltb 1 (get_or x.info k 0)) (omega arith))
    (late_first 10 (length x.info) (length x.red) (λ k. ltb 1 (get_or x.red k 0)) (omega arith)))

first-length : (u v : Verdict) → number u ≤ 6 → Late v → length_first ((u then v) then refused 6 9) ≡ (u then refused 6 9)
unfolding length_first number
first-length accepted accepted low late = refl
first-length accepted (refused n p) low late =
    ap (λ (b : Bool). cond b (refused 6 9) (refused n p)) (lt-ltb 6 n (late (λ e. then_refused accepted n p e)))
first-length (refused n p) v low late = ap (λ (b : Bool). cond b (refused 6 9) (refused n p)) (le-ltb 6 n low)

-- the code's choice
pub late_verdict : (v : Verdict) → 6 < number v → refused 6 9 ≡ length_first v
unfolding length_first number
late_verdict accepted h = refl
late_verdict (refused n p) h = sym (ap (λ (b : Bool). cond b (refused 6 9) (refused n p)) (lt-ltb 6 n h))

pub early-verdict : (v : Verdict) → v ≢ accepted → number v ≤ 6 → v ≡ length_first v
unfolding length_first number
early-verdict accepted a h = absurd (a refl)
early-verdict (refused n p) a h = sym (ap (λ (b : Bool). cond b (refused 6 9) (refused n p)) (le-ltb 6 n h))

-- ---- the call, by the working bytes that it lends on

module _ (report l : List ℕ) (x : Decode) where
  abbrev f : Frame
  f = frame_of x.info x.red

  abbrev made : Tally
  made = plus (tally_in l) (contribution x)

  -- with six totals
  abbrev pub tallied : ℕ → LentTally
  tallied n = record { corrected = (tally_call (tally_in l) (lending n x)).corrected; tally = totals (tally_call (tally_in l) (lending n x)).tally }

  pub tallied_forty : length l ≡ 6 → length report ≡ 40 → lent_tally_call report l x ≡ tallied x.work
  unfolding lent_tally_call tally_call further_call
  tallied_forty h forty =
      let v : Verdict = tally_verdict (tally_in l) x in
      sym ((λ i. record { corrected = corrected_by (tally_chain (tally_in l) x i) f (call_of x).frame (call_of x).counts; tally = left-totals v l (contribution x) h i })
      ∙ ap (λ (v : Verdict). record { corrected = corrected_by v f (call_of x).frame (call_of x).counts; tally = tally_left v l made }) (sym (lent_six report l x forty h)))

  pub tallied_other : length l ≡ 6 → length report ≢ 40
      → (number (tallied 0).corrected.verdict ≡ number (lent_tally_call report l x).corrected.verdict) × (left (tallied 0) ≡ left (lent_tally_call report l x))
  unfolding lent_tally_call lent_verdict tally_call further_call tally_verdict bytes_for
  tallied_other h other =
      let y : Tally = tally_in l in
      let z : Decode = lending 0 x in
      let v : Verdict = verdict_for z then full_rule y in
      let a = tallied_alike v (lent_verdict report l x) l (plus y (contribution z)) made f (call_of z).frame (call_of x).frame (call_of z).counts (call_of x).counts
      (decode_one report other x (bytes_for x then full_rule y) (tally_length l then bytes_for x then full_rule y)
      (ap (λ (u : Verdict). u then full_rule y) (decode_parts z) ∙ then_assoc (numbers_for z) (bytes_for x) (full_rule y))) in
      (a.0, ap (λ (k : List ℕ). ((corrected_by v f (call_of z).frame (call_of z).counts).frame, k)) (left-totals v l (contribution z) h) ∙ a.1)

  pub tallied_is : (n : ℕ) (y : Tally) → y ≡ tally_in l → (c : Corrected) (z : Tally) → record { corrected = c; tally = z } ≡ tally_call y (lending n x)
      → (after : List ℕ) → after ≡ totals z → record { corrected = c; tally = after } ≡ tallied n
  tallied_is n y e c z is after put =
      ap (λ (k : List ℕ). record { corrected = c; tally = k }) put
      ∙ ap (λ (r : Tallied). record { corrected = r.corrected; tally = totals r.tally }) (is ∙ ap (λ (u : Tally). tally_call u (lending n x)) e)

  -- with another number of totals
  abbrev pub untallied : ℕ → LentTally
  untallied n = record { corrected = refused_frame (length_first (verdict_for (lending n x) then refused 6 9)) f; tally = l }

  untallied_verdict : (n : ℕ) → length_first (verdict_for (lending n x) then refused 6 9) ≡ (numbers_for (lending n x) then refused 6 9)
  untallied_verdict n =
      let z : Decode = lending n x in
      ap (λ (v : Verdict). length_first (v then refused 6 9)) (decode_parts z) ∙ first-length (numbers_for z) (bytes_for z) (numbers-low z) (bytes_late z)

  pub untallied_forty : length l ≢ 6 → length report ≡ 40 → lent_tally_call report l x ≡ untallied x.work
  unfolding lent_tally_call refused_frame
  untallied_forty h forty =
      ap (λ (v : Verdict). record { corrected = corrected_by v f (call_of x).frame (call_of x).counts; tally = tally_left v l made }) (lent_other report l x forty h)
      ∙ sym (ap (λ (v : Verdict). record { corrected = refused_frame v f; tally = l }) (untallied_verdict x.work)
      ∙ lent_by (numbers_for x then refused 6 9) l made f (call_of x).frame (call_of x).counts (then_refused (numbers_for x) 6 9))

  pub untallied_other : length l ≢ 6 → length report ≢ 40
      → (number (untallied 0).corrected.verdict ≡ number (lent_tally_call report l x).corrected.verdict) × (left (untallied 0) ≡ left (lent_tally_call report l x))
  unfolding lent_tally_call lent_verdict refused_frame
  untallied_other h other =
      let o = decode_one report other x (refused 6 9) (tally_length l then bytes_for x then full_rule (tally_in l)) (untallied_verdict 0) in
      let w : Verdict = lent_verdict report l x in (
        o.0 ∙ ap number (sym (corrected_by-verdict w f (call_of x).frame (call_of x).counts)),
        λ i. (corrected-frame w f (call_of x).frame (call_of x).counts o.2 i, left-untouched w l made o.2 i),
      )

  -- from what the decoder answers
  pub untallied_is : (n : ℕ) (a d : Result declared.Counts Refusal) (g : Frame) → corrected_of a g ≡ further_call (refused 6 9) (lending n x)
      → ((o : Frame) → corrected_of d o ≡ refused_frame (length_first (corrected_of a o).verdict) o) → record { corrected = corrected_of d g; tally = l } ≡ untallied n
  unfolding further_call
  untallied_is n a d g e r =
      let z : Decode = lending n x in
      let v : Verdict = verdict_for z then refused 6 9 in
      let same : g ≡ f =
      sym (corrected-left a g) ∙ ap (λ (c : Corrected). c.frame) e ∙ sym (corrected-frame v f (call_of z).frame (call_of z).counts (then_refused (verdict_for z) 6 9)) in
      let by : (corrected_of a g).verdict ≡ v = ap (λ (c : Corrected). c.verdict) e ∙ corrected_by-verdict v f (call_of z).frame (call_of z).counts in
      ap (λ (c : Corrected). record { corrected = c; tally = l }) (r g ∙ ap₂ (λ (u : Verdict) (o : Frame). refused_frame (length_first u) o) by same)

-- ---- what is told

pub lent_told : (report : List ℕ) (call : ℕ → LentTally) (work : ℕ) (y : LentTally) → (length report ≡ 40 → y ≡ call work)
    → (length report ≢ 40 → (number (call 0).corrected.verdict ≡ number y.corrected.verdict) × (left (call 0) ≡ left y))
    → {n : ℕ} → n ≡ lent_length (length report) work → (d : Result declared.Counts Refusal) {g : Frame} {after : List ℕ} {a : ℕ} {k : List ℕ}
    → record { corrected = corrected_of d g; tally = after } ≡ call n
    → (a ≡ number (corrected_of d g).verdict) × (k ≡ told (report_bytes (corrected_answer (corrected_of d g))) report)
    → (a ≡ number y.corrected.verdict) × (g ≡ y.corrected.frame) × (after ≡ y.tally) × (k ≡ told (report_bytes (corrected_answer y.corrected)) report)
lent_told report call work y forty other e d {g} {after} is h =
    let answer : LentTally → List ℕ = λ z. report_bytes (corrected_answer z.corrected) in
    let t = told_alike (λ (z : LentTally). number z.corrected.verdict) answer report is h in
    let same : (g, after) ≡ left (call _) = ap (λ (o : Frame). (o, after)) (sym (corrected-left d g)) ∙ ap left is in
    let r = report-told (λ (z : LentTally). z.corrected.verdict) left answer
    (λ (z : LentTally). report-bytes (place_of z.corrected.verdict) z.corrected.counts.rounds z.corrected.counts.turned z.corrected.counts.outside
    z.corrected.counts.stuck []) report call work y forty other e (t.0, same, t.1) in
    (r.0, ap (λ (z : Left). z.0) r.1, ap (λ (z : Left). z.1) r.1, r.2)

module _ (l old : List ℕ) {a : ℕ} {k : List ℕ} where
  pub report_other : length l ≢ 6 → (a ≡ 6) × (k ≡ told (9 ∷ 0 ∷ 0 ∷ 0 ∷ 0 ∷ 0 ∷ 0 ∷ 0 ∷ 0 ∷ []) old)
      → (a ≡ number (tally_length l)) × (k ≡ told (report_answer (tally_length l) l) old)
  unfolding number report_answer
  report_other h t = told_alike number (λ (v : Verdict). report_answer v l) old (sym (tally_other l h)) t

  pub report_six : (r : TallyReport) (y : Tally) → length l ≡ 6 → y ≡ tally_in l → report_of r ≡ report_call y → (a ≡ 0) × (k ≡ told (reported (report_of r)) old)
      → (a ≡ number (tally_length l)) × (k ≡ told (report_answer (tally_length l) l) old)
  unfolding number report_answer
  report_six r y h e i t =
      told_alike number (λ (v : Verdict). report_answer v l) old (sym (tally_six l h))
      (t.0, t.1 ∙ ap (λ (z : Report). told (reported z) old) (i ∙ ap report_call e))

-- ---- demand 1

abbrev numbers : List ℕ
numbers = 1 ∷ 2 ∷ 3 ∷ 4 ∷ 5 ∷ 6 ∷ 7 ∷ 10 ∷ 16 ∷ []

tally-length-by_table : (rules : List ℕ) → among 6 rules ≡ true → (l : List ℕ) → ByTable rules (tally_length l)
tally-length-by_table rules h l = by_table-refuse rules (not (eqb (length l) 6)) 6 9 h (λ e. table.tally refl refl)

lent_by_table : (report l : List ℕ) (x : Decode) → ByTable numbers (lent_verdict report l x)
unfolding lent_verdict
lent_by_table report l x =
    let rest : Verdict = tally_length l then bytes_for x then full_rule (tally_in l) in
    let parts : ByTable numbers (numbers_for x then bytes_for x) =
    subst (ByTable numbers) (decode_parts x)
    (by_table-more (1 ∷ 2 ∷ 3 ∷ 4 ∷ 5 ∷ 6 ∷ 7 ∷ 10 ∷ []) (16 ∷ []) (verdict_for x)
    (decode-by_table x.m x.t x.M x.col x.L x.rounds x.self x.parity x.info x.red x.work)) in
    report-by_table numbers refl report (numbers_for x) rest
    (by_table_then numbers (numbers_for x) rest (by_table-first-part numbers (numbers_for x) (bytes_for x) parts)
    (λ e. by_table_then numbers (tally_length l) (bytes_for x then full_rule (tally_in l)) (tally-length-by_table numbers refl l)
    (λ t. by_table_then numbers (bytes_for x) (full_rule (tally_in l)) (by_table-rest numbers (numbers_for x) (bytes_for x) e parts)
    (λ b. full-by_table numbers refl (tally_in l)))))

pub bauchleton_decode_tallied_demand1 : (report l : List ℕ) (x : Decode)
    → Demand1C (1 ∷ 2 ∷ 3 ∷ 4 ∷ 5 ∷ 6 ∷ 7 ∷ 10 ∷ 16 ∷ []) (number (lent_tally_call report l x).corrected.verdict) (place_of (lent_tally_call report l x).corrected.verdict)
    (x.info ∷ x.red ∷ l ∷ [])
    ((lent_tally_call report l x).corrected.frame.info ∷ (lent_tally_call report l x).corrected.frame.red ∷ (lent_tally_call report l x).tally ∷ [])
unfolding lent_tally_call
bauchleton_decode_tallied_demand1 report l x =
    let v : Verdict = lent_verdict report l x in
    let f : Frame = frame_of x.info x.red in
    let e : (corrected_by v f (call_of x).frame (call_of x).counts).verdict ≡ v = corrected_by-verdict v f (call_of x).frame (call_of x).counts in
    demand1_number _ _ _ _
    (record {
      by_table = subst⁻¹ (ByTable numbers) e (lent_by_table report l x);
      untouched =
          λ h. ap₂ (λ (b : List (List ℕ)) (k : List ℕ). b ++ (k ∷ [])) (corrected_by-untouched v f (call_of x).frame (call_of x).counts h)
          (sym (left-untouched v l (plus (tally_in l) (contribution x)) (λ a. h (e ∙ a))));
    })

pub bauchleton_report_demand1 : (l : List ℕ) → Demand1C (6 ∷ []) (number (tally_length l)) (place_of (tally_length l)) [] []
bauchleton_report_demand1 l = demand1_number _ _ _ _ (record { by_table = tally-length-by_table (6 ∷ []) refl l; untouched = λ h. refl })
