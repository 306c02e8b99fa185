-- Laws of what the calls tell.
--   design-made, design-refused       a design's answer
--   corrected-left, corrected-told    a call that decodes: the frame that it leaves, and what it tells, whichever numbers of its result
--   show_told                         showing
--   part-block, part-group            what is shown
--   accepted-told, refused-told       a call that tells some numbers, accepted and refused
--   refusal_of                        a refusal as its answer's verdict
--   last_refused, last_passed         the last of some checks
--   pasted_none, pasted_all           a stretch that does not fit, and one that does
-- Assumes nothing.
use Rattle.answers.specs.declared.Counts.{Counts}
use Rattle.std.specs.Prelude.{Err, Ok, Result, IsErr, IsErrAnd}
use mathlib.Core.Path.{◌≡◌, refl, sym, ap, ◌∙◌, subst}
use mathlib.Core.Logic.{◌≢◌}
use mathlib.Core.List.{List, [], ◌∷◌, ◌++◌}
use Prim.Native.Nat.{ℕ, ◌+◌, ◌*◌, ◌≤◌, ◌<◌}
use lib.ListN.{length, drop}
use borrow.Author.Tests.{lt-leb, le-leb, eq-eqb, ne_eqb}
use Rattle.staircase.specs.Design.{params}
use Rattle.staircase.specs.Frame.{Frame}
use Rattle.staircase.specs.Rules.{Verdict, Part, design_rules}
use Rattle.staircase.specs.Calls.{Corrected, Shown}
use Rattle.staircase.specs.Rules.Verdict.{accepted, refused}
use Rattle.staircase.specs.Rules.Part.{block, group}
use Rattle.design.specs.declared.Design.{Design}
use Rattle.answers.specs.declared.Refusal.{Refusal}
use Rattle.design.specs.Answers.{DesignIs}
use Rattle.answers.specs.Answers.{refusal_verdict, refused_frame, corrected_of, verdict_of}
use Rattle.answers.proofs.Checks.{handed_on}
use Rattle.rules_verdict.specs.declared.Judged.{Judged}
use Rattle.rules_verdict.specs.Number.{number, place_of, judged_of, told}
use Rattle.rules_verdict.proofs.Refused.{refusal_whole}
use Rattle.rules_verdict.proofs.Stores.{told_alike, judged-told}
use Rattle.bauchleton.specs.Answers.{design_answer, show_answer, shown_part, pasted, zeros, answer_by}

-- ---- designs

pub design-made : (a : Result Design Refusal) (d : Design) (m t M r n k : ℕ) → a ≡ Ok d → verdict_of a ≡ design_rules m t M 0 → DesignIs a m t M 0
    → r ≡ d.m * d.t → n ≡ 2 * d.size + 2 * (d.m * d.t) → k ≡ 2 * d.size + d.m * d.t
    → (0 ≡ number (design_rules m t M 0)) × (0 ∷ r ∷ n ∷ k ∷ [] ≡ design_answer (design_rules m t M 0) (params m t M 0))
unfolding number design_answer verdict_of DesignIs
design-made a d m t M r n k e v is hr hn hk =
    let w : accepted ≡ design_rules m t M 0 = sym (ap verdict_of e) ∙ v in
    let q : (d.m ≡ m) × (d.t ≡ t) × (d.size ≡ M) × (d.col ≡ 0) = subst (λ (x : Result Design Refusal). DesignIs x m t M 0) e is in
    let em : d.m ≡ m = q.0 in
    let et : d.t ≡ t = q.1 in
    let e_m : d.size ≡ M = q.2 in
    let l : 0 ∷ r ∷ n ∷ k ∷ [] ≡ 0 ∷ (m * t) ∷ (2 * M + 2 * (m * t)) ∷ (2 * M + m * t) ∷ [] = cc in
    (ap number w, l ∙ ap (λ (x : Verdict). design_answer x (params m t M 0)) w)

pub design-refused : (a : Result Design Refusal) (r : Refusal) (m t M : ℕ) → a ≡ Err r → verdict_of a ≡ design_rules m t M 0
    → (number (refusal_verdict r) ≡ number (design_rules m t M 0))
    × (place_of (refusal_verdict r) ∷ 0 ∷ 0 ∷ 0 ∷ [] ≡ design_answer (design_rules m t M 0) (params m t M 0))
unfolding design_answer verdict_of
design-refused a r m t M e v =
    let w : refusal_verdict r ≡ design_rules m t M 0 = sym (ap verdict_of e) ∙ v in
    (ap number w, ap (λ (x : Verdict). design_answer x (params m t M 0)) (sym (refusal_whole r) ∙ w))

-- ---- from what a call answers to what a host is told

-- the frame of the decoder's result is the one that the call leaves
pub corrected-left : (d : Result Counts Refusal) (f : Frame) → (corrected_of d f).frame ≡ f
unfolding corrected_of refused_frame
corrected-left (Ok c) f = refl
corrected-left (Err r) f = refl

pub corrected-told : (answer : Corrected → List ℕ) (l : List ℕ) (d : Result Counts Refusal) {f : Frame} {y : Corrected} {a : ℕ} {k : List ℕ} → corrected_of d f ≡ y
    → (a ≡ number (corrected_of d f).verdict) × (k ≡ told (answer (corrected_of d f)) l)
    → (a ≡ number y.verdict) × (f ≡ y.frame) × (k ≡ told (answer y) l)
corrected-told answer l d {f = f} e h =
    let t = told_alike (λ (z : Corrected). number z.verdict) answer l e h in
    (t.0, sym (corrected-left d f) ∙ ap (λ (z : Corrected). z.frame) e, t.1)

-- ---- calls that tell some numbers

refused-by : (v : Verdict) (l : List ℕ) → v ≢ accepted → place_of v ∷ zeros l ≡ answer_by v l
unfolding place_of answer_by
refused-by accepted l h = absurd (h refl)
refused-by (refused n p) l h = refl

module _ (l old : List ℕ) {a : ℕ} {k : List ℕ} where
  pub accepted-told : {v : Verdict} → accepted ≡ v → (a ≡ 0) × (k ≡ told (0 ∷ l) old) → (a ≡ number v) × (k ≡ told (answer_by v l) old)
  unfolding number answer_by
  accepted-told e h = told_alike number (λ (v : Verdict). answer_by v l) old e h

  -- u is what the code answers
  pub refused-told : (u : Verdict) {v : Verdict} → u ≢ accepted → u ≡ v → (a ≡ number u) × (k ≡ told (place_of u ∷ zeros l) old)
      → (a ≡ number v) × (k ≡ told (answer_by v l) old)
  refused-told u h e t = told_alike number (λ (v : Verdict). answer_by v l) old e (t.0, t.1 ∙ ap (λ (z : List ℕ). told z old) (refused-by u l h))

pub refusal_of : {A : Type 0} {x : Result A Refusal} {r : Refusal} → x ≡ Err r → refusal_verdict r ≡ verdict_of x
unfolding verdict_of
refusal_of e = sym (ap verdict_of e)

-- the last of some checks: x is its answer, and y that of a call which hands it on, or which it lets pass
pub last_refused : {A B : Type 0} (x : Result A Refusal) (y : Result B Refusal) {r : Refusal} {v : Verdict} → x ≡ Err r → verdict_of x ≡ v
    → IsErr y × IsErrAnd y (λ (e : Refusal). e ≡ r) → verdict_of y ≡ v
unfolding verdict_of
last_refused x y e is h = ap verdict_of (handed_on y h.1) ∙ sym (ap verdict_of e) ∙ is

pub last_passed : {A B : Type 0} (x : Result A Refusal) (b : B) {a : A} {v : Verdict} → x ≡ Ok a → verdict_of x ≡ v → verdict_of (Ok b) ≡ v
unfolding verdict_of
last_passed x b e is = sym (ap verdict_of e) ∙ is

-- ---- showing

pub show_told : (shown : Part → Shown) (out l : List ℕ) {p q : Part} {j : Judged} {v : Verdict} {s left k : List ℕ} {a : ℕ} → p ≡ q → v ≡ (shown p).verdict
    → s ≡ (shown p).bits → left ≡ pasted s out → j ≡ judged_of v → (a ≡ j.rule) × (k ≡ told (j.place ∷ length s ∷ []) l)
    → (a ≡ number (shown q).verdict) × (left ≡ pasted (shown q).bits out) × (k ≡ told (show_answer (shown q)) l)
show_told shown out l {q = q} {s = s} e hv hs hp hj h =
    let t = judged-told (length s ∷ []) l (shown q).verdict (hj ∙ ap judged_of (hv ∙ ap (λ (x : Part). (shown x).verdict) e)) h in
    let b = hs ∙ ap (λ (x : Part). (shown x).bits) e in
    (t.0, hp ∙ ap (λ (x : List ℕ). pasted x out) b, t.1 ∙ ap (λ (x : List ℕ). told (place_of (shown q).verdict ∷ length x ∷ []) l) b)

pub part-block : (kind n : ℕ) → kind ≡ 0 → block n ≡ shown_part kind n
unfolding shown_part
part-block kind n e = rw (eq-eqb kind 0 e)

pub part-group : (kind n : ℕ) → kind ≢ 0 → group n ≡ shown_part kind n
unfolding shown_part
part-group kind n h = rw (ne_eqb kind 0 h)

pub pasted_none : (s old : List ℕ) → length old < length s → old ≡ pasted s old
unfolding pasted
pasted_none s old h = rw (lt-leb (length s) (length old) h)

pub pasted_all : (s old : List ℕ) → length s ≤ length old → s ++ drop (length s) old ≡ pasted s old
unfolding pasted
pasted_all s old h = rw (le-leb (length s) (length old) h)
