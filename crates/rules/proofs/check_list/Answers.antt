use mathlib.Core.Path.{◌≡◌, sym, ◌∙◌}
use mathlib.Core.Bool.{false}
use native.Mathlib.Omega.{arith}
use lib.ListN.{length, get_or, replicate, length-set}
use borrow.Author.Count.{below_more}
use Rattle.staircase.specs.Rules.{entries, bad_entry}
use Rattle.staircase.proofs.Rules.{refuse_first-accepted, refuse_first-refused}
use Rattle.rules.proofs.Entries.{entry-at, marked_none, marked_more, too_high, repeated, new_entry}
use Rattle.answers.specs.Answers.{refusal_verdict, verdict_of}
use Rattle.rules.proofs.check_list.Goals as goal

pub loop-p-init : goal.loop-p-init
loop-p-init c =
    let a = c.args in
    let k : length a.marks.now ≡ a.n = omega arith in
    let e : c.fill.new.self ≡ replicate a.n 0 = rw k at (c.fill.ensures.after (λ y e. e)) in
    (omega arith, omega arith, rw e (marked_none (entries a.n a.list.now) a.n), λ k h. absurd (omega arith))

pub entry-e-requires : goal.entry-e-requires
entry-e-requires c = omega arith

pub overflow_add-place : goal.overflow_add-place
overflow_add-place c = omega arith

pub shape_of-marks-then-n-e : goal.shape_of-marks-then-n-e
shape_of-marks-then-n-e c = omega arith

pub returns-then-n-e : goal.returns-then-n-e
unfolding verdict_of refusal_verdict
returns-then-n-e c =
    let a = c.args in
    let l = c.loop-p in
    let b = entries a.n a.list.now in
    let e : c.entry-e.result ≡ get_or b l.p 0 =
    c.entry-e.ensures.0 ∙ entry-at a.n a.list.now l.p (omega arith) in
    refuse_first-refused 7 a.base a.n (bad_entry a.n b) l.p (omega arith) l.invariant.3 (too_high b a.n l.p (omega arith))

pub bounds-marks-e : goal.bounds-marks-e
bounds-marks-e c = omega arith

pub shape_of-marks-then-marks-e-ne0 : goal.shape_of-marks-then-marks-e-ne0
shape_of-marks-then-marks-e-ne0 c = omega arith

pub returns-then-marks-e-ne0 : goal.returns-then-marks-e-ne0
unfolding verdict_of refusal_verdict
returns-then-marks-e-ne0 c =
    let a = c.args in
    let l = c.loop-p in
    let b = entries a.n a.list.now in
    let e : c.entry-e.result ≡ get_or b l.p 0 =
    c.entry-e.ensures.0 ∙ entry-at a.n a.list.now l.p (omega arith) in
    refuse_first-refused 7 a.base a.n (bad_entry a.n b) l.p (omega arith) l.invariant.3
    (repeated b a.n l.marks l.p l.invariant.2 (omega arith) (rw e at c.if-marks-e-ne0.true))

pub bounds-marks-e-in-loop-p : goal.bounds-marks-e-in-loop-p
bounds-marks-e-in-loop-p c = omega arith

pub overflow_step-p : goal.overflow_step-p
overflow_step-p c = omega arith

pub loop-p-smaller : goal.loop-p-smaller
loop-p-smaller c = omega arith

pub loop-p-preserved : goal.loop-p-preserved
loop-p-preserved c =
    let a = c.args in
    let l = c.loop-p in
    let b = entries a.n a.list.now in
    let e : c.entry-e.result ≡ get_or b l.p 0 =
    c.entry-e.ensures.0 ∙ entry-at a.n a.list.now l.p (omega arith) in (
      omega arith,
      simp length-set (omega arith),
      rw e (marked_more b a.n l.marks l.p l.invariant.2 (omega arith)),
      below_more (λ k. bad_entry a.n b k ≡ false) l.p l.invariant.3
          (new_entry b a.n l.marks l.p l.invariant.2 (omega arith) (rw e at c.if-marks-e-ne0.false)),
    )

pub shape_of-marks : goal.shape_of-marks
shape_of-marks c = omega arith

pub returns : goal.returns
unfolding verdict_of refusal_verdict
returns c =
    let a = c.args in
    let l = c.loop-p in
    let b = entries a.n a.list.now in
    sym (refuse_first-accepted 7 a.base a.n (bad_entry a.n b) (λ k h. l.invariant.3 k (omega arith)))
