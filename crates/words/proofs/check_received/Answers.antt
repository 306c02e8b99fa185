-- A refusal of rules 4 to 6 is the answer; else that of rules 7 and 10.
use mathlib.Core.Path.{◌≡◌, refl, sym, ◌∙◌}
use mathlib.Core.List.{[]}
use Prim.Native.Nat.{◌-◌}
use native.Mathlib.Omega.{arith}
use lib.ListN.{length}
use lib.Seq.{length-take-le}
use Rattle.design.specs.Sizes.{params_of}
use Rattle.answers.proofs.Checks.{refused_on, passed_then, check_passed}
use Rattle.rules.specs.Lengths.{lengths_of, frame_due}
use Rattle.rules.proofs.Chain.{frame_where}
use Rattle.rules.proofs.Accepted.{frame-accepted, frame_small}
use Rattle.words.specs.Checks.{received_rules}
use Rattle.words.proofs.check_received.Goals as goal

pub returns-in_err-check_frame : goal.returns-in_err-check_frame
unfolding received_rules
returns-in_err-check_frame c =
    let a = c.args in
    let have = lengths_of a.own.now a.parity.now [] a.info.now a.red.now (length a.work.now) in
    let is = c.in_err-check_frame.ensures ∙ frame_where (params_of a.d) a.asked.blocks a.asked.rounds have a.asked.due c.frame_due-due.ensures in
    refused_on _ is _ refl c.from_residual.ensures

pub slice_bounds-check_bytes-end-2 : goal.slice_bounds-check_bytes-end-2
unfolding frame_due
slice_bounds-check_bytes-end-2 c =
    let a = c.args in
    let have = lengths_of a.own.now a.parity.now [] a.info.now a.red.now (length a.work.now) in
    let is = c.in_ok-check_frame.ensures ∙ frame_where (params_of a.d) a.asked.blocks a.asked.rounds have a.asked.due c.frame_due-due.ensures in
    let n = frame-accepted (params_of a.d) a.asked.blocks a.asked.rounds have a.asked.due (sym is ∙ check_passed refl) in
    let work : length a.work.now ≡ a.asked.due.work = n.3.5 in
    let lists = c.requires.1 n.1 in
    omega (arith, work, lists.3, c.order-n.ensures.0)

pub check_bytes-requires : goal.check_bytes-requires
unfolding frame_due
check_bytes-requires c =
    let order = c.order-n in
    let pre = c.requires in
    let a = c.args in
    let have = lengths_of a.own.now a.parity.now [] a.info.now a.red.now (length a.work.now) in
    let is = c.in_ok-check_frame.ensures ∙ frame_where (params_of a.d) a.asked.blocks a.asked.rounds have a.asked.due c.frame_due-due.ensures in
    let n = frame-accepted (params_of a.d) a.asked.blocks a.asked.rounds have a.asked.due (sym is ∙ check_passed refl) in
    let lists = pre.1 n.1 in
    let work : length a.work.now ≡ a.asked.due.work = n.3.5 in
    let marks = length-take-le (order.result - 0) a.work.now (omega (arith, work, lists.3, order.ensures.0)) in
    record {
      allowed = pre.0;
      own_length = n.3.0 ∙ lists.0;
      parity_length = n.3.1 ∙ lists.1;
      inverse_length = λ l. absurd (omega arith);
      frame_small = frame_small a.d a.asked.blocks (length a.info.now) (length a.red.now) pre.0 n.1 n.3.3 n.3.4;
      marks_length = marks ∙ omega (arith, order.ensures.0);
    }

pub returns : goal.returns
unfolding received_rules
returns c =
    let a = c.args in
    let have = lengths_of a.own.now a.parity.now [] a.info.now a.red.now (length a.work.now) in
    let is = c.in_ok-check_frame.ensures ∙ frame_where (params_of a.d) a.asked.blocks a.asked.rounds have a.asked.due c.frame_due-due.ensures in
    c.check_bytes.ensures ∙ passed_then _ is refl
