-- A refusal of rules 4, 17 and 6 is the answer; else that of the rules on what the kit and the information hold.
use mathlib.Core.Path.{◌≡◌, refl, sym, ap, ◌∙◌}
use Prim.Native.Nat.{ℕ, ◌≤◌}
use lib.ListN.{length}
use Rattle.staircase.specs.Design.{most-blocks}
use Rattle.staircase.specs.Batch.{most-frames}
use Rattle.staircase.specs.Rules.{Verdict}
use Rattle.answers.proofs.Checks.{refused_on, passed_then, check_passed}
use Rattle.design.specs.declared.Design.{Design}
use Rattle.design.specs.Sizes.{params_of}
use Rattle.rules.specs.declared.lengths.Lengths.{Lengths}
use Rattle.rules.specs.Lengths.{kit_due, batch_due, batch_size_rules, batch_rules}
use Rattle.rules.proofs.Chain.{batch_where}
use Rattle.encoder_batch.specs.Checks.{frames_rules}
use Rattle.encoder_batch.proofs.BatchCall.{frames-sized}
use Rattle.encoder_batch.proofs.check_frames.Goals as goal

-- by the lengths of a kit, and of the frames beside them
numbers : (d : Design) (L n : ℕ) (have kit due : Lengths) {v : Verdict} → v ≡ batch_size_rules L n have due
    → (L ≤ most-blocks → n ≤ most-frames → due ≡ batch_due (params_of d) L n kit) → kit ≡ kit_due (params_of d) → v ≡ batch_rules (params_of d) L n have (kit_due (params_of d))
numbers d L n have kit due h frames e = h ∙ batch_where (params_of d) L n have kit frames ∙ ap (batch_rules (params_of d) L n have) e

pub returns-in_err-check_batch : goal.returns-in_err-check_batch
unfolding frames_rules
returns-in_err-check_batch c =
    let a = c.args in
    let is = numbers a.d a.blocks a.frames _ _ _ c.in_err-check_batch.ensures c.batch_due-due.ensures c.kit_due.ensures in
    refused_on _ is _ refl c.from_residual.ensures

pub check_content-requires : goal.check_content-requires
check_content-requires c =
    let a = c.args in
    let is = numbers a.d a.blocks a.frames _ _ _ c.in_ok-check_batch.ensures c.batch_due-due.ensures c.kit_due.ensures in
    frames-sized a.d a.blocks a.frames a.own.now a.parity.now a.inverse.now a.info.now a.red.now (length a.work.now) c.requires
    a.work.now refl (sym is ∙ check_passed refl)

pub returns : goal.returns
unfolding frames_rules
returns c =
    let a = c.args in
    let is = numbers a.d a.blocks a.frames _ _ _ c.in_ok-check_batch.ensures c.batch_due-due.ensures c.kit_due.ensures in
    c.check_content.ensures ∙ passed_then _ is refl
