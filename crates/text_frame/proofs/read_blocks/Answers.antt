-- Rule 12 first, then rule 6, then the bits.
use Rattle.text_items.proofs.Handing.{handed_on}
use Rattle.text_frame.proofs.Answering.{place_told}
use Rattle.text_frame.proofs.Calls.{blocks-refused, blocks-few, blocks-pass, length_due, blocks-length, blocks-filled}
use Rattle.staircase.specs.Design.{most-blocks}
use Rattle.staircase.proofs.Bounds.{small_product}
use native.Mathlib.Omega.{arith}
use lib.ListN.{length}
use Rattle.text_frame.proofs.read_blocks.Goals as goal

pub returns-in_err-n : goal.returns-in_err-n
returns-in_err-n c =
    let told = place_told _ _ c.in_err-n.was _ (handed_on c.from_residual.ensures.1) in
    let t = blocks-refused _ _ _ _ c.area-area.ensures.0 c.judge_blocks.ensures _ _ _ c.in_err-n.was told in
    record { result_value = t.0; count_is = t.1.0; info_after = t.1.1 }

pub overflow_mul-n : goal.overflow_mul-n
overflow_mul-n c =
    let n = c.in_ok-n.n in
    let area = c.area-area.result in
    let few = blocks-few _ _ _ _ c.area-area.ensures.0 c.judge_blocks.ensures n c.in_ok-n.was in
    omega (arith, small_product n area most-blocks 4294967296 few (omega (arith, c.area-area.ensures.1)))

pub returns-in_err-check_length : goal.returns-in_err-check_length
returns-in_err-check_length c =
    let r = handed_on c.from_residual-in_err-check_length.ensures.1 in
    let t =
    blocks-length _ _ _ _ c.area-area.ensures.0 c.judge_blocks.ensures _ c.in_ok-n.was _ _ c.check_length.ensures _ c.in_err-check_length.was _ r
    in
    record { result_value = t.0; count_is = t.1.0; info_after = t.1.1 }

pub fill_lines-requires : goal.fill_lines-requires
fill_lines-requires c =
    let t = c.judge_blocks.ensures in
    let a = c.area-area.ensures.0 in
    let g = c.in_ok-n.was in (
      blocks-few _ _ _ _ a t _ g,
      length_due _ (length c.args.info.now) _ _ c.check_length.ensures c.in_ok-check_length.was,
      blocks-pass _ _ _ _ a t _ g,
    )

pub returns : goal.returns
returns c =
    let t =
    blocks-filled _ _ _ _ c.area-area.ensures.0 c.judge_blocks.ensures _ c.in_ok-n.was _ _ c.check_length.ensures _ _ c.in_ok-check_length.was
    c.fill_lines.ensures
    in
    record { result_value = t.0; count_is = t.1.0; info_after = t.1.1 }
