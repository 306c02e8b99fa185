-- Rounds over all lines of a frame whose redundancy is empty.
use native.Mathlib.Omega.{arith}
use mathlib.Core.List.{[]}
use Rattle.original_decoder.proofs.Rounds.{row_lines, rows_fit, kept_frame, rounds_back}
use Rattle.original_decoder.proofs.run_rounds.Goals as goal

pub run_rounds-requires : goal.run_rounds-requires
run_rounds-requires c =
    let a = c.args in
    let p = c.requires in
    let B = p.1.frame in
    (record { fits = rows_fit a.d [] B.allowed B.few-blocks; word-tables = p.0 }, omega (arith, row_lines a.blocks), p.2, p.3, kept_frame a.d a.blocks [] p.1)

pub returns : goal.returns
returns c =
    let a = c.args in
    let B = c.requires.1.frame in
    let made = c.run_rounds in
    let v = made.ensures in
    let m = made.new in
    rounds_back a.d a.blocks a.limit [] a.buffer.now a.kept.now m.info m.red m.kept
    made.result B.allowed B.few-blocks v.0 v.1 v.2 v.5
