-- Document 02, U11: a window of V groups slides over a frame. Positions are counted from 0, as groups are: the window that p positions precede begins at
-- document 02's group p + 1.
--   most-window      the limit
--   window_rule       rule 18
--   positions        how many positions a window has
--   window_groups     how many groups stand in it
--   window_words      their words
--   slide            rounds at each position, one position after the other
--   slide_stuck       the stuck verdicts of the last of the rounds at a position
--   windowed         the rounds of a frame under a window
--   window_stuck      the stuck verdicts of the last round at the last position
--   window_counts     what is counted
--   window_verdict    rules 1 to 5, 18, 6, 7 and 10
--   window_call       the decoder under a window: its verdict, both buffers and the counts
--   decode_window     the same under a kit, with the working bytes that it wants
-- Assumes nothing.
use Rattle.std.specs.Prelude.{List, ℕ, zero, suc, ◌+◌, ◌-◌, ◌*◌}
use Rattle.staircase.specs.Design.{Params, Interleavers, params}
use Rattle.staircase.specs.Frame.{Frame, Word, groups, outside}
use Rattle.staircase.specs.LineErrors.{line_errors}
use Rattle.staircase.specs.Lines.{words_from}
use Rattle.staircase.specs.Decoder.{Decoded, run_each, rounds_allowed}
use Rattle.staircase.specs.Outcomes.{last_stuck}
use Rattle.staircase.specs.Rules.{Verdict, ◌then◌, refuse, out_of_range, design_rules, count_rule, rounds_rule, length_rule, list_lengths, frame_lengths, decoder_work, interleavers, list_rule, frame_bits}
use Rattle.staircase.specs.Calls.{Counts, Corrected, corrected_by}
use Rattle.staircase.specs.Demand3.{Kit, sizes}

abbrev pub most-window : ℕ
most-window = 64

-- "18 window, after 5, when V is 0 or above 64; the place is V"
unfoldable pub window_rule : ℕ → Verdict
window_rule v = refuse (out_of_range 1 most-window v) 18 v

-- "positions run from group 1 to the larger of 1 and G - V + 1"; G - v is 0 where v is at least G
abbrev pub positions : ℕ → ℕ → ℕ
positions G v = suc (G - v)

-- V, or all G where there are fewer: so no position reaches past the last group
abbrev pub window_groups : ℕ → ℕ → ℕ
window_groups G v = G - (G - v)

-- a group has two lines
abbrev pub window_words : Params → Interleavers → ℕ → ℕ → ℕ → List Word
window_words s l L v p = words_from s l L (2 * p) (2 * window_groups (groups L) v)

-- "Each position makes rounds over its groups, up to the number allowed, ending early after one with no turn", "Rounds are summed over positions": k
-- rounds at each of n positions
unfoldable pub slide : (ℕ → List Word) → ℕ → ℕ → Frame → Decoded
slide window zero k f = record { frame = f; rounds = 0; flips = 0 }
slide window (suc n) k f =
    let before : Decoded = slide window n k f in
    let here : Decoded = run_each (window n) k before.frame in
    record { frame = here.frame; rounds = before.rounds + here.rounds; flips = before.flips + here.flips }

-- of the last of the rounds at the position that n positions precede
unfoldable pub slide_stuck : (ℕ → List Word) → ℕ → ℕ → Frame → ℕ
slide_stuck window n k f = last_stuck (window n) k (slide window n k f).frame

unfoldable pub windowed : Params → Interleavers → ℕ → ℕ → ℕ → Frame → Decoded
windowed s l L v k f = slide (window_words s l L v) (positions (groups L) v) (rounds_allowed k) f

-- "The stuck verdicts are those of the last round at the last position"
unfoldable pub window_stuck : Params → Interleavers → ℕ → ℕ → ℕ → Frame → ℕ
window_stuck s l L v k f = slide_stuck (window_words s l L v) (groups L - v) (rounds_allowed k) f

-- line errors and words outside of the whole frame at the end
unfoldable pub window_counts : Params → Interleavers → ℕ → ℕ → ℕ → Frame → Counts
window_counts s l L v k f =
    let d : Decoded = windowed s l L v k f in
    record { rounds = d.rounds; turned = line_errors f d.frame; outside = outside s l L d.frame; stuck = window_stuck s l L v k f }

unfoldable pub window_verdict : ℕ → ℕ → ℕ → ℕ → ℕ → ℕ → ℕ → List ℕ → List ℕ → List ℕ → List ℕ → ℕ → Verdict
window_verdict m t M col L k v self parity info red work =
    let s : Params = params m t M col in
    design_rules m t M col then count_rule L then rounds_rule k then window_rule v
    then list_lengths s self parity then frame_lengths s L info red then length_rule 6 work (decoder_work s L)
    then list_rule s (interleavers s self parity) then frame_bits info red

unfoldable pub window_call : ℕ → ℕ → ℕ → ℕ → ℕ → ℕ → ℕ → List ℕ → List ℕ → List ℕ → List ℕ → ℕ → Corrected
window_call m t M col L k v self parity info red work =
    let s : Params = params m t M col in
    let l : Interleavers = interleavers s self parity in
    let f : Frame = record { info = info; red = red } in
    corrected_by (window_verdict m t M col L k v self parity info red work) f (windowed s l L v k f).frame (window_counts s l L v k f)

abbrev pub decode_window : Kit → ℕ → ℕ → ℕ → Frame → Corrected
decode_window K L k v f = window_call K.m K.t K.M K.col L k v K.self K.parity f.info f.red (decoder_work (sizes K) L)
