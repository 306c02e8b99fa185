-- Document 02, U5: the test load. What its three calls answer and leave, for every argument; the contracts of the crate `load` cite these.
--   next_state, output   a step of the generator, and the bit that a state gives
--   state_after          the state after some steps
--   load_bit             bit k of the information that a seed gives
--   drawn_bits, drawn    the number that some steps from a state give, and that of a draw
--   random_turns         which bits of a frame turn: those whose draw is below a limit
--   run_turns            which bits turn: those of a run
--   turned_where         a list of bits of which those that pass a test are turned
--   turned_frame         the same of a frame, whose bits are counted through both buffers
--   fill_verdict         rules 1 to 4 and 6, of the call that fills
--   turn_verdict         rules 1 to 4, 6 and 10, of the two calls that turn
--   fill_call            filling: its verdict, the information and the last state
--   errors_call          turning by draws: its verdict, both buffers and the last state
--   run_call             turning a run: its verdict and both buffers
-- Assumes nothing.
use Rattle.std.specs.Prelude.{Bool, cond, ◌&&◌, List, ℕ, zero, suc, ◌+◌, ◌-◌, ◌*◌, ◌/◌, ◌%◌, ◌^◌, ltb, leb, length, get_or}
use Rattle.staircase.specs.Lists.{tabulate}
use Rattle.staircase.specs.Design.{params}
use Rattle.staircase.specs.Frame.{Frame, frame_of}
use Rattle.staircase.specs.Rules.{Verdict, ◌then◌, design_rules, count_rule, length_rule, info_length, frame_lengths, frame_bits}
use Rattle.staircase.specs.Rules.Verdict.{accepted, refused}

-- ---- the generator

-- "a 32-bit state s becomes s × 1664525 + 1013904223 modulo 2^32"
abbrev pub next_state : ℕ → ℕ
next_state s = (s * 1664525 + 1013904223) % 2 ^ 32

-- "the new state's highest bit is the output"
abbrev pub output : ℕ → ℕ
output s = s / 2 ^ 31

unfoldable pub state_after : ℕ → ℕ → ℕ
state_after s zero = s
state_after s (suc n) = next_state (state_after s n)

-- "It fills information, a step a bit": bit k is the output of step k + 1
abbrev pub load_bit : ℕ → ℕ → ℕ
load_bit seed k = output (state_after seed (k + 1))

-- the number that n outputs give, "first output highest"
unfoldable pub drawn_bits : ℕ → ℕ → ℕ
drawn_bits s zero = 0
drawn_bits s (suc n) = 2 * drawn_bits s n + output (state_after s (suc n))

-- "one draw of 16 steps per bit"
abbrev pub drawn : ℕ → ℕ
drawn s = drawn_bits s 16

-- ---- the bits that turn

-- "the bit turns when the drawn number is below a given limit"; the draws of k bits, 16 steps each, come before that of bit k
abbrev pub random_turns : ℕ → ℕ → ℕ → Bool
random_turns seed limit k = ltb (drawn (state_after seed (16 * k))) limit

-- "a run of given length from a given place"
abbrev pub run_turns : ℕ → ℕ → ℕ → Bool
run_turns place long k = leb place k && ltb k (place + long)

-- only bits that are there turn: "cut at the frame's end; a place past the end turns none"
unfoldable pub turned_where : (ℕ → Bool) → List ℕ → List ℕ
turned_where test l = tabulate (length l) (λ k. cond (test k) (1 - get_or l k 0) (get_or l k 0))

-- "Bits are taken in buffer order, information before redundancy": bit j of the redundancy has the number `length info + j`
abbrev pub turned_frame : (ℕ → Bool) → Frame → Frame
turned_frame test f = frame_of (turned_where test f.info) (turned_where (λ j. test (length f.info + j)) f.red)

-- ---- the calls

-- "Rules 1 to 4, 6 and 10 apply, 10 in the two modes that turn bits"; filling is lent the information alone, place 4 of rule 6
unfoldable pub fill_verdict : ℕ → ℕ → ℕ → ℕ → ℕ → List ℕ → Verdict
fill_verdict m t M col L info = design_rules m t M col then count_rule L then length_rule 4 (length info) (info_length (params m t M col) L)

-- "over the whole frame"
unfoldable pub turn_verdict : ℕ → ℕ → ℕ → ℕ → ℕ → List ℕ → List ℕ → Verdict
turn_verdict m t M col L info red = design_rules m t M col then count_rule L then frame_lengths (params m t M col) L info red then frame_bits info red

pub record Filled : Type 0 where
  pub verdict : Verdict
  pub info : List ℕ
  pub state : ℕ

-- "lent buffers stay untouched"; a refused call has no last state, and 0 stands for it
abbrev pub filled_by : Verdict → List ℕ → List ℕ → ℕ → Filled
filled_by accepted old new s = record { verdict = accepted; info = new; state = s }
filled_by (refused n p) old new s = record { verdict = refused n p; info = old; state = 0 }

-- "The first two modes each start from a given state, the seed, and return the last one."
unfoldable pub fill_call : ℕ → ℕ → ℕ → ℕ → ℕ → ℕ → List ℕ → Filled
fill_call m t M col L seed info = filled_by (fill_verdict m t M col L info) info (tabulate (length info) (load_bit seed)) (state_after seed (length info))

pub record WithErrors : Type 0 where
  pub verdict : Verdict
  pub frame : Frame
  pub state : ℕ

abbrev pub errors_by : Verdict → Frame → Frame → ℕ → WithErrors
errors_by accepted old new s = record { verdict = accepted; frame = new; state = s }
errors_by (refused n p) old new s = record { verdict = refused n p; frame = old; state = 0 }

-- every bit takes its 16 steps, whether it turns or not
unfoldable pub errors_call : ℕ → ℕ → ℕ → ℕ → ℕ → ℕ → ℕ → List ℕ → List ℕ → WithErrors
errors_call m t M col L seed limit info red =
    errors_by (turn_verdict m t M col L info red) (frame_of info red) (turned_frame (random_turns seed limit) (frame_of info red))
    (state_after seed (16 * (length info + length red)))

pub record WithRun : Type 0 where
  pub verdict : Verdict
  pub frame : Frame

abbrev pub run_by : Verdict → Frame → Frame → WithRun
run_by accepted old new = record { verdict = accepted; frame = new }
run_by (refused n p) old new = record { verdict = refused n p; frame = old }

-- "A third mode turns a run of given length from a given place"
unfoldable pub run_call : ℕ → ℕ → ℕ → ℕ → ℕ → ℕ → ℕ → List ℕ → List ℕ → WithRun
run_call m t M col L place long info red =
    run_by (turn_verdict m t M col L info red) (frame_of info red) (turned_frame (run_turns place long) (frame_of info red))
