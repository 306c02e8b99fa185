-- Document 01, "a definition gives this paper's number and values for each of its cases": what each answer of the code says.
--   refusal_verdict              the table's number and place of a refusal
--   verdict_of                   of a check's answer
--   counted_of                   the verdict and the number of a word checker's answer
--   counts_told                  the counts that a decoder tells
--   refused_frame                the result for a frame that is refused
--   corrected_of                 a decoder's answer and the frame that the call leaves, as its result
--   buffer_result, buffer_decoded the same for the buffer of an original frame
--   written_of                   the answer of an encoder of original frames and the buffer that it leaves
-- Assumes nothing.
use Rattle.std.specs.Prelude.{List, ℕ, Result, Ok, Err}
use Rattle.staircase.specs.Frame.{Frame}
use Rattle.staircase.specs.Rules.{Verdict}
use Rattle.staircase.specs.Rules.Verdict.{accepted, refused}
use Rattle.staircase.specs.Calls.{Counted, Counts, no_counts, Corrected, corrected_by}
use Rattle.original.specs.Frame.{buffer_of}
use Rattle.original.specs.Calls.{Written, CorrectedBuffer}
use Rattle.answers.specs.declared.Refusal.{Refusal}
use Rattle.answers.specs.declared.Refusal.TheVariants.{Size, Long, Large, Count, Rounds, Length, List as NotAList, Spare, Inverse, Bit, Singular, Narrow, Full, Batch, Window, Thin}
use Rattle.answers.specs.declared.Counts as told

unfoldable pub refusal_verdict : Refusal → Verdict
refusal_verdict (Size p) = refused 1 p
refusal_verdict (Long p) = refused 2 p
refusal_verdict (Large p) = refused 3 p
refusal_verdict (Count p) = refused 4 p
refusal_verdict (Rounds p) = refused 5 p
refusal_verdict (Length p) = refused 6 p
refusal_verdict (NotAList p) = refused 7 p
refusal_verdict (Spare p) = refused 8 p
refusal_verdict (Inverse p) = refused 9 p
refusal_verdict (Bit p) = refused 10 p
refusal_verdict (Singular p) = refused 14 p
refusal_verdict (Narrow p) = refused 15 p
refusal_verdict (Full p) = refused 16 p
refusal_verdict (Batch p) = refused 17 p
refusal_verdict (Window p) = refused 18 p
refusal_verdict (Thin p) = refused 19 p

unfoldable pub verdict_of : {A : Type 0} → Result A Refusal → Verdict
verdict_of (Ok x) = accepted
verdict_of (Err r) = refusal_verdict r

-- a refused call counts nothing
unfoldable pub counted_of : Result ℕ Refusal → Counted
counted_of (Ok n) = record { verdict = accepted; outside = n }
counted_of (Err r) = record { verdict = refusal_verdict r; outside = 0 }

abbrev pub counts_told : told.Counts → Counts
counts_told c = record { rounds = c.rounds; turned = c.turned; outside = c.outside; stuck = c.stuck }

unfoldable pub refused_frame : Verdict → Frame → Corrected
refused_frame v f = record { verdict = v; frame = f; counts = no_counts }

unfoldable pub corrected_of : Result told.Counts Refusal → Frame → Corrected
corrected_of (Ok c) f = corrected_by accepted f f (counts_told c)
corrected_of (Err r) f = refused_frame (refusal_verdict r) f

abbrev pub buffer_result : Corrected → CorrectedBuffer
buffer_result c = record { verdict = c.verdict; buffer = c.frame.info; counts = c.counts }

unfoldable pub buffer_decoded : Result told.Counts Refusal → List ℕ → CorrectedBuffer
buffer_decoded a l = buffer_result (corrected_of a (buffer_of l))

abbrev pub written_of : {A : Type 0} → Result A Refusal → List ℕ → Written
written_of c l = record { verdict = verdict_of c; buffer = l }
