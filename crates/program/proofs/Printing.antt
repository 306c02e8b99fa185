-- Texts at the start of a lent buffer.
--   printed-text, printed_as            a text that has room
--   printed-refusal .. refused-prints   the lines of a refusal
--   output-printed, output-none         what a program prints, where the buffer is long enough and where it is not
-- Assumes nothing.
use Rattle.std.specs.Prelude.{Err, Result}
use mathlib.Core.Path.{◌≡◌, refl, sym, ◌∙◌}
use mathlib.Core.List.{List}
use Prim.Native.Nat.{ℕ, ◌+◌, ◌≤◌, ◌<◌}
use native.Mathlib.Omega.{arith}
use lib.ListN.{length}
use lib.Seq.{sets, length-sets, length-take-le}
use borrow.Author.Tests.{lt-leb, le-leb}
use Rattle.answers.specs.declared.Refusal.{Refusal}
use Rattle.answers.specs.Answers.{refusal_verdict, verdict_of}
use Rattle.rules_verdict.specs.declared.Judged.{Judged}
use Rattle.rules_verdict.specs.Number.{judged_of}
use Rattle.rules_verdict.proofs.Refused.{refusal_judged}
use Rattle.text.specs.Programs.{refusal_text, printed}
use Rattle.text_lines.proofs.Decimal.{dec-short}
use Rattle.text_lines.proofs.Placing.{refusal_length}
use Rattle.text_write.specs.Room.{puts, after}
use Rattle.text_write.proofs.Room.{puts-room, after-room}
use Rattle.program.specs.Output.{Printed, most-output, Output, output_in, output_length}

-- a text that was written where there is room
pub printed-text : (text t o new : List ℕ) (r : ℕ) → text ≡ t → 0 + length t ≤ length o → r ≡ 0 + length t → new ≡ sets o 0 t → Printed text r o new
printed-text text t o new r e h a b = let z : r ≡ length t = omega arith in record { count = rw e z; within = omega arith; bytes = rw e b }

pub printed_as : (text t o new : List ℕ) (r : ℕ) → text ≡ t → Printed t r o new → Printed text r o new
printed_as text t o new r e p = rw e p

-- a refusal's two lines have at most 56 bytes
pub printed_refusal : (rule place : ℕ) (o new : List ℕ) (r : ℕ) → most-output ≤ length o
    → r ≡ after o 0 (refusal_text rule place) → new ≡ puts o 0 (refusal_text rule place) → Printed (refusal_text rule place) r o new
printed_refusal rule place o new r h a b =
    let t : List ℕ = refusal_text rule place in
    let l = refusal_length rule place in
    let room : 0 + length t ≤ length o = omega (arith, dec-short rule, dec-short place) in
    printed-text t t o new r refl room (a ∙ after-room o 0 t room) (b ∙ puts-room o 0 t room)

-- the lines of a refusal r, where a text would be printed
pub printed-refused : (r : Refusal) (j : Judged) (t o new : List ℕ) (n : ℕ) → j ≡ judged_of (refusal_verdict r) → Printed (refusal_text j.rule j.place) n o new
    → Printed (printed (refusal_verdict r) t) n o new
unfolding printed
printed-refused r j t o new n e p = rw (refusal_judged r j e) p

-- the same for the answer of a check
pub refused-prints : (c : Result Unit Refusal) (r : Refusal) → c ≡ Err r → (t o new : List ℕ) (n : ℕ)
    → Printed (printed (refusal_verdict r) t) n o new → Printed (printed (verdict_of c) t) n o new
unfolding verdict_of
refused-prints c r f t o new n p = rw f p

pub output-printed : (t : List ℕ) (n : ℕ) (old new : List ℕ) → most-output ≤ length old → Printed t n old new → Output t n old new
unfolding output_in output_length
output-printed t n old new h p =
    let e = le-leb most-output (length old) h in
    record {
      count = rw e p.count;
      within = p.within;
      part = sym (length-take-le n new (rw (p.bytes, length-sets old 0 t) p.within));
      bytes = rw e p.bytes;
    }

pub output-none : (t old : List ℕ) → length old < most-output → Output t 0 old old
unfolding output_in output_length
output-none t old h =
    let e = lt-leb most-output (length old) h in
    record { count = rw e; within = omega arith; part = refl; bytes = rw e }
