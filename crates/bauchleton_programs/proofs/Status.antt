-- The exit status of what was printed.
--   output-part       what a program wrote to the start of a buffer, as the part of it that is printed
--   ends              a status is 0, 1 or 2
--   exits, exits_most its status is that of the program's verdict; it is 0, 1 or 2
--   first_letter, status_none, status_refused, status_other   the status of an output by its first letter
-- Assumes nothing.
use mathlib.Core.Path.{◌≡◌, refl, sym, ap, subst, ◌∙◌}
use mathlib.Core.Logic.{inl, inr}
use mathlib.Core.List.{List, [], ◌∷◌}
use Prim.Native.Nat.{ℕ, ◌+◌, ◌≤◌}
use native.Mathlib.Nat.{suc-ne-zero}
use native.Mathlib.Omega.{arith}
use borrow.Author.Tests.{le-leb}
use lib.Dec.{eqb}
use mathlib.Core.Bool.{true, false}
use denote.Bor.{Bor}
use Rattle.std.specs.Prelude.{Option, None, Some, slice_get}
use Rattle.std.specs.Option.{option_copied, option_eq}
use Rattle.bauchleton_programs.specs.declared.Exit.TheVariants.{Printed, Refused, Failed}
use Rattle.bauchleton_programs.specs.declared.Exit.{Exit}
use lib.ListN.{length, get_or, take, drop}
use lib.Seq.{sets, sets-eq, take_at}
use Rattle.staircase.specs.Rules.{Verdict}
use Rattle.staircase.specs.Rules.Verdict.{accepted, refused}
use Rattle.text.specs.ExitStatus.{verdict_status, refusal_letter, output_status}
use Rattle.program.specs.Output.{most-output, output_in, output_length, Output}
use Rattle.bauchleton_programs.specs.Exit.{status_of, failed, OrFailed, Exits}

output-whole : (t : List ℕ) (n : ℕ) (old new : List ℕ) → most-output ≤ length old → Output t n old new → (n ≡ length t) × (new ≡ sets old 0 t)
unfolding output_in output_length
output-whole t n old new h o =
    let e = le-leb most-output (length old) h in
    (o.count ∙ rw e, o.bytes ∙ rw e)

pub output-part : (t : List ℕ) (n : ℕ) (old new : List ℕ) → most-output ≤ length old → Output t n old new → take n new ≡ t
output-part t n old new h o =
    let whole = output-whole t n old new h o in
    let room : 0 + length t ≤ length old = omega (arith, whole.0, o.within) in
    ap (take n) (whole.1 ∙ sets-eq t old 0 room) ∙ take_at t (drop (0 + length t) old) n (sym whole.0)

pub exits : (v : Verdict) (t : List ℕ) (n : ℕ) (old new : List ℕ) (status : ℕ) → output_status t ≡ verdict_status v → most-output ≤ length old
    → Output t n old new → OrFailed (output_status (take n new)) status → Exits v status
exits v t n old new status e h o s = subst (λ (x : ℕ). OrFailed x status) (ap output_status (output-part t n old new h o) ∙ e) s

pub exits_most : (v : Verdict) (status : ℕ) → Exits v status → status ≤ failed
unfolding verdict_status
exits_most accepted status (inl e) = omega (arith, e)
exits_most (refused n p) status (inl e) = omega (arith, e)
exits_most v status (inr e) = omega (arith, e)

pub ends : (x : Exit) → status_of x ≤ failed
unfolding status_of
ends Printed = omega arith
ends Refused = omega arith
ends Failed = omega arith

-- ---- an output by its first letter

pub first_letter : (out : List ℕ) (o : Option (Bor ℕ)) (letter : Bor ℕ) → letter.now ≡ refusal_letter → option_copied o ≡ slice_get out 0
    → option_eq (λ (x y : Bor ℕ). eqb x.now y.now) o (Some letter) ≡ eqb (get_or out 0 0) refusal_letter
first_letter [] None letter d e = refl
first_letter [] (Some x) letter d e = cc
first_letter (b ∷ bs) None letter d e = cc
first_letter (b ∷ bs) (Some x) letter d e = let f : x.now ≡ b = cc in rw (f, d)

pub status_none : (out : List ℕ) → length out ≡ 0 → 0 ≡ output_status out
unfolding output_status
status_none [] e = refl
status_none (b ∷ bs) e = absurd (suc-ne-zero (length bs) e)

pub status_refused : (out : List ℕ) → eqb (get_or out 0 0) refusal_letter ≡ true → status_of Refused ≡ output_status out
unfolding output_status status_of
status_refused out e = rw e

pub status_other : (out : List ℕ) → eqb (get_or out 0 0) refusal_letter ≡ false → status_of Printed ≡ output_status out
unfolding output_status status_of
status_other out e = rw e
