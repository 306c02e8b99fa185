-- Laws of numbers stored into a lent slice.
--   told_other    a slice of another length is left as it was
--   told-all      the stores into a slice of as many entries
--   told_all      a place and numbers copied behind it, likewise
--   told_alike    equal answers are told alike
--   judged-told   a verdict's rule and place, with whatever else is told
-- Assumes nothing.
use mathlib.Core.Path.{◌≡◌, sym, ap, ◌∙◌}
use mathlib.Core.Bool.{Bool, cond}
use mathlib.Core.Logic.{◌≢◌}
use mathlib.Core.List.{List, [], ◌∷◌}
use Prim.Native.Nat.{ℕ, ◌+◌, ◌-◌}
use native.Mathlib.Omega.{arith}
use borrow.Rule.Slice.PartMut.{put_mid}
use lib.ListN.{length, set}
use lib.Seq.{drop-length, sets, sets-eq}
use Rattle.std.proofs.lemmas.List.{append-nil}
use borrow.Author.Tests.{eq-eqb, ne_eqb}
use Rattle.staircase.specs.Rules.{Verdict}
use Rattle.staircase.proofs.Fill.{front-all}
use Rattle.rules_verdict.specs.declared.Judged.{Judged}
use Rattle.rules_verdict.specs.Number.{number, place_of, judged_of, told}

pub told_other : (new old : List ℕ) → length old ≢ length new → old ≡ told new old
unfolding told
told_other new old h = rw (ne_eqb (length old) (length new) h)

pub told-all : (new old after : List ℕ) → length old ≡ length new → after ≡ sets old 0 new → after ≡ told new old
unfolding told
told-all new old after e h =
    h ∙ sets-eq new old 0 (omega arith) ∙ front-all new old (0 + length new) (omega arith)
    ∙ sym (ap (λ (b : Bool). cond b new old) (eq-eqb (length old) (length new) e))

pub told_all : (place : ℕ) (numbers old : List ℕ) → length old ≡ length numbers + 1
    → put_mid 1 (length (set old 0 place) - 1) (set old 0 place) numbers ≡ told (place ∷ numbers) old
unfolding told
told_all place numbers [] e = absurd (omega arith)
told_all place numbers (x ∷ xs) e =
    let n : length (x ∷ xs) - 1 ≡ length xs = omega arith in
    rw (n, drop-length xs, append-nil numbers, eq-eqb (length (x ∷ xs)) (length (place ∷ numbers)) (omega arith))

pub told_alike : {A : Type 0} (rule : A → ℕ) (answer : A → List ℕ) (l : List ℕ) {x y : A} {n : ℕ} {k : List ℕ} → x ≡ y
    → (n ≡ rule x) × (k ≡ told (answer x) l) → (n ≡ rule y) × (k ≡ told (answer y) l)
told_alike {A} rule answer l e (hn, hk) = (hn ∙ ap rule e, hk ∙ ap (λ (z : A). told (answer z) l) e)

pub judged-told : (rest l : List ℕ) (v : Verdict) {j : Judged} {n : ℕ} {k : List ℕ} → j ≡ judged_of v → (n ≡ j.rule) × (k ≡ told (j.place ∷ rest) l)
    → (n ≡ number v) × (k ≡ told (place_of v ∷ rest) l)
judged-told rest l v e h = told_alike (λ (x : Judged). x.rule) (λ (x : Judged). x.place ∷ rest) l e h
