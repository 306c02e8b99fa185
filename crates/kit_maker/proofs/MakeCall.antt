-- What the maker's steps answer and leave is what the call does.
--   made-refused       a refusal that is handed on leaves the inverse's buffer
--   make_sized         the slices' lengths, once rule 6 accepts
--   call_refused, call_lengths, call_made   the call at a design that is refused, at a refused length, and after both
-- Assumes nothing.
use Rattle.std.specs.Prelude.{Err, Ok, Result, IsErr, IsErrAnd}
use mathlib.Core.Path.{◌≡◌, refl, ap, ◌∙◌}
use mathlib.Core.Logic.{◌≢◌}
use mathlib.Core.List.{List, []}
use Prim.Native.Nat.{ℕ}
use lib.ListN.{length}
use Rattle.staircase.specs.Design.{Params, params}
use Rattle.staircase.specs.Rules.{Verdict, ◌then◌, design_rules, list_rule, interleavers}
use Rattle.staircase.specs.Rules.Verdict.{accepted, refused}
use Rattle.staircase.specs.Maker.{singular_rule, make_verdict, made_by, make_call}
use Rattle.answers.specs.declared.Refusal.{Refusal}
use Rattle.design.specs.declared.Design.{Design}
use Rattle.design.specs.Sizes.{params_of, lists_of}
use Rattle.design.specs.Answers.{DesignIs, Allowed}
use Rattle.design.proofs.Answers.{made-params, made-design}
use Rattle.rules.specs.Lengths.{lengths_of, lengths_rule, make_due}
use Rattle.rules.proofs.Chain.{make_lengths_rule}
use Rattle.rules.proofs.Accepted.{lengths_equal}
use Rattle.kit_maker.specs.Making.{MakeSized, new_inverse}
use Rattle.answers.specs.Answers.{verdict_of}
use Rattle.answers.proofs.Checks.{handed_on, refused_on, check_refused}

left_as_it_was : (v : Verdict) (old new : List ℕ) → v ≢ accepted → old ≡ (made_by v old new).inverse
left_as_it_was accepted old new h = absurd (h refl)
left_as_it_was (refused n p) old new h = refl

pub made-refused : (x : Result Unit Refusal) (r : Refusal) → IsErr x × IsErrAnd x (λ (e : Refusal). e ≡ r) → (old new : List ℕ)
    → old ≡ (made_by (verdict_of x) old new).inverse
made-refused x r h old new = left_as_it_was (verdict_of x) old new (check_refused (handed_on x h.1))

made-verdict : (v : Verdict) (old new : List ℕ) → v ≡ (made_by v old new).verdict
made-verdict accepted old new = refl
made-verdict (refused n p) old new = refl

pub make_sized : (d : Design) (own parity old work : List ℕ) → Allowed d
    → lengths_rule (lengths_of own parity old [] [] (length work)) (make_due (params_of d)) ≡ accepted → MakeSized d own parity old work
unfolding make_due
make_sized d own parity old work allowed e =
    let n = lengths_equal (lengths_of own parity old [] [] (length work)) (make_due (params_of d)) e in
    record { allowed = allowed; own_length = n.0; parity_length = n.1; inverse_length = n.2; work_length = n.5 }

module _ (own parity old : List ℕ) (work : ℕ) where
  -- rules 7 and 14
  abbrev content : Params → Verdict
  content s = list_rule s (interleavers s own parity) then singular_rule s (interleavers s own parity)

  abbrev lengths : Params → Verdict
  lengths s = lengths_rule (lengths_of own parity old [] [] work) (make_due s)

  -- what follows the design's rules
  abbrev rest : Params → Verdict
  rest s = lengths s then content s

  abbrev new : Params → List ℕ
  new s = new_inverse s (interleavers s own parity)

  module _ (m t M col : ℕ) where
    whole : (design_rules m t M col then rest (params m t M col)) ≡ make_verdict m t M col own parity old work
    unfolding make_verdict
    whole =
        let s : Params = params m t M col in
        ap (λ (z : Verdict). design_rules m t M col then z) (make_lengths_rule s own parity work (content s) old)

    -- the call answers v and leaves w
    abbrev pub Calls : Verdict → List ℕ → Type 0
    Calls v w = (v ≡ (make_call m t M col own parity old work).verdict) × (w ≡ (make_call m t M col own parity old work).inverse)

    calls : (v : Verdict) (w : List ℕ) → v ≡ (design_rules m t M col then rest (params m t M col)) → w ≡ (made_by v old (new (params m t M col))).inverse → Calls v w
    unfolding make_call
    calls v w e f =
        let s : Params = params m t M col in
        let d : v ≡ make_verdict m t M col own parity old work = e ∙ whole in
        (d ∙ made-verdict (make_verdict m t M col own parity old work) old (new s), f ∙ ap (λ (z : Verdict). (made_by z old (new s)).inverse) d)

    module _ (x : Result Unit Refusal) where
      pub call_refused : (r : Refusal) → verdict_of {A = Design} (Err r) ≡ design_rules m t M col → IsErr x × IsErrAnd x (λ (e : Refusal). e ≡ r)
          → Calls (verdict_of x) old
      call_refused r n h = calls (verdict_of x) old (refused_on (rest (params m t M col)) n x refl h) (made-refused x r h old (new (params m t M col)))

      module _ (d : Design) (n : verdict_of (Ok d) ≡ design_rules m t M col) (i : DesignIs (Ok d) m t M col) where
        pub call_lengths : (r : Refusal) → verdict_of {A = Unit} (Err r) ≡ lengths_rule (lengths_of own parity old [] [] work) (make_due (params_of d))
            → IsErr x × IsErrAnd x (λ (e : Refusal). e ≡ r) → Calls (verdict_of x) old
        call_lengths r e h =
            calls (verdict_of x) old (made-design m t M col rest (Ok d) n x i refl (refused_on (content (params_of d)) e x refl h))
            (made-refused x r h old (new (params m t M col)))

        pub call_made : (w : List ℕ)
            → verdict_of x ≡ (lengths_rule (lengths_of own parity old [] [] work) (make_due (params_of d))
            then list_rule (params_of d) (lists_of d own parity) then singular_rule (params_of d) (lists_of d own parity))
            → w ≡ (made_by (verdict_of x) old (new_inverse (params_of d) (lists_of d own parity))).inverse
            → Calls (verdict_of x) w
        call_made w e f =
            calls (verdict_of x) w (made-design m t M col rest (Ok d) n x i refl e)
            (f ∙ ap (λ (s : Params). (made_by (verdict_of x) old (new s)).inverse) (made-params {a = Ok d} refl m t M col i))
