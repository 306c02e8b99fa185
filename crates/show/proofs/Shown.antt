-- Laws of a call of showing, as a function meets them that judges first the design and then the frame.
--   design-refuses, design-empty   a refused design is the verdict, and nothing is shown
--   frame_decides                  past the design the frame's verdict is the call's
--   frame-empty                    a refused frame shows nothing
--   passed-part, passed_shown      of a frame that passed the part is there, and is shown
-- Assumes nothing.
use Rattle.std.specs.Prelude.{Err, Ok, Result, IsErr, IsErrAnd}
use mathlib.Core.Path.{◌≡◌, refl, sym, ap, ◌∙◌}
use mathlib.Core.Logic.{◌≢◌}
use mathlib.Core.List.{List, []}
use Prim.Native.Nat.{ℕ}
use Rattle.staircase.specs.Design.{Params, params}
use Rattle.staircase.specs.Rules.{Verdict, Part, ◌then◌, design_rules}
use Rattle.staircase.specs.Rules.Verdict.{accepted, refused}
use Rattle.staircase.specs.Calls.{stretch, shown_by, show_verdict, show_call}
use Rattle.staircase.proofs.Rules.{then_first, then_rest, then_accepted}
use Rattle.answers.specs.declared.Refusal.{Refusal}
use Rattle.design.specs.declared.Design.{Design}
use Rattle.design.specs.Sizes.{params_of}
use Rattle.design.specs.Answers.{DesignIs}
use Rattle.design.proofs.Answers.{made-params}
use Rattle.show.specs.Show.{frame_rules, HasPart}
use Rattle.show.proofs.Accepted.{accepted-part}
use Rattle.answers.specs.Answers.{verdict_of}
use Rattle.answers.proofs.Checks.{refused_on, check_refused, check_passed}

verdict-by : (v : Verdict) (l : List ℕ) → v ≡ (shown_by v l).verdict
verdict-by accepted l = refl
verdict-by (refused n p) l = refl

none-by : (v : Verdict) (l : List ℕ) → v ≢ accepted → [] ≡ (shown_by v l).bits
none-by accepted l h = absurd (h refl)
none-by (refused n p) l h = refl

all-by : {v : Verdict} (l : List ℕ) → v ≡ accepted → l ≡ (shown_by v l).bits
all-by l e = sym (ap (λ (z : Verdict). (shown_by z l).bits) e)

module _ (m t M col L : ℕ) (part : Part) (info red : List ℕ) where
  call_verdict : (design_rules m t M col then frame_rules (params m t M col) L part info red) ≡ (show_call m t M col L part info red).verdict
  unfolding show_verdict show_call frame_rules
  call_verdict = verdict-by (show_verdict m t M col L part info red) (stretch (params m t M col) part info red)

  none_shown : (design_rules m t M col then frame_rules (params m t M col) L part info red) ≢ accepted → [] ≡ (show_call m t M col L part info red).bits
  unfolding show_verdict show_call frame_rules
  none_shown h = none-by (show_verdict m t M col L part info red) (stretch (params m t M col) part info red) h

  module _ {a : Result Design Refusal} (n : verdict_of a ≡ design_rules m t M col) where
    -- y is what the call hands on
    pub design-refuses : (y : Result Unit Refusal) {r : Refusal} → a ≡ Err r → IsErr y × IsErrAnd y (λ (e : Refusal). e ≡ r) → verdict_of y ≡ (show_call m t M col L part info red).verdict
    design-refuses y g h = refused_on (frame_rules (params m t M col) L part info red) n y g h ∙ call_verdict

    pub design-empty : {r : Refusal} → a ≡ Err r → [] ≡ (show_call m t M col L part info red).bits
    design-empty g =
        none_shown
        (λ h. check_refused g (n ∙ then_first (design_rules m t M col) (frame_rules (params m t M col) L part info red) h))

    module _ (i : DesignIs a m t M col) {d : Design} (g : a ≡ Ok d) (x : Result Unit Refusal)
        (f : verdict_of x ≡ frame_rules (params_of d) L part info red) where
      same : params_of d ≡ params m t M col
      same = made-params g m t M col i

      design-accepted : design_rules m t M col ≡ accepted
      design-accepted = sym n ∙ check_passed g

      frame_is : verdict_of x ≡ frame_rules (params m t M col) L part info red
      frame_is = f ∙ ap (λ (s : Params). frame_rules s L part info red) same

      pub frame_decides : verdict_of x ≡ (show_call m t M col L part info red).verdict
      frame_decides =
          frame_is ∙ sym (ap (λ (z : Verdict). z then frame_rules (params m t M col) L part info red) design-accepted) ∙ call_verdict

      pub frame-empty : {r : Refusal} → x ≡ Err r → [] ≡ (show_call m t M col L part info red).bits
      frame-empty e =
          none_shown (λ h. check_refused e (frame_is ∙ then_rest (design_rules m t M col) (frame_rules (params m t M col) L part info red) h))

      module _ (p : x ≡ (Ok tt)) where
        call_accepted : show_verdict m t M col L part info red ≡ accepted
        unfolding show_verdict frame_rules
        call_accepted = then_accepted design-accepted (sym frame_is ∙ check_passed p)

        pub passed-part : HasPart (params_of d) part info red
        passed-part = rw same (accepted-part m t M col L part info red call_accepted)

        pub passed_shown : {l : List ℕ} → l ≡ stretch (params_of d) part info red → l ≡ (show_call m t M col L part info red).bits
        unfolding show_call
        passed_shown e =
            e ∙ ap (λ (s : Params). stretch s part info red) same ∙ all-by (stretch (params m t M col) part info red) call_accepted
