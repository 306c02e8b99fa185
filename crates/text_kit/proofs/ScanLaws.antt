-- The verdict of a kit text, as the code has it.
--   front_then                  the two lines and the design, and then other rules
--   Opens, opens                what is known of a text whose two lines and design are right
--   small-order .. kit-design   its sizes, its rest and its design
--   kit_accepted                an answer that is accepted is a design
--   scan_error .. scan-whole     `scan_kit`
-- Assumes nothing.
use Rattle.std.specs.Prelude.{Result, Err, Ok, IsOk}
use Prim.Native.Nat.{ℕ, ◌*◌, ◌≤◌, ◌<◌}
use mathlib.Core.Path.{◌≡◌, refl, sym, ap, ◌∙◌}
use mathlib.Core.List.{List}
use Rattle.text_formats.specs.Items.{walk, scan_at}
use Rattle.text.specs.Rules.{scan_rule, passed}
use Rattle.staircase.specs.Rules.{Verdict, ◌then◌, design_rules}
use Rattle.staircase.specs.Rules.Verdict.{accepted, refused}
use Rattle.staircase.specs.Design.{order}
use Rattle.design.specs.declared.Design.{Design}
use Rattle.answers.specs.declared.TextError.{TextError}
use Rattle.answers.specs.declared.TextError.TheVariants.{Broken as BrokenAt}
use Rattle.text_items.specs.declared.Broken.{Broken}
use Rattle.text_items.specs.Answers.{error_verdict}
use Rattle.design.specs.Answers.{Allowed}
use Rattle.text.specs.KitText.{head_items, rest_format}
use Rattle.text_kit.specs.Answers.{kit_scan_verdict, KitDesign}
use Rattle.text.specs.KitReader.{head_number, kit_params, head_rule, body_scan, body_rule, scan_kit}
use Rattle.text_kit_scan.specs.Answers.{front_rule, front_verdict, FrontIs, rest_rule, rest_verdict, RestParts}
use Rattle.text_items.proofs.Handing.{error_first, error_not}

then_three : (u v w : Verdict) → ((u then v) then w) ≡ (u then (v then w))
then_three accepted v w = refl
then_three (refused n p) v w = refl

-- the two lines and the design, and then any rule
pub front_then : (s : List ℕ) (u v : Verdict) → front_rule s ≡ v → (head_rule s then design_rules (head_number s 0) (head_number s 1) (head_number s 2) 0 then u) ≡ (v then u)
unfolding front_rule
front_then s u v e = sym (then_three (head_rule s) (design_rules (head_number s 0) (head_number s 1) (head_number s 2) 0) u) ∙ ap (λ (w : Verdict). w then u) e

-- ---- the two lines and the design

pub record Opens (s : List ℕ) (d : Design) (at : ℕ) : Type 0 where
  pub rule : front_rule s ≡ accepted
  pub m-is : d.m ≡ head_number s 0
  pub t-is : d.t ≡ head_number s 1
  pub M-is : d.size ≡ head_number s 2
  pub col-is : d.col ≡ 0
  pub allowed : Allowed d
  pub at-is : at ≡ passed (walk head_items s 0)

module _ (s : List ℕ) (f : Result (Design × ℕ) TextError) (ef : (front_verdict f ≡ front_rule s) × FrontIs f s) where
  pub front-error : (e : TextError) → f ≡ Err e → front_rule s ≡ error_verdict 11 e
  unfolding front_verdict
  front-error e g = sym ef.0 ∙ ap front_verdict g

  pub opens : (d : Design) (at : ℕ) → f ≡ Ok (d, at) → Opens s d at
  unfolding front_verdict FrontIs
  opens d at g =
      let i : FrontIs (Ok (d, at)) s = rw g at ef.1 in
      record { rule = sym ef.0 ∙ ap front_verdict g; m-is = i.0; t-is = i.1; M-is = i.2; col-is = i.3; allowed = i.4; at-is = i.5 }

module _ (s : List ℕ) (d : Design) (at : ℕ) (o : Opens s d at) (n : ℕ) (en : n ≡ d.size * (d.m * d.t)) where
  pub small-order : n ≤ 4096
  small-order = rw en o.allowed.order-high

  pub order_is : n ≡ order (kit_params s)
  order_is = rw (en, o.m-is, o.t-is, o.M-is)

  pub body_is : body_scan s ≡ scan_at (rest_format n) s at
  unfolding body_scan
  body_is = rw (o.at-is, order_is)

  pub rule_is : body_rule s ≡ rest_rule n s at
  unfolding body_rule rest_rule
  rule_is = ap (scan_rule 11) body_is

  pub kit-design : KitDesign (Ok d) s
  unfolding KitDesign
  kit-design = (o.m-is, o.t-is, o.M-is, o.col-is, o.allowed)

-- ---- the answer

pub kit_accepted : (x : Result Design TextError) → kit_scan_verdict x ≡ accepted → IsOk x
unfolding kit_scan_verdict
kit_accepted (Ok d) e = refl
kit_accepted (Err r) e = absurd (error_not 11 r e)

-- ---- the scan

module _ (s : List ℕ) (f : Result (Design × ℕ) TextError) (ef : (front_verdict f ≡ front_rule s) × FrontIs f s) where
  pub scan_error : (e : TextError) → f ≡ Err e → (y : Result Design TextError) → y ≡ Err e → (kit_scan_verdict y ≡ scan_kit s) × KitDesign y s
  unfolding kit_scan_verdict KitDesign scan_kit
  scan_error e g y h = rw h (sym (front_then s (body_rule s) (error_verdict 11 e) (front-error s f ef e g) ∙ error_first 11 e (body_rule s)), tt)

  module _ (d : Design) (at : ℕ) (g : f ≡ Ok (d, at)) (n : ℕ) (en : (n ≡ d.size * (d.m * d.t)) × (n < 4294967296))
      (x : Result (ℕ × ℕ) Broken) (ex : (rest_verdict x ≡ rest_rule n s at) × RestParts x n s at) where
    scan-rest : rest_verdict x ≡ scan_kit s
    unfolding scan_kit
    scan-rest = ex.0 ∙ sym (rule_is s d at (opens s f ef d at g) n en.0) ∙ sym (front_then s (body_rule s) accepted (opens s f ef d at g).rule)

    pub scan-not : (q : Broken) → x ≡ Err q → (y : Result Design TextError) → y ≡ Err (BrokenAt q.place) → (kit_scan_verdict y ≡ scan_kit s) × KitDesign y s
    unfolding kit_scan_verdict KitDesign rest_verdict
    scan-not q h y k = rw k (sym (ap rest_verdict h) ∙ scan-rest, tt)

    pub scan-whole : (t : ℕ × ℕ) → x ≡ Ok t → (kit_scan_verdict (Ok d) ≡ scan_kit s) × KitDesign (Ok d) s
    unfolding kit_scan_verdict rest_verdict
    scan-whole t h = (sym (ap rest_verdict h) ∙ scan-rest, kit-design s d at (opens s f ef d at g) n en.0)
