-- What a program's start says, by the answers of the scans.
--   long-kit_stops, long-text_stops             rule 13
--   error_judged                                a text's error
--   kit_starts, kit_stops                       the kit
--   text_goes, text_stops                       the text
--   begun_goes, begun_stops                     what a start says, by its case
-- Assumes nothing.
use mathlib.Core.Path.{◌≡◌, sym, ap, ◌∙◌}
use mathlib.Core.List.{List}
use Prim.Native.Nat.{ℕ, ◌*◌, ◌≤◌, ◌<◌}
use lib.ListN.{length}
use Rattle.staircase.specs.Rules.{Verdict, ◌then◌}
use Rattle.staircase.specs.Rules.Verdict.{refused}
use Rattle.design.specs.declared.Design.{Design}
use Rattle.std.specs.Prelude.{Result, Ok, Err}
use Rattle.answers.specs.declared.TextError.{TextError}
use Rattle.answers.specs.declared.TextError.TheVariants.{Refused, Broken as BrokenAt}
use Rattle.text_items.specs.Answers.{error_verdict}
use Rattle.rules_verdict.specs.declared.Judged.{Judged}
use Rattle.rules_verdict.specs.Number.{number, place_of, judged_of}
use Rattle.rules_verdict.proofs.Refused.{refusal_judged}
use Rattle.text_kit.specs.Answers.{kit_scan_verdict, KitDesign}
use Rattle.text.specs.KitReader.{head_number, scan_kit}
use Rattle.text_frame.specs.Answers.{blocks_verdict, CountIs}
use Rattle.text.specs.Programs.{most-input, input_rule}
use Rattle.program.specs.declared.Text.{Text}
use Rattle.program.specs.Steps.{text_rule, text_count, start_rule, Started, Scanned, StartIs}
use Rattle.text.proofs.Programs.{long-kit, long-text, short_inputs, then_refused, then_on}

-- the rule for the text of a kit whose numbers are those of the design
abbrev kit_rule : Text → List ℕ → List ℕ → Verdict
kit_rule kind kit text = text_rule kind (head_number kit 2) (head_number kit 0 * head_number kit 1) text

-- the number and place of a text's error
pub error_judged : (n : ℕ) (e : TextError) (j : Judged) → j ≡ judged_of (error_verdict n e) → error_verdict n e ≡ refused j.rule j.place
unfolding number place_of
error_judged n (Refused r) j g = refusal_judged r j g
error_judged n (BrokenAt p) j g = rw g

-- ---- rule 13

module _ (kind : Text) (kit text : List ℕ) where
  pub long-kit_stops : most-input < length kit → StartIs (Err (record { rule = 13; place = 1 })) kind kit text
  unfolding StartIs start_rule
  long-kit_stops h = then_refused (input_rule kit text) (scan_kit kit then kit_rule kind kit text) 13 1 (long-kit kit text h)

  pub long-text_stops : length kit ≤ most-input → most-input < length text → StartIs (Err (record { rule = 13; place = 2 })) kind kit text
  unfolding StartIs start_rule
  long-text_stops a h = then_refused (input_rule kit text) (scan_kit kit then kit_rule kind kit text) 13 2 (long-text kit text a h)

-- ---- the kit

module _ (kit text : List ℕ) (a : length kit ≤ most-input) (b : length text ≤ most-input) (x : Result Design TextError) (e : kit_scan_verdict x ≡ scan_kit kit) where
  pub kit_starts : (d : Design) → x ≡ Ok d → KitDesign x kit → Started d kit text
  unfolding kit_scan_verdict KitDesign
  kit_starts d f k =
      let g : KitDesign (Ok d) kit = rw f at k in
      record {
        kit-short = a;
        text-short = b;
        read = sym e ∙ ap kit_scan_verdict f;
        m-is = g.0;
        t-is = g.1;
        M-is = g.2;
        col-is = g.3;
        allowed = g.4;
      }

  module _ (kind : Text) where
    pub kit_stops : (e' : TextError) (j : Judged) → x ≡ Err e' → j ≡ judged_of (error_verdict 11 e') → StartIs (Err j) kind kit text
    unfolding kit_scan_verdict StartIs start_rule
    kit_stops e' j f g =
        then_on (input_rule kit text) (scan_kit kit then kit_rule kind kit text) (refused j.rule j.place) (short_inputs kit text a b)
        (then_refused (scan_kit kit) (kit_rule kind kit text) j.rule j.place (sym e ∙ ap kit_scan_verdict f ∙ error_judged 11 e' j g))

-- ---- the text

-- the design's numbers are the kit's
same_rule : (kind : Text) (d : Design) (kit text : List ℕ) → Started d kit text → text_rule kind d.size (d.m * d.t) text ≡ kit_rule kind kit text
same_rule kind d kit text S = rw (S.m-is, S.t-is, S.M-is)

-- the rules before the call, behind a kit that was scanned
pub behind-kit : (kind : Text) (d : Design) (kit text : List ℕ) (v : Verdict) → Started d kit text → text_rule kind d.size (d.m * d.t) text ≡ v
    → start_rule kind kit text ≡ v
unfolding start_rule
behind-kit kind d kit text v S e =
    then_on (input_rule kit text) (scan_kit kit then kit_rule kind kit text) v (short_inputs kit text S.kit-short S.text-short)
    (then_on (scan_kit kit) (kit_rule kind kit text) v S.read (sym (same_rule kind d kit text S) ∙ e))

module _ (kind : Text) (d : Design) (kit text : List ℕ) (S : Started d kit text) (x : Result ℕ TextError)
    (e : blocks_verdict x ≡ text_rule kind d.size (d.m * d.t) text) where
  pub text_goes : (L : ℕ) → x ≡ Ok L → CountIs x (text_count kind d.size (d.m * d.t) text) → StartIs (Ok (d, L)) kind kit text
  unfolding StartIs blocks_verdict CountIs
  text_goes L f n = record { started = S; accepts = sym e ∙ ap blocks_verdict f; count = rw f at n }

  pub text_stops : (e' : TextError) (j : Judged) → x ≡ Err e' → j ≡ judged_of (error_verdict 12 e') → StartIs (Err j) kind kit text
  unfolding StartIs blocks_verdict
  text_stops e' j f g = behind-kit kind d kit text (refused j.rule j.place) S (sym e ∙ ap blocks_verdict f ∙ error_judged 12 e' j g)

-- ---- what a start says

module _ (kind : Text) (kit text : List ℕ) (x : Result (Design × ℕ) Judged) (s : StartIs x kind kit text) where
  pub begun_goes : (d : Design) (L : ℕ) → x ≡ Ok (d, L) → Scanned kind d L kit text
  unfolding StartIs
  begun_goes d L e = rw e at s

  pub begun_stops : (j : Judged) → x ≡ Err j → start_rule kind kit text ≡ refused j.rule j.place
  unfolding StartIs
  begun_stops j e = rw e at s
