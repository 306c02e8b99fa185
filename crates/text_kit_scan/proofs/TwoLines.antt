-- The two lines of a kit text, as the code has them, and rules 1 to 3 for their numbers.
--   lines-names .. lines-read    `read_head`
--   Shown, head_read             what a text shows that starts with two lines
--   head_stuck                   the verdict of one that does not
--   front-none .. front-starts   `read_front`
-- Assumes nothing.
use Rattle.answers.specs.Answers.{verdict_of}
use Prim.Native.Nat.{ℕ}
use mathlib.Core.Path.{◌≡◌, sym, ap, ◌∙◌}
use mathlib.Core.List.{List, [], ◌∷◌}
use Rattle.text_formats.specs.Format.{byte, num}
use Rattle.text_formats.specs.Items.{lits, stuck, past, prep, walk}
use Rattle.text_items.proofs.Fields.{walk_stops, walk_goes, field_stops, field_goes}
use Rattle.text_items.specs.declared.Broken.{Broken}
use Rattle.std.specs.Prelude.{Result, Ok, Err}
use Rattle.text_items.specs.Answers.{step_walk, field_walk}
use Rattle.staircase.specs.Rules.{Verdict, ◌then◌, design_rules}
use Rattle.staircase.specs.Rules.Verdict.{refused}
use Rattle.design.specs.declared.Design.{Design}
use Rattle.answers.specs.declared.Refusal.{Refusal}
use Rattle.answers.specs.declared.TextError.{TextError}
use Rattle.answers.specs.declared.TextError.TheVariants.{Refused, Broken as BrokenAt}
use Rattle.design.specs.Answers.{DesignIs, DesignAllowed}
use Rattle.text.proofs.TwoLines.{Shown, head_read, head_stuck}
use Rattle.text.specs.KitText.{names, two_numbers, head_items}
use Rattle.text.specs.KitReader.{head_number, head_rule}
use Rattle.text_kit_scan.specs.Answers.{head_walk, line_walk, front_rule, front_verdict, FrontIs}

-- the names and the three numbers
module _ (s : List ℕ) (x : Result ℕ Broken) (ex : step_walk x ≡ walk (lits names) s 0) where
  pub lines-names : (q : Broken) → x ≡ Err q → stuck q.place ≡ walk head_items s 0
  lines-names q f = sym (walk_stops (lits names) (num ∷ byte 32 ∷ two_numbers) s 0 x ex q f)

  module _ (i : ℕ) (fx : x ≡ Ok i) (y : Result (ℕ × ℕ) Broken) (ey : field_walk y ≡ walk (num ∷ byte 32 ∷ []) s i) where
    from-names : walk head_items s 0 ≡ walk (num ∷ byte 32 ∷ two_numbers) s i
    from-names = walk_goes (lits names) (num ∷ byte 32 ∷ two_numbers) s 0 x ex i fx

    pub lines-first : (q : Broken) → y ≡ Err q → stuck q.place ≡ walk head_items s 0
    lines-first q f = sym (from-names ∙ field_stops (num ∷ byte 32 ∷ []) two_numbers s i y ey q f)

    module _ (m j : ℕ) (fy : y ≡ Ok (m, j)) (z : Result (ℕ × ℕ × ℕ) Broken) (ez : line_walk z ≡ walk two_numbers s j) where
      from_first : prep (m ∷ []) (line_walk z) ≡ walk head_items s 0
      from_first = ap (prep (m ∷ [])) ez ∙ sym (from-names ∙ field_goes (num ∷ byte 32 ∷ []) two_numbers s i y ey m j fy)

      pub lines-others : (q : Broken) → z ≡ Err q → stuck q.place ≡ walk head_items s 0
      lines-others q f = sym (ap (λ (w : Result (ℕ × ℕ × ℕ) Broken). prep (m ∷ []) (line_walk w)) f) ∙ from_first

      pub lines-read : (t M e : ℕ) → z ≡ Ok (t, M, e) → past (m ∷ t ∷ M ∷ []) e ≡ walk head_items s 0
      lines-read t M e f = sym (ap (λ (w : Result (ℕ × ℕ × ℕ) Broken). prep (m ∷ []) (line_walk w)) f) ∙ from_first

-- the two lines, and then rules 1 to 3
module _ (s : List ℕ) (h : Result (ℕ × ℕ × ℕ × ℕ) Broken) (eh : head_walk h ≡ walk head_items s 0) where
  pub front-none : (q : Broken) → h ≡ Err q → (r : Result (Design × ℕ) TextError) → r ≡ Err (BrokenAt q.place) → (front_verdict r ≡ front_rule s) × FrontIs r s
  unfolding front_verdict front_rule FrontIs
  front-none q f r g =
      let w : head_rule s ≡ refused 11 q.place = head_stuck s q.place (sym eh ∙ ap head_walk f) in
      rw g (sym (ap (λ (v : Verdict). v then design_rules (head_number s 0) (head_number s 1) (head_number s 2) 0) w), tt)

  module _ (m t M q : ℕ) (f : h ≡ Ok (m, t, M, q)) (x : Result Design Refusal) (ex : (verdict_of x ≡ design_rules m t M 0) × DesignIs x m t M 0 × DesignAllowed x) where
    shown : Shown s m t M q
    shown = head_read s m t M q (sym eh ∙ ap head_walk f)

    front-design : front_rule s ≡ verdict_of x
    unfolding front_rule
    front-design =
        ap (λ (v : Verdict). v then design_rules (head_number s 0) (head_number s 1) (head_number s 2) 0) shown.rule
        ∙ rw (shown.first, shown.second, shown.third) (sym ex.0)

    pub front_ruled : (r : Refusal) → x ≡ Err r → (y : Result (Design × ℕ) TextError) → y ≡ Err (Refused r) → (front_verdict y ≡ front_rule s) × FrontIs y s
    unfolding front_verdict FrontIs verdict_of
    front_ruled r g y k = rw k (sym (front-design ∙ ap verdict_of g), tt)

    pub front_starts : (d : Design) → x ≡ Ok d → (front_verdict (Ok (d, q)) ≡ front_rule s) × FrontIs (Ok (d, q)) s
    unfolding front_verdict FrontIs verdict_of DesignIs DesignAllowed
    front_starts d g =
        let i : DesignIs (Ok d) m t M 0 = rw g at ex.1 in
        let a : DesignAllowed (Ok d) = rw g at ex.2 in
        (sym (front-design ∙ ap verdict_of g), (i.0 ∙ sym shown.first, i.1 ∙ sym shown.second, i.2 ∙ sym shown.third, i.3, a, sym shown.after))
