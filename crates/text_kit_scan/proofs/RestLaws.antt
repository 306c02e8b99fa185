-- The rest of a kit text, as the code has it.
--   rest-names .. rest-whole     `judge_rest`
-- Assumes nothing.
use Prim.Native.Nat.{ℕ}
use mathlib.Core.Path.{◌≡◌, sym, ap, ◌∙◌}
use mathlib.Core.List.{List, ◌++◌}
use Rattle.text_formats.specs.Format as format
use Rattle.text_formats.specs.Format.{Format, end}
use Rattle.text_formats.specs.Items.{lits, seq, walk, values, scan_at, bits_lines}
use Rattle.text_formats.proofs.Spelling.{prefix}
use Rattle.text_formats.proofs.Parts.{seq-append}
use Rattle.text_items.specs.declared.Broken.{Broken}
use Rattle.std.specs.Prelude.{Result, Ok, Err}
use Rattle.text_items.specs.Answers.{step_of, step_walk}
use Rattle.text.specs.Rules.{scan_rule, values_of}
use Rattle.text_items.proofs.Lines.{answer_past}
use Rattle.text_items.proofs.Scans.{scan_stops, scan_goes, lits-stop, lits_go}
use Rattle.text.specs.KitText.{list_names, pair_lines, kit_body, tail_items, rest_format}
use Rattle.text_kit_scan.specs.Answers.{tail_format, rest_rule, rest_verdict, RestParts, PartIs, TailIs}
use Rattle.text_kit_scan.proofs.PartLaws.{past-passes}

body_split : (n : ℕ) → rest_format n ≡ seq (lits list_names) (seq (pair_lines 0 n) (tail_format n))
unfolding kit_body
body_split n =
    seq-append (lits list_names) (pair_lines 0 n ++ tail_items n) (end 0)
    ∙ ap (seq (lits list_names)) (seq-append (pair_lines 0 n) (tail_items n) (end 0))

module _ (n : ℕ) (s : List ℕ) (at : ℕ) (x : Result ℕ Broken) (ex : step_walk x ≡ walk (lits list_names) s at) where
  from_start : scan_at (rest_format n) s at ≡ scan_at (seq (lits list_names) (seq (pair_lines 0 n) (tail_format n))) s at
  from_start = ap (λ (F : Format). scan_at F s at) (body_split n)

  rest-not : (q : Broken) → scan_at (rest_format n) s at ≡ format.refused q.place → (r : Result (ℕ × ℕ) Broken) → r ≡ Err q
      → (rest_verdict r ≡ rest_rule n s at) × RestParts r n s at
  unfolding rest_verdict rest_rule RestParts scan_rule
  rest-not q e r g = rw g (sym (ap (scan_rule 11) e), tt)

  pub rest-names : (q : Broken) → x ≡ Err q → (r : Result (ℕ × ℕ) Broken) → r ≡ Err q → (rest_verdict r ≡ rest_rule n s at) × RestParts r n s at
  rest-names q f = rest-not q (from_start ∙ lits-stop list_names (seq (pair_lines 0 n) (tail_format n)) s at x ex q f)

  module _ (i : ℕ) (fx : x ≡ Ok i) (y : Result ℕ Broken) (ey : y ≡ step_of (walk (pair_lines 0 n) s i)) where
    from-lists : scan_at (rest_format n) s at ≡ scan_at (seq (pair_lines 0 n) (tail_format n)) s i
    from-lists = from_start ∙ lits_go list_names (seq (pair_lines 0 n) (tail_format n)) s at x ex i fx

    pub rest-lists : (q : Broken) → y ≡ Err q → (r : Result (ℕ × ℕ) Broken) → r ≡ Err q → (rest_verdict r ≡ rest_rule n s at) × RestParts r n s at
    rest-lists q f = rest-not q (from-lists ∙ scan_stops (pair_lines 0 n) (tail_format n) s i y ey q f)

    module _ (e : ℕ) (fy : y ≡ Ok e) (z : Result ℕ Broken) (ez : TailIs z n s e) where
      abbrev Pairs : List ℕ
      Pairs = values (walk (pair_lines 0 n) s i)

      from_tail : scan_at (rest_format n) s at ≡ prefix Pairs (scan_at (tail_format n) s e)
      from_tail = from-lists ∙ scan_goes (pair_lines 0 n) (tail_format n) s i y ey e fy

      pub rest-tail : (q : Broken) → z ≡ Err q → (r : Result (ℕ × ℕ) Broken) → r ≡ Err q → (rest_verdict r ≡ rest_rule n s at) × RestParts r n s at
      unfolding PartIs
      rest-tail q f =
          let g : scan_at (tail_format n) s e ≡ format.refused q.place = rw f at ez in
          rest-not q (from_tail ∙ ap (prefix Pairs) g)

      pub rest-whole : (j : ℕ) → z ≡ Ok j → (rest_verdict (Ok (i, j)) ≡ rest_rule n s at) × RestParts (Ok (i, j)) n s at
      unfolding rest_verdict rest_rule RestParts PartIs scan_rule values_of
      rest-whole j f =
          let g : TailIs (Ok j) n s e = rw f at ez in
          let w : scan_at (rest_format n) s at ≡ format.read 0 (Pairs ++ values (walk (bits_lines n 0 n) s j)) = from_tail ∙ ap (prefix Pairs) g.1 in
          (sym (ap (scan_rule 11) w), (past-passes _ _ e (answer_past (walk (pair_lines 0 n) s i) y e ey fy), g.0, ap values_of w))
