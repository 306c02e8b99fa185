-- A line of names, lines, and the end of the text, as the code has them: `rows_and_end` and `judge_lists`.
--   past-passes                 lines that were gone past are right
--   part-names .. part-whole    the names are wrong, the lines are, more follows, all is right
--   tail-split, lists-split     the formats of the two
-- Assumes nothing.
use Prim.Native.Nat.{ℕ, ◌≤◌, ◌<◌}
use mathlib.Core.Path.{◌≡◌, refl, ap, ◌∙◌}
use mathlib.Core.List.{List, append-nil}
use lib.ListN.{length}
use Rattle.text_formats.specs.Format as format
use Rattle.text_formats.specs.Format.{Item, Format, end}
use Rattle.text_formats.specs.Items.{lits, seq, Walk, past, walk, values, Passes, scan_at, bits_lines}
use Rattle.text_formats.proofs.Spelling.{prefix}
use Rattle.text_items.specs.declared.Broken.{Broken}
use Rattle.std.specs.Prelude.{Result, Ok, Err}
use Rattle.text_items.specs.Answers.{step_of, step_walk}
use Rattle.text_items.proofs.Lines.{answer_past}
use Rattle.text_items.proofs.Scans.{scan-end, scan-more, scan_stops, scan_goes, lits-stop, lits_go}
use Rattle.text.specs.KitText.{list_names, row_names, pair_lines}
use Rattle.text.specs.MakeKit.{lists_items, lists_format}
use Rattle.text_kit_scan.specs.Answers.{PartIs, tail_format}

pub past-passes : (w : Walk) (ws : List ℕ) (q : ℕ) → w ≡ past ws q → Passes w
past-passes w ws q e = rw e tt

module _ (names : List ℕ) (lines : List Item) (F : Format) (e_f : F ≡ seq (lits names) (seq lines (end 0))) (s : List ℕ) (at : ℕ) (x : Result ℕ Broken)
    (ex : step_walk x ≡ walk (lits names) s at) where
  whole : scan_at F s at ≡ scan_at (seq (lits names) (seq lines (end 0))) s at
  whole = ap (λ (G : Format). scan_at G s at) e_f

  pub part-names : (q : Broken) → x ≡ Err q → (r : Result ℕ Broken) → r ≡ Err q → PartIs F lines r s at
  unfolding PartIs
  part-names q f r g = rw g (whole ∙ lits-stop names (seq lines (end 0)) s at x ex q f)

  module _ (j : ℕ) (fx : x ≡ Ok j) (y : Result ℕ Broken) (ey : y ≡ step_of (walk lines s j)) where
    from-names : scan_at F s at ≡ scan_at (seq lines (end 0)) s j
    from-names = whole ∙ lits_go names (seq lines (end 0)) s at x ex j fx

    pub part-lines : (q : Broken) → y ≡ Err q → (r : Result ℕ Broken) → r ≡ Err q → PartIs F lines r s at
    unfolding PartIs
    part-lines q f r g = rw g (from-names ∙ scan_stops lines (end 0) s j y ey q f)

    module _ (e : ℕ) (fy : y ≡ Ok e) where
      abbrev Values : List ℕ
      Values = values (walk lines s j)

      from-lines : scan_at F s at ≡ prefix Values (scan_at (end 0) s e)
      from-lines = from-names ∙ scan_goes lines (end 0) s j y ey e fy

      pub part-more : e < length s → PartIs F lines (Err (record { place = e })) s at
      unfolding PartIs
      part-more l = from-lines ∙ ap (prefix Values) (scan-more 0 s e l)

      pub part-whole : length s ≤ e → PartIs F lines (Ok j) s at
      unfolding PartIs
      part-whole l = (
        past-passes _ _ e (answer_past (walk lines s j) y e ey fy),
        from-lines ∙ ap (prefix Values) (scan-end 0 s e l) ∙ ap (format.read 0) (append-nil Values),
      )

pub tail-split : (n : ℕ) → tail_format n ≡ seq (lits row_names) (seq (bits_lines n 0 n) (end 0))
tail-split n = refl

pub lists-split : (n : ℕ) → lists_format n ≡ seq (lits list_names) (seq (pair_lines 0 n) (end 0))
unfolding lists_items
lists-split n = refl
