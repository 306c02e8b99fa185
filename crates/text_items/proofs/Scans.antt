-- The scan of a format from a position on, by the answers of the functions.
--   scan-end, scan-more       the end of a text
--   scan_stops, scan_goes     items and then a format, by the answer to the items
--   lits-stop, lits_go        the same for fixed bytes, which have no values
-- Assumes nothing.
use Prim.Native.Nat.{ℕ, ◌≤◌, ◌<◌}
use mathlib.Core.Path.{◌≡◌, sym, ap, ◌∙◌}
use mathlib.Core.List.{List, []}
use native.Mathlib.Nat.{add-zero}
use lib.ListN.{length, drop_of_length-le}
use lib.Seq.{drop-cons}
use Rattle.text_formats.specs.Format.{Item, Format, end, read, refused}
use Rattle.text_formats.specs.Items.{lits, seq, Walk, walk, values, scan_at}
use Rattle.text_formats.proofs.Spelling.{continue, prefix, prefix_nil, scan-seq}
use Rattle.text_items.specs.declared.Broken.{Broken}
use Rattle.std.specs.Prelude.{Result, Ok, Err}
use Rattle.text_items.specs.Answers.{step_of, step_walk}
use Rattle.text_items.proofs.Lines.{step-of, answer_stuck, answer_past}

pub scan-end : (l : ℕ) (s : List ℕ) (q : ℕ) → length s ≤ q → scan_at (end l) s q ≡ read l []
unfolding scan_at
scan-end l s q h = rw (drop_of_length-le s {i = q} h)

pub scan-more : (l : ℕ) (s : List ℕ) (q : ℕ) → q < length s → scan_at (end l) s q ≡ refused q
unfolding scan_at
scan-more l s q h = rw (drop-cons s q 0 h) (ap refused (add-zero q))

module _ (is : List Item) (F : Format) (s : List ℕ) (at : ℕ) (x : Result ℕ Broken) (e : x ≡ step_of (walk is s at)) where
  pub scan_stops : (q : Broken) → x ≡ Err q → scan_at (seq is F) s at ≡ refused q.place
  scan_stops q f = scan-seq is F s at ∙ ap (λ (w : Walk). continue w (λ r. scan_at F s r)) (answer_stuck (walk is s at) x q e f)

  pub scan_goes : (q : ℕ) → x ≡ Ok q → scan_at (seq is F) s at ≡ prefix (values (walk is s at)) (scan_at F s q)
  scan_goes q f = scan-seq is F s at ∙ ap (λ (w : Walk). continue w (λ r. scan_at F s r)) (answer_past (walk is s at) x q e f)

module _ (b : List ℕ) (F : Format) (s : List ℕ) (at : ℕ) (x : Result ℕ Broken) (e : step_walk x ≡ walk (lits b) s at) where
  pub lits-stop : (q : Broken) → x ≡ Err q → scan_at (seq (lits b) F) s at ≡ refused q.place
  lits-stop q f = scan_stops (lits b) F s at x (step-of x _ e) q f

  pub lits_go : (q : ℕ) → x ≡ Ok q → scan_at (seq (lits b) F) s at ≡ scan_at F s q
  lits_go q f =
      scan-seq (lits b) F s at
      ∙ ap (λ (w : Walk). continue w (λ r. scan_at F s r)) (sym e ∙ ap step_walk f)
      ∙ prefix_nil (scan_at F s q)
