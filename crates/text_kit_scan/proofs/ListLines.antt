-- The lines of the lists, as the code has them.
--   two-first .. two-read      `two_numbers`
--   place-wrong .. pair_read   `pair_line`
--   pairs-wrong .. pairs-step  one line more of the lists
-- Assumes nothing.
use Prim.Native.Nat.{ℕ, ◌+◌, ◌-◌, ◌<◌}
use mathlib.Core.Path.{◌≡◌, sym, ap, ◌∙◌}
use mathlib.Core.List.{List, [], ◌∷◌}
use Rattle.text_formats.specs.Format.{byte, num, dec}
use Rattle.text_formats.specs.Items.{lits, Walk, stuck, past, prep, walk}
use Rattle.text_formats.proofs.Lines.{lines-walk}
use Rattle.text_items.specs.declared.Broken.{Broken}
use Rattle.std.specs.Prelude.{Result, Ok, Err}
use Rattle.text_items.specs.Answers.{step_of, step_walk, field_walk}
use Rattle.text_items.proofs.Fields.{walk_stops, walk_goes, field_stops, field_goes}
use Rattle.text_items.proofs.Lines.{step-prep}
use Rattle.text.specs.KitText.{two_numbers, pair_tail, pair_line, pair_lines}
use Rattle.text_kit_scan.specs.Answers.{line_walk}

-- two numbers
module _ (s : List ℕ) (at : ℕ) (x : Result (ℕ × ℕ) Broken) (ex : field_walk x ≡ walk (num ∷ byte 32 ∷ []) s at) where
  pub two_first : (q : Broken) → x ≡ Err q → stuck q.place ≡ walk two_numbers s at
  two_first q f = sym (field_stops (num ∷ byte 32 ∷ []) (num ∷ byte 10 ∷ []) s at x ex q f)

  module _ (a j : ℕ) (fx : x ≡ Ok (a, j)) (y : Result (ℕ × ℕ) Broken) (ey : field_walk y ≡ walk (num ∷ byte 10 ∷ []) s j) where
    two_from : prep (a ∷ []) (field_walk y) ≡ walk two_numbers s at
    two_from = ap (prep (a ∷ [])) ey ∙ sym (field_goes (num ∷ byte 32 ∷ []) (num ∷ byte 10 ∷ []) s at x ex a j fx)

    pub two_second : (q : Broken) → y ≡ Err q → stuck q.place ≡ walk two_numbers s at
    two_second q f = sym (ap (λ (z : Result (ℕ × ℕ) Broken). prep (a ∷ []) (field_walk z)) f) ∙ two_from

    pub two_read : (b e : ℕ) → y ≡ Ok (b, e) → past (a ∷ b ∷ []) e ≡ walk two_numbers s at
    two_read b e f = sym (ap (λ (z : Result (ℕ × ℕ) Broken). prep (a ∷ []) (field_walk z)) f) ∙ two_from

-- the line of a place
module _ (s : List ℕ) (at p : ℕ) (x : Result ℕ Broken) (ex : step_walk x ≡ walk (lits (dec p)) s at) where
  pub place_wrong : (q : Broken) → x ≡ Err q → stuck q.place ≡ walk (pair_line p) s at
  unfolding pair_line
  place_wrong q f = sym (walk_stops (lits (dec p)) pair_tail s at x ex q f)

  module _ (i : ℕ) (fx : x ≡ Ok i) (y : Result ℕ Broken) (ey : step_walk y ≡ walk (byte 32 ∷ []) s i) where
    pub space_wrong : (q : Broken) → y ≡ Err q → stuck q.place ≡ walk (pair_line p) s at
    unfolding pair_line
    space_wrong q f = sym (walk_goes (lits (dec p)) pair_tail s at x ex i fx ∙ walk_stops (byte 32 ∷ []) two_numbers s i y ey q f)

    pub pair_read : (j : ℕ) → y ≡ Ok j → (w : Walk) → w ≡ walk two_numbers s j → w ≡ walk (pair_line p) s at
    unfolding pair_line
    pair_read j f w g = g ∙ sym (walk_goes (lits (dec p)) pair_tail s at x ex i fx ∙ walk_goes (byte 32 ∷ []) two_numbers s i y ey j f)

-- the lines from p on
module _ (p n : ℕ) (s : List ℕ) (q : ℕ) (h : p < n) (x : Result (ℕ × ℕ × ℕ) Broken) (e : line_walk x ≡ walk (pair_line p) s q) where
  pub pairs_wrong : (k : Broken) → x ≡ Err k → Err k ≡ step_of (walk (pair_lines p (n - p)) s q)
  pairs_wrong k f = rw (lines-walk pair_line p n p s q h, ← e, f)

  pub pairs_next : (a b r : ℕ) → x ≡ Ok (a, b, r) → walk (pair_lines p (n - p)) s q ≡ prep (a ∷ b ∷ []) (walk (pair_lines (p + 1) (n - (p + 1))) s r)
  pairs_next a b r f = rw (lines-walk pair_line p n p s q h, ← e, f)

  pub pairs_step : (a b r : ℕ) → x ≡ Ok (a, b, r) → step_of (walk (pair_lines p (n - p)) s q) ≡ step_of (walk (pair_lines (p + 1) (n - (p + 1))) s r)
  pairs_step a b r f = ap step_of (pairs_next a b r f) ∙ step-prep (a ∷ b ∷ []) (walk (pair_lines (p + 1) (n - (p + 1))) s r)
