-- The two lines at the start of a kit text.
--   Shown, head_read    what a text shows that starts with two lines
--   head_stuck          rule 11, where they go wrong
-- Assumes nothing.
use Prim.Native.Nat.{ℕ}
use mathlib.Core.Path.{◌≡◌, ap}
use mathlib.Core.List.{List, [], ◌∷◌}
use lib.ListN.{get_or}
use Rattle.text_formats.specs.Items.{Walk, stuck, past, walk, values}
use Rattle.staircase.specs.Rules.Verdict.{accepted, refused}
use Rattle.text.specs.Rules.{walk_rule, passed}
use Rattle.text.specs.KitText.{head_items}
use Rattle.text.specs.KitReader.{head_number, head_rule}

-- what a text shows that starts with two lines
pub record Shown (s : List ℕ) (m t M q : ℕ) : Type 0 where
  pub rule : head_rule s ≡ accepted
  pub first : head_number s 0 ≡ m
  pub second : head_number s 1 ≡ t
  pub third : head_number s 2 ≡ M
  pub after : passed (walk head_items s 0) ≡ q

pub head_read : (s : List ℕ) (m t M q : ℕ) → walk head_items s 0 ≡ past (m ∷ t ∷ M ∷ []) q → Shown s m t M q
unfolding head_rule head_number walk_rule passed
head_read s m t M q e =
    record {
      rule = ap (walk_rule 11) e;
      first = ap (λ (w : Walk). get_or (values w) 0 0) e;
      second = ap (λ (w : Walk). get_or (values w) 1 0) e;
      third = ap (λ (w : Walk). get_or (values w) 2 0) e;
      after = ap passed e;
    }

pub head_stuck : (s : List ℕ) (q : ℕ) → walk head_items s 0 ≡ stuck q → head_rule s ≡ refused 11 q
unfolding head_rule walk_rule
head_stuck s q e = ap (walk_rule 11) e
