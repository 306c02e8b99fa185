-- What the steps of `makekit` hand on.
--   kit_made, kit_output     the call on a design and lists, and what is printed for them
--   Fronted                the text is short enough, and its two lines are accepted, with the design d
--   Listed                 and the lists' lines are accepted, and stand at a position
--   ListsFit               lists of a design have their lengths
--   Measured               and the kit's text, of a length, is short enough
--   MakeReady              and the lent slices have the maker's lengths
--   WriteReady             and the inverse has its length
-- Assumes nothing.
use Rattle.std.specs.Prelude.{◌≡◌, List, ℕ, ◌*◌, ◌≤◌, ltb, length, replicate}
use Rattle.text_formats.specs.Format.{read}
use Rattle.text_formats.specs.Items.{walk, values, Passes}
use Rattle.staircase.specs.Design.{params, order}
use Rattle.staircase.specs.System.{row_bytes}
use Rattle.staircase.specs.Rules.{◌then◌, refuse}
use Rattle.staircase.specs.Rules.Verdict.{accepted}
use Rattle.staircase.specs.Maker.{Made, make_work, make_call}
use Rattle.design.specs.declared.Design.{Design}
use Rattle.design.specs.Answers.{Allowed}
use Rattle.design.specs.Sizes.{params_of, order_of}
use Rattle.text.specs.Rules.{passed}
use Rattle.text.specs.KitText.{head_items, pair_lines, kit_bytes}
use Rattle.text.specs.KitReader.{head_number}
use Rattle.text.specs.KitWriter.{text_length}
use Rattle.text.specs.Programs.{most-input, printed}
use Rattle.text.specs.MakeKit.{lists_scan}
use Rattle.text_kit_scan.specs.Answers.{front_rule}

-- ---- behind the lists

-- the inverse that is lent is zero
unfoldable pub kit_made : ℕ → ℕ → ℕ → List ℕ → List ℕ → Made
kit_made m t M own parity =
    make_call m t M 0 own parity (replicate (order (params m t M 0) * row_bytes (order (params m t M 0))) 0) (make_work (params m t M 0))

-- rule 13 for the text, then the maker's rules, then the text
unfoldable pub kit_output : ℕ → ℕ → ℕ → List ℕ → List ℕ → List ℕ
kit_output m t M own parity =
    printed (refuse (ltb most-input (text_length m t M own parity)) 13 1 then (kit_made m t M own parity).verdict)
    (kit_bytes m t M own parity (kit_made m t M own parity).inverse)

-- ---- what was read

pub record Fronted (d : Design) (at : ℕ) (s : List ℕ) : Type 0 where
  pub short : length s ≤ most-input
  pub front : front_rule s ≡ accepted
  pub m-is : d.m ≡ head_number s 0
  pub t-is : d.t ≡ head_number s 1
  pub M-is : d.size ≡ head_number s 2
  pub col-is : d.col ≡ 0
  pub allowed : Allowed d
  pub at-is : at ≡ passed (walk head_items s 0)

pub record Listed (d : Design) (i : ℕ) (s : List ℕ) : Type 0 where
  pub at : ℕ
  pub fronted : Fronted d at s
  pub right : Passes (walk (pair_lines 0 (order_of d)) s i)
  pub shows : lists_scan s ≡ read 0 (values (walk (pair_lines 0 (order_of d)) s i))

-- ---- what is lent

pub record ListsFit (d : Design) (own parity : List ℕ) : Type 0 where
  pub allowed : Allowed d
  pub own-length : length own ≡ 2 * order_of d
  pub parity-length : length parity ≡ 2 * order_of d

pub record Measured (d : Design) (own parity : List ℕ) (long : ℕ) : Type 0 where
  pub fit : ListsFit d own parity
  pub length-is : long ≡ text_length d.m d.t d.size own parity
  pub short : long ≤ most-input

pub record MakeReady (d : Design) (own parity : List ℕ) (long inverse work : ℕ) : Type 0 where
  pub measured : Measured d own parity long
  pub inverse-length : inverse ≡ order_of d * row_bytes (order_of d)
  pub work-length : work ≡ make_work (params_of d)

pub record WriteReady (d : Design) (own parity : List ℕ) (long inverse : ℕ) : Type 0 where
  pub measured : Measured d own parity long
  pub inverse-length : inverse ≡ order_of d * row_bytes (order_of d)
