-- Where the lines of an accepted text stand, and what they hold.
--   block_parts    the lines of the blocks, behind the header
--   frame_parts    these, and behind another header the lines of the groups
-- Assumes nothing.
use Prim.Native.Nat.{ℕ, ◌+◌, ◌*◌, ◌≤◌}
use mathlib.Core.Path.{◌≡◌, sym, ap, ◌∙◌}
use mathlib.Core.List.{List, [], ◌++◌, append-nil}
use native.Mathlib.Omega.{arith}
use lib.ListN.{length, drop, length-drop}
use lib.Seq.{drop-drop, drop-append_seam}
use Rattle.text_formats.specs.Format.{Item, read, scan}
use Rattle.text_formats.specs.Items.{bits_line, bits_lines, past, walk, spell, Fit}
use Rattle.text_formats.proofs.Parts.{Split, fit-split}
use Rattle.text_formats.proofs.Spelling.{walk-spell, tidy_bits_line}
use Rattle.text_formats.proofs.Takes.{fit_length, line_takes}
use Rattle.text_formats.proofs.Lines.{lines_tidy, lines-take}
use Rattle.staircase.specs.Design.{most-blocks}
use Rattle.staircase.specs.Frame.{groups}
use Rattle.text.specs.FrameText.{block_format, frame_format, group_line, group_lines, group_items, BlockText, FrameText}
use Rattle.text.proofs.GroupLine.{group_takes, tidy_group_line}
use Rattle.text.proofs.FrameTexts.{blocks-read, frame-read}

-- ---- block text

pub record BlockParts (area L : ℕ) (vs s : List ℕ) : Type 0 where
  pub some : 1 ≤ L
  pub few : L ≤ most-blocks
  pub size : length vs ≡ L * area
  pub last : ℕ
  pub lines : walk (bits_lines area 1 L) s 11 ≡ past vs last

pub block_parts : (area L : ℕ) (vs s : List ℕ) → scan (block_format area most-blocks) s ≡ read L vs → BlockParts area L vs s
block_parts area L vs s e = go (blocks-read area most-blocks L vs s (omega arith) (omega arith) e)
  where
    go : BlockText area most-blocks L vs s → BlockParts area L vs s
    go b =
        let is : List Item = bits_lines area 1 L in
        let f : Fit is vs = b.spells.0 in
        let h = b.few in
        let d : drop 11 s ≡ spell is vs ++ [] = ap (λ (l : List ℕ). drop 11 l) b.spells.1 ∙ sym (append-nil (spell is vs)) in
        record {
          some = b.some;
          few = h;
          size = fit_length is vs f ∙ lines-take (bits_line area) area L 1 (line_takes area);
          last = 11 + length (spell is vs);
          lines = walk-spell is vs [] s 11 (lines_tidy (bits_line area) L 1 (omega arith) (tidy_bits_line area)) f d;
        }

-- ---- frame text

pub record FrameParts (area n L : ℕ) (vs s : List ℕ) : Type 0 where
  pub some : 1 ≤ L
  pub few : L ≤ most-blocks
  pub info : List ℕ
  pub red : List ℕ
  pub whole : vs ≡ info ++ red
  pub info-size : length info ≡ L * area
  pub red-size : length red ≡ groups L * (2 * n)
  pub middle : ℕ
  pub block-lines : walk (bits_lines area 1 L) s 11 ≡ past info middle
  pub room : middle + 18 ≤ length s
  pub last : ℕ
  pub group_lines_lem : walk (group_lines n 1 (groups L)) s (middle + 18) ≡ past red last

-- what follows a list that is spelt
behind : (p t s : List ℕ) (at : ℕ) → drop at s ≡ p ++ t → drop (at + length p) s ≡ t
behind p t s at e = sym (drop-drop (length p) at s) ∙ ap (λ (l : List ℕ). drop (length p) l) e ∙ drop-append_seam p t

pub frame_parts : (area n L : ℕ) (vs s : List ℕ) → scan (frame_format area n most-blocks) s ≡ read L vs → FrameParts area n L vs s
frame_parts area n L vs s e = go (frame-read area n most-blocks L vs s (omega arith) (omega arith) e)
  where
    is : List Item
    is = bits_lines area 1 L

    js : List Item
    js = group_lines n 1 (groups L)

    split : 1 ≤ L → L ≤ most-blocks → drop 11 s ≡ spell (is ++ group_items n (groups L)) vs → Split is (group_items n (groups L)) vs → FrameParts area n L vs s
    split h k d S =
        let us : List ℕ = S.us in
        let ws : List ℕ = S.vs in
        let f : Fit is us = S.left in
        let g : Fit (group_items n (groups L)) ws = S.right in
        let G : List Item = group_items n (groups L) in
        let a : drop 11 s ≡ spell is us ++ spell G ws = d ∙ S.spelt in
        let q : ℕ = 11 + length (spell is us) in
        let b : drop q s ≡ spell G ws = behind (spell is us) (spell G ws) s 11 a in
        let c : drop (q + 18) s ≡ spell js ws ++ [] = sym (drop-drop 18 q s) ∙ ap (λ (l : List ℕ). drop 18 l) b ∙ sym (append-nil (spell js ws)) in
        let m : length (drop q s) ≡ 18 + length (spell js ws) = ap length b ∙ omega arith in
        record {
          some = h;
          few = k;
          info = us;
          red = ws;
          whole = S.all;
          info-size = fit_length is us f ∙ lines-take (bits_line area) area L 1 (line_takes area);
          red-size = fit_length js ws g ∙ lines-take (group_line n) (2 * n) (groups L) 1 (group_takes n);
          middle = q;
          block-lines = walk-spell is us (spell G ws) s 11 (lines_tidy (bits_line area) L 1 (omega arith) (tidy_bits_line area)) f a;
          room = omega (arith, length-drop q s);
          last = q + 18 + length (spell js ws);
          group_lines_lem = walk-spell js ws [] s (q + 18) (lines_tidy (group_line n) (groups L) 1 (omega arith) (tidy_group_line n)) g c;
        }

    go : FrameText area n most-blocks L vs s → FrameParts area n L vs s
    go b =
        split b.some b.few (ap (λ (l : List ℕ). drop 11 l) b.spells.1) (fit-split is (group_items n (groups L)) vs b.spells.0)
