-- What rule 12 means for block text and frame text, and what a caller knows of an accepted text. Stated over the definitions that the contracts cite.
--   blocks-accepted, frame-accepted   accepted are exactly the texts of the format, with the bits that the reader gives
--   blocks_place, frame_place         a refusal's place is the longest start that some text of the format shares
--   blocks_hold, frame_holds          of an accepted text: the number of blocks, the lengths, bits alone, and how long it is at least
--   blocks-left, frame-left           what the readers leave in slices of the right lengths
-- Assumes nothing.
use Prim.Native.Nat.{ℕ, ◌+◌, ◌*◌, ◌≤◌}
use mathlib.Core.Path.{◌≡◌, refl, sym, ap, subst, ◌∙◌}
use mathlib.Core.List.{List, ◌∷◌, ◌++◌}
use native.Mathlib.Omega.{arith}
use lib.ListN.{length, take, drop, take-append-drop, length-append}
use lib.Seq.{take_at, drop_at}
use Rattle.bch.specs.Polynomial.{Bits}
use Rattle.text_formats.specs.Format as format
use Rattle.text_formats.specs.Format.{Item, byte, Text, Longest, Scan, read, scan}
use Rattle.text_formats.specs.Items.{lits, bits_line, bits_lines, spell}
use Rattle.text_formats.proofs.Scan.{scan-complete, scan_longest, longest_same}
use Rattle.staircase.specs.Design.{most-blocks}
use Rattle.staircase.specs.Frame.{groups}
use Rattle.staircase.specs.Rules.{Verdict, ◌then◌, length_rule}
use Rattle.staircase.specs.Rules.Verdict.{accepted, refused}
use Rattle.staircase.proofs.Rules.{then_accepted, length-accepted}
use Rattle.text.specs.Rules.{scan_rule, mark, values_of}
use Rattle.text.proofs.Kept.{kept_new}
use Rattle.text.specs.FrameText.{group_names_tail, block_format, frame_format, group_line, group_lines, BlockText, FrameText, block_names}
use Rattle.text.specs.FrameReader.{block_scan, block_rule, block_count, block_info, read_blocks_call, frame_scan, frame_rule, frame_count, frame_info, frame_red, read_frame_call}
use Rattle.text.proofs.FrameTexts.{clear_blocks, clear_frame, blocks_union, union_blocks, frame_union, union_frame, blocks-read, frame-read}
use Rattle.text_formats.proofs.Takes.{fit_length, spell-long, line_takes}
use Rattle.text_formats.proofs.Bare.{bits-drop, bits-take, fit-bits, bare_append, line_bare, lines_bare}
use Rattle.text_formats.proofs.Lines.{lines-take}
use Rattle.text.proofs.FrameLengths.{lines_long, line-long, group_bare, group-long}
use Rattle.text.proofs.FrameParts.{frame_parts}

-- ---- a scan by its rule

rule_accepts : (x : Scan) → scan_rule 12 x ≡ accepted → x ≡ read (mark x) (values_of x)
unfolding scan_rule mark values_of
rule_accepts (format.refused q) e = let z : ◌≡◌ {A = ℕ} 0 1 = cc in absurd (omega arith)
rule_accepts (read l vs) e = refl

rule_refuses : (x : Scan) (k : ℕ) → scan_rule 12 x ≡ refused 12 k → x ≡ format.refused k
unfolding scan_rule
rule_refuses (format.refused q) k e = let z : q ≡ k = cc in ap format.refused z
rule_refuses (read l vs) k e = let z : ◌≡◌ {A = ℕ} 0 1 = cc in absurd (omega arith)

is-accepted : (x : Scan) (L : ℕ) (vs : List ℕ) → x ≡ read L vs → (scan_rule 12 x ≡ accepted) × (L ≡ mark x) × (vs ≡ values_of x)
unfolding scan_rule mark values_of
is-accepted x L vs e = (ap (scan_rule 12) e, sym (ap mark e), sym (ap values_of e))

-- ---- block text

-- s is a block text for this M
abbrev pub SomeBlocks : ℕ → List ℕ → Type 0
SomeBlocks M s = (L : ℕ) × (vs : List ℕ) × BlockText (M * M) most-blocks L vs s

-- A text is accepted exactly where it is a block text. What the reader gives, written as block text, is the text; and no other number of blocks
-- and no other bits make this text.
pub blocks-accepted : (M : ℕ) (s : List ℕ)
    → (block_rule M s ≡ accepted → BlockText (M * M) most-blocks (block_count M s) (block_info M s) s)
    × ((L : ℕ) (vs : List ℕ) → BlockText (M * M) most-blocks L vs s → (block_rule M s ≡ accepted) × (L ≡ block_count M s) × (vs ≡ block_info M s))
unfolding block_rule block_count block_info block_scan
blocks-accepted M s = (
  λ e. blocks-read (M * M) most-blocks (block_count M s) (block_info M s) s (omega arith) (omega arith) (rule_accepts (block_scan M s) e),
  λ L vs b. is-accepted (block_scan M s) L vs
      (scan-complete (block_format (M * M) most-blocks) L vs s (clear_blocks (M * M) most-blocks (omega arith) (omega arith))
      (union_blocks (M * M) most-blocks L vs s b)),
)

-- "12 block text: the same for block text", that is "length of the longest start that some .. text shares": the place of a refusal.
pub blocks_place : (M : ℕ) (s : List ℕ) (k : ℕ) → block_rule M s ≡ refused 12 k → Longest (SomeBlocks M) s k
unfolding block_rule block_scan
blocks_place M s k e =
    longest_same (Text (block_format (M * M) most-blocks)) (SomeBlocks M)
    (λ y x. (x.0, x.1, blocks_union (M * M) most-blocks x.0 x.1 y (omega arith) x.2))
    (λ y x. (x.0, x.1, union_blocks (M * M) most-blocks x.0 x.1 y x.2))
    s k (scan_longest (block_format (M * M) most-blocks) s k (clear_blocks (M * M) most-blocks (omega arith) (omega arith)) (rule_refuses (block_scan M s) k e))

-- What holds of a block text with the number of blocks L and the bits vs.
pub record BlocksHold (M L : ℕ) (vs s : List ℕ) : Type 0 where
  pub some : 1 ≤ L
  pub few : L ≤ most-blocks
  pub info-length : length vs ≡ L * (M * M)
  pub info-bits : Bits vs
  pub text-length : L * (M * M + 3) ≤ length s

-- An accepted text has 1 to 4,096 blocks, M × M bits for each, and at least M × M + 3 bytes for each.
pub blocks_hold : (M : ℕ) (s : List ℕ) → block_rule M s ≡ accepted → BlocksHold M (block_count M s) (block_info M s) s
blocks_hold M s e = go (block_count M s) (block_info M s) ((blocks-accepted M s).0 e)
  where
    go : (L : ℕ) (vs : List ℕ) → BlockText (M * M) most-blocks L vs s → BlocksHold M L vs s
    go L vs b =
        let is : List Item = bits_lines (M * M) 1 L in
        let names : List Item = lits block_names in
        let long : length (names ++ is) ≤ length (spell (names ++ is) vs) = spell-long (names ++ is) vs b.spells.0 in
        let same : length s ≡ length (spell (names ++ is) vs) = ap length b.spells.1 in
        record {
          some = b.some;
          few = b.few;
          info-length = fit_length is vs b.spells.0 ∙ lines-take (bits_line (M * M)) (M * M) L 1 (line_takes (M * M));
          info-bits = fit-bits is vs (lines_bare (bits_line (M * M)) L 1 (line_bare (M * M))) b.spells.0;
          text-length = omega (arith, length-append names is, lines_long (bits_line (M * M)) (M * M + 3) L 1 (line-long (M * M)));
        }

-- An accepted text fills a slice that fits with its information.
pub blocks-left : (M : ℕ) (s old : List ℕ) → block_rule M s ≡ accepted → length old ≡ block_count M s * (M * M) → (read_blocks_call M s old).info ≡ block_info M s
unfolding read_blocks_call
blocks-left M s old e l =
    let due : ℕ = block_count M s * (M * M) in
    kept_new (block_rule M s then length_rule 4 (length old) due) (block_info M s) old (then_accepted e (length-accepted 4 (length old) due l))

-- ---- frame text

-- s is a frame text for this M and r
abbrev pub SomeFrame : ℕ → ℕ → List ℕ → Type 0
SomeFrame M r s = (L : ℕ) × (vs : List ℕ) × FrameText (M * M) (M * r) most-blocks L vs s

frame-values : (M r : ℕ) (s : List ℕ) → frame_info M r s ++ frame_red M r s ≡ values_of (frame_scan M r s)
unfolding frame_info frame_red
frame-values M r s = take-append-drop (frame_count M r s * (M * M)) (values_of (frame_scan M r s))

-- The same for frame text: the bits are those of the blocks and behind them those of the groups.
pub frame-accepted : (M r : ℕ) (s : List ℕ)
    → (frame_rule M r s ≡ accepted → FrameText (M * M) (M * r) most-blocks (frame_count M r s) (frame_info M r s ++ frame_red M r s) s)
    × ((L : ℕ) (vs : List ℕ) → FrameText (M * M) (M * r) most-blocks L vs s
    → (frame_rule M r s ≡ accepted) × (L ≡ frame_count M r s) × (vs ≡ frame_info M r s ++ frame_red M r s))
unfolding frame_rule frame_count frame_scan
frame-accepted M r s = (
  λ e.
      subst (λ (vs : List ℕ). FrameText (M * M) (M * r) most-blocks (mark (frame_scan M r s)) vs s) (sym (frame-values M r s))
      (frame-read (M * M) (M * r) most-blocks (mark (frame_scan M r s)) (values_of (frame_scan M r s)) s (omega arith) (omega arith)
      (rule_accepts (frame_scan M r s) e)),
  λ L vs b.
      let c = clear_frame (M * M) (M * r) most-blocks (omega arith) (omega arith) in
      let t = is-accepted (frame_scan M r s) L vs
      (scan-complete (frame_format (M * M) (M * r) most-blocks) L vs s c (union_frame (M * M) (M * r) most-blocks L vs s b)) in
      (t.0, t.1, t.2 ∙ sym (frame-values M r s)),
)

-- "For `mend`, 12 covers both texts": the place of a refusal is the longest start that some frame text shares.
pub frame_place : (M r : ℕ) (s : List ℕ) (k : ℕ) → frame_rule M r s ≡ refused 12 k → Longest (SomeFrame M r) s k
unfolding frame_rule frame_scan
frame_place M r s k e =
    let c = clear_frame (M * M) (M * r) most-blocks (omega arith) (omega arith) in
    longest_same (Text (frame_format (M * M) (M * r) most-blocks)) (SomeFrame M r)
    (λ y x. (x.0, x.1, frame_union (M * M) (M * r) most-blocks x.0 x.1 y (omega arith) x.2))
    (λ y x. (x.0, x.1, union_frame (M * M) (M * r) most-blocks x.0 x.1 y x.2))
    s k (scan_longest (frame_format (M * M) (M * r) most-blocks) s k c (rule_refuses (frame_scan M r s) k e))

-- What holds of a frame text with the number of blocks L, the information vs and the redundancy ws.
pub record FrameHolds (M r L : ℕ) (vs ws s : List ℕ) : Type 0 where
  pub some : 1 ≤ L
  pub few : L ≤ most-blocks
  pub info-length : length vs ≡ L * (M * M)
  pub red-length : length ws ≡ groups L * (2 * (M * r))
  pub info-bits : Bits vs
  pub red-bits : Bits ws
  pub text-length : L * (M * M + 3) + groups L * (2 * (M * r) + 4) ≤ length s

-- An accepted text has 1 to 4,096 blocks with M × M bits each and at least M × M + 3 bytes, and G groups with twice M × r bits each and at least
-- twice M × r + 4 bytes.
pub frame_holds : (M r : ℕ) (s : List ℕ) → frame_rule M r s ≡ accepted → FrameHolds M r (frame_count M r s) (frame_info M r s) (frame_red M r s) s
unfolding frame_rule frame_count frame_info frame_red frame_scan
frame_holds M r s e = go (mark (frame_scan M r s)) (values_of (frame_scan M r s)) (rule_accepts (frame_scan M r s) e)
  where
    go : (L : ℕ) (vs : List ℕ) → scan (frame_format (M * M) (M * r) most-blocks) s ≡ read L vs
        → FrameHolds M r L (take (L * (M * M)) vs) (drop (L * (M * M)) vs) s
    go L vs x =
        let p = frame_parts (M * M) (M * r) L vs s x in
        let b = frame-read (M * M) (M * r) most-blocks L vs s (omega arith) (omega arith) x in
        let is : List Item = bits_lines (M * M) 1 L in
        let js : List Item = group_lines (M * r) 1 (groups L) in
        let first : List Item = lits block_names ++ is in
        let second : List Item = byte 103 ∷ (lits group_names_tail ++ js) in
        let bits : Bits vs =
        fit-bits (is ++ second) vs (bare_append is second (lines_bare (bits_line (M * M)) L 1 (line_bare (M * M)))
        (lines_bare (group_line (M * r)) (groups L) 1 (group_bare (M * r)))) b.spells.0 in
        let info : take (L * (M * M)) vs ≡ p.info =
        ap (λ (l : List ℕ). take (L * (M * M)) l) p.whole ∙ take_at p.info p.red (L * (M * M)) p.info-size in
        let red : drop (L * (M * M)) vs ≡ p.red =
        ap (λ (l : List ℕ). drop (L * (M * M)) l) p.whole ∙ drop_at p.info p.red (L * (M * M)) p.info-size in
        let long : length (first ++ second) ≤ length (spell (first ++ second) vs) = spell-long (first ++ second) vs b.spells.0 in
        let same : length s ≡ length (spell (first ++ second) vs) = ap length b.spells.1 in
        record {
          some = b.some;
          few = b.few;
          info-length = ap length info ∙ p.info-size;
          red-length = ap length red ∙ p.red-size;
          info-bits = bits-take (L * (M * M)) vs bits;
          red-bits = bits-drop (L * (M * M)) vs bits;
          text-length =
              omega (
                arith,
                length-append first second,
                length-append (lits block_names) is,
                length-append (lits group_names_tail) js,
                lines_long (bits_line (M * M)) (M * M + 3) L 1 (line-long (M * M)),
                lines_long (group_line (M * r)) (2 * (M * r) + 4) (groups L) 1 (group-long (M * r)),
              );
        }

-- An accepted text fills slices that fit with its information and its redundancy.
pub frame-left : (M r : ℕ) (s info red : List ℕ) → frame_rule M r s ≡ accepted → length info ≡ frame_count M r s * (M * M)
    → length red ≡ groups (frame_count M r s) * (2 * (M * r))
    → ((read_frame_call M r s info red).info ≡ frame_info M r s) × ((read_frame_call M r s info red).red ≡ frame_red M r s)
unfolding read_frame_call
frame-left M r s info red e l k =
    let L : ℕ = frame_count M r s in
    let lengths : Verdict = length_rule 4 (length info) (L * (M * M)) then length_rule 5 (length red) (groups L * (2 * (M * r))) in
    let v : (frame_rule M r s then lengths) ≡ accepted =
    then_accepted e
    (then_accepted (length-accepted 4 (length info) (L * (M * M)) l) (length-accepted 5 (length red) (groups L * (2 * (M * r))) k)) in
    (kept_new (frame_rule M r s then lengths) (frame_info M r s) info v, kept_new (frame_rule M r s then lengths) (frame_red M r s) red v)
