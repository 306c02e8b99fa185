-- How long block text and frame text are, and which values fit them.
--   line-bytes, group-bytes     the line of a block and of a group; line-long, group-long: at least
--   lines-bytes, lines_long     lines, by a law for the line of a number
--   group_bare                  the values of a group's line are bits
--   blocks-fit, groups-fit      any bits are values of block text and of group text
--   frame-length                the bytes of a frame text
--   same_count                  two frame texts of one length have the same number of blocks
-- Assumes nothing.
use Prim.Native.Nat.{ℕ, zero, suc, ◌+◌, ◌*◌, ◌≤◌, ◌<◌}
use mathlib.Core.Path.{◌≡◌, refl, sym, ap, ◌∙◌}
use mathlib.Core.List.{List, [], ◌∷◌, ◌++◌}
use native.Mathlib.Omega.{arith}
use native.Mathlib.Decide.{dec_lt}
use native.Mathlib.Nat.{suc-mul}
use lib.ListN.{length, length-append, length-replicate}
use Rattle.text_formats.specs.Format.{Item, byte, bit, dec}
use Rattle.text_formats.specs.Items.{lits, bits, fields, lines_from, bits_line, bits_lines, Fit}
use Rattle.text_formats.proofs.Items.{dec-long}
use Rattle.text_formats.proofs.Bare.{AllBits, Bare, bits_fit, bare_length, bare_append, bare_lits, part_bare, end_bare, line_bare, lines_bare}
use Rattle.text_formats.proofs.Parts.{lits-length}
use Rattle.text_formats.proofs.Takes.{takes, line_takes}
use Rattle.text_formats.proofs.Lines.{lines-take}
use Rattle.staircase.specs.Frame.{groups}
use Rattle.text.specs.FrameText.{block_names, group_names_tail, group_names, group_line, group_lines, block_items, group_items, FrameText, line_bytes, frame_bytes}
use Rattle.text.proofs.GroupLine.{group_takes}

-- ---- the line of a block and of a group: a number has a digit; spaces, bits and a line feed follow

run_length : (n : ℕ) (is : List Item) → length ((byte 32 ∷ bits n) ++ is) ≡ n + 1 + length is
run_length n is = omega (arith, length-append (byte 32 ∷ bits n) is, length-replicate n bit)

line-bytes : (n q : ℕ) → length (bits_line n q) ≡ length (dec q) + (n + 2)
unfolding bits_line
line-bytes n q = omega (arith, length-append (lits (dec q)) (fields (n ∷ [])), lits-length (dec q), run_length n (byte 10 ∷ []))

group-bytes : (n q : ℕ) → length (group_line n q) ≡ length (dec q) + (2 * n + 3)
unfolding group_line
group-bytes n q =
    omega (arith, length-append (lits (dec q)) (fields (n ∷ n ∷ [])), lits-length (dec q), run_length n (fields (n ∷ [])), run_length n (byte 10 ∷ []))

pub line-long : (n p : ℕ) → n + 3 ≤ length (bits_line n p)
line-long n p = omega (arith, line-bytes n p, dec-long p)

pub group-long : (n p : ℕ) → 2 * n + 4 ≤ length (group_line n p)
group-long n p = omega (arith, group-bytes n p, dec-long p)

pub group_bare : (n p : ℕ) → Bare (group_line n p)
unfolding group_line
group_bare n p =
    bare_append (lits (dec p)) (fields (n ∷ n ∷ [])) (bare_lits (dec p)) (bare_append (byte 32 ∷ bits n) (fields (n ∷ [])) (part_bare n) (end_bare n))

-- ---- lines that each have a number, by a law for the line of a number

lines-bytes : (line : ℕ → List Item) (w : ℕ) → ((q : ℕ) → length (line q) ≡ length (dec q) + w) → (k p : ℕ) → length (lines_from line p k) ≡ line_bytes w p k
unfolding lines_from line_bytes
lines-bytes line w l zero p = refl
lines-bytes line w l (suc k) p = omega (arith, length-append (line p) (lines_from line (suc p) k), l p, lines-bytes line w l k (suc p))

pub lines_long : (line : ℕ → List Item) (w k p : ℕ) → ((q : ℕ) → w ≤ length (line q)) → k * w ≤ length (lines_from line p k)
unfolding lines_from
lines_long line w zero p l = omega arith
lines_long line w (suc k) p l =
    sum (length (line p)) (length (lines_from line (suc p) k)) (length-append (line p) (lines_from line (suc p) k)) (l p) (lines_long line w k (suc p) l)
  where
    sum : (a b : ℕ) → length (line p ++ lines_from line (suc p) k) ≡ a + b → w ≤ a → k * w ≤ b → suc k * w ≤ length (line p ++ lines_from line (suc p) k)
    sum a b e f g = omega (arith, suc-mul k w)

-- ---- block text and group text of any bits

pub blocks-fit : (area L : ℕ) (info : List ℕ) → length info ≡ L * area → AllBits info → Fit (block_items area L) info
unfolding takes
blocks-fit area L info h b =
    bits_fit (block_items area L) info (lines_bare (bits_line area) L 1 (line_bare area)) b (h ∙ sym (lines-take (bits_line area) area L 1 (line_takes area)))

pub groups-fit : (n G : ℕ) (red : List ℕ) → length red ≡ G * (2 * n) → AllBits red → Fit (group_items n G) red
unfolding takes
groups-fit n G red h b =
    bits_fit (group_items n G) red
    (bare_append (lits group_names_tail) (group_lines n 1 G) (bare_lits group_names_tail) (lines_bare (group_line n) G 1 (group_bare n))) b
    (h ∙ sym (lines-take (group_line n) (2 * n) G 1 (group_takes n)))

-- ---- the bytes of a frame text

frame_bare : (area n L : ℕ) → Bare (block_items area L ++ group_items n (groups L))
frame_bare area n L =
    bare_append (bits_lines area 1 L) (group_items n (groups L)) (lines_bare (bits_line area) L 1 (line_bare area))
    (lines_bare (group_line n) (groups L) 1 (group_bare n))

-- "`mend` reads .. block text followed by group text": its length
pub frame-length : (area n most L : ℕ) (vs s : List ℕ) → FrameText area n most L vs s → length s ≡ frame_bytes area n L
unfolding frame_bytes
frame-length area n most L vs s b =
    omega (
      arith,
      ap length b.spells.1,
      bare_length (block_items area L ++ group_items n (groups L)) vs (frame_bare area n L) b.spells.0,
      length-append (block_items area L) (group_items n (groups L)),
      length-append (lits block_names) (bits_lines area 1 L),
      length-append (lits group_names) (group_lines n 1 (groups L)),
      lines-bytes (bits_line area) (area + 2) (line-bytes area) L 1,
      lines-bytes (group_line n) (2 * n + 3) (group-bytes n) (groups L) 1,
    )

line_bytes_grow : (w k j p : ℕ) → k ≤ j → line_bytes w p k ≤ line_bytes w p j
unfolding line_bytes
line_bytes_grow w zero j p h = omega arith
line_bytes_grow w (suc k) zero p h = absurd (omega arith)
line_bytes_grow w (suc k) (suc j) p h = omega (arith, line_bytes_grow w k j (suc p) (omega arith))

line_bytes-more : (w k j p : ℕ) → 0 < w → k < j → line_bytes w p k < line_bytes w p j
unfolding line_bytes
line_bytes-more w k zero p o h = absurd (omega arith)
line_bytes-more w zero (suc j) p o h = omega arith
line_bytes-more w (suc k) (suc j) p o h = omega (arith, line_bytes-more w k j (suc p) o (omega arith))

bytes-more : (area n L K : ℕ) → L < K → frame_bytes area n L < frame_bytes area n K
unfolding frame_bytes
bytes-more area n L K h =
    let g : groups L ≤ groups K = omega arith in
    omega (arith, line_bytes-more (area + 2) L K 1 (omega arith) h, line_bytes_grow (2 * n + 3) (groups L) (groups K) 1 g)

pub same_count : (area n most L K : ℕ) (vs ws s u : List ℕ) → FrameText area n most L vs s → FrameText area n most K ws u → length s ≡ length u → L ≡ K
same_count area n most L K vs ws s u a b e = go (dec_lt L K) (dec_lt K L)
  where
    x : frame_bytes area n L ≡ frame_bytes area n K
    x = sym (frame-length area n most L vs s a) ∙ e ∙ frame-length area n most K ws u b

    go : Dec (L < K) → Dec (K < L) → L ≡ K
    go (yes h) k = absurd (omega (arith, x, bytes-more area n L K h))
    go (no h) (yes k) = absurd (omega (arith, x, bytes-more area n K L k))
    go (no h) (no k) = omega arith
