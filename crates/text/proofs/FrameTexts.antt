-- Block text and frame text: the formats are clear, and their texts are the unions over the number of blocks.
--   clear_blocks, clear_frame     the formats are clear, so the scan decides them
--   blocks_union, union_blocks    a text of the block format is a block text of some number of blocks, and the other way round
--   frame_union, union_frame      the same of frame text
--   blocks-read, frame-read       what the scan accepts is such a text
-- Assumes nothing.
use Prim.Native.Nat.{ℕ, zero, suc, ◌+◌, ◌-◌, ◌≤◌, ◌<◌}
use mathlib.Core.Path.{◌≡◌, refl, sym, ap, subst, ◌∙◌}
use mathlib.Core.List.{List, [], ◌∷◌, ◌++◌, append_assoc, append-nil}
use mathlib.Core.Logic.{inl, inr}
use native.Mathlib.Omega.{arith}
use borrow.Author.Tests.{ne_eqb}
use lib.Dec.{eqb}
use Rattle.text_formats.specs.Format.{Item, byte, Format, end, ◌▷◌, Renders, read, scan, Avoids, Begins, Clear}
use Rattle.text_formats.specs.Items.{lits, seq, lines_from, bits_line, bits_lines, spell, Fit, Spells}
use Rattle.text_formats.proofs.Parts.{fit_append, fit-split}
use Rattle.text_formats.proofs.Scan.{dec_head, scan-sound}
use Rattle.text_formats.proofs.Spelling.{seq_renders, renders_seq, Spelt, clear_seq, tidy_append, tidy_bits_line}
use Rattle.text_formats.proofs.Lines.{lines_tidy}
use Rattle.staircase.specs.Frame.{groups}
use Rattle.text.specs.FrameText.{block_tail, block_format, group_names_tail, group_line, group_lines, group_tail, frame_tail, frame_format, block_names, block_items, group_items, BlockText, FrameText}
use Rattle.text.proofs.GroupLine.{tidy_group_line}

-- ---- clear

begins_row : (area p : ℕ) (F : Format) → p < 10000 → Begins (seq (bits_line area p) F)
unfolding bits_line
begins_row area p F h = let d = dec_head p h in rw d.3 tt

avoids_row : (area p : ℕ) (F : Format) → p < 10000 → Avoids (eqb 103) (seq (bits_line area p) F)
unfolding bits_line
avoids_row area p F h = let d = dec_head p h in rw d.3 (ne_eqb 103 (48 + d.0) (λ e. omega (arith, d.2)))

clear_block_tail : (area k i : ℕ) → i + k < 10000 → Clear (block_tail area k i)
unfolding block_tail
clear_block_tail area zero i h = tt
clear_block_tail area (suc k) i h = (
  begins_row area (suc i) (block_tail area k (suc i)) (omega arith),
  clear_seq (bits_line area (suc i)) (block_tail area k (suc i)) (tidy_bits_line area (suc i) (omega arith)) (clear_block_tail area k (suc i) (omega arith)),
)

pub clear_blocks : (area most : ℕ) → 1 ≤ most → most < 10000 → Clear (block_format area most)
unfolding block_format
clear_blocks area most l h =
    clear_seq (lits block_names) (seq (bits_line area 1) (block_tail area (most - 1) 1)) (omega arith)
    (clear_seq (bits_line area 1) (block_tail area (most - 1) 1) (tidy_bits_line area 1 (omega arith)) (clear_block_tail area (most - 1) 1 (omega arith)))

clear_groups : (area L : ℕ) → L < 10000 → Clear (group_tail area L)
unfolding group_tail
clear_groups area L h =
    clear_seq (lits group_names_tail ++ group_lines area 1 (groups L)) (end L)
    (tidy_append (lits group_names_tail) (group_lines area 1 (groups L)) (omega arith)
    (lines_tidy (group_line area) (groups L) 1 (omega arith) (tidy_group_line area))) tt

clear_frame_tail : (area order k i : ℕ) → i + k < 10000 → Clear (frame_tail area order k i)
unfolding frame_tail
clear_frame_tail area order zero i h = (omega arith, clear_groups order i (omega arith))
clear_frame_tail area order (suc k) i h = (
  omega arith,
  avoids_row area (suc i) (frame_tail area order k (suc i)) (omega arith),
  clear_groups order i (omega arith),
  clear_seq (bits_line area (suc i)) (frame_tail area order k (suc i)) (tidy_bits_line area (suc i) (omega arith))
      (clear_frame_tail area order k (suc i) (omega arith)),
)

pub clear_frame : (area order most : ℕ) → 1 ≤ most → most < 10000 → Clear (frame_format area order most)
unfolding frame_format
clear_frame area order most l h =
    clear_seq (lits block_names) (seq (bits_line area 1) (frame_tail area order (most - 1) 1)) (omega arith)
    (clear_seq (bits_line area 1) (frame_tail area order (most - 1) 1) (tidy_bits_line area 1 (omega arith))
    (clear_frame_tail area order (most - 1) 1 (omega arith)))

-- ---- block text is the union

abbrev Lines : ℕ → ℕ → ℕ → ℕ → List ℕ → List ℕ → Type 0
Lines area k i L vs s = (j : ℕ) × (j ≤ k) × (L ≡ i + j) × Spells (bits_lines area (suc i) j) vs s

no_line : (area k i L : ℕ) (vs s : List ℕ) → L ≡ i → vs ≡ [] → s ≡ [] → Lines area k i L vs s
unfolding lines_from
no_line area k i L vs s a b c = (0, omega arith, omega arith, (rw b tt, c))

more-lines : (area k i L : ℕ) (vs s ws us t : List ℕ) → Fit (bits_line area (suc i)) ws → vs ≡ ws ++ us → s ≡ spell (bits_line area (suc i)) ws ++ t
    → Lines area k (suc i) L us t → Lines area (suc k) i L vs s
unfolding lines_from
more-lines area k i L vs s ws us t f e g (j, h, l, (m, n)) =
    let (x, y) = fit_append (bits_line area (suc i)) (bits_lines area (suc (suc i)) j) ws us f m in
    (suc j, omega arith, omega arith, (rw e x, rw (g, e, n) (sym y)))

tail-lines : (area k i L : ℕ) (vs s : List ℕ) → Renders (block_tail area k i) L vs s → Lines area k i L vs s
unfolding block_tail
tail-lines area zero i L vs s (a, b, c) = no_line area 0 i L vs s a b c
tail-lines area (suc k) i L vs s (inl (a, b, c)) = no_line area (suc k) i L vs s a b c
tail-lines area (suc k) i L vs s (inr r) =
    go (renders_seq (bits_line area (suc i)) (block_tail area k (suc i)) L vs s r) (λ us t. tail-lines area k (suc i) L us t)
  where
    go : Spelt (bits_line area (suc i)) (block_tail area k (suc i)) L vs s
        → ((us t : List ℕ) → Renders (block_tail area k (suc i)) L us t → Lines area k (suc i) L us t)
        → Lines area (suc k) i L vs s
    go (ws, us, t, f, e, g, x) ih = more-lines area k i L vs s ws us t f e g (ih us t x)

lines-tail : (area k i L j : ℕ) (vs s : List ℕ) → j ≤ k → L ≡ i + j → Spells (bits_lines area (suc i) j) vs s → Renders (block_tail area k i) L vs s
unfolding block_tail lines_from
lines-tail area zero i L zero [] s h e (f, g) = (omega arith, refl, g)
lines-tail area zero i L zero (v ∷ vs) s h e (f, g) = absurd f
lines-tail area zero i L (suc j) vs s h e x = absurd (omega arith)
lines-tail area (suc k) i L zero [] s h e (f, g) = inl (omega arith, refl, g)
lines-tail area (suc k) i L zero (v ∷ vs) s h e (f, g) = absurd f
lines-tail area (suc k) i L (suc j) vs s h e (f, g) =
    let S = fit-split (bits_line area (suc i)) (bits_lines area (suc (suc i)) j) vs f in
    inr (go S.us S.vs S.left S.right S.all S.spelt (λ us t. lines-tail area k (suc i) L j us t (omega arith) (omega arith)))
  where
    go : (ws us : List ℕ) → Fit (bits_line area (suc i)) ws → Fit (bits_lines area (suc (suc i)) j) us → vs ≡ ws ++ us
        → spell (bits_line area (suc i) ++ bits_lines area (suc (suc i)) j) vs ≡ spell (bits_line area (suc i)) ws ++ spell (bits_lines area (suc (suc i)) j) us
        → ((us t : List ℕ) → Spells (bits_lines area (suc (suc i)) j) us t → Renders (block_tail area k (suc i)) L us t)
        → Renders (seq (bits_line area (suc i)) (block_tail area k (suc i))) L vs s
    go ws us m n w x ih =
        rw (g, x, w) (seq_renders (bits_line area (suc i)) (block_tail area k (suc i)) L ws us (spell (bits_lines area (suc (suc i)) j) us) m
        (ih us (spell (bits_lines area (suc (suc i)) j) us) (n, refl)))

-- A header and the first line before the rest, taken off and put on.
abbrev Front : ℕ → List Item
Front area = lits block_names ++ bits_line area 1

pub blocks_union : (area most L : ℕ) (vs s : List ℕ) → 1 ≤ most → Renders (block_format area most) L vs s → BlockText area most L vs s
unfolding block_format lines_from
blocks_union area most L vs s l r = go (renders_seq (Front area) (block_tail area (most - 1) 1) L vs s r)
  where
    go2 : (ws us t : List ℕ) → Fit (Front area) ws → vs ≡ ws ++ us → s ≡ spell (Front area) ws ++ t → Lines area (most - 1) 1 L us t
        → BlockText area most L vs s
    go2 ws us t f e g (j, h, w, (m, n)) =
        let (x, y) = fit_append (Front area) (bits_lines area 2 j) ws us f m in
        let z : L ≡ suc j = omega arith in
        record { some = omega arith; few = omega arith; spells = rw z (rw e x, rw (g, e, n) (sym y)) }

    go : Spelt (Front area) (block_tail area (most - 1) 1) L vs s → BlockText area most L vs s
    go (ws, us, t, f, e, g, x) = go2 ws us t f e g (tail-lines area (most - 1) 1 L us t x)

pub union_blocks : (area most L : ℕ) (vs s : List ℕ) → BlockText area most L vs s → Renders (block_format area most) L vs s
unfolding block_format lines_from
union_blocks area most zero vs s b = absurd (omega (arith, b.some))
union_blocks area most (suc j) vs s b =
    let S = fit-split (Front area) (bits_lines area 2 j) vs b.spells.0 in
    go S.us S.vs S.left S.right S.all S.spelt
  where
    go : (ws us : List ℕ) → Fit (Front area) ws → Fit (bits_lines area 2 j) us → vs ≡ ws ++ us
        → spell (Front area ++ bits_lines area 2 j) vs ≡ spell (Front area) ws ++ spell (bits_lines area 2 j) us
        → Renders (seq (lits block_names) (seq (bits_line area 1) (block_tail area (most - 1) 1))) (suc j) vs s
    go ws us m n w x =
        let e : s ≡ spell (Front area) ws ++ spell (bits_lines area 2 j) us = b.spells.1 ∙ x in
        let r = lines-tail area (most - 1) 1 (suc j) j us (spell (bits_lines area 2 j) us) (omega (arith, b.few)) (omega arith) (n, refl) in
        rw (e, w) (seq_renders (Front area) (block_tail area (most - 1) 1) (suc j) ws us (spell (bits_lines area 2 j) us) m r)

-- ---- frame text is the union

abbrev Groups : ℕ → ℕ → List Item
Groups order L = group_items order (groups L)

abbrev FrameLines : ℕ → ℕ → ℕ → ℕ → ℕ → List ℕ → List ℕ → Type 0
FrameLines area order k i L vs s = (j : ℕ) × (j ≤ k) × (L ≡ i + j) × Spells (bits_lines area (suc i) j ++ Groups order L) vs s

closed : (is : List Item) (i L : ℕ) (vs s : List ℕ) → Spelt is (end i) L vs s → (L ≡ i) × Spells is vs s
closed is i L vs s (ws, us, t, f, e, g, (a, b, c)) =
    let x : vs ≡ ws = e ∙ ap (λ (z : List ℕ). ws ++ z) b ∙ append-nil ws in
    (a, (rw x f, g ∙ ap (λ (z : List ℕ). spell is ws ++ z) c ∙ append-nil (spell is ws) ∙ ap (spell is) (sym x)))

last_group : (area order k i L : ℕ) (vs s : List ℕ) → Renders (byte 103 ▷ group_tail order i) L vs s → FrameLines area order k i L vs s
unfolding group_tail lines_from
last_group area order k i L vs s r =
    let (a, x) = closed (Groups order i) i L vs s (renders_seq (Groups order i) (end i) L vs s r) in
    (0, omega arith, omega arith, rw a x)

more-frame : (area order k i L : ℕ) (vs s ws us t : List ℕ) → Fit (bits_line area (suc i)) ws → vs ≡ ws ++ us → s ≡ spell (bits_line area (suc i)) ws ++ t
    → FrameLines area order k (suc i) L us t → FrameLines area order (suc k) i L vs s
unfolding lines_from
more-frame area order k i L vs s ws us t f e g (j, h, l, (m, n)) =
    let (x, y) = fit_append (bits_line area (suc i)) (bits_lines area (suc (suc i)) j ++ Groups order L) ws us f m in
    (suc j, omega arith, omega arith, rw append_assoc (rw e x, rw (g, e, n) (sym y)))

frame-lines : (area order k i L : ℕ) (vs s : List ℕ) → Renders (frame_tail area order k i) L vs s → FrameLines area order k i L vs s
unfolding frame_tail
frame-lines area order zero i L vs s r = last_group area order 0 i L vs s r
frame-lines area order (suc k) i L vs s (inl (t, e, r)) = last_group area order (suc k) i L vs s ([], 103 ∷ [], vs, t, (refl, refl), refl, e, r)
frame-lines area order (suc k) i L vs s (inr r) =
    go (renders_seq (bits_line area (suc i)) (frame_tail area order k (suc i)) L vs s r) (λ us t. frame-lines area order k (suc i) L us t)
  where
    go : Spelt (bits_line area (suc i)) (frame_tail area order k (suc i)) L vs s
        → ((us t : List ℕ) → Renders (frame_tail area order k (suc i)) L us t → FrameLines area order k (suc i) L us t)
        → FrameLines area order (suc k) i L vs s
    go (ws, us, t, f, e, g, x) ih = more-frame area order k i L vs s ws us t f e g (ih us t x)

-- The group text after its first byte.
open_group : (order i L : ℕ) (vs s : List ℕ) → L ≡ i → Spells (Groups order L) vs s → (t : List ℕ) × (s ≡ 103 ∷ t) × Renders (group_tail order i) L vs t
unfolding group_tail
open_group order i L vs s a (f, g) =
    let is : List Item = lits group_names_tail ++ group_lines order 1 (groups i) in
    let f' : Fit is vs = rw a at f in
    let g' : s ≡ 103 ∷ spell is vs = rw a at g in (
      spell is vs,
      g',
      rw (← append-nil (spell is vs))
          (subst (λ (v : List ℕ). Renders (seq is (end i)) L v (spell is vs ++ [])) (append-nil vs) (seq_renders is (end i) L vs [] [] f' (a, refl, refl))),
    )

lines-frame : (area order k i L j : ℕ) (vs s : List ℕ) → j ≤ k → L ≡ i + j → Spells (bits_lines area (suc i) j ++ Groups order L) vs s
    → Renders (frame_tail area order k i) L vs s
unfolding frame_tail lines_from
lines-frame area order zero i L zero vs s h e x = let (t, a, r) = open_group order i L vs s (omega arith) x in ([], 103 ∷ [], vs, t, (refl, refl), refl, a, r)
lines-frame area order zero i L (suc j) vs s h e x = absurd (omega arith)
lines-frame area order (suc k) i L zero vs s h e x = inl (open_group order i L vs s (omega arith) x)
lines-frame area order (suc k) i L (suc j) vs s h e x =
    let y = rw append_assoc at x in
    let S = fit-split (bits_line area (suc i)) (bits_lines area (suc (suc i)) j ++ Groups order L) vs y.0 in
    inr (go y.1 S.us S.vs S.left S.right S.all S.spelt (λ us t. lines-frame area order k (suc i) L j us t (omega arith) (omega arith)))
  where
    go : s ≡ spell (bits_line area (suc i) ++ (bits_lines area (suc (suc i)) j ++ Groups order L)) vs → (ws us : List ℕ)
        → Fit (bits_line area (suc i)) ws → Fit (bits_lines area (suc (suc i)) j ++ Groups order L) us → vs ≡ ws ++ us
        → spell (bits_line area (suc i) ++ (bits_lines area (suc (suc i)) j ++ Groups order L)) vs
        ≡ spell (bits_line area (suc i)) ws ++ spell (bits_lines area (suc (suc i)) j ++ Groups order L) us
        → ((us t : List ℕ) → Spells (bits_lines area (suc (suc i)) j ++ Groups order L) us t → Renders (frame_tail area order k (suc i)) L us t)
        → Renders (seq (bits_line area (suc i)) (frame_tail area order k (suc i))) L vs s
    go g ws us m n w x ih =
        let R : List Item = bits_lines area (suc (suc i)) j ++ Groups order L in
        rw (g, x, w) (seq_renders (bits_line area (suc i)) (frame_tail area order k (suc i)) L ws us (spell R us) m (ih us (spell R us) (n, refl)))

pub frame_union : (area order most L : ℕ) (vs s : List ℕ) → 1 ≤ most → Renders (frame_format area order most) L vs s → FrameText area order most L vs s
unfolding frame_format lines_from
frame_union area order most L vs s l r = go (renders_seq (Front area) (frame_tail area order (most - 1) 1) L vs s r)
  where
    go2 : (ws us t : List ℕ) → Fit (Front area) ws → vs ≡ ws ++ us → s ≡ spell (Front area) ws ++ t → FrameLines area order (most - 1) 1 L us t
        → FrameText area order most L vs s
    go2 ws us t f e g (j, h, w, (m, n)) =
        let R : List Item = bits_lines area 2 j ++ Groups order L in
        let (x, y) = fit_append (Front area) R ws us f m in
        let z : L ≡ suc j = omega arith in
        let a : Spells (Front area ++ R) vs s = (rw e x, rw (g, e, n) (sym y)) in
        record { some = omega arith; few = omega arith; spells = subst (λ (is : List Item). Spells is vs s) (same L j z) a }
      where
        same : (L j : ℕ) → L ≡ suc j → Front area ++ (bits_lines area 2 j ++ Groups order L) ≡ block_items area L ++ Groups order L
        same L j z = sym (append_assoc (Front area) (bits_lines area 2 j) (Groups order L)) ∙ ap (λ (n : ℕ). block_items area n ++ Groups order L) (sym z)

    go : Spelt (Front area) (frame_tail area order (most - 1) 1) L vs s → FrameText area order most L vs s
    go (ws, us, t, f, e, g, x) = go2 ws us t f e g (frame-lines area order (most - 1) 1 L us t x)

pub union_frame : (area order most L : ℕ) (vs s : List ℕ) → FrameText area order most L vs s → Renders (frame_format area order most) L vs s
unfolding frame_format lines_from
union_frame area order most zero vs s b = absurd (omega (arith, b.some))
union_frame area order most (suc j) vs s b =
    go b.few (subst (λ (is : List Item). Spells is vs s) (append_assoc (Front area) (bits_lines area 2 j) (Groups order (suc j))) b.spells)
  where
    go2 : suc j ≤ most → s ≡ spell (Front area ++ (bits_lines area 2 j ++ Groups order (suc j))) vs → (ws us : List ℕ)
        → Fit (Front area) ws → Fit (bits_lines area 2 j ++ Groups order (suc j)) us → vs ≡ ws ++ us
        → spell (Front area ++ (bits_lines area 2 j ++ Groups order (suc j))) vs ≡ spell (Front area) ws ++ spell (bits_lines area 2 j ++ Groups order (suc j)) us
        → Renders (seq (Front area) (frame_tail area order (most - 1) 1)) (suc j) vs s
    go2 h g ws us m n w x =
        let R : List Item = bits_lines area 2 j ++ Groups order (suc j) in
        let e : s ≡ spell (Front area) ws ++ spell R us = g ∙ x in
        let r = lines-frame area order (most - 1) 1 (suc j) j us (spell R us) (omega arith) (omega arith) (n, refl) in
        rw (e, w) (seq_renders (Front area) (frame_tail area order (most - 1) 1) (suc j) ws us (spell R us) m r)

    go : suc j ≤ most → Spells (Front area ++ (bits_lines area 2 j ++ Groups order (suc j))) vs s
        → Renders (seq (Front area) (frame_tail area order (most - 1) 1)) (suc j) vs s
    go h (f, g) =
        let S = fit-split (Front area) (bits_lines area 2 j ++ Groups order (suc j)) vs f in
        go2 h g S.us S.vs S.left S.right S.all S.spelt

-- ---- what the scan accepts is a text of its number of blocks, with the values that it reads

pub blocks-read : (area most L : ℕ) (vs s : List ℕ) → 1 ≤ most → most < 10000 → scan (block_format area most) s ≡ read L vs → BlockText area most L vs s
blocks-read area most L vs s l h e = blocks_union area most L vs s l (scan-sound (block_format area most) L vs s (clear_blocks area most l h) e)

pub frame-read : (area order most L : ℕ) (vs s : List ℕ) → 1 ≤ most → most < 10000 → scan (frame_format area order most) s ≡ read L vs
    → FrameText area order most L vs s
frame-read area order most L vs s l h e =
    frame_union area order most L vs s l (scan-sound (frame_format area order most) L vs s (clear_frame area order most l h) e)
