-- The lines of block text and group text one after another.
--   Rest, rest_start, rest_end                    what is left of a text to be written
--   lines_none                                    after the last line
--   block_room, block_written                     the line of the next block
--   group-room, group-written                     the line of the next group
--   lines_more                                    the lines behind one line more
--   block-text_parts, block-text-put, group-..    the line of names before the others
--   block-text-length, group-text-length          how long the texts are at most
-- Assumes nothing.
use Prim.Native.Nat.{ℕ, zero, suc, ◌+◌, ◌-◌, ◌*◌, ◌≤◌, ◌<◌}
use mathlib.Core.Path.{◌≡◌, refl, sym, ap, ap₂, subst, ◌∙◌}
use mathlib.Core.List.{List, [], ◌++◌}
use native.Mathlib.Omega.{arith}
use native.Mathlib.Nat.{add-sub_cancel_left}
use native.Mathlib.Numerals.{add-one, sub-one}
use lib.ListN.{length, take, drop, length-append, length-drop}
use lib.Seq.{sets, length-sets, length-take-le, drop-drop}
use Rattle.text_formats.specs.Format.{dec}
use Rattle.text_lines.specs.Written.{lines_text, next_block, next_group, block_lines_text, group_lines_text}
use Rattle.text.specs.FrameText.{bits_text, group_line_text, block_names, group_names, block_text, group_text}
use Rattle.text_lines.proofs.Decimal.{dec_four}
use Rattle.text_lines.proofs.Placing.{bits-length, group-length}
use Rattle.text_lines.proofs.Printed.{blocks-printed, groups-printed}
use Rattle.text_lines.proofs.Storing.{sets-append, put_then}

-- ---- what is left

-- The bytes o are what the writing of `whole` into o₀ from `at` on has come to: `rest`, to be written from q on, is left of it.
pub record Rest (o₀ : List ℕ) (at : ℕ) (whole o : List ℕ) (q : ℕ) (rest : List ℕ) : Type 0 where
  pub long : length o ≡ length o₀
  pub ends : q + length rest ≡ at + length whole
  pub gives : sets o q rest ≡ sets o₀ at whole

pub rest_start : (o : List ℕ) (at : ℕ) (t : List ℕ) → Rest o at t o at t
rest_start o at t = record { long = refl; ends = refl; gives = refl }

-- A part is written, and what stands behind it is left.
rest_more : (xs ys : List ℕ) {o₀ whole o o₁ rest : List ℕ} {at q r : ℕ} → rest ≡ xs ++ ys → Rest o₀ at whole o q rest
    → (r ≡ q + length xs) × (o₁ ≡ sets o q xs) → Rest o₀ at whole o₁ r ys
rest_more xs ys {o₀} {whole} {o} {o₁} {rest} {at} {q} {r} e h p = record {
  long = ap length p.1 ∙ length-sets o q xs ∙ h.long;
  ends = omega (arith, p.0, h.ends, ap length e, length-append xs ys);
  gives =
      ap (λ (l : List ℕ). sets l r ys) p.1
      ∙ ap (λ (k : ℕ). sets (sets o q xs) k ys) p.0
      ∙ sym (sets-append xs ys o q)
      ∙ ap (sets o q) (sym e)
      ∙ h.gives;
}

-- There is room for the next part.
rest-room : (xs ys : List ℕ) {o₀ whole o rest : List ℕ} {at q : ℕ} → rest ≡ xs ++ ys → Rest o₀ at whole o q rest → at + length whole ≤ length o₀
    → q + length xs ≤ length o
rest-room xs ys {o₀} {whole} {o} {rest} {at} {q} e h l = omega (arith, h.ends, h.long, l, ap length e, length-append xs ys)

-- Nothing is left.
pub rest_end : {o₀ whole o rest : List ℕ} {at q : ℕ} → rest ≡ [] → Rest o₀ at whole o q rest → (q ≡ at + length whole) × (o ≡ sets o₀ at whole)
rest_end {o₀} {whole} {o} {rest} {at} {q} e h = (omega (arith, h.ends, ap length e), ap (sets o q) (sym e) ∙ h.gives)

-- ---- the next line, of the bits from a position on, and the lines behind it

module _ (line : ℕ → List ℕ → List ℕ) (w : ℕ) where
  lines_next : (p k from : ℕ) (bits : List ℕ) → 0 < k
      → lines_text line w p k (drop from bits) ≡ line p (drop from bits) ++ lines_text line w (p + 1) (k - 1) (drop (from + w) bits)
  unfolding lines_text
  lines_next p zero from bits h = absurd (omega arith)
  lines_next p (suc k) from bits h = rw (sub-one (suc k), add-one p, ← drop-drop w from bits) refl

  pub lines_none : (p k : ℕ) (bits : List ℕ) → k ≤ 0 → lines_text line w p k bits ≡ []
  unfolding lines_text
  lines_none p zero bits h = refl
  lines_none p (suc k) bits h = absurd (omega arith)

  -- The line t that is next has room, and once it is written those behind it are left.
  module _ (p k from : ℕ) (bits : List ℕ) (some : 0 < k) {o₀ whole o t : List ℕ} {at q : ℕ}
      (h : Rest o₀ at whole o q (lines_text line w p k (drop from bits))) (e : line p (drop from bits) ≡ t) where
    abbrev behind : List ℕ
    behind = lines_text line w (p + 1) (k - 1) (drop (from + w) bits)

    next : lines_text line w p k (drop from bits) ≡ t ++ behind
    next = lines_next p k from bits some ∙ ap (λ (l : List ℕ). l ++ behind) e

    line-room : at + length whole ≤ length o₀ → q + length t ≤ length o
    line-room l = rest-room t behind next h l

    line-written : {o₁ : List ℕ} {r : ℕ} → (r ≡ q + length t) × (o₁ ≡ sets o q t) → Rest o₀ at whole o₁ r (lines_text line w (p + 1) (k - 1) (drop (from + w) bits))
    line-written g = rest_more t behind next h g

  -- Lines of at most m bytes. A number below 10,000 has at most four digits.
  lines-length : (m p k : ℕ) (bits : List ℕ) → p + k ≤ 10000 → length bits ≡ k * w
      → ((q : ℕ) (vs : List ℕ) → q < 10000 → w ≤ length vs → length (line q vs) ≤ m) → length (lines_text line w p k bits) ≤ k * m
  unfolding lines_text
  lines-length m p zero bits h e l = omega arith
  lines-length m p (suc k) bits h e l =
      let f : length bits ≡ w + k * w = omega (arith, e) in
      let d : length (drop w bits) ≡ k * w = omega (arith, length-drop w bits) in
      let i : length (lines_text line w (suc p) k (drop w bits)) ≤ k * m = lines-length m (suc p) k (drop w bits) (omega arith) d l in
      omega (arith, i, l p bits (omega arith) (omega arith), length-append (line p bits) (lines_text line w (suc p) k (drop w bits)))

-- A block's line, from the part of the slice that the code lends.
module _ (area p k from : ℕ) (info : List ℕ) (some : 0 < k) {o₀ whole o : List ℕ} {at q : ℕ}
    (h : Rest o₀ at whole o q (block_lines_text area p k (drop from info))) where
  part : next_block area p (drop from info) ≡ bits_text p (take (from + area - from) (drop from info))
  part = ap (λ (n : ℕ). bits_text p (take n (drop from info))) (sym (add-sub_cancel_left from area))

  pub block_room : at + length whole ≤ length o₀ → q + (length (dec p) + 2 + length (take (from + area - from) (drop from info))) ≤ length o
  block_room l =
      omega (arith, line-room (next_block area) area p k from info some h part l, bits-length p (take (from + area - from) (drop from info)))

  pub block_written : {o₁ : List ℕ} {r : ℕ}
      → (r ≡ q + length (bits_text p (take (from + area - from) (drop from info)))) ×
      (o₁ ≡ sets o q (bits_text p (take (from + area - from) (drop from info))))
      → Rest o₀ at whole o₁ r (block_lines_text area (p + 1) (k - 1) (drop (from + area) info))
  block_written = line-written (next_block area) area p k from info some h part

-- A group's line, from two parts.
module _ (n p k from : ℕ) (red : List ℕ) (some : 0 < k) {o₀ whole o : List ℕ} {at q : ℕ}
    (h : Rest o₀ at whole o q (group_lines_text n p k (drop from red))) where
  parts : next_group n p (drop from red) ≡ group_line_text p (take (from + n - from) (drop from red)) (take (from + n + n - (from + n)) (drop (from + n) red))
  parts = rw (add-sub_cancel_left from n, add-sub_cancel_left (from + n) n, ← drop-drop n from red) refl

  pub group-room : at + length whole ≤ length o₀
      → q + (length (dec p) + 3 + (length (take (from + n - from) (drop from red)) + length (take (from + n + n - (from + n)) (drop (from + n) red)))) ≤ length o
  group-room l =
      omega (
        arith,
        line-room (next_group n) (2 * n) p k from red some h parts l,
        group-length p (take (from + n - from) (drop from red)) (take (from + n + n - (from + n)) (drop (from + n) red)),
      )

  pub group-written : {o₁ : List ℕ} {r : ℕ}
      → (r ≡ q + length (group_line_text p (take (from + n - from) (drop from red)) (take (from + n + n - (from + n)) (drop (from + n) red))))
      × (o₁ ≡ sets o q (group_line_text p (take (from + n - from) (drop from red)) (take (from + n + n - (from + n)) (drop (from + n) red))))
      → Rest o₀ at whole o₁ r (group_lines_text n (p + 1) (k - 1) (drop (from + 2 * n) red))
  group-written = line-written (next_group n) (2 * n) p k from red some h parts

-- Behind i + 1 of N lines.
module _ (line : ℕ → List ℕ → List ℕ) (w i N : ℕ) (bits : List ℕ) {o₀ whole o : List ℕ} {at q : ℕ} where
  pub lines_more : Rest o₀ at whole o q (lines_text line w (i + 1 + 1) (N - i - 1) (drop (i * w + w) bits))
      → Rest o₀ at whole o q (lines_text line w (i + 1 + 1) (N - (i + 1)) (drop ((i + 1) * w) bits))
  lines_more h =
      let a : N - i - 1 ≡ N - (i + 1) = omega arith in
      let b : i * w + w ≡ (i + 1) * w = omega arith in
      subst (λ (l : List ℕ). Rest o₀ at whole o q l) (ap₂ (λ (k j : ℕ). lines_text line w (i + 1 + 1) k (drop j bits)) a b) h

-- ---- the whole texts: the line of names, then the others

pub block-text_parts : (area L : ℕ) (info : List ℕ) → length info ≡ L * area → length (block_text area L info) ≡ 11 + length (block_lines_text area 1 L info)
block-text_parts area L info e = omega (arith, ap length (blocks-printed area L info e), length-append block_names (block_lines_text area 1 L info))

pub group-text_parts : (n G : ℕ) (red : List ℕ) → length red ≡ G * (2 * n) → length (group_text n G red) ≡ 18 + length (group_lines_text n 1 G red)
group-text_parts n G red e = omega (arith, ap length (groups-printed n G red e), length-append group_names (group_lines_text n 1 G red))

pub block-text-put : (o : List ℕ) (at area L : ℕ) (info : List ℕ) {o₁ o₂ : List ℕ} {i r : ℕ} → length info ≡ L * area
    → (i ≡ at + length block_names) × (o₁ ≡ sets o at block_names)
    → (r ≡ i + length (block_lines_text area 1 L info)) × (o₂ ≡ sets o₁ i (block_lines_text area 1 L info))
    → (r ≡ at + length (block_text area L info)) × (o₂ ≡ sets o at (block_text area L info))
block-text-put o at area L info e a b = rw (blocks-printed area L info e) (put_then o block_names (block_lines_text area 1 L info) at a b)

pub group-text-put : (o : List ℕ) (at n G : ℕ) (red : List ℕ) {o₁ o₂ : List ℕ} {i r : ℕ} → length red ≡ G * (2 * n)
    → (i ≡ at + length group_names) × (o₁ ≡ sets o at group_names)
    → (r ≡ i + length (group_lines_text n 1 G red)) × (o₂ ≡ sets o₁ i (group_lines_text n 1 G red))
    → (r ≡ at + length (group_text n G red)) × (o₂ ≡ sets o at (group_text n G red))
group-text-put o at n G red e a b = rw (groups-printed n G red e) (put_then o group_names (group_lines_text n 1 G red) at a b)

-- ---- how long they are

block-most : (area q : ℕ) (vs : List ℕ) → q < 10000 → area ≤ length vs → length (next_block area q vs) ≤ area + 6
block-most area q vs h l = omega (arith, bits-length q (take area vs), dec_four q h, length-take-le area vs l)

group-most : (n q : ℕ) (vs : List ℕ) → q < 10000 → 2 * n ≤ length vs → length (next_group n q vs) ≤ 2 * n + 7
group-most n q vs h l =
    let t : length (take n vs) ≡ n = length-take-le n vs (omega arith) in
    let u : length (take n (drop n vs)) ≡ n = length-take-le n (drop n vs) (omega (arith, length-drop n vs)) in
    omega (arith, t, u, group-length q (take n vs) (take n (drop n vs)), dec_four q h)

pub block-text-length : (area L : ℕ) (info : List ℕ) → L ≤ 4096 → length info ≡ L * area → length (block_text area L info) ≤ 11 + L * (area + 6)
block-text-length area L info h e = omega (arith, block-text_parts area L info e, lines-length (next_block area) area (area + 6) 1 L info (omega arith) e (block-most area))

pub group-text-length : (n G : ℕ) (red : List ℕ) → G ≤ 4096 → length red ≡ G * (2 * n) → length (group_text n G red) ≤ 18 + G * (2 * n + 7)
group-text-length n G red h e = omega (arith, group-text_parts n G red e, lines-length (next_group n) (2 * n) (2 * n + 7) 1 G red (omega arith) e (group-most n))
