-- The redundancy behind the blocks of feed-forward words, from the slices that code has.
--   red-ends, table_ends      the redundancy of a group ends within all of it, and the part that goes with it with the table
--   ends_lent                 this redundancy, its part and their tables are as `add_ends` asks
--   tail-made                 what it gives to the remainders of the words
--   group_lent, group-is      what is asked of it and what it gives, for frames whose kind is known to be feed-forward
--   no_tail                   what is behind the blocks of original words
-- Assumes nothing.
use mathlib.Core.Path.{◌≡◌, refl, sym, ap, ap₂, ◌∙◌, subst⁻¹}
use mathlib.Core.Bool.{Bool, true, false, true≢false}
use mathlib.Core.List.{List}
use Prim.Native.Nat.{ℕ, ◌+◌, ◌-◌, ◌*◌, ◌/◌, ◌≤◌, ◌<◌}
use native.Mathlib.Nat.{mul_comm}
use native.Mathlib.Omega.{arith}
use lib.ListN.{length, get_or, take, drop}
use Rattle.bch.specs.Polynomial.{◌⊕◌, Bits}
use Rattle.bch.proofs.Sum.{⊕_assoc, ⊕-zero-right}
use Rattle.staircase.specs.Design.{Params, Interleavers}
use Rattle.staircase.specs.Frame.{groups}
use Rattle.staircase.specs.Lines.{even}
use Rattle.staircase.proofs.Bounds.{small_product, stretch-end}
use Rattle.design.specs.Sizes.{params_of, order_of, lists_of}
use Rattle.design.proofs.Allowed.{bits_small}
use Rattle.bch_remainders.proofs.Rows.{row-length, row_at, row-bits}
use Rattle.layout.specs.declared.Shape.{Shape}
use Rattle.layout.specs.declared.Shape.TheVariants.{FeedForward, Original}
use Rattle.layout.specs.declared.Line.{Line}
use Rattle.layout.specs.Layouts.{lines_in, bits_in, tail_in, red_in, AllowedIn}
use Rattle.words_tables.specs.Tables.{part_of, MayHalves}
use Rattle.words_sums.specs.Listed.{Sends}
use Rattle.words_lines.specs.Words.{stretch_sum, EndsLent, EndsAdded, tail_sum, ListsIn, TailLent, GroupLent}
use Rattle.words_lines.proofs.Columns.{stretch-same}

-- the redundancy of its group, n bits for each stretch, and the part of the table that goes with it, r entries for each
abbrev group_bits : Line → ℕ → List ℕ → List ℕ
group_bits line n red = take (line.k / 2 * (2 * n) + 2 * n - line.k / 2 * (2 * n)) (drop (line.k / 2 * (2 * n)) red)

abbrev group_part : ℕ → ℕ → List ℕ → List ℕ
group_part size r positions = take (2 * size + 2 * r - 2 * size) (drop (2 * size) positions)

module _ {line : Line} {own parity red positions tables : List ℕ} {w : ℕ} (A : GroupLent line own parity red positions tables w) where
  own_sends : {n : ℕ} → n ≡ order_of line.frames.d → Sends own n
  own_sends e = subst⁻¹ (Sends own) e (A.lists.own_length, A.lists.own_permutes.below)

  parity_sends : {n : ℕ} → n ≡ order_of line.frames.d → Sends parity n
  parity_sends e = subst⁻¹ (Sends parity) e (A.lists.parity_length, A.lists.parity_permutes.below)

  module _ {n : ℕ} (en : n ≡ order_of line.frames.d) where
    abbrev y : ℕ
    y = line.k / 2 * (2 * n)

    pub red-ends : (line.k / 2 * (2 * n) + 2 * n ≤ length red) × (line.k / 2 * (2 * n) + 2 * n ≤ 33562624)
    red-ends =
        let i : line.k / 2 < groups line.frames.blocks = omega (arith, A.within) in
        let few : line.k / 2 ≤ 4096 = omega (arith, A.within, A.few-blocks) in
        let small : 2 * n ≤ 8192 = omega (arith, A.allowed.order-high) in (
          rw (en, A.red-long) (stretch-end (line.k / 2) (groups line.frames.blocks) (2 * order_of line.frames.d) i),
          omega (arith, small_product (line.k / 2) (2 * n) 4096 8192 few small),
        )

    half_bits : length (group_bits line n red) / 2 ≡ order_of line.frames.d
    half_bits = omega (arith, row-length red y (2 * n) red-ends.0)

    -- bit `at` + j of the group's is bit `to` + j of all
    bit-at : (at to j : ℕ) → line.k / 2 * (2 * order_of line.frames.d) + at ≡ to → at + j < 2 * order_of line.frames.d
        → get_or (group_bits line n red) (at + j) 0 ≡ get_or red (to + j) 0
    bit-at at to j i l =
        let c : y + (at + j) ≡ to + j = omega (arith, ap (λ (z : ℕ). line.k / 2 * (2 * z)) en) in
        row_at red y (2 * n) (at + j) (omega arith) ∙ ap (λ (z : ℕ). get_or red z 0) c

  module _ {size r : ℕ} (es : size ≡ line.frames.d.size) (er : r ≡ line.frames.d.m * line.frames.d.t) where
    pub table_ends : (2 * size + 2 * r ≡ length positions) × (2 * size + 2 * r ≤ 1023)
    table_ends = (omega (arith, A.long), omega (arith, bits_small line.frames.d A.allowed))

    abbrev part : List ℕ
    part = group_part size r positions

    half_part : length part / 2 ≡ line.frames.d.m * line.frames.d.t
    half_part = omega (arith, row-length positions (2 * size) (2 * r) (omega (arith, table_ends)))

    power_at : (at to j : ℕ) → 2 * line.frames.d.size + at ≡ to → at + j < 2 * (line.frames.d.m * line.frames.d.t)
        → get_or part (at + j) 0 ≡ get_or positions (to + j) 0
    power_at at to j i l =
        let c : 2 * size + (at + j) ≡ to + j = omega arith in
        row_at positions (2 * size) (2 * r) (at + j) (omega arith) ∙ ap (λ (z : ℕ). get_or positions z 0) c

    module _ {n : ℕ} (en : n ≡ order_of line.frames.d) where
      pub ends_lent : EndsLent own parity (group_bits line n red) (group_part size r positions) tables w
      ends_lent =
          let y : ℕ = line.k / 2 * (2 * n) in
          let d : 2 * size + 2 * r - 2 * size ≡ 2 * r = omega arith in
          record {
            own_sends = own_sends (half_bits en);
            parity_sends = parity_sends (half_bits en);
            area = half_bits en ∙ mul_comm line.frames.d.size (line.frames.d.m * line.frames.d.t) ∙ ap₂ ◌*◌ (sym half_part) (sym A.wide);
            binary = row-bits red y (y + 2 * n - y) A.red-bits;
            few-columns = omega (arith, A.wide, A.allowed.M-high);
            halves = rw (half_part, d, es, er) A.halves;
          }

      -- x bits are read of each word
      pub tail-made : (one two : List ℕ) {x : ℕ} → length one ≡ w → EndsAdded (even line.k) own parity (group_bits line n red) (group_part size r positions) one two
          → x ≡ 2 * (length (group_part size r positions) / 2)
          → (length two ≡ length one)
          × ((a : ℕ) → a < length one → get_or two a 0 ≡ get_or one a 0 ⊕ tail_sum FeedForward (params_of line.frames.d) (lists_of line.frames.d own parity) red positions line.k a)
          × (x ≡ 2 * (line.frames.d.m * line.frames.d.t))
      unfolding tail_sum
      tail-made one two {x} wide added read =
          let M : ℕ = line.frames.d.size in
          let q : ℕ = line.frames.d.m * line.frames.d.t in
          let o : ℕ = order_of line.frames.d in
          let k : ℕ = line.k in
          let bits : List ℕ = group_bits line n red in
          let ends : ℕ → ℕ → ℕ → ℕ → ℕ =
          λ a h v u. get_or one a 0 ⊕ stretch_sum (even k) own bits part 0 h 0 v u a ⊕ stretch_sum (even k) parity bits part h h v v u a in (
            added.0,
            λ a m. let h : a < M = omega (arith, wide, A.wide) in
                added.1 a m ∙ ap₂ (λ (x v : ℕ). ends a x v (length one)) (half_bits en) half_part ∙ ap (ends a o q) (wide ∙ A.wide)
                ∙ ap₂ (λ (u v : ℕ). get_or one a 0 ⊕ u ⊕ v)
                (stretch-same (even k) own bits part red positions 0 o 0 q M a (k / 2 * (2 * o)) (2 * M) (own_sends refl) (mul_comm M q) h
                (λ j l. bit-at en 0 (k / 2 * (2 * o)) j (omega arith) (omega arith)) (λ j l. power_at 0 (2 * M) j (omega arith) (omega arith)))
                (stretch-same (even k) parity bits part red positions o o q q M a (k / 2 * (2 * o) + o) (2 * M + q) (parity_sends refl) (mul_comm M q) h
                (λ j l. bit-at en o (k / 2 * (2 * o) + o) j refl (omega arith)) (λ j l. power_at q (2 * M + q) j refl (omega arith)))
                ∙ ⊕_assoc (get_or one a 0) (stretch_sum (even k) own red positions (k / 2 * (2 * o)) o (2 * M) q M a)
                (stretch_sum (even k) parity red positions (k / 2 * (2 * o) + o) o (2 * M + q) q M a),
            read ∙ ap (λ (v : ℕ). 2 * v) half_part,
          )

-- ---- frames of any kind

-- what `add_tail` asks, with w sums
abbrev Asked : Line → List ℕ → List ℕ → List ℕ → List ℕ → List ℕ → ℕ → Type 0
Asked line own parity red positions tables w =
    TailLent line.frames own parity red × (line.k < lines_in line.frames.shape line.frames.blocks)
    × (length positions ≡ bits_in line.frames.shape (params_of line.frames.d)) × (w ≡ line.frames.d.size)
    × MayHalves (part_of positions (2 * line.frames.d.size) (2 * tail_in line.frames.shape (params_of line.frames.d)))
    (tail_in line.frames.shape (params_of line.frames.d)) tables

is_feed : Shape → Bool
is_feed FeedForward = true
is_feed Original = false

rows-not_feed : Original ≡ FeedForward → ⊥
unfolding is_feed
rows-not_feed e = true≢false (sym (ap is_feed e))

lent_in : (z : Shape) (line : Line) (own parity red positions tables : List ℕ) (w : ℕ) → z ≡ FeedForward → line.frames.blocks ≤ 4096
    → AllowedIn z line.frames.d → ListsIn z line.frames.d own parity → length red ≡ red_in z (params_of line.frames.d) line.frames.blocks
    → Bits red → line.k < lines_in z line.frames.blocks → length positions ≡ bits_in z (params_of line.frames.d) → w ≡ line.frames.d.size
    → MayHalves (part_of positions (2 * line.frames.d.size) (2 * tail_in z (params_of line.frames.d))) (tail_in z (params_of line.frames.d)) tables
    → GroupLent line own parity red positions tables w
unfolding AllowedIn ListsIn red_in lines_in bits_in tail_in
lent_in FeedForward line own parity red positions tables w e few A S long bits within powers wide halves =
    record { few-blocks = few; allowed = A; within = within; lists = S; red-long = long; red-bits = bits; long = powers; wide = wide; halves = halves }
lent_in Original line own parity red positions tables w e few A S long bits within powers wide halves = absurd (rows-not_feed e)

pub group_lent : {line : Line} {own parity red positions tables : List ℕ} {w : ℕ} → Asked line own parity red positions tables w → line.frames.shape ≡ FeedForward
    → GroupLent line own parity red positions tables w
group_lent {line} {own} {parity} {red} {positions} {tables} {w} R e =
    lent_in line.frames.shape line own parity red positions tables w e R.0.few-blocks R.0.allowed R.0.lists R.0.long R.0.bits R.1 R.2
    R.3 R.4

-- what is behind the blocks of a word of kind z, once it is known
module _ (s : Params) (l : Interleavers) (red positions : List ℕ) (k : ℕ) {z : Shape} where
  pub group-is : z ≡ FeedForward → (old new : List ℕ) {n : ℕ}
      → (length new ≡ length old) × ((a : ℕ) → a < length old → get_or new a 0 ≡ get_or old a 0 ⊕ tail_sum FeedForward s l red positions k a) × (n ≡ 2 * s.r)
      → (length new ≡ length old) × ((a : ℕ) → a < length old → get_or new a 0 ≡ get_or old a 0 ⊕ tail_sum z s l red positions k a) × (n ≡ 2 * tail_in z s)
  unfolding tail_in
  group-is e old new {n} made =
      subst⁻¹ (λ (x : Shape). (length new ≡ length old) × ((a : ℕ) → a < length old → get_or new a 0 ≡ get_or old a 0 ⊕ tail_sum x s l red positions k a) × (n ≡ 2 * tail_in x s)) e made

  pub no_tail : z ≡ Original → (old : List ℕ)
      → (length old ≡ length old) × ((a : ℕ) → a < length old → get_or old a 0 ≡ get_or old a 0 ⊕ tail_sum z s l red positions k a) × (0 ≡ 2 * tail_in z s)
  unfolding tail_in tail_sum
  no_tail e old =
      subst⁻¹ (λ (x : Shape). (length old ≡ length old) × ((a : ℕ) → a < length old → get_or old a 0 ≡ get_or old a 0 ⊕ tail_sum x s l red positions k a) × (0 ≡ 2 * tail_in x s)) e
      (refl, λ a h. sym (⊕-zero-right (get_or old a 0)), refl)
