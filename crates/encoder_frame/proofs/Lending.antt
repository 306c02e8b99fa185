-- What a group is lent of a frame that is ready, and what it makes of it.
--   lent_fits                          its blocks are as the sums ask
--   start_made                         Q and P for Y = 0, when both halves are back
--   digits-made                        the digits of sums that are lent as a part
--   frame-of                           of frames that are ready each is
--   part_of                            a frame's stretch of the information as it is lent
--   group-number                       the frame of a group, and its number there
--   start-at                           Q and P of a group of all frames' groups
-- Assumes nothing.
use mathlib.Core.Path.{◌≡◌, sym, ap, ap₂, ◌∙◌, subst}
use mathlib.Core.List.{List, ◌++◌}
use Prim.Native.Nat.{ℕ, zero, suc, ◌+◌, ◌-◌, ◌*◌, ◌/◌, ◌%◌, ◌^◌, ◌<◌}
use native.Mathlib.Nat.{add-sub_cancel_left, mod-lt, div-lt_iff_lt-mul, mul-zero}
use native.Mathlib.Omega.{arith}
use lib.ListN.{length, get_or, take, drop, length-drop}
use Rattle.staircase.specs.Lists.{tabulate}
use Rattle.staircase.specs.Frame.{groups}
use Rattle.staircase.specs.Batch.{frame_at}
use Rattle.staircase.proofs.Batch.{frame-length, frame-bits}
use Rattle.staircase.proofs.Fill.{front_last}
use Rattle.staircase.proofs.Tabulate.{tabulate-length, tabulate-at, tabulate-same}
use Rattle.words_positions.proofs.Parts.{part-is}
use Rattle.words_blocks.specs.Blocks.{block_bytes, BlockLent}
use Rattle.words_blocks.proofs.Blocks.{block_lent}
use Rattle.encoder_solution.specs.Bits.{remainder_digit}
use Rattle.encoder_frame.specs.Group.{row_digit, column_digit, start_of}
use Rattle.encoder_frame.specs.Groups.{start_from, start_at, FrameReady, FramesReady}

module _ (L size r : ℕ) (info columns positions : List ℕ) (i : ℕ) where
  pub lent_fits : FrameReady L size r info columns positions → (b : ℕ) (block : List ℕ) → block ≡ block_bytes L (size * size) info b → BlockLent block (size * size)
  lent_fits R b block e = subst (λ (x : List ℕ). BlockLent x (size * size)) (sym e) (block_lent L (size * size) info b R.blocks R.bits)

  pub start_made : (odd even before old qs ps : List ℕ) → odd ≡ block_bytes L (size * size) info (2 * i + 1) → even ≡ block_bytes L (size * size) info (2 * i + 2)
      → before ≡ block_bytes L (size * size) info (2 * i) → length old ≡ 2 * (size * r)
      → qs ≡ tabulate (size * r) (row_digit positions size r (λ k. get_or before k 0) (λ k. get_or odd k 0))
      → ps ≡ tabulate (size * r) (column_digit columns size r (λ k. get_or odd k 0) (λ k. get_or even k 0))
      → take (size * r) (qs ++ drop (size * r - 0) old) ++ (ps ++ drop (2 * (size * r) - size * r) (drop (size * r) (qs ++ drop (size * r - 0) old)))
      ≡ start_from columns positions size r L info i
  unfolding start_from start_of
  start_made odd even before old qs ps eo ee eb room by_rows by-columns =
      let n : ℕ = size * r in
      front_last qs (drop (n - 0) old) ps n (2 * n - n)
      (ap length by_rows ∙ tabulate-length n (row_digit positions size r (λ k. get_or before k 0) (λ k. get_or odd k 0))) (omega (arith, length-drop (n - 0) old))
      ∙ ap₂ ◌++◌ by_rows by-columns ∙ rw (eo, ee, eb)

-- the digits of sums that are lent as a part
pub digits-made : (sums rest out : List ℕ) (f : ℕ → ℕ) (size r : ℕ) → 0 < size → sums ≡ tabulate size f
    → out ≡ tabulate (size * r) (λ q. get_or (take (size - 0) (drop 0 (sums ++ rest))) (q % size) 0 / 2 ^ (r - 1 - q / size) % 2)
    → out ≡ tabulate (size * r) (λ q. remainder_digit (f (q % size)) r (q / size))
digits-made sums rest out f size r pos e made =
    made ∙ tabulate-same (size * r) (λ q. get_or (take (size - 0) (drop 0 (sums ++ rest))) (q % size) 0 / 2 ^ (r - 1 - q / size) % 2) (λ q. remainder_digit (f (q % size)) r (q / size))
    (λ q h. ap (λ (x : ℕ). remainder_digit x r (q / size))
    (ap (λ (t : List ℕ). get_or t (q % size) 0) (part-is sums rest size (ap length e ∙ tabulate-length size f) ∙ e) ∙ tabulate-at size f 0 (q % size) (mod-lt q pos)))

-- ---- of all frames

-- a frame's information as it is lent
pub part_of : (info : List ℕ) (f long : ℕ) → take (f * long + long - f * long) (drop (f * long) info) ≡ frame_at long info f
part_of info f long = ap (λ (k : ℕ). take k (drop (f * long) info)) (add-sub_cancel_left (f * long) long)

pub frame-of : {L n size r : ℕ} {info columns positions : List ℕ} → FramesReady L n size r info columns positions
    → (f : ℕ) → f < n → FrameReady L size r (frame_at (L * (size * size)) info f) columns positions
frame-of {L} {n} {size} {r} {info} R f h =
    record {
      few-blocks = R.few-blocks;
      tables = R.tables;
      column-tables = R.column-tables;
      blocks = frame-length (L * (size * size)) info n R.blocks f h;
      bits = frame-bits (L * (size * size)) info R.bits f;
    }

pub record GroupNumber (n m q : ℕ) : Type 0 where
  pub some : 0 < m
  pub frame : q / m < n
  pub group : q % m < m

pub group-number : (n m q : ℕ) → q < n * m → GroupNumber n m q
group-number n zero q h = absurd (omega (arith, mul-zero n))
group-number n (suc m) q h =
    let pos : 0 < suc m = omega arith in record { some = pos; frame = (div-lt_iff_lt-mul pos).1 h; group = mod-lt q pos }

pub start-at : (columns positions : List ℕ) (size r L : ℕ) (info : List ℕ) (q : ℕ) {count : ℕ} {out : List ℕ} → count ≡ groups L
    → (let long : ℕ = L * (size * size) in out ≡ start_from columns positions size r L (take (q / count * long + long - q / count * long) (drop (q / count * long) info)) (q % count))
    → out ≡ start_at columns positions size r L info q
unfolding start_at
start-at columns positions size r L info q {count} e made =
    made ∙ ap (λ (x : List ℕ). start_from columns positions size r L x (q % count)) (part_of info (q / count) (L * (size * size)))
    ∙ ap (λ (m : ℕ). start_from columns positions size r L (frame_at (L * (size * size)) info (q / m)) (q % m)) e
