-- Laws of the blocks of a frame as parts of the information.
--   sent-none, sent-some, sent-at, sent_odd   when a block is sent
--   block_none, block-some                    its bytes
--   block-fits, block_lent                    a block that is sent has M × M bits
--   block-bit, block-is                       its bits are those of the frame's definition
-- Assumes nothing.
use mathlib.Core.Path.{◌≡◌, refl, sym, ap, ◌∙◌, subst}
use mathlib.Core.Bool.{Bool, true, false, cond, true≢false}
use mathlib.Core.List.{List, []}
use Prim.Native.Nat.{ℕ, zero, suc, ◌+◌, ◌-◌, ◌*◌, ◌≤◌, ◌<◌}
use native.Mathlib.Nat.{not-suc-le-zero, le_of_suc-le-suc, zero-lt-suc}
use native.Mathlib.Omega.{arith}
use lib.Dec.{ltb}
use lib.ListN.{length, get_or, take, drop, length-drop}
use lib.Seq.{length-take-le, get_or-take, get_or-drop}
use borrow.Author.Tests.{ltb-true, lt-ltb}
use Rattle.bch.specs.Polynomial.{Bits}
use Rattle.staircase.specs.Design.{Params}
use Rattle.staircase.specs.Frame.{groups, block_at, bit_at, block_contents, frame_of}
use Rattle.staircase.specs.Frame.Site.{unsent, in_info}
use Rattle.staircase.proofs.Bounds.{stretch-end}
use Rattle.bch_remainders.proofs.Rows.{row-bits}
use Rattle.words_blocks.specs.Blocks.{sent, block_bytes, BlockLent}

pub sent-none : (L b : ℕ) → b < 1 → false ≡ sent L b
unfolding sent
sent-none L zero h = refl
sent-none L (suc b) h = absurd (not-suc-le-zero (le_of_suc-le-suc h))

pub sent-some : (L b : ℕ) → 1 ≤ b → ltb (b - 1) L ≡ sent L b
unfolding sent
sent-some L zero h = absurd (not-suc-le-zero h)
sent-some L (suc b) h = let e : suc b - 1 ≡ b = omega arith in ap (λ (k : ℕ). ltb k L) e

pub sent-at : (L b : ℕ) → sent L b ≡ true → (1 ≤ b) × (b - 1 < L)
unfolding sent
sent-at L zero e = absurd (true≢false (sym e))
sent-at L (suc b) e = let l : b < L = ltb-true b L e in (omega arith, omega arith)

pub sent_odd : (L i : ℕ) → i < groups L → sent L (2 * i + 1) ≡ true
sent_odd L i h = sym (sent-some L (2 * i + 1) (omega arith)) ∙ lt-ltb (2 * i + 1 - 1) L (omega arith)

module _ (L area : ℕ) (info : List ℕ) (b : ℕ) where
  pub block_none : sent L b ≡ false → [] ≡ block_bytes L area info b
  unfolding block_bytes
  block_none e = sym (ap (λ (z : Bool). cond z (take area (drop ((b - 1) * area) info)) []) e)

  pub block-some : sent L b ≡ true → take area (drop ((b - 1) * area) info) ≡ block_bytes L area info b
  unfolding block_bytes
  block-some e = sym (ap (λ (z : Bool). cond z (take area (drop ((b - 1) * area) info)) []) e)

  module _ (long : length info ≡ L * area) (e : sent L b ≡ true) where
    pub block-end : (b - 1) * area + area ≤ length info
    block-end = omega (arith, stretch-end (b - 1) L area (sent-at L b e).1)

    block-length : length (block_bytes L area info b) ≡ area
    block-length = ap length (sym (block-some e)) ∙ length-take-le area (drop ((b - 1) * area) info) (omega (arith, block-end, length-drop ((b - 1) * area) info))

    block-at : (k : ℕ) → k < area → get_or (block_bytes L area info b) k 0 ≡ get_or info ((b - 1) * area + k) 0
    block-at k h =
        ap (λ (x : List ℕ). get_or x k 0) (sym (block-some e)) ∙ get_or-take area (drop ((b - 1) * area) info) k 0 h ∙ get_or-drop ((b - 1) * area) info k 0

    pub block-fits : Bits info → (length (block_bytes L area info b) ≡ area) × Bits (block_bytes L area info b)
    block-fits h = (block-length, subst Bits (block-some e) (row-bits info ((b - 1) * area) area h))

  pub block_lent : length info ≡ L * area → Bits info → BlockLent (block_bytes L area info b) area
  block_lent long h = go (sent L b) refl
    where
      go : (z : Bool) → sent L b ≡ z → BlockLent (block_bytes L area info b) area
      go true e = let f = block-fits long e h in (λ some. f.0, f.1)
      go false e = subst (λ (x : List ℕ). BlockLent x area) (block_none e) ((λ some. absurd (not-suc-le-zero some)), λ k. zero-lt-suc 1)

-- ---- the bits of the frame's definition

module _ (s : Params) (L : ℕ) (info red : List ℕ) (long : length info ≡ L * (s.M * s.M)) (k : ℕ) (h : k < s.M * s.M) where
  abbrev area : ℕ
  area = s.M * s.M

  pub block-bit : (b : ℕ) → bit_at (frame_of info red) (block_at s L b k) ≡ get_or (block_bytes L (s.M * s.M) info b) k 0
  unfolding sent
  block-bit zero = ap (λ (x : List ℕ). get_or x k 0) (block_none L area info 0 refl)
  block-bit (suc b) = go (ltb b L) refl
    where
      go : (z : Bool) → ltb b L ≡ z → bit_at (frame_of info red) (cond z (in_info (b * area + k)) unsent) ≡ get_or (block_bytes L area info (suc b)) k 0
      go true e = let n : b ≡ suc b - 1 = omega arith in ap (λ (x : ℕ). get_or info (x * area + k) 0) n ∙ sym (block-at L area info (suc b) long e k h)
      go false e = ap (λ (x : List ℕ). get_or x k 0) (block_none L area info (suc b) e)

-- without the redundancy
pub block-is : (s : Params) (L : ℕ) (info : List ℕ) → length info ≡ L * (s.M * s.M) → (k : ℕ) → k < s.M * s.M → (b : ℕ)
    → get_or (block_bytes L (s.M * s.M) info b) k 0 ≡ block_contents s L info b k
block-is s L info long k h b = sym (block-bit s L info [] long k h b)
