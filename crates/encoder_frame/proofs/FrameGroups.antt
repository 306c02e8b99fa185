-- Laws of the groups of a frame.
--   group_from-length                 a group has 2 M r bits
--   start_at-length, start_at-bits     so have Q and P for Y = 0
--   group_at-length, solved_at        and what is made of them, which is the group
--   stretch-made                     the groups of a stretch
--   groups-by-frames                 groups numbered through all frames are the groups of each
--   groups_are                       the groups are the redundancy of the frame's definition
-- Assumes nothing.
use mathlib.Core.Path.{◌≡◌, ap, ap₂, ◌∙◌}
use mathlib.Core.List.{List}
use Prim.Native.Nat.{ℕ, ◌+◌, ◌*◌, ◌/◌, ◌%◌, ◌<◌}
use native.Mathlib.Omega.{arith}
use lib.ListN.{length, get_or, length-append}
use Rattle.bch.specs.Polynomial.{Bits}
use Rattle.staircase.specs.Lists.{tabulate, concat}
use Rattle.staircase.specs.Design.{Params, Interleavers, order, column_code}
use Rattle.staircase.specs.System.{Contents, preimage, group_redundancy, redundancy}
use Rattle.staircase.specs.Frame.{groups, block_contents}
use Rattle.staircase.specs.Batch.{frame_at}
use Rattle.staircase.specs.Demand2.{Permutes}
use Rattle.staircase.proofs.System.{Proper}
use Rattle.staircase.proofs.Tabulate.{tabulate-length, concat-same}
use Rattle.staircase.proofs.Batch.{joined_frame}
use Rattle.staircase.proofs.Redundancy.{block-binary}
use Rattle.words_blocks.specs.Blocks.{block_bytes, Powers}
use Rattle.words_blocks.proofs.Blocks.{block-is}
use Rattle.encoder_frame.specs.Group.{y_bit, p_bit, group_of, solved_of, GroupTables}
use Rattle.encoder_frame.specs.Groups.{group_from, frame_from, start_from, start_at, group_at}
use Rattle.encoder_frame.proofs.GroupMade.{group-is}
use Rattle.encoder_frame.proofs.Joined.{concat_grid}
use Rattle.encoder_frame.proofs.Solved.{start_of-length, start_of-bits, solved_group}

group_of-length : (columns positions preimages inverse : List ℕ) (size r : ℕ) (before odd even : Contents) → length (group_of columns positions preimages inverse size r before odd even) ≡ 2 * (size * r)
unfolding group_of
group_of-length columns positions preimages inverse size r before odd even =
    let y : Contents = y_bit columns positions preimages inverse size r before odd even in
    let p : Contents = p_bit columns size r odd even y in
    length-append (tabulate (size * r) y) (tabulate (size * r) p) ∙ ap₂ (λ (j k : ℕ). j + k) (tabulate-length (size * r) y) (tabulate-length (size * r) p) ∙ omega arith

pub group_from-length : (columns positions preimages inverse : List ℕ) (size r L : ℕ) (info : List ℕ) (i : ℕ) → length (group_from columns positions preimages inverse size r L info i) ≡ 2 * (size * r)
unfolding group_from
group_from-length columns positions preimages inverse size r L info i =
    group_of-length columns positions preimages inverse size r (λ k. get_or (block_bytes L (size * size) info (2 * i)) k 0)
    (λ k. get_or (block_bytes L (size * size) info (2 * i + 1)) k 0) (λ k. get_or (block_bytes L (size * size) info (2 * i + 2)) k 0)

-- ---- groups of all frames

module _ (columns positions : List ℕ) (size r L : ℕ) (info : List ℕ) (q : ℕ) where
  pub start_at-length : length (start_at columns positions size r L info q) ≡ 2 * (size * r)
  unfolding start_at start_from
  start_at-length = start_of-length columns positions size r _ _ _

  pub start_at-bits : Bits (start_at columns positions size r L info q)
  unfolding start_at start_from
  start_at-bits = start_of-bits columns positions size r _ _ _

  module _ (preimages inverse : List ℕ) where
    pub group_at-length : length (group_at columns positions preimages inverse size r L info q) ≡ 2 * (size * r)
    unfolding group_at
    group_at-length = group_from-length columns positions preimages inverse size r L (frame_at (L * (size * size)) info (q / groups L)) (q % groups L)

    pub solved_at : GroupTables size r columns preimages inverse
        → solved_of columns preimages inverse size r (start_at columns positions size r L info q) ≡ group_at columns positions preimages inverse size r L info q
    unfolding start_at start_from group_at group_from
    solved_at T = solved_group columns positions size r _ _ _ preimages inverse T.words.some-columns T.words.some-rows T.within

-- the groups of a stretch, from Q and P for Y = 0
pub stretch-made : (columns positions preimages inverse : List ℕ) (size r L : ℕ) (info : List ℕ) (first count : ℕ) → GroupTables size r columns preimages inverse
    → (start out : List ℕ) → start ≡ concat count (λ g. start_at columns positions size r L info (first + g))
    → out ≡ concat count (λ g. solved_of columns preimages inverse size r (frame_at (2 * (size * r)) start g))
    → out ≡ concat count (λ g. group_at columns positions preimages inverse size r L info (first + g))
stretch-made columns positions preimages inverse size r L info first count T start out started solved =
    solved ∙ concat-same count (λ g. solved_of columns preimages inverse size r (frame_at (2 * (size * r)) start g)) (λ g. group_at columns positions preimages inverse size r L info (first + g))
    (λ g h. ap (solved_of columns preimages inverse size r)
    (ap (λ (t : List ℕ). frame_at (2 * (size * r)) t g) started
    ∙ joined_frame count (2 * (size * r)) (λ g. start_at columns positions size r L info (first + g)) (λ g. start_at-length columns positions size r L info (first + g)) g h)
    ∙ solved_at columns positions size r L info (first + g) preimages inverse T)

pub groups-by-frames : (columns positions preimages inverse : List ℕ) (size r L n : ℕ) (info : List ℕ)
    → concat (n * groups L) (group_at columns positions preimages inverse size r L info) ≡ concat n (frame_from columns positions preimages inverse size r L info)
unfolding group_at frame_from
groups-by-frames columns positions preimages inverse size r L n info =
    concat_grid n (groups L) (λ f. group_from columns positions preimages inverse size r L (frame_at (L * (size * size)) info f))

-- ---- the redundancy of the frame

module _ (s : Params) (ok : Proper s) (l : Interleavers) (pp : Permutes (order s) (λ p. get_or l.parity p 0)) (columns positions preimages w : List ℕ)
    (C : Powers (column_code s) columns) (P : Powers s positions) (at : (q : ℕ) → q < order s → get_or preimages q 0 ≡ preimage l.parity (order s) q)
    (L : ℕ) (info : List ℕ) (long : length info ≡ L * (s.M * s.M)) (bits : Bits info) where
  group-same : (i : ℕ) → i < groups L → group_from columns positions preimages w s.M s.r L info i ≡ group_redundancy s l w L info i
  unfolding group_from group_redundancy
  group-same i h =
      group-is s ok columns positions C P l pp preimages at
      (λ k. get_or (block_bytes L (s.M * s.M) info (2 * i)) k 0) (λ k. get_or (block_bytes L (s.M * s.M) info (2 * i + 1)) k 0)
      (λ k. get_or (block_bytes L (s.M * s.M) info (2 * i + 2)) k 0)
      (block_contents s L info (2 * i)) (block_contents s L info (2 * i + 1)) (block_contents s L info (2 * i + 2))
      (block-binary s L info bits (2 * i)) (block-binary s L info bits (2 * i + 1)) (block-binary s L info bits (2 * i + 2))
      (λ k m. block-is s L info long k m (2 * i)) (λ k m. block-is s L info long k m (2 * i + 1)) (λ k m. block-is s L info long k m (2 * i + 2)) w

  pub groups_are : concat (groups L) (group_from columns positions preimages w s.M s.r L info) ≡ redundancy s l w L info
  unfolding redundancy
  groups_are = concat-same (groups L) (group_from columns positions preimages w s.M s.r L info) (group_redundancy s l w L info) group-same
