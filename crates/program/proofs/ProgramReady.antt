-- What the steps of a program know of a kit and a text that were scanned.
--   order_is, few-entries            the design's order, by the kit and at most 181
--   kit-left                         the kit's reader leaves what the text shows
--   kit_reads                        and accepts it
--   blocks-scanned, frame-scanned    what was scanned, as rule 12 of the one text or the other
--   few-blocks, red-short            a text has at most 4,096 blocks, and their redundancy at most 245,941 bits
--   list-room .. red-room            the sizes have room in the arrays
--   ready                            the arrays' parts are what readers and call want
--   room_for                         a new array has room
-- Assumes nothing.
use mathlib.Core.Path.{◌≡◌, sym, ap, ◌∙◌}
use mathlib.Core.List.{List}
use Prim.Native.Nat.{ℕ, ◌+◌, ◌*◌, ◌/◌, ◌≤◌}
use native.Mathlib.Omega.{arith}
use native.Mathlib.Nat.{mul-le-mul, mul-add}
use lib.ListN.{length, replicate, length-replicate}
use lib.Seq.{length-take-le}
use Rattle.staircase.specs.Design.{order, most-blocks}
use Rattle.staircase.specs.Frame.{groups}
use Rattle.staircase.specs.System.{row_bytes}
use Rattle.staircase.specs.Rules.Verdict.{accepted}
use Rattle.design.specs.declared.Design.{Design}
use Rattle.design.specs.Sizes.{order_of}
use Rattle.design.proofs.Allowed.{r_small}
use Rattle.text.specs.KitReader.{kit_params, self_of, parity_of, inverse_of, read_kit_call}
use Rattle.text.proofs.KitPromises.{kit-order-small, kit-read}
use Rattle.text.specs.FrameReader.{block_rule, block_count, frame_rule, frame_count}
use Rattle.text.proofs.FramePromises.{blocks_hold, frame_holds}
use Rattle.std.specs.Prelude.{Result, IsOk}
use Rattle.answers.specs.declared.TextError.{TextError}
use Rattle.text_kit.specs.Answers.{kit_scan_verdict}
use Rattle.text_kit.proofs.ScanLaws.{kit_accepted}
use Rattle.program.specs.Steps.{text_rule, text_count, Started, Scanned, SizesAre, RoomFor, ProgramReady}
use Rattle.program.specs.declared.Sizes.{Sizes}
use Rattle.program.specs.declared.Text.{Text}
use Rattle.program.specs.declared.Text.TheVariants.{Blocks, Frame}
use Rattle.program.proofs.Bounds.{few-rows, few-red}

-- ---- the kit

module _ (d : Design) (kit text : List ℕ) (S : Started d kit text) where
  pub order_is : order_of d ≡ order (kit_params kit)
  order_is = rw (S.m-is, S.t-is, S.M-is)

  pub few-entries : order_of d ≤ 181
  few-entries = rw order_is (few-rows (order (kit_params kit)) (omega (arith, S.kit-short, kit-order-small kit S.read)))

  pub kit-left : (own parity w : List ℕ) → length own ≡ 2 * order_of d → length parity ≡ 2 * order_of d → length w ≡ order_of d * row_bytes (order_of d)
      → ((read_kit_call kit own parity w).self ≡ self_of kit) × ((read_kit_call kit own parity w).parity ≡ parity_of kit)
      × ((read_kit_call kit own parity w).inverse ≡ inverse_of kit)
  kit-left own parity w a b c =
      let n = order_is in
      let k =
      kit-read kit own parity w (a ∙ ap (λ (i : ℕ). 2 * i) n) (b ∙ ap (λ (i : ℕ). 2 * i) n) (c ∙ ap (λ (i : ℕ). i * row_bytes i) n) S.read
      in
      (k.1, k.2, k.3)

pub kit_reads : (kind : Text) (due : ℕ) (d : Design) (L : ℕ) (kit text own parity w : List ℕ) (info red work : ℕ)
    → ProgramReady kind due d L kit text (length own) (length parity) (length w) info red work
    → (x : Result Design TextError) → kit_scan_verdict x ≡ (read_kit_call kit own parity w).verdict → IsOk x
kit_reads kind due d L kit text own parity w info red work R x e =
    let S = R.scanned.started in
    let n = order_is d kit text S in
    let k =
    kit-read kit own parity w (R.own-length ∙ ap (λ (i : ℕ). 2 * i) n) (R.parity-length ∙ ap (λ (i : ℕ). 2 * i) n)
    (R.inverse-length ∙ ap (λ (i : ℕ). i * row_bytes i) n) S.read
    in
    kit_accepted x (e ∙ k.0)

-- ---- the text

pub blocks-scanned : (d : Design) (L : ℕ) (kit text : List ℕ) → Scanned Blocks d L kit text
    → (block_rule d.size text ≡ accepted) × (L ≡ block_count d.size text)
unfolding text_rule text_count
blocks-scanned d L kit text B = (B.accepts, B.count)

pub frame-scanned : (d : Design) (L : ℕ) (kit text : List ℕ) → Scanned Frame d L kit text
    → (frame_rule d.size (d.m * d.t) text ≡ accepted) × (L ≡ frame_count d.size (d.m * d.t) text)
unfolding text_rule text_count
frame-scanned d L kit text B = (B.accepts, B.count)

-- a line has a digit, a space, the block's bits and a line feed at least
lines_fit : (kind : Text) (d : Design) (L : ℕ) (kit text : List ℕ) → Scanned kind d L kit text
    → (L ≤ most-blocks) × (L * (d.size * d.size + 3) ≤ length text)
lines_fit Blocks d L kit text B =
    let (a, c) = blocks-scanned d L kit text B in
    let h = blocks_hold d.size text a in
    (rw c h.few, rw c h.text-length)
lines_fit Frame d L kit text B =
    let (a, c) = frame-scanned d L kit text B in
    let h = frame_holds d.size (d.m * d.t) text a in
    (rw c h.few, rw c (omega (arith, h.text-length)))

module _ (kind : Text) (d : Design) (L : ℕ) (kit text : List ℕ) (B : Scanned kind d L kit text) where
  pub few-blocks : L ≤ most-blocks
  few-blocks = (lines_fit kind d L kit text B).0

  bytes : L * (d.size * d.size + 3) ≤ 32768
  bytes = omega (arith, (lines_fit kind d L kit text B).1, B.started.text-short)

  -- the redundancy of a frame of so many blocks
  pub red-short : groups L * (2 * order_of d) ≤ 245941
  red-short = few-red L d.size (d.m * d.t) few-blocks bytes (r_small d B.started.allowed) (few-entries d kit text B.started)

  -- ---- the arrays

  module _ (s : Sizes) (z : SizesAre s d L) where
    pub list_room : s.list ≤ 362
    list_room = omega (arith, z.list_is, few-entries d kit text B.started)

    pub inverse-room : s.inverse ≤ 4163
    inverse-room =
        let x : order_of d ≤ 181 = few-entries d kit text B.started in
        let y : (order_of d + 7) / 8 ≤ 23 = omega arith in
        let w : order_of d * ((order_of d + 7) / 8) ≤ 181 * 23 = mul-le-mul x y in
        omega (arith, z.inverse-is)

    pub info-room : s.info ≤ 32768
    info-room = omega (arith, z.info-is, bytes, mul-add L (d.size * d.size) 3)

    pub red-room : s.red ≤ 245941
    red-room = omega (arith, z.red-is, red-short)

    pub ready : (due own parity inverse info red work : ℕ) → s.list ≡ own → s.list ≡ parity → s.inverse ≡ inverse → s.info ≡ info → s.red ≡ red
        → work ≡ due → ProgramReady kind due d L kit text own parity inverse info red work
    ready due own parity inverse info red work eo ep ew ei er ek =
        record {
          scanned = B;
          own-length = sym eo ∙ z.list_is;
          parity-length = sym ep ∙ z.list_is;
          inverse-length = sym ew ∙ z.inverse-is;
          info-length = sym ei ∙ z.info-is;
          red-length = sym er ∙ z.red-is;
          work-length = ek;
        }

-- a new array
pub room_for : (n N x : ℕ) → n ≤ N → RoomFor n (replicate N x)
room_for n N x h = let l : n ≤ length (replicate N x) = omega (arith, length-replicate N x) in (l, sym (length-take-le n (replicate N x) l))
