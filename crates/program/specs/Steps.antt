-- What the steps of a program hand on. `frame` reads block text, `mend` frame text, which is block text followed by group text.
--   text_rule, text_count       rule 12 and the number of blocks, of the one text or the other
--   start_rule                 the rules before a program's call
--   Started                   both inputs are short enough and the kit text is accepted, with the design d
--   Scanned                   and the text is accepted, with L blocks
--   StartIs                   that, or the refusal by these rules
--   SizesAre                  the lengths that go with a design and L blocks
--   RoomFor                   an array has room for n bytes
--   ProgramReady                     scanned, and the lent slices have these lengths; the call wants `due` working bytes
--   FrameReady, MendReady     the same for `frame` with the encoder and for `mend` with the decoder
--   GroupsFit, FrameSized      a frame whose groups, or all, are printed: what is printed has room
-- Assumes nothing.
use Rattle.std.specs.Prelude.{◌≡◌, List, ℕ, ◌+◌, ◌*◌, ◌≤◌, length, take, Result, Ok, Err}
use Rattle.staircase.specs.Design.{most-blocks}
use Rattle.staircase.specs.Frame.{groups}
use Rattle.staircase.specs.System.{row_bytes}
use Rattle.staircase.specs.Rules.{Verdict, ◌then◌, decoder_work}
use Rattle.staircase.specs.Rules.Verdict.{accepted, refused}
use Rattle.design.specs.declared.Design.{Design}
use Rattle.design.specs.Answers.{Allowed}
use Rattle.design.specs.Sizes.{params_of, order_of}
use Rattle.text.specs.KitReader.{head_number, scan_kit}
use Rattle.text.specs.FrameReader.{block_rule, block_count, frame_rule, frame_count}
use Rattle.text.specs.Programs.{most-input, input_rule}
use Rattle.program.specs.declared.Sizes.{Sizes}
use Rattle.program.specs.declared.Text.{Text}
use Rattle.program.specs.declared.Text.TheVariants.{Blocks, Frame}
use Rattle.rules_verdict.specs.declared.Judged.{Judged}

-- ---- the text

unfoldable pub text_rule : Text → ℕ → ℕ → List ℕ → Verdict
text_rule Blocks M r s = block_rule M s
text_rule Frame M r s = frame_rule M r s

unfoldable pub text_count : Text → ℕ → ℕ → List ℕ → ℕ
text_count Blocks M r s = block_count M s
text_count Frame M r s = frame_count M r s

-- ---- what is known before the call

unfoldable pub start_rule : Text → List ℕ → List ℕ → Verdict
start_rule kind kit text =
    input_rule kit text then scan_kit kit then text_rule kind (head_number kit 2) (head_number kit 0 * head_number kit 1) text

pub record Started (d : Design) (kit text : List ℕ) : Type 0 where
  pub kit-short : length kit ≤ most-input
  pub text-short : length text ≤ most-input
  pub read : scan_kit kit ≡ accepted
  pub m-is : d.m ≡ head_number kit 0
  pub t-is : d.t ≡ head_number kit 1
  pub M-is : d.size ≡ head_number kit 2
  pub col-is : d.col ≡ 0
  pub allowed : Allowed d

pub record Scanned (kind : Text) (d : Design) (L : ℕ) (kit text : List ℕ) : Type 0 where
  pub started : Started d kit text
  pub accepts : text_rule kind d.size (d.m * d.t) text ≡ accepted
  pub count : L ≡ text_count kind d.size (d.m * d.t) text

unfoldable pub StartIs : Result (Design × ℕ) Judged → Text → List ℕ → List ℕ → Type 0
StartIs (Ok (d, L)) kind kit text = Scanned kind d L kit text
StartIs (Err j) kind kit text = start_rule kind kit text ≡ refused j.rule j.place

-- ---- what is lent

pub record SizesAre (s : Sizes) (d : Design) (L : ℕ) : Type 0 where
  pub order_is : s.order ≡ order_of d
  pub list_is : s.list ≡ 2 * order_of d
  pub inverse-is : s.inverse ≡ order_of d * row_bytes (order_of d)
  pub info-is : s.info ≡ L * (d.size * d.size)
  pub red-is : s.red ≡ groups L * (2 * order_of d)

-- the second part follows from the first; it is stated for a caller who takes the first n bytes
abbrev pub RoomFor : ℕ → List ℕ → Type 0
RoomFor n a = (n ≤ length a) × (n ≡ length (take n a))

pub record ProgramReady (kind : Text) (due : ℕ) (d : Design) (L : ℕ) (kit text : List ℕ) (own parity inverse info red work : ℕ) : Type 0 where
  pub scanned : Scanned kind d L kit text
  pub own-length : own ≡ 2 * order_of d
  pub parity-length : parity ≡ 2 * order_of d
  pub inverse-length : inverse ≡ order_of d * row_bytes (order_of d)
  pub info-length : info ≡ L * (d.size * d.size)
  pub red-length : red ≡ groups L * (2 * order_of d)
  pub work-length : work ≡ due

abbrev pub FrameReady : Design → ℕ → List ℕ → List ℕ → ℕ → ℕ → ℕ → ℕ → ℕ → ℕ → Type 0
FrameReady d L kit text own parity inverse info red work =
    ProgramReady Blocks (order_of d * row_bytes (order_of d)) d L kit text own parity inverse info red work

abbrev pub MendReady : Design → ℕ → List ℕ → List ℕ → ℕ → ℕ → ℕ → ℕ → ℕ → ℕ → Type 0
MendReady d L kit text own parity inverse info red work = ProgramReady Frame (decoder_work (params_of d) L) d L kit text own parity inverse info red work

-- ---- what is printed

-- the redundancy of a frame whose block text has at most 32,768 bytes
pub record GroupsFit (d : Design) (L red : ℕ) : Type 0 where
  pub few : L ≤ most-blocks
  pub red-length : red ≡ groups L * (2 * order_of d)
  pub short : red ≤ 245941

-- a frame whose frame text has at most 32,768 bytes
pub record FrameSized (d : Design) (L info red : ℕ) : Type 0 where
  pub few : L ≤ most-blocks
  pub info-length : info ≡ L * (d.size * d.size)
  pub red-length : red ≡ groups L * (2 * order_of d)
  pub short : info + red ≤ most-input
