-- Rounds over the rows of all blocks, and their tables.
--   word-sizes, tables-room, field_is, field_room   the sizes of a design's tables
--   tables_lent              the tables, lent again
--   row-bits, row_lines, rows_fit, kept_frame       the frames of a design among all kinds
--   row_kept, filled-kept    the numbers of all rows, once they are filled
--   rounds_back              what rounds over all lines leave
-- Assumes nothing.
use mathlib.Core.Path.{◌≡◌, refl, sym, ap, ◌∙◌, subst, subst⁻¹}
use mathlib.Core.List.{List, [], ◌++◌}
use Prim.Native.Nat.{ℕ, ◌+◌, ◌-◌, ◌*◌, ◌%◌, ◌^◌, ◌≤◌}
use native.Mathlib.Nat.{mul-le-mul, zero-add, zero-lt-suc}
use native.Mathlib.Omega.{arith}
use lib.Dec.{leb}
use lib.Pow.{pow_mono}
use lib.ListN.{length, take, drop}
use lib.Seq.{take_all}
use Rattle.staircase.specs.Lists.{tabulate}
use Rattle.staircase.specs.Design.{Params, most-blocks}
use Rattle.staircase.specs.Frame.{Word, plain, frame_of}
use Rattle.staircase.specs.Decoder.{run_each}
use Rattle.staircase.specs.Outcomes.{last_stuck}
use Rattle.staircase.specs.Kept.{Holds}
use Rattle.staircase.specs.Layout.{kept_length}
use Rattle.staircase.proofs.Tabulate.{concat-same}
use Rattle.design.proofs.Sizes.{shl_one}
use Rattle.words_positions.proofs.Parts.{part-is}
use Rattle.decoder_kept.proofs.Numbers.{kept_at-take}
use Rattle.decoder_marks.specs.Marks.{MarksKept}
use Rattle.decoder_tables.specs.Sizes.{WordSizes}
use Rattle.layout.specs.declared.Shape.TheVariants.{Original}
use Rattle.layout.specs.declared.Frames.{Frames}
use Rattle.layout.specs.Layouts.{lines_in, bits_in, sites_in, red_in, AllowedIn, row_frames}
use Rattle.decoder_lines.specs.Layouts.{LinkedIn, FramesFit}
use Rattle.decoder_words.specs.Ready.{WordTables, FrameKept, LineMarks}
use Rattle.decoder_frame.specs.declared.Made.{Made}
use Rattle.decoder_frame.specs.Stretch.{stretch_words}
use Rattle.decoder_frame.specs.Filled.{Filled}
use Rattle.decoder_frame.proofs.Numbers.{filled_keeps}
use Rattle.words_lines.specs.Words.{layout_with}
use Rattle.words_lines.proofs.Lent.{buffer_lent}
use Rattle.original_rows.specs.Rows.{BufferFits}
use Rattle.original.specs.Frame.{row_sites, row_words, buffer_of}
use Rattle.original.specs.Rules.{row_length, original_work}
use Rattle.original.specs.Crossing.{row_count, row_word}
use Rattle.original.proofs.Words.{block_rows, row_words-plain}
use Rattle.design.specs.declared.Design.{Design}
use Rattle.design.specs.Answers.{AllowedOriginal}
use Rattle.original_decoder.specs.Kept.{marks_in, BufferKept}
use Rattle.design.specs.Sizes.{params_of}

module _ (d : Design) (h : AllowedOriginal d) where
  pub word-sizes : WordSizes d.m d.t (bits_in Original (params_of d))
  unfolding bits_in
  word-sizes =
      let low = mul-le-mul h.m-low h.t-low in
      record {
        m-low = h.m-low;
        m-high = h.m-high;
        t-low = h.t-low;
        t-high = h.t-high;
        fits = (let a = h.long in let b = h.thin in omega (arith, a, b));
        n_low = (let b = h.thin in omega (arith, b, low));
        n_high = h.long;
      }

  pub tables-room : (n : ℕ) → n ≡ row_length (params_of d) → 2 * n + 128 ≤ 2304
  tables-room n e = omega (arith, e, h.M-high)

  pub field_is : (m : ℕ) → m ≡ d.m → 4 * ((1 * 2 ^ m) % 2 ^ 64) ≡ 4 * 2 ^ d.m
  field_is m e = rw e (ap (λ (z : ℕ). 4 * z) (shl_one d.m h.m-high))

  pub field_room : (m : ℕ) → m ≡ d.m → 4 * ((1 * 2 ^ m) % 2 ^ 64) ≤ 4096
  field_room m e = omega (arith, field_is m e, pow_mono {i = d.m} {j = 10} h.m-high)

-- each table came back as it is filled, and is lent again
pub tables_lent : (g : Frames) (T T' F F' : List ℕ) (t f : ℕ) → length T ≡ t → length F ≡ f → WordTables g T F
    → WordTables g (take (t - 0) (drop 0 (T ++ T'))) (take (f - 0) (drop 0 (F ++ F')))
tables_lent g T T' F F' t f lt lf R =
    subst⁻¹ (λ (x : List ℕ). WordTables g x (take (f - 0) (drop 0 (F ++ F')))) (part-is T T' t lt)
    (subst⁻¹ (λ (x : List ℕ). WordTables g T x) (part-is F F' f lf) R)

-- ---- the frames of a design among all kinds

pub row-bits : (s : Params) → bits_in Original s ≡ row_length s
unfolding bits_in
row-bits s = refl

pub row_lines : (L : ℕ) → lines_in Original L ≡ L
unfolding lines_in
row_lines L = refl

pub rows_fit : (d : Design) {L : ℕ} (links : List ℕ) → AllowedOriginal d → L ≤ most-blocks → FramesFit (row_frames d L) links
unfolding AllowedIn LinkedIn
rows_fit d links A few = record { few-blocks = few; allowed = A; linked = tt }

pub kept_frame : (d : Design) (L : ℕ) {l kept : List ℕ} (links : List ℕ) → BufferKept d L l kept → FrameKept (row_frames d L) links l [] kept
unfolding lines_in sites_in red_in
kept_frame d L {l} {kept} links K =
    record {
      frame = record { info_length = K.frame.long; red_length = refl; info_bits = K.frame.bits; red_bits = λ k. zero-lt-suc 1 };
      long = K.long ∙ omega arith;
      numbers =
          λ w hw.
          subst (λ (v : ℕ). Holds (row_word (params_of d) w) (v % 2147483648) (leb 2147483648 v) (buffer_of l))
          (kept_at-take kept (row_count (params_of d) L) w hw) (K.numbers w hw);
    }

no_entry : (l : List ℕ) → length l ≡ 0 → l ≡ []
no_entry l e = sym (take_all 0 l (omega (arith, e)))

no_red : (d : Design) (L : ℕ) (links : List ℕ) {l red kept : List ℕ} → FrameKept (row_frames d L) links l red kept → red ≡ []
unfolding red_in
no_red d L links {l} {red} K = no_entry red K.frame.red_length

frame-kept : (d : Design) (L : ℕ) {l' kept : List ℕ} (links : List ℕ) → AllowedOriginal d → L ≤ most-blocks → FrameKept (row_frames d L) links l' [] kept
    → BufferKept d L l' kept
unfolding lines_in sites_in red_in
frame-kept d L {l'} {kept} links A few K =
    record {
      frame = record { allowed = A; few-blocks = few; long = K.frame.info_length; bits = K.frame.info_bits };
      long = K.long ∙ omega arith;
      numbers =
          λ w hw.
          subst⁻¹ (λ (v : ℕ). Holds (row_word (params_of d) w) (v % 2147483648) (leb 2147483648 v) (buffer_of l'))
          (kept_at-take kept (row_count (params_of d) L) w hw) (K.numbers w hw);
    }

-- the working bytes are what is kept
pub row_kept : (d : Design) (L : ℕ) {n : ℕ} → n ≡ original_work (params_of d) L → n ≡ kept_length (layout_with (row_frames d L) [] [])
unfolding original_work lines_in red_in
row_kept d L e = omega (arith, e)

-- numbers that are filled
pub filled-kept : {d : Design} {L : ℕ} {l : List ℕ} → BufferFits d L l → (W : List ℕ) → length W ≡ original_work (params_of d) L
    → Filled (row_frames d L) [] [] (buffer_of l) W → BufferKept d L l W
unfolding sites_in
filled-kept {d} {L} {l} F W long H =
    frame-kept d L [] F.allowed F.few-blocks
    (filled_keeps (buffer_lent d L l F.allowed F.few-blocks F.long F.bits) W H [] (λ k a. refl) (row_kept d L long))

stretch-rows : (d : Design) (L : ℕ) (links : List ℕ) → stretch_words (record { frames = row_frames d L; k = 0 }) links L ≡ row_words (params_of d) L
unfolding sites_in
stretch-rows d L links =
    ap (plain (params_of d)) (concat-same L _ (block_rows (params_of d)) (λ b h. ap (λ (n : ℕ). tabulate d.size (row_sites (params_of d) n)) (zero-add b)))
    ∙ sym (row_words-plain (params_of d) L)

same-marks : (d : Design) (L : ℕ) (l l' kept kept' : List ℕ) → LineMarks (row_frames d L) l [] kept l' [] kept'
    → MarksKept (buffer_of l) (marks_in d L kept) (buffer_of l') (marks_in d L kept')
unfolding lines_in
same-marks d L l l' kept kept' M = M

-- what rounds over all lines leave
pub rounds_back : (d : Design) (L k : ℕ) (links : List ℕ) (l kept l' red' kept' : List ℕ) (a : Made) → AllowedOriginal d → L ≤ most-blocks
    → record { frame = frame_of l' red'; rounds = a.rounds; flips = a.flips } ≡ run_each (stretch_words (record { frames = row_frames d L; k = 0 }) links L) k (buffer_of l)
    → a.stuck ≡ last_stuck (stretch_words (record { frames = row_frames d L; k = 0 }) links L) k (buffer_of l)
    → FrameKept (row_frames d L) links l' red' kept' → LineMarks (row_frames d L) l [] kept l' red' kept'
    → (record { frame = buffer_of l'; rounds = a.rounds; flips = a.flips } ≡ run_each (row_words (params_of d) L) k (buffer_of l))
    × (a.stuck ≡ last_stuck (row_words (params_of d) L) k (buffer_of l)) × BufferKept d L l' kept'
    × MarksKept (buffer_of l) (marks_in d L kept) (buffer_of l') (marks_in d L kept')
rounds_back d L k links l kept l' red' kept' a A few e z K M =
    let none : red' ≡ [] = no_red d L links K in
    let same = stretch-rows d L links in (
      ap (λ (r : List ℕ). record { frame = frame_of l' r; rounds = a.rounds; flips = a.flips }) (sym none) ∙ e
          ∙ ap (λ (ws : List Word). run_each ws k (buffer_of l)) same,
      z ∙ ap (λ (ws : List Word). last_stuck ws k (buffer_of l)) same,
      frame-kept d L links A few (subst (λ (r : List ℕ). FrameKept (row_frames d L) links l' r kept') none K),
      same-marks d L l l' kept kept' (subst (λ (r : List ℕ). LineMarks (row_frames d L) l [] kept l' r kept') none M),
    )
