-- The kept numbers of a frame, once they are filled, and counted.
--   kept-split               what is kept of a feed-forward frame, as the rules count it
--   filled_keeps             the remainders of all words, as kept numbers
--   numbers-outside          words whose numbers are right are outside the code where the number is not 0
--   filled-outside, kept-outside   the words outside the code are those whose number is not 0
-- Assumes nothing.
use mathlib.Core.Path.{◌≡◌, refl, sym, ap, ap₂, ◌∙◌}
use mathlib.Core.Bool.{cond, true≢false}
use mathlib.Core.List.{List, [], ◌∷◌}
use Prim.Native.Nat.{ℕ, zero, suc, ◌+◌, ◌*◌, ◌/◌, ◌%◌, ◌^◌, ◌≤◌, ◌<◌}
use native.Mathlib.Nat.{mod-eq_of_lt, mod-lt, div-add-mod', div-lt_iff_lt-mul, add-zero, mul_assoc}
use native.Mathlib.Omega.{arith}
use lib.Dec.{eqb, leb}
use lib.Pow.{pow_mono}
use lib.ListN.{length}
use borrow.Author.Tests.{lt-leb}
use Rattle.bch.specs.Polynomial.{remainder}
use Rattle.bch.specs.Code.{is_codeword}
use Rattle.bch.proofs.Word.{remainder-below}
use Rattle.staircase.specs.Lists.{tabulate}
use Rattle.staircase.specs.Design.{Params}
use Rattle.staircase.specs.Frame.{Frame, Site, groups, frame_of, read, outside_each, outside_among}
use Rattle.staircase.specs.Rules.{info_length, red_length, kept_work}
use Rattle.staircase.specs.Lines.{word_count}
use Rattle.staircase.specs.Layout.{kept_length}
use Rattle.staircase.proofs.Tabulate.{tabulate_last}
use Rattle.staircase.proofs.Flip.{read-bits}
use Rattle.staircase.proofs.Outside.{outside-append}
use Rattle.staircase.proofs.Lines.{concat-tabulate}
use Rattle.staircase.proofs.Lawful.{fits_received, lines_keep}
use Rattle.design.specs.Sizes.{params_of, lists_of}
use Rattle.decoder_kept.specs.Numbers.{number_at, nonzero_numbers}
use Rattle.decoder_kept.specs.Words.{kept_of}
use Rattle.layout.specs.declared.Frames.{Frames}
use Rattle.layout.specs.Layouts.{lines_in, sites_in}
use Rattle.layout.proofs.Layouts.{degree_in, r_highest}
use Rattle.words_lines.specs.Words.{layout_with, frame_sites, FramesLent}
use Rattle.words_lines.proofs.Lines.{frame-fits, some_words}
use Rattle.decoder_lines.specs.Links.{lists_in}
use Rattle.decoder_lines.specs.Layouts.{layout_of}
use Rattle.decoder_words.specs.Ready.{FrameKept}
use Rattle.decoder_frame.specs.Filled.{remainder_at, Filled}

-- ---- words outside the code

abbrev one : ℕ → ℕ
one n = cond (eqb n 0) 0 1

module _ (s₂ : Params) (f₂ : Frame) (b₂ : List ℕ) (W : ℕ → List Site) where
  outside_one : (w : List Site) → one (remainder s₂.g s₂.r (read f₂ w)) ≡ outside_among s₂ f₂ (w ∷ [])
  unfolding outside_among outside_each is_codeword
  outside_one w = sym (add-zero (one (remainder s₂.g s₂.r (read f₂ w))))

  pub numbers-outside : (n : ℕ) → ((w : ℕ) → w < n → number_at b₂ w ≡ remainder s₂.g s₂.r (read f₂ (W w)))
      → nonzero_numbers b₂ n ≡ outside_among s₂ f₂ (tabulate n W)
  unfolding nonzero_numbers outside_among outside_each tabulate
  numbers-outside zero h = refl
  numbers-outside (suc n) h =
      ap₂ ◌+◌ (numbers-outside n (λ w k. h w (omega arith))) (ap one (h n (omega arith)) ∙ outside_one (W n))
      ∙ sym (outside-append s₂ f₂ (tabulate n W) (W n ∷ [])) ∙ ap (outside_among s₂ f₂) (sym (tabulate_last n W))

-- ---- all numbers

-- what is kept, as the rules count it
pub kept-split : (s : Params) (L : ℕ) → kept_work s L ≡ 4 * word_count s L + (info_length s L + red_length s L + 7) / 8
unfolding kept_work
kept-split s L = let e : 2 * groups L * s.M ≡ 2 * (groups L * s.M) = mul_assoc 2 (groups L) s.M in omega (arith, e)

module _ {g : Frames} {own parity info red : List ℕ} (R : FramesLent g own parity info red) (b : List ℕ) (H : Filled g own parity (frame_of info red) b) where
  abbrev q : Params
  q = params_of g.d

  abbrev f : Frame
  f = frame_of info red

  abbrev M : ℕ
  M = g.d.size

  left-small : (w : List Site) → remainder q.g q.r (read f w) < 2147483648
  left-small w =
      let ok = degree_in g.shape g.d R.tail.allowed in
      let low = remainder-below q.g q.r ok.0 ok.1 (read f w) (read-bits f f (fits_received (frame-fits R)) w) in
      let high : 2 ^ (g.d.m * g.d.t) ≤ 2 ^ 31 = pow_mono {i = g.d.m * g.d.t} {j = 31} (omega (arith, r_highest g.shape g.d R.tail.allowed)) in
      omega (arith, low, high)

  filled-number : (k a : ℕ) → k < lines_in g.shape g.blocks → a < M → number_at b (k * M + a) ≡ remainder_at g own parity f k a
  filled-number k a hk ha = ap (λ (n : ℕ). n % 2147483648) (H k a hk ha) ∙ mod-eq_of_lt (left-small ((layout_with g own parity).sites k a))

  -- under links that have the same words
  pub filled_keeps : (links : List ℕ)
      → ((k a : ℕ) → sites_in g.shape (params_of g.d) (lists_of g.d own parity) g.blocks k a ≡ sites_in g.shape (params_of g.d) (lists_in g.d links) g.blocks k a)
      → length b ≡ kept_length (layout_with g own parity) → FrameKept g links info red b
  filled_keeps links same long =
      record {
        frame = record { info_length = R.long; red_length = R.tail.long; info_bits = R.bits; red_bits = R.tail.bits };
        long = long;
        numbers =
            lines_keep (layout_of g links) f (kept_of b) (some_words R)
            (λ k a hk ha.
            let small = left-small ((layout_with g own parity).sites k a) in
            record {
              number = filled-number k a hk ha ∙ ap (λ (w : List Site). remainder q.g q.r (read f w)) (same k a);
              mark = λ m. absurd (true≢false (sym m ∙ ap (leb 2147483648) (H k a hk ha) ∙ lt-leb 2147483648 _ small));
            });
      }

  pub filled-outside : nonzero_numbers b (lines_in g.shape g.blocks * g.d.size)
      ≡ outside_among (params_of g.d) (frame_of info red) (frame_sites (layout_with g own parity))
  filled-outside =
      let W : ℕ → List Site = λ w. (layout_with g own parity).sites (w / M) (w % M) in
      let some : 0 < M = some_words R in
      numbers-outside q f b W (lines_in g.shape g.blocks * M)
      (λ w h. ap (number_at b) (sym (div-add-mod' w M)) ∙ filled-number (w / M) (w % M) ((div-lt_iff_lt-mul some).1 h) (mod-lt w some))
      ∙ ap (outside_among q f) (sym (concat-tabulate M (lines_in g.shape g.blocks) (layout_with g own parity).sites))

pub kept-outside : {g : Frames} {links info red b : List ℕ} → FrameKept g links info red b
    → nonzero_numbers b (lines_in g.shape g.blocks * g.d.size) ≡ outside_among (params_of g.d) (frame_of info red) (frame_sites (layout_of g links))
kept-outside {g} {links} {info} {red} {b} K =
    let M : ℕ = g.d.size in
    numbers-outside (params_of g.d) (frame_of info red) b (λ w. (layout_of g links).sites (w / M) (w % M)) (lines_in g.shape g.blocks * M)
    (λ w h. (K.numbers w h).number)
    ∙ ap (outside_among (params_of g.d) (frame_of info red)) (sym (concat-tabulate M (lines_in g.shape g.blocks) (layout_of g links).sites))
