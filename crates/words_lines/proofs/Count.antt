-- Counting the words outside the code: those whose remainder is not 0.
--   nonzeros_next, nonzeros-end   a list entry by entry
--   remainders_outside            words of one code
--   none_yet, next_line           line by line
--   not_taken, line_taken         a line that a pass does not take, and one that it takes
--   one_pass, both-passes         all lines, in one pass or in two
--   by-refused                    a call that is refused counts none
-- Assumes nothing.
use mathlib.Core.Path.{◌≡◌, refl, sym, ap, ap₂, ◌∙◌}
use mathlib.Core.Bool.{Bool, true, false, not, cond}
use mathlib.Core.Logic.{◌≢◌}
use mathlib.Core.List.{List, []}
use Prim.Native.Nat.{ℕ, zero, suc, ◌+◌, ◌<◌}
use native.Mathlib.Numerals.{add-one}
use native.Mathlib.Omega.{arith}
use lib.Dec.{eqb}
use lib.ListN.{length, get_or, drop}
use lib.Seq.{drop-cons, drop-length}
use Rattle.bch.specs.Polynomial.{remainder}
use Rattle.bch.specs.Code.{is_codeword}
use Rattle.staircase.specs.Lists.{tabulate, concat}
use Rattle.staircase.specs.Design.{Params}
use Rattle.staircase.specs.Frame.{Frame, Site, read, outside_each, outside_among}
use Rattle.staircase.specs.Layout.{Layout}
use Rattle.staircase.specs.Rules.{Verdict}
use Rattle.staircase.specs.Rules.Verdict.{accepted, refused}
use Rattle.staircase.specs.Calls.{counted_by}
use Rattle.staircase.proofs.Outside.{outside_next}
use Rattle.layout.specs.declared.Shape.{Shape}
use Rattle.layout.specs.Layouts.{turned_in, taken_in}
use Rattle.words_lines.specs.Words.{nonzeros, frame_sites, pass_sites}

module _ (l : List ℕ) where
  pub nonzeros_next : (k : ℕ) → k < length l → nonzeros (drop k l) ≡ cond (eqb (get_or l k 0) 0) 0 1 + nonzeros (drop (k + 1) l)
  unfolding nonzeros
  nonzeros_next k h = ap nonzeros (drop-cons l k 0 h) ∙ ap (λ (j : ℕ). cond (eqb (get_or l k 0) 0) 0 1 + nonzeros (drop j l)) (sym (add-one k))

  pub nonzeros-end : (k : ℕ) → k ≡ length l → nonzeros (drop k l) ≡ 0
  unfolding nonzeros
  nonzeros-end k e = ap (λ (j : ℕ). nonzeros (drop j l)) e ∙ ap nonzeros (drop-length l)

module _ (s : Params) (f : Frame) where
  pub remainders_outside : (n : ℕ) (w : ℕ → List Site) → nonzeros (tabulate n (λ a. remainder s.g s.r (read f (w a)))) ≡ outside_among s f (tabulate n w)
  unfolding nonzeros tabulate outside_each outside_among is_codeword
  remainders_outside zero w = refl
  remainders_outside (suc n) w = ap (λ (k : ℕ). cond (eqb (remainder s.g s.r (read f (w zero))) 0) 0 1 + k) (remainders_outside n (λ a. w (suc a)))

  pub none_yet : (line : ℕ → List (List Site)) → 0 ≡ outside_among s f (concat 0 line)
  unfolding concat outside_each outside_among
  none_yet line = refl

  pub next_line : (line : ℕ → List (List Site)) (k total more : ℕ) → total ≡ outside_among s f (concat k line) → more ≡ outside_among s f (line k)
      → total + more ≡ outside_among s f (concat (k + 1) line)
  next_line line k total more e d = ap₂ ◌+◌ e d ∙ sym (outside_next s f k line) ∙ ap (λ (j : ℕ). outside_among s f (concat j line)) (sym (add-one k))

-- ---- passes

module _ (z : Shape) (G : Layout) (f : Frame) where
  abbrev outside_of : List (List Site) → ℕ
  outside_of w = outside_among G.code f w

  abbrev all : ℕ → List (List Site)
  all k = tabulate G.code.M (G.sites k)

  module _ (back : Bool) (k : ℕ) where
    pub not_taken : taken_in z G.code back k ≡ false → 0 ≡ outside_among G.code f (pass_sites z G back k)
    unfolding outside_each outside_among
    not_taken e = sym (ap (λ (b : Bool). outside_among G.code f (cond b (all k) [])) e)

    pub line_taken : taken_in z G.code back k ≡ true → outside_among G.code f (tabulate G.code.M (G.sites k)) ≡ outside_among G.code f (pass_sites z G back k)
    line_taken e = sym (ap (λ (b : Bool). outside_among G.code f (cond b (all k) [])) e)

  -- a line is taken in one of the passes
  each_line : (k : ℕ) → outside_of (pass_sites z G false k) + outside_of (pass_sites z G true k) ≡ outside_of (all k)
  unfolding taken_in outside_each outside_among
  each_line k = go (turned_in z G.code k)
    where
      go : (b : Bool) → outside_of (cond (not b) (all k) []) + outside_of (cond b (all k) []) ≡ outside_of (all k)
      go true = omega arith
      go false = omega arith

  next_passes : (n : ℕ) → outside_of (concat n (pass_sites z G false)) + outside_of (concat n (pass_sites z G true)) ≡ outside_of (concat n all)
      → outside_of (concat (suc n) (pass_sites z G false)) + outside_of (concat (suc n) (pass_sites z G true)) ≡ outside_of (concat (suc n) all)
  next_passes n e =
      omega (
        arith,
        e,
        each_line n,
        outside_next G.code f n (pass_sites z G false),
        outside_next G.code f n (pass_sites z G true),
        outside_next G.code f n all,
      )

  passes : (n : ℕ) → outside_of (concat n (pass_sites z G false)) + outside_of (concat n (pass_sites z G true)) ≡ outside_of (concat n all)
  passes zero = none
    where
      none : outside_of (concat 0 (pass_sites z G false)) + outside_of (concat 0 (pass_sites z G true)) ≡ outside_of (concat 0 all)
      none = omega (arith, none_yet G.code f (pass_sites z G false), none_yet G.code f (pass_sites z G true), none_yet G.code f all)
  passes (suc n) = next_passes n (passes n)

  pub both-passes : {x y : ℕ} → x ≡ outside_among G.code f (concat G.lines (pass_sites z G false)) → y ≡ outside_among G.code f (concat G.lines (pass_sites z G true))
      → x + y ≡ outside_among G.code f (frame_sites G)
  both-passes ex ey = ap₂ ◌+◌ ex ey ∙ passes G.lines

  next_none : (n : ℕ) → turned_in z G.code n ≡ false → outside_of (concat n (pass_sites z G true)) ≡ 0 → outside_of (concat (suc n) (pass_sites z G true)) ≡ 0
  unfolding taken_in
  next_none n ahead e = omega (arith, e, not_taken true n ahead, outside_next G.code f n (pass_sites z G true))

  none_back : ((k : ℕ) → turned_in z G.code k ≡ false) → (n : ℕ) → outside_of (concat n (pass_sites z G true)) ≡ 0
  none_back ahead zero = sym (none_yet G.code f (pass_sites z G true))
  none_back ahead (suc n) = next_none n (ahead n) (none_back ahead n)

  pub one_pass : {x : ℕ} → ((k : ℕ) → turned_in z G.code k ≡ false) → x ≡ outside_among G.code f (concat G.lines (pass_sites z G false))
      → x ≡ outside_among G.code f (frame_sites G)
  one_pass ahead e = omega (arith, e, passes G.lines, none_back ahead G.lines)

-- ---- the answer of a call

pub by-refused : (v : Verdict) (n : ℕ) → v ≢ accepted → counted_by v 0 ≡ counted_by v n
by-refused accepted n h = absurd (h refl)
by-refused (refused k p) n h = refl
