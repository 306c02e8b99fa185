-- The words of original staircase frames as a layout.
--   staircase_rows_lawful    all that is asked of a kind of frame
-- Assumes nothing.
use mathlib.Core.Path.{◌≡◌, sym, ap, ◌∙◌, subst}
use mathlib.Core.Logic.{◌⊎◌, inl, inr}
use mathlib.Core.List.{List}
use Prim.Native.Nat.{ℕ, ◌+◌, ◌-◌, ◌*◌, ◌/◌, ◌%◌, ◌≤◌, ◌<◌}
use native.Mathlib.Nat.{mod-lt, div-add-mod'}
use lib.ListN.{length, get_or}
use Rattle.bch.specs.Powers.{power_mod}
use Rattle.staircase.specs.Design.{Params}
use Rattle.staircase.specs.Frame.{Site}
use Rattle.staircase.specs.Frame.Site.{unsent}
use Rattle.staircase.specs.Lines.{Incidence, incidence}
use Rattle.staircase.specs.Layout.{word_at, place_of}
use Rattle.staircase.proofs.Member.{In}
use Rattle.staircase.proofs.Flip.{Sent}
use Rattle.staircase.proofs.Weight.{weight, weight_at}
use Rattle.staircase.proofs.Lawful.{Lawful, word_number, one_elsewhere, one_there}
use Rattle.original.specs.Frame.{row_sites}
use Rattle.original.specs.Rules.{row_length}
use Rattle.original.specs.Crossing.{row_crossing}
use Rattle.original.specs.Layout.{staircase_rows}
use Rattle.original.proofs.Crossing.{site_of, row-length, row_at, row_position, row_distinct, row_within, Crosses, crossing_holds, only_two}

module _ (s : Params) (L : ℕ) (some : 0 < s.M) (thin : s.r ≤ s.M) where
  -- ---- the bit at position p of row a of the block that b blocks precede

  module _ (b a p : ℕ) (ha : a < s.M) (hp : p < row_length s) (sent : Sent (get_or (row_sites s b a) p unsent)) where
    abbrev y : Site
    y = get_or (row_sites s b a) p unsent

    abbrev c : Incidence
    c = row_crossing s b a p

    at : y ≡ site_of s b a p
    at = row_at s thin b a p hp

    sent-at : Sent (site_of s b a p)
    sent-at = subst Sent at sent

    x : Crosses s thin b a p c
    x = crossing_holds s thin b a p ha hp sent-at

    -- a word that has the bit is the word itself or the crossing word
    holder : (w : ℕ) → In y (word_at (staircase_rows s L) w).sites → (w ≡ b * s.M + a) ⊎ (w ≡ c.line * s.M + c.word)
    holder w m =
        let t = row_position s thin (w / s.M) (w % s.M) y m in
        go t.0 (only_two s thin b a p (w / s.M) (w % s.M) t.0 ha hp sent-at (mod-lt w some) t.1 (sym at ∙ t.2))
      where
        number : (q : Incidence) (j : ℕ) → incidence (w / s.M) (w % s.M) j ≡ q → w ≡ q.line * s.M + q.word
        number q j e = sym (div-add-mod' w s.M) ∙ ap (λ (z : Incidence). z.line * s.M + z.word) e

        go : (j : ℕ) → (incidence (w / s.M) (w % s.M) j ≡ incidence b a p) ⊎ (incidence (w / s.M) (w % s.M) j ≡ c)
            → (w ≡ b * s.M + a) ⊎ (w ≡ c.line * s.M + c.word)
        go j (inl e) = inl (number (incidence b a p) j e)
        go j (inr e) = inr (number c j e)

    crossing_weight : (w : ℕ) → w ≡ c.line * s.M + c.word
        → weight s.g s.r y (word_at (staircase_rows s L) w).sites ≡ power_mod s.g s.r (row_length s - 1 - c.position)
    crossing_weight w e =
        let v : List Site = row_sites s c.line c.word in
        let long : length v ≡ row_length s = row-length s thin c.line c.word in
        ap (λ (n : ℕ). weight s.g s.r y (word_at (staircase_rows s L) n).sites) e
        ∙ ap (weight s.g s.r y) (word_number (staircase_rows s L) c.line c.word x.word)
        ∙ weight_at s.g s.r y v (row_distinct s thin c.line c.word x.word) c.position
        (subst (λ (n : ℕ). c.position < n) (sym long) x.position)
        (at ∙ x.holds ∙ sym (row_at s thin c.line c.word c.position x.position)) sent
        ∙ ap (λ (n : ℕ). power_mod s.g s.r (n - 1 - c.position)) long

  pub staircase_rows_lawful : Lawful (staircase_rows s L)
  staircase_rows_lawful =
      record {
        some = some;
        long = λ b a hb ha. row-length s thin b a;
        distinct = λ b a hb ha. row_distinct s thin b a ha;
        within = λ b a hb ha f info red y sent i. row_within s thin L f info b a hb ha y sent i;
        elsewhere = λ b a p hb ha hp sent w hw d e. one_elsewhere (place_of s (row_length s) (row_crossing s b a p)) w (b * s.M + a) (holder b a p ha hp sent w) d e;
        there = λ b a p hb ha hp sent w hw d e. one_there s (place_of s (row_length s) (row_crossing s b a p)) w (crossing_weight b a p ha hp sent w) e;
      }
