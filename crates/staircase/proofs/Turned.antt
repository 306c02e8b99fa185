-- The words of a line as code reads them: those of a mirrored code backwards.
--   turned_row, turned-same, turned-mirrored   which lines are read backwards
--   turn_below, turn_twice            positions, and back
--   read_at, read_length              what stands at a position
--   read_in, in_read, read_distinct   the sites are those of the line
--   ReadCrosses, read_crossing_holds, read-only_two   the crossing word
-- Assumes nothing.
use mathlib.Core.Path.{◌≡◌, refl, sym, ap, ◌∙◌, subst}
use mathlib.Core.Bool.{Bool, true, false, not, cond}
use mathlib.Core.Logic.{◌⊎◌, inl, inr}
use mathlib.Core.List.{List}
use Prim.Native.Nat.{ℕ, ◌-◌, ◌<◌}
use native.Mathlib.Omega.{arith}
use lib.Dec.{eqb}
use lib.ListN.{length, get_or}
use Rattle.bch.specs.Mirror.{backwards}
use Rattle.staircase.specs.Design.{Params, Interleavers, word_length, order}
use Rattle.staircase.specs.Frame.{Site}
use Rattle.staircase.specs.Frame.Site.{unsent}
use Rattle.staircase.specs.Demand2.{Permutes}
use Rattle.staircase.specs.Lines.{even, line_sites, turned, read_sites, turn, Incidence, incidence, crossing, read_crossing}
use Rattle.staircase.proofs.Member.{In}
use Rattle.staircase.proofs.Flip.{Sent, Distinct}
use Rattle.staircase.proofs.System.{Proper}
use Rattle.staircase.proofs.Sites.{row_sites_distinct, column_sites_distinct, row_sites-length, column_sites-length}
use Rattle.staircase.proofs.Mirrored.{backwards-long, in_backwards, backwards_in, backwards-at, distinct_backwards}
use Rattle.staircase.proofs.Lines.{line_ind, line_row, line-column}
use Rattle.staircase.proofs.Crossing.{Crosses, crossing_holds, only_two}

module _ (s : Params) where
  pub turned_row : (k : ℕ) → even k ≡ true → turned s k ≡ false
  unfolding turned
  turned_row k e = ap (λ (z : Bool). cond z false (not (eqb s.col 0))) e

  pub turned-column : (k : ℕ) → even k ≡ false → turned s k ≡ not (eqb s.col 0)
  unfolding turned
  turned-column k e = ap (λ (z : Bool). cond z false (not (eqb s.col 0))) e

  -- ---- positions

  pub turn_straight : (k p : ℕ) → turned s k ≡ false → turn s k p ≡ p
  unfolding turn
  turn_straight k p e = ap (λ (z : Bool). cond z (word_length s - 1 - p) p) e

  pub turn_back : (k p : ℕ) → turned s k ≡ true → turn s k p ≡ word_length s - 1 - p
  unfolding turn
  turn_back k p e = ap (λ (z : Bool). cond z (word_length s - 1 - p) p) e

  pub turn_below : (k p : ℕ) → p < word_length s → turn s k p < word_length s
  turn_below k p h = go (turned s k) refl
    where
      go : (z : Bool) → turned s k ≡ z → turn s k p < word_length s
      go true e = subst (λ (n : ℕ). n < word_length s) (sym (turn_back k p e)) (omega arith)
      go false e = subst (λ (n : ℕ). n < word_length s) (sym (turn_straight k p e)) h

  pub turn_twice : (k p : ℕ) → p < word_length s → turn s k (turn s k p) ≡ p
  turn_twice k p h = go (turned s k) refl
    where
      go : (z : Bool) → turned s k ≡ z → turn s k (turn s k p) ≡ p
      go true e = let twice : word_length s - 1 - (word_length s - 1 - p) ≡ p = omega arith in ap (turn s k) (turn_back k p e) ∙ turn_back k (word_length s - 1 - p) e ∙ twice
      go false e = turn_straight k (turn s k p) e ∙ turn_straight k p e

-- ---- sites

module _ (s : Params) (L : ℕ) (l : Interleavers) where
  pub read_straight : (k a : ℕ) → turned s k ≡ false → read_sites s l L k a ≡ line_sites s l L k a
  unfolding read_sites
  read_straight k a e = ap (λ (z : Bool). cond z (backwards (line_sites s l L k a)) (line_sites s l L k a)) e

  pub read_back : (k a : ℕ) → turned s k ≡ true → read_sites s l L k a ≡ backwards (line_sites s l L k a)
  unfolding read_sites
  read_back k a e = ap (λ (z : Bool). cond z (backwards (line_sites s l L k a)) (line_sites s l L k a)) e

  pub read_ind : (k a : ℕ) (F : List Site → Type 0) → (turned s k ≡ false → F (line_sites s l L k a)) → (turned s k ≡ true → F (backwards (line_sites s l L k a)))
      → F (read_sites s l L k a)
  read_ind k a F straight back = go (turned s k) refl
    where
      go : (z : Bool) → turned s k ≡ z → F (read_sites s l L k a)
      go true e = subst F (sym (read_back k a e)) (back e)
      go false e = subst F (sym (read_straight k a e)) (straight e)

  pub in_read : (k a : ℕ) (y : Site) → In y (line_sites s l L k a) → In y (read_sites s l L k a)
  in_read k a y i = read_ind k a (λ (w : List Site). In y w) (λ e. i) (λ e. in_backwards y (line_sites s l L k a) i)

  pub read_in : (k a : ℕ) (y : Site) → In y (read_sites s l L k a) → In y (line_sites s l L k a)
  read_in k a y = read_ind k a (λ (w : List Site). In y w → In y (line_sites s l L k a)) (λ e i. i) (λ e i. backwards_in y (line_sites s l L k a) i)

  module _ (ok : Proper s) (ps : Permutes (order s) (λ p. get_or l.self p 0)) (pp : Permutes (order s) (λ p. get_or l.parity p 0)) where
    pub line-length : (k a : ℕ) → length (line_sites s l L k a) ≡ word_length s
    line-length k a =
        line_ind (λ (k : ℕ). length (line_sites s l L k a) ≡ word_length s) (λ i. ap length (line_row s l L i a) ∙ row_sites-length s L l ok ps pp i a)
        (λ i. ap length (line-column s l L i a) ∙ column_sites-length s L l ok ps pp i a) k

    pub line_distinct : (k a : ℕ) → a < s.M → Distinct (line_sites s l L k a)
    line_distinct k a ha =
        line_ind (λ (k : ℕ). Distinct (line_sites s l L k a))
        (λ i. subst Distinct (sym (line_row s l L i a)) (row_sites_distinct s L l ok ps pp i a ha))
        (λ i. subst Distinct (sym (line-column s l L i a)) (column_sites_distinct s L l ok ps pp i a ha)) k

    pub read_length : (k a : ℕ) → length (read_sites s l L k a) ≡ word_length s
    read_length k a =
        read_ind k a (λ (w : List Site). length w ≡ word_length s) (λ e. line-length k a) (λ e. backwards-long (line_sites s l L k a) ∙ line-length k a)

    pub read_distinct : (k a : ℕ) → a < s.M → Distinct (read_sites s l L k a)
    read_distinct k a ha = read_ind k a Distinct (λ e. line_distinct k a ha) (λ e. distinct_backwards (line_sites s l L k a) (line_distinct k a ha))

    -- position p as it is read is position `turn s k p` of the word
    pub read_at : (k a p : ℕ) → p < word_length s → get_or (read_sites s l L k a) p unsent ≡ get_or (line_sites s l L k a) (turn s k p) unsent
    read_at k a p h =
        read_ind k a (λ (w : List Site). get_or w p unsent ≡ get_or (line_sites s l L k a) (turn s k p) unsent)
        (λ e. ap (λ (j : ℕ). get_or (line_sites s l L k a) j unsent) (sym (turn_straight s k p e)))
        (λ e.
        backwards-at (line_sites s l L k a) unsent p (subst (λ (n : ℕ). p < n) (sym (line-length k a)) h)
        ∙ ap (λ (n : ℕ). get_or (line_sites s l L k a) (n - 1 - p) unsent) (line-length k a)
        ∙ ap (λ (j : ℕ). get_or (line_sites s l L k a) j unsent) (sym (turn_back s k p e)))

    -- ---- the crossing word

    pub record ReadCrosses (k a p : ℕ) (c : Incidence) : Type 0 where
      pub word : c.word < s.M
      pub position : c.position < word_length s
      pub holds : get_or (read_sites s l L k a) p unsent ≡ get_or (read_sites s l L c.line c.word) c.position unsent

    pub read_crossing_holds : (k a p : ℕ) → a < s.M → p < word_length s → Sent (get_or (read_sites s l L k a) p unsent) → ReadCrosses k a p (read_crossing s l k a p)
    unfolding read_crossing
    read_crossing_holds k a p ha hp sent =
        let q : ℕ = turn s k p in
        let e : get_or (read_sites s l L k a) p unsent ≡ get_or (line_sites s l L k a) q unsent = read_at k a p hp in
        let c : Incidence = crossing s l k a q in
        let x : Crosses s L l ok ps pp k a q c = crossing_holds s L l ok ps pp k a q ha (turn_below s k p hp) (subst Sent e sent) in
        let b : turn s c.line c.position < word_length s = turn_below s c.line c.position x.position in
        record {
          word = x.word;
          position = b;
          holds = e ∙ x.holds ∙ sym (read_at c.line c.word (turn s c.line c.position) b
              ∙ ap (λ (j : ℕ). get_or (line_sites s l L c.line c.word) j unsent) (turn_twice s c.line c.position x.position));
        }

    -- a word that has the bit is the word itself or the crossing word
    pub read-only_two : (k a p k' a' p' : ℕ) → a < s.M → p < word_length s → Sent (get_or (read_sites s l L k a) p unsent) → a' < s.M → p' < word_length s
        → get_or (read_sites s l L k a) p unsent ≡ get_or (read_sites s l L k' a') p' unsent
        → (incidence k' a' 0 ≡ incidence k a 0) ⊎ (incidence k' a' 0 ≡ incidence (read_crossing s l k a p).line (read_crossing s l k a p).word 0)
    unfolding read_crossing
    read-only_two k a p k' a' p' ha hp sent ha' hp' e =
        let f : get_or (read_sites s l L k a) p unsent ≡ get_or (line_sites s l L k a) (turn s k p) unsent = read_at k a p hp in
        go (only_two s L l ok ps pp k a (turn s k p) k' a' (turn s k' p') ha (turn_below s k p hp) (subst Sent f sent) ha' (turn_below s k' p' hp')
        (sym f ∙ e ∙ read_at k' a' p' hp'))
      where
        flat : Incidence → Incidence
        flat c = incidence c.line c.word 0

        go : (incidence k' a' (turn s k' p') ≡ incidence k a (turn s k p)) ⊎ (incidence k' a' (turn s k' p') ≡ crossing s l k a (turn s k p))
            → (incidence k' a' 0 ≡ incidence k a 0)
            ⊎ (incidence k' a' 0 ≡ incidence (crossing s l k a (turn s k p)).line (crossing s l k a (turn s k p)).word 0)
        go (inl x) = inl (ap flat x)
        go (inr x) = inr (ap flat x)
