-- The crossing word: a sent bit that stands at a position of a word stands in one other word of the frame, once.
--   Crosses, crossing_holds   the crossing word has the bit, at its position
--   only_two                  no third word has it, and these two have it once
--   crossing-first, crossing-second, crossing-red   the crossing word, as code finds it
-- Assumes nothing.
use mathlib.Core.Path.{◌≡◌, refl, sym, ap, ap₂, ◌∙◌, subst}
use mathlib.Core.Bool.{Bool, true, false, not, cond, true≢false}
use mathlib.Core.Logic.{◌≢◌, ◌⊎◌, inl, inr}
use Prim.Native.Nat.{ℕ, zero, suc, ◌+◌, ◌-◌, ◌*◌, ◌/◌, ◌%◌, ◌≤◌, ◌<◌}
use native.Mathlib.Nat.{div-add-mod', add-sub_cancel_left, mul_comm, mul_assoc, mod-lt, div-lt_iff_lt-mul}
use native.Mathlib.Decide.{dec_lt}
use native.Mathlib.Numerals.{add-one}
use native.Mathlib.Omega.{arith}
use lib.Arith.{digits_lt, digits_div, digits_mod}
use lib.Dec.{ltb}
use lib.ListN.{get_or}
use borrow.Author.Tests.{lt-ltb, le-ltb}
use Rattle.staircase.specs.Design.{Params, Interleavers, word_length, order}
use Rattle.staircase.specs.Frame.{Site, block_at}
use Rattle.staircase.specs.Frame.Site.{unsent, in_info, in_red}
use Rattle.staircase.specs.Demand2.{Permutes}
use Rattle.staircase.specs.Lines.{even, line_sites, Incidence, incidence, partner, crossing}
use Rattle.staircase.proofs.Search.{cond-true, cond-false}
use Rattle.staircase.proofs.Flip.{Sent}
use Rattle.staircase.proofs.System.{Proper}
use Rattle.staircase.proofs.Sites.{block-sent}
use Rattle.staircase.proofs.Lines.{even-twice, odd_twice, even_next, line_ind, red-place, partner-below, partner_back, line_first, line_second, line-red}

-- ---- the crossing word, as code finds it

module _ (s : Params) (l : Interleavers) (k a p : ℕ) where
  pub crossing-first : p < s.M → crossing s l k a p ≡ incidence (k - 1) p (s.M + a)
  unfolding crossing
  crossing-first h = cond-true (ltb p s.M) _ _ (lt-ltb p s.M h)

  pub crossing-second : s.M ≤ p → p < 2 * s.M → crossing s l k a p ≡ incidence (k + 1) (p - s.M) a
  unfolding crossing
  crossing-second low h = cond-false (ltb p s.M) _ _ (le-ltb p s.M low) ∙ cond-true (ltb p (2 * s.M)) _ _ (lt-ltb p (2 * s.M) h)

  pub crossing-red : 2 * s.M ≤ p → crossing s l k a p
      ≡ incidence (cond (even k) (k + 1) (k - 1)) (partner s l (even k) ((p - 2 * s.M) * s.M + a) % s.M)
      (2 * s.M + partner s l (even k) ((p - 2 * s.M) * s.M + a) / s.M)
  unfolding crossing
  crossing-red low = cond-false (ltb p s.M) _ _ (le-ltb p s.M (omega arith)) ∙ cond-false (ltb p (2 * s.M)) _ _ (le-ltb p (2 * s.M) low)

-- ---- the crossing word has the bit

different : (z : Bool) → not z ≢ z
different true e = true≢false (sym e)
different false e = true≢false e

module _ (s : Params) (L : ℕ) (l : Interleavers) (ok : Proper s) (ps : Permutes (order s) (λ p. get_or l.self p 0))
    (pp : Permutes (order s) (λ p. get_or l.parity p 0)) where
  abbrev at : ℕ → ℕ → ℕ → Site
  at k a p = get_or (line_sites s l L k a) p unsent

  pub record Crosses (k a p : ℕ) (c : Incidence) : Type 0 where
    pub word : c.word < s.M
    pub position : c.position < word_length s
    pub kind : even c.line ≢ even k
    pub holds : get_or (line_sites s l L k a) p unsent ≡ get_or (line_sites s l L c.line c.word) c.position unsent

  -- row a, column j of a block, or column a, row j
  abbrev cell : Bool → ℕ → ℕ → ℕ
  cell z a j = cond z (a * s.M + j) (j * s.M + a)

  transposed : (z : Bool) (a j : ℕ) → cell (not z) a j ≡ cell z j a
  transposed true a j = refl
  transposed false a j = refl

  -- lines k and k + 1 share block k + 1
  shared-block : (k a p : ℕ) → a < s.M → p < s.M → at (k + 1) a p ≡ at k p (s.M + a)
  shared-block k a p ha hp =
      line_first s l L (k + 1) a p hp
      ∙ ap (block_at s L (k + 1)) (ap (λ (z : Bool). cell z a p) (even_next k) ∙ transposed (even k) a p ∙ ap (cell (even k) p) (sym (add-sub_cancel_left s.M a)))
      ∙ sym (line_second s l L k p (s.M + a) (omega arith) (omega arith))

  next_kind : (k : ℕ) → even (k + 1) ≢ even k
  next_kind k e = different (even k) (sym (even_next k) ∙ e)

  -- positions of places of the redundancy
  position-lt : (x : ℕ) → x < 2 * order s → 2 * s.M + x / s.M < word_length s
  position-lt x h =
      let c : 2 * order s ≡ (2 * s.r) * s.M = ap (λ (z : ℕ). 2 * z) (mul_comm s.M s.r) ∙ sym (mul_assoc 2 s.r s.M) in
      let b : x / s.M < 2 * s.r = (div-lt_iff_lt-mul ok.mpos).1 (subst (λ (z : ℕ). x < z) c h) in
      omega (arith, b)

  place_again : (x : ℕ) → (2 * s.M + x / s.M - 2 * s.M) * s.M + x % s.M ≡ x
  place_again x = ap (λ (z : ℕ). z * s.M + x % s.M) (add-sub_cancel_left (2 * s.M) (x / s.M)) ∙ div-add-mod' x s.M

  -- the bit of place x of the redundancy in word x % M of a line
  red-at : (k x : ℕ) → x < 2 * order s → at k (x % s.M) (2 * s.M + x / s.M) ≡ in_red (k / 2 * (2 * order s) + cond (even k) (partner s l true x) x)
  red-at k x h =
      line-red s l L ok (x % s.M) (2 * s.M + x / s.M) (mod-lt x ok.mpos) (omega arith) (position-lt x h) k
      ∙ ap (λ (z : ℕ). in_red (k / 2 * (2 * order s) + cond (even k) (partner s l true z) z)) (place_again x)

  module _ (a p : ℕ) (ha : a < s.M) where
    crosses_first : (k : ℕ) → p < s.M → Sent (get_or (line_sites s l L k a) p unsent) → Crosses k a p (incidence (k - 1) p (s.M + a))
    crosses_first zero h sent = absurd (subst Sent (line_first s l L 0 a p h) sent)
    crosses_first (suc j) h sent =
        let e : suc j - 1 ≡ j = omega arith in
        subst (λ (n : ℕ). Crosses (suc j) a p (incidence n p (s.M + a))) (sym e)
        (record {
          word = h;
          position = omega arith;
          kind = λ z. next_kind j (ap even (add-one j) ∙ sym z);
          holds = ap (λ (n : ℕ). at n a p) (sym (add-one j)) ∙ shared-block j a p ha h;
        })

    crosses_second : (k : ℕ) → s.M ≤ p → p < 2 * s.M → Crosses k a p (incidence (k + 1) (p - s.M) a)
    crosses_second k low h =
        let e : p ≡ s.M + (p - s.M) = omega arith in
        record {
          word = omega arith;
          position = omega arith;
          kind = next_kind k;
          holds = ap (at k a) e ∙ sym (shared-block k (p - s.M) a (omega arith) ha);
        }

    module _ (low : 2 * s.M ≤ p) (hp : p < word_length s) where
      abbrev x : ℕ
      x = (p - 2 * s.M) * s.M + a

      abbrev y : Bool → ℕ
      y z = partner s l z x

      hx : x < 2 * order s
      hx = red-place s a p ha low hp

      hy : (z : Bool) → y z < 2 * order s
      hy z = partner-below s l ps pp z x hx

      crosses_red : (k : ℕ) → Crosses k a p (incidence (cond (even k) (k + 1) (k - 1)) (y (even k) % s.M) (2 * s.M + y (even k) / s.M))
      crosses_red =
          line_ind (λ (k : ℕ). Crosses k a p (incidence (cond (even k) (k + 1) (k - 1)) (y (even k) % s.M) (2 * s.M + y (even k) / s.M)))
          (λ i.
          subst (λ (z : Bool). Crosses (2 * i) a p (incidence (cond z (2 * i + 1) (2 * i - 1)) (y z % s.M) (2 * s.M + y z / s.M))) (sym (even-twice i))
          (record { word = mod-lt (y true) ok.mpos; position = position-lt (y true) (hy true); kind = next_kind (2 * i); holds = from_row i }))
          (λ i.
          let e : 2 * i ≡ 2 * i + 1 - 1 = omega arith in
          subst (λ (z : Bool). Crosses (2 * i + 1) a p (incidence (cond z (2 * i + 1 + 1) (2 * i + 1 - 1)) (y z % s.M) (2 * s.M + y z / s.M))) (sym (odd_twice i))
          (subst (λ (n : ℕ). Crosses (2 * i + 1) a p (incidence n (y false % s.M) (2 * s.M + y false / s.M))) e
          (record {
            word = mod-lt (y false) ok.mpos;
            position = position-lt (y false) (hy false);
            kind = λ z. next_kind (2 * i) (sym z);
            holds = from-column i;
          })))
        where
          group : (i : ℕ) → 2 * i / 2 ≡ (2 * i + 1) / 2
          group i = omega arith

          red : ℕ → ℕ → Site
          red i z = in_red (i * (2 * order s) + z)

          from_row : (i : ℕ) → at (2 * i) a p ≡ at (2 * i + 1) (y true % s.M) (2 * s.M + y true / s.M)
          from_row i =
              line-red s l L ok a p ha low hp (2 * i) ∙ ap₂ (λ (j : ℕ) (z : Bool). red j (cond z (y true) x)) (group i) (even-twice i)
              ∙ sym (red-at (2 * i + 1) (y true) (hy true) ∙ ap (λ (z : Bool). red ((2 * i + 1) / 2) (cond z (partner s l true (y true)) (y true))) (odd_twice i))

          from-column : (i : ℕ) → at (2 * i + 1) a p ≡ at (2 * i) (y false % s.M) (2 * s.M + y false / s.M)
          from-column i =
              line-red s l L ok a p ha low hp (2 * i + 1) ∙ ap₂ (λ (j : ℕ) (z : Bool). red j (cond z (y true) x)) (sym (group i)) (odd_twice i)
              ∙ sym (red-at (2 * i) (y false) (hy false)
              ∙ ap (λ (z : Bool). red (2 * i / 2) (cond z (partner s l true (y false)) (y false))) (even-twice i)
              ∙ ap (red (2 * i / 2)) (partner_back s l ps pp false x hx))

  pub crossing_holds : (k a p : ℕ) → a < s.M → p < word_length s → Sent (get_or (line_sites s l L k a) p unsent) → Crosses k a p (crossing s l k a p)
  crossing_holds k a p ha hp sent = go (dec_lt p s.M) (dec_lt p (2 * s.M))
    where
      go : Dec (p < s.M) → Dec (p < 2 * s.M) → Crosses k a p (crossing s l k a p)
      go (yes h) d = subst (Crosses k a p) (sym (crossing-first s l k a p h)) (crosses_first a p ha k h sent)
      go (no h) (yes d) = subst (Crosses k a p) (sym (crossing-second s l k a p (omega arith) d)) (crosses_second a p ha k (omega arith) d)
      go (no h) (no d) = subst (Crosses k a p) (sym (crossing-red s l k a p (omega arith))) (crosses_red a p ha (omega arith) hp k)

  -- ---- no third word

  -- from a sent site to its word in the lines of one kind
  abbrev word_of : Bool → ℕ → ℕ
  word_of z c = cond z (c / s.M) (c % s.M)

  abbrev position_of : Bool → ℕ → ℕ
  position_of z c = cond z (c % s.M) (c / s.M)

  abbrev in_block : Bool → ℕ → ℕ → Incidence
  in_block z b c = cond (cond z (even b) (not (even b))) (incidence b (word_of z c) (s.M + position_of z c)) (incidence (b + 1) (word_of z c) (position_of z c))

  abbrev in_group : Bool → ℕ → ℕ → Incidence
  in_group z i x =
      let q : ℕ = cond z (partner s l false x) x in
      incidence (cond z (2 * i) (2 * i + 1)) (q % s.M) (2 * s.M + q / s.M)

  abbrev word_with : Bool → Site → Incidence
  word_with z unsent = incidence 0 0 0
  word_with z (in_info k) = in_block z (k / (s.M * s.M)) (k % (s.M * s.M))
  word_with z (in_red k) = in_group z (k / (2 * order s)) (k % (2 * order s))

  cell_lt : (z : Bool) (a j : ℕ) → a < s.M → j < s.M → cell z a j < s.M * s.M
  cell_lt true a j ha hj = digits_lt ha hj
  cell_lt false a j ha hj = digits_lt hj ha

  cell_word : (z : Bool) (a j : ℕ) → a < s.M → j < s.M → word_of z (cell z a j) ≡ a
  cell_word true a j ha hj = digits_div a hj
  cell_word false a j ha hj = digits_mod j ha

  cell_position : (z : Bool) (a j : ℕ) → a < s.M → j < s.M → position_of z (cell z a j) ≡ j
  cell_position true a j ha hj = digits_mod a hj
  cell_position false a j ha hj = digits_div j ha

  same-incidence : {k a p k' a' p' : ℕ} → k ≡ k' → a ≡ a' → p ≡ p' → incidence k a p ≡ incidence k' a' p'
  same-incidence {k} {a} {p} {k'} {a'} {p'} x y z = ap₂ (λ (k a : ℕ). incidence k a p) x y ∙ ap (incidence k' a') z

  with_block : (z : Bool) (b c : ℕ) → c < s.M * s.M → Sent (block_at s L b c) → (d : ℕ) × (b ≡ suc d) × (word_with z (block_at s L b c) ≡ in_block z d c)
  with_block z b c h sent =
      let t = block-sent s L b c sent in
      (t.0, t.1, ap (word_with z) t.3 ∙ ap₂ (in_block z) (digits_div t.0 h) (digits_mod t.0 h))

  with_red : (z : Bool) (i x : ℕ) → x < 2 * order s → word_with z (in_red (i * (2 * order s) + x)) ≡ in_group z i x
  with_red z i x h = ap₂ (in_group z) (digits_div i h) (digits_mod i h)

  module _ (z : Bool) (b c : ℕ) where
    abbrev block : Bool → Incidence
    block v = cond v (incidence b (word_of z c) (s.M + position_of z c)) (incidence (b + 1) (word_of z c) (position_of z c))

    block-second : even b ≡ z → in_block z b c ≡ incidence b (word_of z c) (s.M + position_of z c)
    block-second e = ap (λ (v : Bool). block (cond z v (not v))) e ∙ ap block (own z)
      where
        own : (z : Bool) → cond z z (not z) ≡ true
        own true = refl
        own false = refl

    block-first : not (even b) ≡ z → in_block z b c ≡ incidence (b + 1) (word_of z c) (position_of z c)
    block-first e = ap (λ (y : Bool). block (cond y (even b) (not (even b)))) (sym e) ∙ ap block (other (even b))
      where
        other : (z : Bool) → cond (not z) z (not z) ≡ false
        other true = refl
        other false = refl

  in_first : (k a p : ℕ) → a < s.M → p < s.M → Sent (at k a p) → word_with (even k) (at k a p) ≡ incidence k a p
  in_first k a p ha h sent =
      let e = line_first s l L k a p h in
      let t = with_block (even k) k (cell (even k) a p) (cell_lt (even k) a p ha h) (subst Sent e sent) in
      let next : k ≡ t.0 + 1 = omega (arith, t.1) in
      ap (word_with (even k)) e ∙ t.2
      ∙ block-first (even k) t.0 (cell (even k) a p) (sym (ap even next ∙ even_next t.0))
      ∙ same-incidence (sym next) (cell_word (even k) a p ha h) (cell_position (even k) a p ha h)

  in_second : (k a p : ℕ) → a < s.M → p < s.M → Sent (at k a (s.M + p)) → word_with (even k) (at k a (s.M + p)) ≡ incidence k a (s.M + p)
  in_second k a p ha h sent =
      let e : at k a (s.M + p) ≡ block_at s L (k + 1) (cell (even k) a p) =
      line_second s l L k a (s.M + p) (omega arith) (omega arith) ∙ ap (λ (j : ℕ). block_at s L (k + 1) (cell (even k) a j)) (add-sub_cancel_left s.M p) in
      let t = with_block (even k) (k + 1) (cell (even k) a p) (cell_lt (even k) a p ha h) (subst Sent e sent) in
      let same : t.0 ≡ k = omega (arith, t.1) in
      ap (word_with (even k)) e ∙ t.2
      ∙ block-second (even k) t.0 (cell (even k) a p) (ap even same)
      ∙ same-incidence same (cell_word (even k) a p ha h) (ap (λ (n : ℕ). s.M + n) (cell_position (even k) a p ha h))

  in-red : (k a p : ℕ) → a < s.M → 2 * s.M ≤ p → p < word_length s → word_with (even k) (at k a p) ≡ incidence k a p
  in-red k a p ha low hp =
      let x : ℕ = (p - 2 * s.M) * s.M + a in
      let hx : x < 2 * order s = red-place s a p ha low hp in
      let whole : 2 * s.M + (p - 2 * s.M) ≡ p = omega arith in
      ap (word_with (even k)) (line-red s l L ok a p ha low hp k)
      ∙ go (even k) refl x hx
      ∙ same-incidence refl (digits_mod (p - 2 * s.M) ha) (ap (λ (n : ℕ). 2 * s.M + n) (digits_div (p - 2 * s.M) ha) ∙ whole)
    where
      go : (z : Bool) → even k ≡ z → (x : ℕ) → x < 2 * order s
          → word_with z (in_red (k / 2 * (2 * order s) + cond z (partner s l true x) x)) ≡ incidence k (x % s.M) (2 * s.M + x / s.M)
      go true e x h =
          with_red true (k / 2) (partner s l true x) (partner-below s l ps pp true x h)
          ∙ ap (λ (q : ℕ). incidence (2 * (k / 2)) (q % s.M) (2 * s.M + q / s.M)) (partner_back s l ps pp true x h)
          ∙ ap (λ (n : ℕ). incidence n (x % s.M) (2 * s.M + x / s.M)) (twice k e)
        where
          twice : (k : ℕ) → even k ≡ true → 2 * (k / 2) ≡ k
          twice = line_ind (λ (k : ℕ). even k ≡ true → 2 * (k / 2) ≡ k) (λ i e. omega arith) (λ i e. absurd (true≢false (sym e ∙ odd_twice i)))
      go false e x h = with_red false (k / 2) x h ∙ ap (λ (n : ℕ). incidence n (x % s.M) (2 * s.M + x / s.M)) (twice k e)
        where
          twice : (k : ℕ) → even k ≡ false → 2 * (k / 2) + 1 ≡ k
          twice = line_ind (λ (k : ℕ). even k ≡ false → 2 * (k / 2) + 1 ≡ k) (λ i e. absurd (true≢false (sym (even-twice i) ∙ e))) (λ i e. omega arith)

  in_line : (k a p : ℕ) → a < s.M → p < word_length s → Sent (at k a p) → word_with (even k) (at k a p) ≡ incidence k a p
  in_line k a p ha hp sent = go (dec_lt p s.M) (dec_lt p (2 * s.M))
    where
      go : Dec (p < s.M) → Dec (p < 2 * s.M) → word_with (even k) (at k a p) ≡ incidence k a p
      go (yes h) d = in_first k a p ha h sent
      go (no h) (yes d) =
          let e : s.M + (p - s.M) ≡ p = omega arith in
          subst (λ (n : ℕ). Sent (at k a n) → word_with (even k) (at k a n) ≡ incidence k a n) e (in_second k a (p - s.M) ha (omega arith)) sent
      go (no h) (no d) = in-red k a p ha (omega arith) hp

  pub only_two : (k a p k' a' p' : ℕ) → a < s.M → p < word_length s → Sent (get_or (line_sites s l L k a) p unsent) → a' < s.M → p' < word_length s
      → get_or (line_sites s l L k a) p unsent ≡ get_or (line_sites s l L k' a') p' unsent
      → (incidence k' a' p' ≡ incidence k a p) ⊎ (incidence k' a' p' ≡ crossing s l k a p)
  only_two k a p k' a' p' ha hp sent ha' hp' same = go (even k) refl (even k') refl (even c.line) refl
    where
      c : Incidence
      c = crossing s l k a p

      x : Crosses k a p c
      x = crossing_holds k a p ha hp sent

      own : even k ≡ even k' → incidence k' a' p' ≡ incidence k a p
      own e = sym (in_line k' a' p' ha' hp' (subst Sent same sent)) ∙ ap₂ word_with (sym e) (sym same) ∙ in_line k a p ha hp sent

      other : even c.line ≡ even k' → incidence k' a' p' ≡ c
      other e =
          sym (in_line k' a' p' ha' hp' (subst Sent same sent)) ∙ ap₂ word_with (sym e) (sym same ∙ x.holds)
          ∙ in_line c.line c.word c.position x.word x.position (subst Sent x.holds sent)

      go : (u : Bool) → even k ≡ u → (v : Bool) → even k' ≡ v → (w : Bool) → even c.line ≡ w
          → (incidence k' a' p' ≡ incidence k a p) ⊎ (incidence k' a' p' ≡ c)
      go true e true f w g = inl (own (e ∙ sym f))
      go false e false f w g = inl (own (e ∙ sym f))
      go true e false f false g = inr (other (g ∙ sym f))
      go true e false f true g = absurd (x.kind (g ∙ sym e))
      go false e true f true g = inr (other (g ∙ sym f))
      go false e true f false g = absurd (x.kind (g ∙ sym e))
