-- Lists that spread: row a, column j of X goes to column word a + j modulo M, of Q to a + r + j, in some row there. Such lists are permutations where the
-- rows of each column word are, and two redundancy bits of one row word never meet in one column word: a redundancy bit stands in the column word of
-- its place's remainder by M; redundancy bit e of row word a is sent to column a + e modulo M, and 2r numbers in a row are not congruent.
--   sent_to                          the place to which a place goes, by the rows of each column word
--   sent-mod, sent-lt               its column word, and that it is below M × r
--   sent-permutes                   a list of such places is a permutation where the rows of each column word are
--   columns-apart                   the two bits never meet, by the column words alone
--   turned-div, turned_lt           of spread lists: a turned place stays in its column, and below M × r
--   self-entry, parity-entry        the entries of the lists
--   spread-permutes, spread-lists   both lists are permutations, and pass rule 7
--   spread-apart                    the two bits never meet
-- Assumes nothing.
use mathlib.Core.Path.{◌≡◌, sym, ap, ap₂, ◌∙◌, subst}
use mathlib.Core.List.{List}
use Prim.Native.Nat.{ℕ, ◌+◌, ◌-◌, ◌*◌, ◌/◌, ◌%◌, ◌≤◌, ◌<◌}
use native.Mathlib.Nat.{div-add-mod', mul-le-mul_right, mul-add-mod_self_left}
use native.Mathlib.Decide.{dec_lt}
use native.Mathlib.Omega.{arith}
use lib.Arith.{digits_div, digits_mod}
use lib.ListN.{get_or}
use Rattle.staircase.specs.Design.{Params, Interleavers, word_length, order}
use Rattle.staircase.specs.Word.{column_info, column_word}
use Rattle.staircase.specs.Frame.{Site, row_sites, column_sites, block_at, y_at, p_at}
use Rattle.staircase.specs.Frame.Site.{unsent, in_red}
use Rattle.staircase.specs.Demand2.{Permutes}
use Rattle.staircase.specs.Spread.{turned_to, spread, StandsIn, Apart, SpreadApart, PassesLists}
use Rattle.staircase.specs.Mixed.{column_to}
use Rattle.staircase.proofs.Bounds.{stretch-end}
use Rattle.staircase.proofs.Tabulate.{tabulate-at}
use Rattle.staircase.proofs.Member.{In}
use Rattle.staircase.proofs.Stretches.{four_all}
use Rattle.staircase.proofs.Flip.{place, buffer, site_in}
use Rattle.staircase.proofs.System.{Proper, place_lt, row-of, column-of}
use Rattle.staircase.proofs.Sites.{block_ind}
use Rattle.staircase.proofs.Positions.{row_at-self, row_at-parity}
use Rattle.staircase.proofs.Rules.{permute_lists}
use Rattle.staircase.proofs.BchCode.{proper_of}

-- numbers less than M apart are not congruent
mod-apart : (M x d : ℕ) → 0 < d → d < M → x % M ≡ (x + d) % M → ⊥
mod-apart M x d pos h e = go (dec_lt (x / M) ((x + d) / M))
  where
    go : Dec (x / M < (x + d) / M) → ⊥
    go (yes l) = omega (arith, e, pos, h, div-add-mod' x M, div-add-mod' (x + d) M, stretch-end (x / M) ((x + d) / M) M l)
    go (no l) = let k : (x + d) / M ≤ x / M = omega arith in omega (arith, e, pos, h, div-add-mod' x M, div-add-mod' (x + d) M, mul-le-mul_right M k)

-- turning by c rows takes no two rows to one
mod-once : (M c x y : ℕ) → x < M → y < M → (x + c) % M ≡ (y + c) % M → x ≡ y
mod-once M c x y hx hy e = go (dec_lt x y) (dec_lt y x)
  where
    at : (u v : ℕ) → u < v → v < M → (u + c) % M ≡ (v + c) % M → ⊥
    at u v l h f = let g : v + c ≡ (u + c) + (v - u) = omega arith in mod-apart M (u + c) (v - u) (omega arith) (omega arith) (f ∙ ap (λ (z : ℕ). z % M) g)

    go : Dec (x < y) → Dec (y < x) → x ≡ y
    go (yes l) d = absurd (at x y l hy e)
    go (no l) (yes d) = absurd (at y x d hx (sym e))
    go (no l) (no d) = omega arith

-- place p goes to row `rows c j` of column word c, where j is its column
abbrev pub sent_to : Params → ℕ → (ℕ → ℕ → ℕ) → ℕ → ℕ
sent_to s by rows p = rows (column_to s by p) (p / s.M) * s.M + column_to s by p

-- each place goes to the column word that is due
abbrev pub Spreads : Params → ℕ → List ℕ → Type 0
Spreads s by l = (p : ℕ) → p < order s → get_or l p 0 % s.M ≡ column_to s by p

module _ (s : Params) (ok : Proper s) where
  -- ---- permutations

  module _ (by : ℕ) (rows : ℕ → ℕ → ℕ) where
    sent-div : (p : ℕ) → sent_to s by rows p / s.M ≡ rows (column_to s by p) (p / s.M)
    sent-div p = digits_div (rows (column_to s by p) (p / s.M)) (column-of s ok (p % s.M + by + p / s.M))

    pub sent-mod : (p : ℕ) → sent_to s by rows p % s.M ≡ column_to s by p
    sent-mod p = digits_mod (rows (column_to s by p) (p / s.M)) (column-of s ok (p % s.M + by + p / s.M))

    module _ (permute : (c : ℕ) → c < s.M → Permutes s.r (rows c)) where
      pub sent-lt : (p : ℕ) → p < order s → sent_to s by rows p < order s
      sent-lt p h =
          let c = column-of s ok (p % s.M + by + p / s.M) in
          place_lt s ok (rows (column_to s by p) (p / s.M)) (column_to s by p) ((permute (column_to s by p) c).below (p / s.M) (row-of s ok p h)) c

      sent-once : (j k : ℕ) → j < order s → k < order s → sent_to s by rows j ≡ sent_to s by rows k → j ≡ k
      sent-once j k hj hk e =
          let c : column_to s by j ≡ column_to s by k = sym (sent-mod j) ∙ ap (λ (z : ℕ). z % s.M) e ∙ sent-mod k in
          let u : rows (column_to s by j) (j / s.M) ≡ rows (column_to s by j) (k / s.M) =
          sym (sent-div j) ∙ ap (λ (z : ℕ). z / s.M) e ∙ sent-div k ∙ ap (λ (z : ℕ). rows z (k / s.M)) (sym c) in
          let d : j / s.M ≡ k / s.M =
          (permute (column_to s by j) (column-of s ok (j % s.M + by + j / s.M))).once (j / s.M) (k / s.M) (row-of s ok j hj) (row-of s ok k hk) u in
          let sum : (p : ℕ) → p % s.M + (by + p / s.M) ≡ p % s.M + by + p / s.M = λ p. omega arith in
          let m : j % s.M ≡ k % s.M =
          mod-once s.M (by + k / s.M) (j % s.M) (k % s.M) (column-of s ok j) (column-of s ok k)
          (ap (λ (z : ℕ). (j % s.M + (by + z)) % s.M) (sym d) ∙ ap (λ (z : ℕ). z % s.M) (sum j) ∙ c ∙ ap (λ (z : ℕ). z % s.M) (sym (sum k))) in
          sym (div-add-mod' j s.M) ∙ ap₂ (λ (x y : ℕ). x * s.M + y) d m ∙ div-add-mod' k s.M

      pub sent-permutes : (l : List ℕ) → ((p : ℕ) → p < order s → get_or l p 0 ≡ sent_to s by rows p) → Permutes (order s) (λ p. get_or l p 0)
      sent-permutes l e = record {
        below = λ k h. subst (λ (z : ℕ). z < order s) (sym (e k h)) (sent-lt k h);
        once = λ j k hj hk d. sent-once j k hj hk (sym (e j hj) ∙ d ∙ e k hk);
      }

  -- ---- where the redundancy bits of a word stand

  -- place q of a group's Y (c is 0) or P (c is 1)
  red-mod : (i q c : ℕ) → (i * (2 * order s) + c * order s + q) % s.M ≡ q % s.M
  red-mod i q c =
      let f : i * (2 * order s) + c * order s + q ≡ s.M * (i * (2 * s.r) + c * s.r) + q = omega arith in
      ap (λ (z : ℕ). z % s.M) f ∙ mul-add-mod_self_left s.M (i * (2 * s.r) + c * s.r) q

  -- a redundancy bit stands in column b
  abbrev Column : ℕ → Site → Type 0
  Column b x = (k : ℕ) → x ≡ in_red k → k % s.M ≡ b

  block_none : (L b n k : ℕ) → Column n (block_at s L b k)
  block_none L b n k = block_ind s L (Column n) b k (λ j e. absurd (zero_two (ap buffer e))) (λ c e l j d. absurd (one_two (ap buffer d)))
    where
      zero_two : ◌≡◌ {A = ℕ} 0 2 → ⊥
      zero_two e = omega arith

      one_two : ◌≡◌ {A = ℕ} 1 2 → ⊥
      one_two e = omega arith

  in_column : (L i b : ℕ) → b < s.M → (x : Site) → In x (column_sites s L i b) → Column b x
  unfolding column_sites column_word column_info
  in_column L i b h =
      four_all s.M s.r (λ j. block_at s L (2 * i + 1) (j * s.M + b)) (λ j. block_at s L (2 * i + 2) (j * s.M + b))
      (λ e. y_at s i (e * s.M + b)) (λ e. p_at s i (e * s.M + b)) (Column b)
      (λ j l. block_none L (2 * i + 1) b (j * s.M + b)) (λ j l. block_none L (2 * i + 2) b (j * s.M + b))
      (λ e l k d. sym (ap (λ (z : Site). place z % s.M) d) ∙ at e 0 (i * (2 * order s) + (e * s.M + b)) (omega arith))
      (λ e l k d. sym (ap (λ (z : Site). place z % s.M) d) ∙ at e 1 (i * (2 * order s) + order s + (e * s.M + b)) (omega arith))
    where
      at : (e c k : ℕ) → k ≡ i * (2 * order s) + c * order s + (e * s.M + b) → k % s.M ≡ b
      at e c k f = ap (λ (z : ℕ). z % s.M) f ∙ red-mod i (e * s.M + b) c ∙ digits_mod e h

  stands : (L j b : ℕ) → b < s.M → (x : Site) → StandsIn x (column_sites s L j b) → Column b x
  stands L j b hb x t =
      in_column L j b hb x (subst (λ (z : Site). In z (column_sites s L j b)) t.2 (site_in (column_sites s L j b) t.0 t.1))

  module _ (l : Interleavers) (self : Spreads s 0 l.self) (parity : Spreads s s.r l.parity) where
    -- place e × M + a of X or of Q
    sent-at : (by i a e c k : ℕ) (t : List ℕ) → Spreads s by t → a < s.M → e < s.r → k ≡ i * (2 * order s) + c * order s + get_or t (e * s.M + a) 0
        → k % s.M ≡ (a + by + e) % s.M
    sent-at by i a e c k t spreads ha he f =
        ap (λ (z : ℕ). z % s.M) f ∙ red-mod i (get_or t (e * s.M + a) 0) c ∙ spreads (e * s.M + a) (place_lt s ok e a he ha)
        ∙ ap₂ (λ (x y : ℕ). (x + by + y) % s.M) (digits_mod e ha) (digits_div e ha)

    -- redundancy bit e of row word a, at position 2M + e, stands in column a + e modulo M
    in_row : (L i a p : ℕ) → a < s.M → 2 * s.M ≤ p → p < word_length s
        → (k : ℕ) × (get_or (row_sites s l L i a) p unsent ≡ in_red k) × (k % s.M ≡ (a + (p - 2 * s.M)) % s.M)
    in_row L i a p ha lo hi = go (dec_lt p (2 * s.M + s.r))
      where
        go : Dec (p < 2 * s.M + s.r) → (k : ℕ) × (get_or (row_sites s l L i a) p unsent ≡ in_red k) × (k % s.M ≡ (a + (p - 2 * s.M)) % s.M)
        go (yes h) =
            let e : ℕ = p - 2 * s.M in
            let k : ℕ = i * (2 * order s) + get_or l.self (e * s.M + a) 0 in (
              k,
              row_at-self s l L i a p lo h,
              sent-at 0 i a e 0 k l.self self ha (omega arith) (omega arith) ∙ ap (λ (z : ℕ). z % s.M) (omega arith),
            )
        go (no h) =
            let e : ℕ = p - (2 * s.M + s.r) in
            let k : ℕ = i * (2 * order s) + order s + get_or l.parity (e * s.M + a) 0 in (
              k,
              row_at-parity s l L i a p (omega arith) hi,
              sent-at s.r i a e 1 k l.parity parity ha (omega arith) (omega arith) ∙ ap (λ (z : ℕ). z % s.M) (omega arith),
            )

    pub columns-apart : 2 * s.r ≤ s.M → Apart s l
    columns-apart wide L i a j b p q ha hb lo h hi u v =
        let x = in_row L i a p ha lo (omega arith) in
        let y = in_row L i a q ha (omega arith) hi in
        let e : a + (q - 2 * s.M) ≡ (a + (p - 2 * s.M)) + (q - p) = omega arith in
        mod-apart s.M (a + (p - 2 * s.M)) (q - p) (omega arith) (omega arith)
        (sym x.2 ∙ stands L j b hb (get_or (row_sites s l L i a) p unsent) u x.0 x.1
        ∙ sym (stands L j b hb (get_or (row_sites s l L i a) q unsent) v y.0 y.1) ∙ y.2 ∙ ap (λ (z : ℕ). z % s.M) e)

  -- ---- spread lists: each row stays the row that it was

  abbrev same : ℕ → ℕ → ℕ
  same c j = j

  same-permutes : (c : ℕ) → c < s.M → Permutes s.r (same c)
  same-permutes c h = record { below = λ k l. l; once = λ j k hj hk e. e }

  pub turned-div : (by p : ℕ) → turned_to s by p / s.M ≡ p / s.M
  unfolding turned_to
  turned-div by p = sent-div by same p

  turned-mod : (by p : ℕ) → turned_to s by p % s.M ≡ column_to s by p
  unfolding turned_to
  turned-mod by p = sent-mod by same p

  pub turned_lt : (by p : ℕ) → p < order s → turned_to s by p < order s
  unfolding turned_to
  turned_lt by p h = sent-lt by same same-permutes p h

  pub self-entry : (p : ℕ) → p < order s → get_or (spread s).self p 0 ≡ turned_to s 0 p
  unfolding spread
  self-entry p h = tabulate-at (order s) (turned_to s 0) 0 p h

  pub parity-entry : (p : ℕ) → p < order s → get_or (spread s).parity p 0 ≡ turned_to s s.r p
  unfolding spread
  parity-entry p h = tabulate-at (order s) (turned_to s s.r) 0 p h

  turned-permutes : (by : ℕ) (l : List ℕ) → ((p : ℕ) → p < order s → get_or l p 0 ≡ turned_to s by p) → Permutes (order s) (λ p. get_or l p 0)
  unfolding turned_to
  turned-permutes by l e = sent-permutes by same same-permutes l e

  pub spread-permutes : Permutes (order s) (λ p. get_or (spread s).self p 0) × Permutes (order s) (λ p. get_or (spread s).parity p 0)
  spread-permutes = (turned-permutes 0 (spread s).self self-entry, turned-permutes s.r (spread s).parity parity-entry)

  turned_spreads : (by : ℕ) (l : List ℕ) → ((p : ℕ) → p < order s → get_or l p 0 ≡ turned_to s by p) → Spreads s by l
  turned_spreads by l e p h = ap (λ (z : ℕ). z % s.M) (e p h) ∙ turned-mod by p

-- "Such lists pass the list check"
pub spread-lists : PassesLists
spread-lists m t M col d = let p = spread-permutes _ (proper_of d) in permute_lists _ (spread _) p.0 p.1

-- "two redundancy bits of one row word never meet in one column word"
pub spread-apart : SpreadApart
spread-apart m t M col d wide =
    let ok = proper_of d in
    columns-apart _ ok (spread _) (turned_spreads _ ok 0 (spread _).self (self-entry _ ok)) (turned_spreads _ ok (m * t) (spread _).parity (parity-entry _ ok)) wide
