-- The words of original staircase frames, position by position, and the crossing word: a sent bit that stands at a position of a word stands in one other
-- word of the frame, once, if there is a next block.
--   site_first, site_second     the site at a position
--   row_table                   a word as a table of its sites
--   row-length, row_at, row_position, row_distinct   its length, its sites, and no sent one twice
--   row_within                  all sent ones are bytes of the buffer
--   Crosses, crossing_holds     the crossing word has the bit, at its position
--   only_two                    no third word has it, and these two have it once
--   crossing-first, crossing-second   the crossing word, as code finds it
-- Assumes nothing.
use mathlib.Core.Path.{◌≡◌, refl, sym, ap, ap₂, ◌∙◌, subst}
use mathlib.Core.Bool.{cond}
use mathlib.Core.Logic.{◌≢◌, ◌⊎◌, inl, inr}
use mathlib.Core.List.{List, ◌++◌, append_assoc}
use Prim.Native.Nat.{ℕ, zero, suc, ◌+◌, ◌-◌, ◌*◌, ◌/◌, ◌%◌, ◌≤◌, ◌<◌}
use native.Mathlib.Nat.{add-sub_cancel_left}
use native.Mathlib.Decide.{dec_lt}
use native.Mathlib.Numerals.{add-one}
use native.Mathlib.Omega.{arith}
use lib.Arith.{digits_lt, digits_div, digits_mod}
use lib.Dec.{ltb}
use lib.ListN.{length, get_or}
use borrow.Author.Tests.{lt-ltb, le-ltb}
use Rattle.staircase.specs.Lists.{tabulate}
use Rattle.staircase.specs.Design.{Params}
use Rattle.staircase.specs.Frame.{Frame, Site}
use Rattle.staircase.specs.Frame.Site.{unsent, in_info}
use Rattle.staircase.specs.Lines.{Incidence, incidence}
use Rattle.staircase.proofs.Search.{cond-true, cond-false}
use Rattle.staircase.proofs.Tabulate.{tabulate-length, tabulate-at, tabulate-same, tabulate-append}
use Rattle.staircase.proofs.Member.{In, tabulate_in}
use Rattle.staircase.proofs.Flip.{Sent, Within, Distinct, place}
use Rattle.original.specs.Frame.{block_site, row_of, row_sites}
use Rattle.original.specs.Rules.{row_length}
use Rattle.original.specs.Crossing.{row_crossing}

-- ---- the crossing word, as code finds it

module _ (s : Params) (b a p : ℕ) where
  pub crossing-first : p < s.M → row_crossing s b a p ≡ incidence (b - 1) p (s.M + a)
  unfolding row_crossing
  crossing-first h = cond-true (ltb p s.M) _ _ (lt-ltb p s.M h)

  pub crossing-second : s.M ≤ p → row_crossing s b a p ≡ incidence (b + 1) (p - s.M) a
  unfolding row_crossing
  crossing-second h = cond-false (ltb p s.M) _ _ (le-ltb p s.M h)

  -- position p of the word of row a of the block that b blocks precede
  unfoldable pub site_of : Site
  site_of = cond (ltb p s.M) (block_site s b (p * s.M + a)) (block_site s (suc b) (a * s.M + (p - s.M)))

  pub site_first : p < s.M → site_of ≡ block_site s b (p * s.M + a)
  unfolding site_of
  site_first h = cond-true (ltb p s.M) _ _ (lt-ltb p s.M h)

  pub site_second : s.M ≤ p → site_of ≡ block_site s (suc b) (a * s.M + (p - s.M))
  unfolding site_of
  site_second h = cond-false (ltb p s.M) _ _ (le-ltb p s.M h)

distinct_table : (n : ℕ) (f : ℕ → Site) → ((j k : ℕ) → j < k → k < n → Sent (f j) → f j ≢ f k) → Distinct (tabulate n f)
unfolding tabulate
distinct_table zero f h = tt
distinct_table (suc n) f h = (
  λ sent i. let t = tabulate_in n (λ k. f (suc k)) (f zero) i in let l = t.1 in h zero (suc t.0) (omega arith) (omega (arith, l)) sent t.2,
  distinct_table n (λ k. f (suc k)) (λ j k l m. h (suc j) (suc k) (omega (arith, l)) (omega (arith, m))),
)

incidence-same : {k a p k' a' p' : ℕ} → k ≡ k' → a ≡ a' → p ≡ p' → incidence k a p ≡ incidence k' a' p'
incidence-same {k} {a} {p} {k'} {a'} {p'} x y z = ap₂ (λ (k a : ℕ). incidence k a p) x y ∙ ap (incidence k' a') z

module _ (s : Params) (thin : s.r ≤ s.M) where
  abbrev at : ℕ → ℕ → ℕ → Site
  at b a p = site_of s b a p

  pub row_table : (b a : ℕ) → row_sites s b a ≡ tabulate (row_length s) (site_of s b a)
  unfolding row_of
  row_table b a =
      let M : ℕ = s.M in
      let r : ℕ = s.r in
      let A : ℕ → Site = λ j. block_site s b (j * M + a) in
      let B : ℕ → Site = λ j. block_site s (suc b) (a * M + j) in
      let parts : M - r + r ≡ M = omega (arith, thin) in
      let both : M + M ≡ row_length s = omega arith in
      append_assoc (tabulate M A) (tabulate (M - r) B) (tabulate r (λ j. B (M - r + j)))
      ∙ ap (λ (v : List Site). tabulate M A ++ v) (sym (tabulate-append (M - r) r B) ∙ ap (λ (n : ℕ). tabulate n B) parts)
      ∙ ap₂ (λ (u v : List Site). u ++ v) (tabulate-same M A (at b a) (λ p h. sym (site_first s b a p h)))
      (tabulate-same M B (λ j. at b a (M + j))
      (λ j h. ap B (sym (add-sub_cancel_left M j)) ∙ sym (site_second s b a (M + j) (omega arith))))
      ∙ sym (tabulate-append M M (at b a))
      ∙ ap (λ (n : ℕ). tabulate n (at b a)) both

  pub row-length : (b a : ℕ) → length (row_sites s b a) ≡ row_length s
  row-length b a = ap length (row_table b a) ∙ tabulate-length (row_length s) (at b a)

  pub row_at : (b a p : ℕ) → p < row_length s → get_or (row_sites s b a) p unsent ≡ site_of s b a p
  row_at b a p h = ap (λ (w : List Site). get_or w p unsent) (row_table b a) ∙ tabulate-at (row_length s) (at b a) unsent p h

  pub row_position : (b a : ℕ) (y : Site) → In y (row_sites s b a) → (p : ℕ) × (p < row_length s) × (y ≡ site_of s b a p)
  row_position b a y i = tabulate_in (row_length s) (at b a) y (subst (λ (w : List Site). In y w) (row_table b a) i)

  -- ---- where a sent site stands

  abbrev spot : ℕ → ℕ → ℕ → Site
  spot c i j = in_info (c * (s.M * s.M) + (i * s.M + j))

  -- position p of word (b, a) has bit (i, j) of block c + 1, in the one stretch or the other
  record Stands (b a p c i j : ℕ) : Type 0 where
    site : site_of s b a p ≡ spot c i j
    row : i < s.M
    column : j < s.M
    how : ((b ≡ suc c) × (p ≡ i) × (a ≡ j)) ⊎ ((b ≡ c) × (a ≡ i) × (p ≡ s.M + j))

  stands : (b a p : ℕ) → a < s.M → p < row_length s → Sent (site_of s b a p) → (c : ℕ) × (i : ℕ) × (j : ℕ) × Stands b a p c i j
  stands b a p ha hp sent = go b (dec_lt p s.M) sent
    where
      go : (b : ℕ) → Dec (p < s.M) → Sent (site_of s b a p) → (c : ℕ) × (i : ℕ) × (j : ℕ) × Stands b a p c i j
      go zero (yes h) sent = absurd (subst Sent (site_first s 0 a p h) sent)
      go (suc c) (yes h) sent = (c, p, a, record { site = site_first s (suc c) a p h; row = h; column = ha; how = inl (refl, refl, refl) })
      go b (no h) sent =
          let low : s.M ≤ p = omega (arith, h) in
          (b, a, p - s.M, record { site = site_second s b a p low; row = ha; column = omega (arith, hp, low); how = inr (refl, refl, omega (arith, low)) })

  same_spot : (c i j c' i' j' : ℕ) → i < s.M → j < s.M → i' < s.M → j' < s.M → spot c i j ≡ spot c' i' j' → (c ≡ c') × (i ≡ i') × (j ≡ j')
  same_spot c i j c' i' j' hi hj hi' hj' e =
      let M : ℕ = s.M in
      let z : c * (M * M) + (i * M + j) ≡ c' * (M * M) + (i' * M + j') = ap place e in
      let block : c ≡ c' = sym (digits_div c (digits_lt hi hj)) ∙ ap (λ (x : ℕ). x / (M * M)) z ∙ digits_div c' (digits_lt hi' hj') in
      let inner : i * M + j ≡ i' * M + j' = sym (digits_mod c (digits_lt hi hj)) ∙ ap (λ (x : ℕ). x % (M * M)) z ∙ digits_mod c' (digits_lt hi' hj') in
      (block, sym (digits_div i hj) ∙ ap (λ (x : ℕ). x / M) inner ∙ digits_div i' hj', sym (digits_mod i hj) ∙ ap (λ (x : ℕ). x % M) inner ∙ digits_mod i' hj')

  pub only_two : (b a p b' a' p' : ℕ) → a < s.M → p < row_length s → Sent (site_of s b a p) → a' < s.M → p' < row_length s
      → site_of s b a p ≡ site_of s b' a' p'
      → (incidence b' a' p' ≡ incidence b a p) ⊎ (incidence b' a' p' ≡ row_crossing s b a p)
  only_two b a p b' a' p' ha hp sent ha' hp' same =
      let (c, i, j, x) = stands b a p ha hp sent in
      let (c', i', j', y) = stands b' a' p' ha' hp' (subst Sent same sent) in
      let (ec, ei, ej) = same_spot c i j c' i' j' x.row x.column y.row y.column (sym x.site ∙ same ∙ y.site) in
      go c i j c' i' j' ec ei ej x.row x.how y.how
    where
      go : (c i j c' i' j' : ℕ) → c ≡ c' → i ≡ i' → j ≡ j' → i < s.M
          → ((b ≡ suc c) × (p ≡ i) × (a ≡ j)) ⊎ ((b ≡ c) × (a ≡ i) × (p ≡ s.M + j))
          → ((b' ≡ suc c') × (p' ≡ i') × (a' ≡ j')) ⊎ ((b' ≡ c') × (a' ≡ i') × (p' ≡ s.M + j'))
          → (incidence b' a' p' ≡ incidence b a p) ⊎ (incidence b' a' p' ≡ row_crossing s b a p)
      go c i j c' i' j' ec ei ej hi (inl (u, v, w)) (inl (u', v', w')) =
          inl (incidence-same (u' ∙ ap suc (sym ec) ∙ sym u) (w' ∙ sym ej ∙ sym w) (v' ∙ sym ei ∙ sym v))
      go c i j c' i' j' ec ei ej hi (inr (u, v, w)) (inr (u', v', w')) =
          inl (incidence-same (u' ∙ sym ec ∙ sym u) (v' ∙ sym ei ∙ sym v) (w' ∙ ap (λ (n : ℕ). s.M + n) (sym ej) ∙ sym w))
      go c i j c' i' j' ec ei ej hi (inl (u, v, w)) (inr (u', v', w')) =
          inr (incidence-same (let e : b' ≡ b - 1 = omega (arith, u, u', ec) in e) (v' ∙ sym ei ∙ sym v) (w' ∙ ap (λ (n : ℕ). s.M + n) (sym ej ∙ sym w))
          ∙ sym (crossing-first s b a p (omega (arith, v, hi))))
      go c i j c' i' j' ec ei ej hi (inr (u, v, w)) (inl (u', v', w')) =
          inr (incidence-same (let e : b' ≡ b + 1 = omega (arith, u, u', ec) in e) (let e : a' ≡ p - s.M = omega (arith, w, w', ej) in e) (v' ∙ sym ei ∙ sym v)
          ∙ sym (crossing-second s b a p (omega (arith, w))))

  -- a word crosses another one
  other_block : (b a p : ℕ) → Sent (site_of s b a p) → (row_crossing s b a p).line ≢ b
  other_block b a p sent e = go b (dec_lt p s.M) sent e
    where
      go : (b : ℕ) → Dec (p < s.M) → Sent (site_of s b a p) → (row_crossing s b a p).line ≢ b
      go zero (yes h) sent e = subst Sent (site_first s 0 a p h) sent
      go (suc c) (yes h) sent e = let z : suc c - 1 ≡ suc c = sym (ap (λ (x : Incidence). x.line) (crossing-first s (suc c) a p h)) ∙ e in omega (arith, z)
      go b (no h) sent e = let z : b + 1 ≡ b = sym (ap (λ (x : Incidence). x.line) (crossing-second s b a p (omega (arith, h)))) ∙ e in omega (arith, z)

  pub row_distinct : (b a : ℕ) → a < s.M → Distinct (row_sites s b a)
  row_distinct b a ha = subst Distinct (sym (row_table b a)) (distinct_table (row_length s) (at b a) once)
    where
      once : (j k : ℕ) → j < k → k < row_length s → Sent (at b a j) → at b a j ≢ at b a k
      once j k l h sent e = go (only_two b a j b a k ha (omega (arith, l, h)) sent ha h e)
        where
          go : (incidence b a k ≡ incidence b a j) ⊎ (incidence b a k ≡ row_crossing s b a j) → ⊥
          go (inl q) = let z : k ≡ j = ap (λ (x : Incidence). x.position) q in omega (arith, l, z)
          go (inr q) = other_block b a j sent (sym (ap (λ (x : Incidence). x.line) q))

  pub row_within : (L : ℕ) (f : Frame) → length f.info ≡ L * (s.M * s.M) → (b a : ℕ) → b < L → a < s.M
      → (y : Site) → Sent y → In y (row_sites s b a) → Within y f
  row_within L f long b a hb ha y sent m =
      let t = row_position b a y m in
      let (c, i, j, x) = stands b a t.0 ha t.1 (subst Sent t.2 sent) in
      subst (λ (z : Site). Within z f) (sym (t.2 ∙ x.site)) (inside c i j x.row x.column x.how)
    where
      inside : {p : ℕ} (c i j : ℕ) → i < s.M → j < s.M → ((b ≡ suc c) × (p ≡ i) × (a ≡ j)) ⊎ ((b ≡ c) × (a ≡ i) × (p ≡ s.M + j))
          → c * (s.M * s.M) + (i * s.M + j) < length f.info
      inside c i j hi hj (inl (u, v, w)) =
          subst (λ (n : ℕ). c * (s.M * s.M) + (i * s.M + j) < n) (sym long) (digits_lt {q = c} {m = L} (omega (arith, u, hb)) (digits_lt hi hj))
      inside c i j hi hj (inr (u, v, w)) =
          subst (λ (n : ℕ). c * (s.M * s.M) + (i * s.M + j) < n) (sym long) (digits_lt {q = c} {m = L} (omega (arith, u, hb)) (digits_lt hi hj))

  -- ---- the crossing word has the bit

  pub record Crosses (b a p : ℕ) (c : Incidence) : Type 0 where
    pub word : c.word < s.M
    pub position : c.position < row_length s
    pub holds : site_of s b a p ≡ site_of s c.line c.word c.position

  crosses_first : (b a p : ℕ) → a < s.M → p < s.M → Sent (site_of s b a p) → Crosses b a p (incidence (b - 1) p (s.M + a))
  crosses_first zero a p ha h sent = absurd (subst Sent (site_first s 0 a p h) sent)
  crosses_first (suc c) a p ha h sent =
      let e : suc c - 1 ≡ c = omega arith in
      subst (λ (n : ℕ). Crosses (suc c) a p (incidence n p (s.M + a))) (sym e)
      (record {
        word = h;
        position = omega (arith, ha);
        holds = site_first s (suc c) a p h ∙ ap (λ (n : ℕ). block_site s (suc c) (p * s.M + n)) (sym (add-sub_cancel_left s.M a))
            ∙ sym (site_second s c p (s.M + a) (omega arith));
      })

  crosses_second : (b a p : ℕ) → a < s.M → s.M ≤ p → p < row_length s → Crosses b a p (incidence (b + 1) (p - s.M) a)
  crosses_second b a p ha low hp =
      record {
        word = omega (arith, hp, low);
        position = omega (arith, ha);
        holds = site_second s b a p low ∙ ap (λ (n : ℕ). block_site s n (a * s.M + (p - s.M))) (sym (add-one b))
            ∙ sym (site_first s (b + 1) (p - s.M) a ha);
      }

  pub crossing_holds : (b a p : ℕ) → a < s.M → p < row_length s → Sent (site_of s b a p) → Crosses b a p (row_crossing s b a p)
  crossing_holds b a p ha hp sent = go (dec_lt p s.M)
    where
      go : Dec (p < s.M) → Crosses b a p (row_crossing s b a p)
      go (yes h) = subst (Crosses b a p) (sym (crossing-first s b a p h)) (crosses_first b a p ha h sent)
      go (no h) = subst (Crosses b a p) (sym (crossing-second s b a p (omega (arith, h)))) (crosses_second b a p ha (omega (arith, h)) hp)
