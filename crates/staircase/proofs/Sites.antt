-- The sites of a frame's words.
--   block_ind, block-sent, block-at           the sites of a block
--   row_sites-length, column_sites-length       as long as a word
--   row_sites_distinct, column_sites_distinct   no sent site twice
--   row_among-words, column-among-words, each_word   the words, one by one
--   red_ind                                   the places of the redundancy, by groups
--   info_covered, red_covered                 every byte of the buffers is in a word
-- Assumes nothing.
use mathlib.Core.Path.{◌≡◌, refl, sym, ap, ◌∙◌, subst}
use mathlib.Core.Bool.{Bool, cond}
use mathlib.Core.Logic.{◌≢◌, ◌⊎◌, inl, inr}
use mathlib.Core.List.{List, [], ◌∷◌, ◌++◌}
use Prim.Native.Nat.{ℕ, zero, suc, ◌+◌, ◌-◌, ◌*◌, ◌/◌, ◌%◌, ◌<◌, zero-le, suc-le-suc}
use native.Mathlib.Nat.{mod-lt, div-add-mod', div-lt_iff_lt-mul, mul-pos}
use native.Mathlib.Decide.{dec_lt}
use native.Mathlib.Numerals.{add-one}
use native.Mathlib.Omega.{arith}
use lib.Arith.{digits_lt, digits_div, digits_mod}
use lib.Dec.{ltb}
use lib.ListN.{length, get_or}
use borrow.Author.Tests.{lt-ltb, ltb-true}
use Rattle.staircase.specs.Lists.{tabulate}
use Rattle.staircase.specs.Design.{Params, Interleavers, word_length, order}
use Rattle.staircase.specs.Word.{row_info, row_word, column_info, column_word}
use Rattle.staircase.specs.Frame.{Site, Word, groups, block_at, y_at, p_at, row_sites, column_sites, row_at, column_at, words}
use Rattle.staircase.specs.Frame.Site.{unsent, in_info, in_red}
use Rattle.staircase.specs.Demand2.{Permutes}
use Rattle.staircase.proofs.Search.{cond_ind}
use Rattle.staircase.proofs.Member.{In, in_left, in_right, in_cases, in_tabulate, in_concat, tabulate_in, concat_in}
use Rattle.staircase.proofs.Stretches.{four, four_length, in_second, in_third, in_fourth}
use Rattle.staircase.proofs.Flip.{buffer, place, Sent, Distinct}
use Rattle.staircase.proofs.System.{Proper, order-positive, place_lt, row-of, column-of}

-- ---- no site twice

distinct_append : (u v : List Site) → Distinct u → Distinct v → ((x : Site) → Sent x → In x u → In x v → ⊥) → Distinct (u ++ v)
distinct_append [] v d e f = e
distinct_append (x ∷ u) v d e f = (λ s i. go s (in_cases x u v i), distinct_append u v d.1 e (λ y s i j. f y s (inr i) j))
  where
    go : Sent x → In x u ⊎ In x v → ⊥
    go s (inl i) = d.0 s i
    go s (inr i) = f x s (inl refl) i

distinct_tabulate : (n : ℕ) (f : ℕ → Site) → ((j k : ℕ) → j < n → k < n → Sent (f j) → f j ≡ f k → j ≡ k) → Distinct (tabulate n f)
unfolding tabulate
distinct_tabulate zero f h = tt
distinct_tabulate (suc n) f h = (
  λ s i. let t = tabulate_in n (λ j. f (suc j)) (f zero) i in let z = h zero (suc t.0) (suc-le-suc zero-le) (suc-le-suc t.1) s t.2 in omega (arith, z),
  distinct_tabulate n (λ j. f (suc j)) (λ j k l m s e. let z = h (suc j) (suc k) (suc-le-suc l) (suc-le-suc m) s e in omega (arith, z)),
)

-- f sends no two of the numbers below n to the same
abbrev Once : ℕ → (ℕ → ℕ) → Type 0
Once n f = (j k : ℕ) → j < n → k < n → f j ≡ f k → j ≡ k

module _ (s : Params) (L : ℕ) where
  abbrev area : ℕ
  area = s.M * s.M

  -- ---- the sites of a block

  pub block_ind : (F : Site → Type 0) (b k : ℕ) → F unsent → ((c : ℕ) → b ≡ suc c → c < L → F (in_info (c * (s.M * s.M) + k))) → F (block_at s L b k)
  block_ind F zero k none each = none
  block_ind F (suc b) k none each = cond_ind F (ltb b L) (in_info (b * area + k)) unsent (λ e. each b refl (ltb-true b L e)) (λ e. none)

  -- a sent site of a block
  pub block-sent : (b k : ℕ) → Sent (block_at s L b k) → (c : ℕ) × (b ≡ suc c) × (c < L) × (block_at s L b k ≡ in_info (c * (s.M * s.M) + k))
  block-sent b k =
      block_ind (λ (x : Site). Sent x → (c : ℕ) × (b ≡ suc c) × (c < L) × (x ≡ in_info (c * area + k))) b k (λ h. absurd h) (λ c e l h. (c, e, l, refl))

  pub block-at : (b k : ℕ) → b < L → block_at s L (b + 1) k ≡ in_info (b * (s.M * s.M) + k)
  block-at b k h = ap (λ (z : ℕ). block_at s L z k) (add-one b) ∙ ap (λ (z : Bool). cond z (in_info (b * (s.M * s.M) + k)) unsent) (lt-ltb b L h)

  block-once : (b k c j : ℕ) → k < area → j < area → Sent (block_at s L b k) → block_at s L b k ≡ block_at s L c j → (b ≡ c) × (k ≡ j)
  block-once b k c j hk hj h e =
      let p = block-sent b k h in
      let q = block-sent c j (subst Sent e h) in
      let z : p.0 * area + k ≡ q.0 * area + j = ap place (sym p.3 ∙ e ∙ q.3) in
      let d : p.0 ≡ q.0 = sym (digits_div p.0 hk) ∙ ap (λ (x : ℕ). x / area) z ∙ digits_div q.0 hj in
      let m : k ≡ j = sym (digits_mod p.0 hk) ∙ ap (λ (x : ℕ). x % area) z ∙ digits_mod q.0 hj in
      (p.1 ∙ ap suc d ∙ sym q.1, m)

  -- ---- no site twice: a word has places α of blocks b and c, ξ of Y and θ of P

  module _ (i b c : ℕ) (α ξ θ : ℕ → ℕ) (other : b ≢ c) (inside : (j : ℕ) → j < s.M → α j < area) (below : (k : ℕ) → k < s.r → ξ k < order s) where
    abbrev A : ℕ → Site
    A j = block_at s L b (α j)

    abbrev B : ℕ → Site
    B j = block_at s L c (α j)

    abbrev X : ℕ → Site
    X k = y_at s i (ξ k)

    abbrev Q : ℕ → Site
    Q k = p_at s i (θ k)

    in_blocks : (x : Site) → Sent x → In x (tabulate s.M A ++ tabulate s.M B) → buffer x ≡ 1
    in_blocks x h m = go (in_cases x (tabulate s.M A) (tabulate s.M B) m)
      where
        info : (b k : ℕ) → x ≡ block_at s L b k → buffer x ≡ 1
        info b k e = ap buffer (e ∙ (block-sent b k (subst Sent e h)).3)

        go : In x (tabulate s.M A) ⊎ In x (tabulate s.M B) → buffer x ≡ 1
        go (inl m) = let u = tabulate_in s.M A x m in info b (α u.0) u.2
        go (inr m) = let u = tabulate_in s.M B x m in info c (α u.0) u.2

    two_blocks : (x : Site) → Sent x → In x (tabulate s.M A) → In x (tabulate s.M B) → ⊥
    two_blocks x h m n =
        let u = tabulate_in s.M A x m in
        let v = tabulate_in s.M B x n in
        other (block-once b (α u.0) c (α v.0) (inside u.0 u.1) (inside v.0 v.1) (subst Sent u.2 h) (sym u.2 ∙ v.2)).0

    before-parity : (x : Site) → Sent x → In x (tabulate s.M A ++ tabulate s.M B ++ tabulate s.r X) → In x (tabulate s.r Q) → ⊥
    before-parity x h m n = go (in_cases x (tabulate s.M A ++ tabulate s.M B) (tabulate s.r X) m)
      where
        v : (k : ℕ) × (k < s.r) × (x ≡ Q k)
        v = tabulate_in s.r Q x n

        go : In x (tabulate s.M A ++ tabulate s.M B) ⊎ In x (tabulate s.r X) → ⊥
        go (inl m) = omega (arith, in_blocks x h m, ap buffer v.2)
        go (inr m) =
            let u = tabulate_in s.r X x m in
            let z : i * (2 * order s) + ξ u.0 ≡ i * (2 * order s) + order s + θ v.0 = ap place (sym u.2 ∙ v.2) in
            omega (arith, z, below u.0 u.1)

    sites_distinct : Once s.M α → Once s.r ξ → Once s.r θ → Distinct (four s.M s.r A B X Q)
    sites_distinct hα hξ hθ =
        distinct_append (tabulate s.M A ++ tabulate s.M B ++ tabulate s.r X) (tabulate s.r Q)
        (distinct_append (tabulate s.M A ++ tabulate s.M B) (tabulate s.r X)
        (distinct_append (tabulate s.M A) (tabulate s.M B) (blocks b) (blocks c) two_blocks)
        (distinct_tabulate s.r X (λ j k hj hk h e.
        let z : i * (2 * order s) + ξ j ≡ i * (2 * order s) + ξ k = ap place e in hξ j k hj hk (omega (arith, z))))
        (λ x h m n. let u = tabulate_in s.r X x n in omega (arith, in_blocks x h m, ap buffer u.2)))
        (distinct_tabulate s.r Q (λ j k hj hk h e.
        let z : i * (2 * order s) + order s + θ j ≡ i * (2 * order s) + order s + θ k = ap place e in hθ j k hj hk (omega (arith, z))))
        before-parity
      where
        blocks : (b : ℕ) → Distinct (tabulate s.M (λ j. block_at s L b (α j)))
        blocks b =
            distinct_tabulate s.M (λ j. block_at s L b (α j))
            (λ j k hj hk h e. hα j k hj hk (block-once b (α j) b (α k) (inside j hj) (inside k hk) h e).1)

  module _ (l : Interleavers) (ok : Proper s) (ps : Permutes (order s) (λ p. get_or l.self p 0)) (pp : Permutes (order s) (λ p. get_or l.parity p 0)) where
    same-digit : (a b c : ℕ) → c < s.M → a * s.M + c ≡ b * s.M + c → a ≡ b
    same-digit a b c h e = sym (digits_div a h) ∙ ap (λ (z : ℕ). z / s.M) e ∙ digits_div b h

    pub row_sites_distinct : (i a : ℕ) → a < s.M → Distinct (row_sites s l L i a)
    unfolding row_sites row_word row_info
    row_sites_distinct i a ha =
        let at : (b : ℕ) → b < s.r → b * s.M + a < order s = λ b m. place_lt s ok b a m ha in
        sites_distinct i (2 * i) (2 * i + 1) (λ j. a * s.M + j) (λ b. get_or l.self (b * s.M + a) 0) (λ b. get_or l.parity (b * s.M + a) 0)
        (λ e. omega (arith, e)) (λ j m. digits_lt ha m) (λ b m. ps.below (b * s.M + a) (at b m))
        (λ j k hj hk e. omega (arith, e))
        (λ j k hj hk e. same-digit j k a ha (ps.once (j * s.M + a) (k * s.M + a) (at j hj) (at k hk) e))
        (λ j k hj hk e. same-digit j k a ha (pp.once (j * s.M + a) (k * s.M + a) (at j hj) (at k hk) e))

    pub column_sites_distinct : (i a : ℕ) → a < s.M → Distinct (column_sites s L i a)
    unfolding column_sites column_word column_info
    column_sites_distinct i a ha =
        let once : (j k : ℕ) → j * s.M + a ≡ k * s.M + a → j ≡ k = λ j k e. same-digit j k a ha e in
        sites_distinct i (2 * i + 1) (2 * i + 2) (λ j. j * s.M + a) (λ b. b * s.M + a) (λ b. b * s.M + a)
        (λ e. omega (arith, e)) (λ j m. digits_lt m ha) (λ b m. place_lt s ok b a m ha)
        (λ j k hj hk e. once j k e) (λ j k hj hk e. once j k e) (λ j k hj hk e. once j k e)

    pub row_sites-length : (i a : ℕ) → length (row_sites s l L i a) ≡ word_length s
    unfolding row_sites row_word row_info
    row_sites-length i a =
        four_length s.M s.r (λ j. block_at s L (2 * i) (a * s.M + j)) (λ j. block_at s L (2 * i + 1) (a * s.M + j))
        (λ b. y_at s i (get_or l.self (b * s.M + a) 0)) (λ b. p_at s i (get_or l.parity (b * s.M + a) 0))

    pub column_sites-length : (i a : ℕ) → length (column_sites s L i a) ≡ word_length s
    unfolding column_sites column_word column_info
    column_sites-length i a =
        four_length s.M s.r (λ j. block_at s L (2 * i + 1) (j * s.M + a)) (λ j. block_at s L (2 * i + 2) (j * s.M + a))
        (λ b. y_at s i (b * s.M + a)) (λ b. p_at s i (b * s.M + a))

    -- ---- the words, one by one

    pub row_among-words : (i a : ℕ) → i < groups L → a < s.M → In (row_at s l L i a) (words s l L)
    unfolding words
    row_among-words i a hi ha =
        in_concat (row_at s l L i a) (groups L) (λ k. tabulate s.M (row_at s l L k) ++ tabulate s.M (column_at s L k)) i hi
        (in_left (row_at s l L i a) (tabulate s.M (row_at s l L i)) (tabulate s.M (column_at s L i)) (in_tabulate s.M (row_at s l L i) a ha))

    pub column-among-words : (i a : ℕ) → i < groups L → a < s.M → In (column_at s L i a) (words s l L)
    unfolding words
    column-among-words i a hi ha =
        in_concat (column_at s L i a) (groups L) (λ k. tabulate s.M (row_at s l L k) ++ tabulate s.M (column_at s L k)) i hi
        (in_right (column_at s L i a) (tabulate s.M (row_at s l L i)) (tabulate s.M (column_at s L i)) (in_tabulate s.M (column_at s L i) a ha))

    -- a fact of all row words and all column words is one of all words
    pub each_word : (F : Word → Type 0) → ((i a : ℕ) → i < groups L → a < s.M → F (row_at s l L i a))
        → ((i a : ℕ) → i < groups L → a < s.M → F (column_at s L i a)) → (w : Word) → In w (words s l L) → F w
    unfolding words
    each_word F rows cols w h =
        let t = concat_in (groups L) (λ k. tabulate s.M (row_at s l L k) ++ tabulate s.M (column_at s L k)) w h in
        go t.0 t.1 (in_cases w (tabulate s.M (row_at s l L t.0)) (tabulate s.M (column_at s L t.0)) t.2)
      where
        go : (i : ℕ) → i < groups L → In w (tabulate s.M (row_at s l L i)) ⊎ In w (tabulate s.M (column_at s L i)) → F w
        go i hi (inl p) = let u = tabulate_in s.M (row_at s l L i) w p in subst F (sym u.2) (rows i u.0 hi u.1)
        go i hi (inr p) = let u = tabulate_in s.M (column_at s L i) w p in subst F (sym u.2) (cols i u.0 hi u.1)

    -- ---- every byte is in a word

    odd_in : (i a j : ℕ) → j < s.M → In (block_at s L (2 * i + 1) (a * s.M + j)) (row_sites s l L i a)
    unfolding row_sites row_word row_info
    odd_in i a =
        in_second s.M s.r (λ j. block_at s L (2 * i) (a * s.M + j)) (λ j. block_at s L (2 * i + 1) (a * s.M + j))
        (λ b. y_at s i (get_or l.self (b * s.M + a) 0)) (λ b. p_at s i (get_or l.parity (b * s.M + a) 0))

    even_in : (i a j : ℕ) → j < s.M → In (block_at s L (2 * i + 2) (j * s.M + a)) (column_sites s L i a)
    unfolding column_sites column_word column_info
    even_in i a =
        in_second s.M s.r (λ j. block_at s L (2 * i + 1) (j * s.M + a)) (λ j. block_at s L (2 * i + 2) (j * s.M + a))
        (λ b. y_at s i (b * s.M + a)) (λ b. p_at s i (b * s.M + a))

    self_in : (i a b : ℕ) → b < s.r → In (y_at s i (b * s.M + a)) (column_sites s L i a)
    unfolding column_sites column_word column_info
    self_in i a =
        in_third s.M s.r (λ j. block_at s L (2 * i + 1) (j * s.M + a)) (λ j. block_at s L (2 * i + 2) (j * s.M + a))
        (λ b. y_at s i (b * s.M + a)) (λ b. p_at s i (b * s.M + a))

    parity_in : (i a b : ℕ) → b < s.r → In (p_at s i (b * s.M + a)) (column_sites s L i a)
    unfolding column_sites column_word column_info
    parity_in i a =
        in_fourth s.M s.r (λ j. block_at s L (2 * i + 1) (j * s.M + a)) (λ j. block_at s L (2 * i + 2) (j * s.M + a))
        (λ b. y_at s i (b * s.M + a)) (λ b. p_at s i (b * s.M + a))

    pub info_covered : (k : ℕ) → k < L * (s.M * s.M) → (w : Word) × In w (words s l L) × In (in_info k) w.sites
    info_covered k h = go (b % 2) refl
      where
        area-positive : 0 < area
        area-positive = mul-pos ok.mpos ok.mpos

        b : ℕ
        b = k / area

        a : ℕ
        a = k % area / s.M

        j : ℕ
        j = k % area % s.M

        hb : b < L
        hb = (div-lt_iff_lt-mul area-positive).1 h

        ha : a < s.M
        ha = (div-lt_iff_lt-mul ok.mpos).1 (mod-lt k area-positive)

        hj : j < s.M
        hj = mod-lt (k % area) ok.mpos

        whole : b * area + (a * s.M + j) ≡ k
        whole = ap (λ (z : ℕ). b * area + z) (div-add-mod' (k % area) s.M) ∙ div-add-mod' k area

        go : (z : ℕ) → b % 2 ≡ z → (w : Word) × In w (words s l L) × In (in_info k) w.sites
        go zero e =
            let i : ℕ = b / 2 in
            let d : 2 * i ≡ b = omega (arith, e) in
            let site : block_at s L (2 * i + 1) (a * s.M + j) ≡ in_info k =
            ap (λ (z : ℕ). block_at s L (z + 1) (a * s.M + j)) d ∙ block-at b (a * s.M + j) hb ∙ ap in_info whole in
            (row_at s l L i a, row_among-words i a (omega (arith, d, hb)) ha, subst (λ (z : Site). In z (row_sites s l L i a)) site (odd_in i a j hj))
        go (suc z) e =
            let i : ℕ = b / 2 in
            let d : 2 * i + 2 ≡ b + 1 = omega (arith, e) in
            let site : block_at s L (2 * i + 2) (a * s.M + j) ≡ in_info k =
            ap (λ (z : ℕ). block_at s L z (a * s.M + j)) d ∙ block-at b (a * s.M + j) hb ∙ ap in_info whole in
            (column_at s L i j, column-among-words i j (omega (arith, d, hb)) hj, subst (λ (z : Site). In z (column_sites s L i j)) site (even_in i j a ha))

    -- a fact of every place of the redundancy, from the places of Y and of P in each group
    pub red_ind : (F : ℕ → Type 0) → ((i q : ℕ) → i < groups L → q < order s → F (i * (2 * order s) + q))
        → ((i q : ℕ) → i < groups L → q < order s → F (i * (2 * order s) + order s + q)) → (k : ℕ) → k < groups L * (2 * order s) → F k
    red_ind F own parity k h = go (dec_lt (k % (2 * order s)) (order s))
      where
        positive : 0 < 2 * order s
        positive = omega (arith, order-positive s ok)

        hi : k / (2 * order s) < groups L
        hi = (div-lt_iff_lt-mul positive).1 h

        whole : k / (2 * order s) * (2 * order s) + k % (2 * order s) ≡ k
        whole = div-add-mod' k (2 * order s)

        go : Dec (k % (2 * order s) < order s) → F k
        go (yes m) = subst F whole (own (k / (2 * order s)) (k % (2 * order s)) hi m)
        go (no m) =
            let q : ℕ = k % (2 * order s) - order s in
            let e : k / (2 * order s) * (2 * order s) + order s + q ≡ k = omega (arith, whole) in
            subst F e (parity (k / (2 * order s)) q hi (omega (arith, mod-lt k positive)))

    pub red_covered : (k : ℕ) → k < groups L * (2 * order s) → (w : Word) × In w (words s l L) × In (in_red k) w.sites
    red_covered =
        red_ind (λ (k : ℕ). (w : Word) × In w (words s l L) × In (in_red k) w.sites)
        (λ i q hi hq. column i q hi (subst (λ (z : ℕ). In (y_at s i z) (column_sites s L i (q % s.M))) (div-add-mod' q s.M) (self_in i (q % s.M) (q / s.M) (row-of s ok q hq))))
        (λ i q hi hq. column i q hi (subst (λ (z : ℕ). In (p_at s i z) (column_sites s L i (q % s.M))) (div-add-mod' q s.M) (parity_in i (q % s.M) (q / s.M) (row-of s ok q hq))))
      where
        column : {x : Site} (i q : ℕ) → i < groups L → In x (column_sites s L i (q % s.M)) → (w : Word) × In w (words s l L) × In x w.sites
        column i q hi m = (column_at s L i (q % s.M), column-among-words i (q % s.M) hi (column-of s ok q), m)
