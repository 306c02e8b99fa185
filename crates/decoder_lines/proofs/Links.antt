-- The table of links.
--   partner-first, partner-second   where the lists send a place
--   HalfFilled, half_next, half_all   the loop that fills it, its step and its end
--   lists-in, linked       a table that is filled by the rule
--   links_long, link_row, link_column   its length and its entries
--   link_below             an entry
-- Assumes nothing.
use mathlib.Core.Path.{◌≡◌, sym, ap, ap₂, ◌∙◌, subst}
use mathlib.Core.Bool.{Bool, true, false, cond}
use mathlib.Core.Logic.{◌≢◌}
use mathlib.Core.List.{List}
use Prim.Native.Nat.{ℕ, ◌+◌, ◌-◌, ◌*◌, ◌<◌}
use native.Mathlib.Omega.{arith}
use native.Mathlib.Decide.{dec_lt, ℕ_discrete}
use lib.ListN.{length, get_or, set, length-set}
use lib.Seq.{get_or-set_same, get_or-set_other, ext_get_or}
use borrow.Author.Tests.{lt-ltb, le-ltb}
use Rattle.staircase.specs.Lists.{tabulate}
use Rattle.staircase.specs.Design.{Params, Interleavers, order}
use Rattle.staircase.specs.Rules.{entries}
use Rattle.staircase.specs.Demand2.{Permutes}
use Rattle.staircase.specs.Lines.{partner, along}
use Rattle.staircase.proofs.Tabulate.{tabulate-length, tabulate-at, tabulate-same}
use Rattle.staircase.proofs.Lines.{partner-below, partner_back}
use Rattle.design.specs.declared.Design.{Design}
use Rattle.design.specs.Sizes.{params_of, order_of, lists_of}
use Rattle.rules.specs.Received.{ListsFit}
use Rattle.decoder_lines.specs.Links.{link_of, lists_in, LinksFit}

-- the entries of places below q, and those that name such places
abbrev pub HalfFilled : Params → Interleavers → List ℕ → ℕ → Type 0
HalfFilled s l links q =
    ((j : ℕ) → j < q → get_or links j 0 ≡ partner s l true j)
    × ((j : ℕ) → j < 2 * order s → partner s l false j < q → get_or links (2 * order s + j) 0 ≡ partner s l false j)

module _ (s : Params) (l : Interleavers) where
  pub partner-first : (forth : Bool) (q : ℕ) → q < order s → partner s l forth q ≡ along l.self (order s) forth q
  unfolding partner
  partner-first forth q h =
      ap (λ (z : Bool). cond z (along l.self (order s) forth q) (order s + along l.parity (order s) forth (q - order s))) (lt-ltb q (order s) h)

  pub partner-second : (forth : Bool) (q p : ℕ) → q ≡ order s + p → partner s l forth q ≡ order s + along l.parity (order s) forth p
  unfolding partner
  partner-second forth q p e =
      let r : q - order s ≡ p = omega (arith, e) in
      ap₂ (λ (z : Bool) (y : ℕ). cond z (along l.self (order s) forth q) (order s + along l.parity (order s) forth y)) (le-ltb q (order s) (omega (arith, e))) r

  link_forth : (q : ℕ) → q < 2 * order s → link_of s l q ≡ partner s l true q
  unfolding link_of
  link_forth q h = ap (λ (z : Bool). cond z (partner s l true q) (partner s l false (q - 2 * order s))) (lt-ltb q (2 * order s) h)

  link_back : (q : ℕ) → link_of s l (2 * order s + q) ≡ partner s l false q
  unfolding link_of
  link_back q =
      let r : 2 * order s + q - 2 * order s ≡ q = omega arith in
      ap₂ (λ (z : Bool) (y : ℕ). cond z (partner s l true (2 * order s + q)) (partner s l false y)) (le-ltb (2 * order s + q) (2 * order s) (omega arith)) r

  module _ (ps : Permutes (order s) (λ p. get_or l.self p 0)) (pp : Permutes (order s) (λ p. get_or l.parity p 0)) where
    abbrev half : ℕ
    half = 2 * order s

    abbrev forth : ℕ → ℕ
    forth = partner s l true

    abbrev back : ℕ → ℕ
    back = partner s l false

    -- entry q and the entry that it names are stored
    pub half_next : (links : List ℕ) (q f : ℕ) → q < 2 * order s → length links ≡ 4 * order s → f ≡ partner s l true q → HalfFilled s l links q
        → HalfFilled s l (set (set links q f) (2 * order s + f) q) (q + 1)
    half_next links q f h long e H = (first, second)
      where
        hf : f < half
        hf = subst (λ (z : ℕ). z < half) (sym e) (partner-below s l ps pp true q h)

        long' : length (set links q f) ≡ 4 * order s
        long' = length-set links q f ∙ long

        first : (j : ℕ) → j < q + 1 → get_or (set (set links q f) (half + f) q) j 0 ≡ forth j
        first j hj = get_or-set_other (set links q f) (half + f) j q 0 (λ z. omega (arith, z)) ∙ go (ℕ_discrete j q)
          where
            go : Dec (j ≡ q) → get_or (set links q f) j 0 ≡ forth j
            go (yes z) = ap (λ (x : ℕ). get_or (set links q f) x 0) z ∙ get_or-set_same links q f 0 (omega (arith, long)) ∙ e ∙ ap forth (sym z)
            go (no z) = get_or-set_other links q j f 0 z ∙ H.0 j (omega arith)

        second : (j : ℕ) → j < half → back j < q + 1 → get_or (set (set links q f) (half + f) q) (half + j) 0 ≡ back j
        second j hj hb = go (ℕ_discrete j f)
          where
            go : Dec (j ≡ f) → get_or (set (set links q f) (half + f) q) (half + j) 0 ≡ back j
            go (yes z) =
                ap (λ (x : ℕ). get_or (set (set links q f) (half + f) q) (half + x) 0) z ∙ get_or-set_same (set links q f) (half + f) q 0 (omega (arith, long', hf))
                ∙ sym (partner_back s l ps pp true q h) ∙ ap back (sym e ∙ sym z)
            go (no z) =
                let other : back j ≢ q = λ y. z (sym (partner_back s l ps pp false j hj) ∙ ap forth y ∙ sym e) in
                get_or-set_other (set links q f) (half + f) (half + j) q 0 (λ y. z (omega (arith, y)))
                ∙ get_or-set_other links q (half + j) f 0 (λ y. omega (arith, y)) ∙ H.1 j hj (omega (arith, other))

    pub half_all : (links : List ℕ) → length links ≡ 4 * order s → HalfFilled s l links (2 * order s) → links ≡ tabulate (4 * order s) (link_of s l)
    half_all links long H =
        ext_get_or 0 links (tabulate (4 * order s) (link_of s l)) (long ∙ sym (tabulate-length (4 * order s) (link_of s l)))
        (λ k h. go k (omega (arith, long, h)) (dec_lt k half) ∙ sym (tabulate-at (4 * order s) (link_of s l) 0 k (omega (arith, long, h))))
      where
        go : (k : ℕ) → k < 4 * order s → Dec (k < half) → get_or links k 0 ≡ link_of s l k
        go k h (yes y) = H.0 k y ∙ sym (link_forth k y)
        go k h (no y) =
            let e : k ≡ half + (k - half) = omega arith in
            let j : k - half < half = omega arith in
            ap (λ (x : ℕ). get_or links x 0) e ∙ H.1 (k - half) j (partner-below s l ps pp false (k - half) j) ∙ sym (link_back (k - half)) ∙ ap (link_of s l) (sym e)

-- ---- filled by the rule

module _ (d : Design) (own parity : List ℕ) {links : List ℕ} (e : links ≡ tabulate (4 * order_of d) (link_of (params_of d) (lists_of d own parity))) where
  abbrev n : ℕ
  n = order_of d

  abbrev lists : Interleavers
  lists = lists_of d own parity

  at : (q : ℕ) → q < 4 * n → get_or links q 0 ≡ link_of (params_of d) lists q
  at q h = ap (λ (l : List ℕ). get_or l q 0) e ∙ tabulate-at (4 * n) (link_of (params_of d) lists) 0 q h

  entry : (b : List ℕ) (p : ℕ) → p < n → get_or (entries n b) p 0 ≡ get_or b (2 * p) 0 + 256 * get_or b (2 * p + 1) 0
  unfolding entries
  entry b p h = tabulate-at n (λ p. get_or b (2 * p) 0 + 256 * get_or b (2 * p + 1) 0) 0 p h

  self_in : tabulate n (λ p. get_or links p 0) ≡ entries n own
  unfolding entries
  self_in =
      tabulate-same n (λ p. get_or links p 0) (λ p. get_or own (2 * p) 0 + 256 * get_or own (2 * p + 1) 0)
      (λ p h. at p (omega arith) ∙ link_forth (params_of d) lists p (omega arith) ∙ partner-first (params_of d) lists true p h ∙ entry own p h)

  parity_in : tabulate n (λ p. get_or links (n + p) 0 - n) ≡ entries n parity
  unfolding entries
  parity_in =
      tabulate-same n (λ p. get_or links (n + p) 0 - n) (λ p. get_or parity (2 * p) 0 + 256 * get_or parity (2 * p + 1) 0)
      (λ p h. let y : n + get_or (entries n parity) p 0 - n ≡ get_or (entries n parity) p 0 = omega arith in
      ap (λ (z : ℕ). z - n) (at (n + p) (omega arith) ∙ link_forth (params_of d) lists (n + p) (omega arith) ∙ partner-second (params_of d) lists true (n + p) p (omega arith)) ∙ y ∙ entry parity p h)

  pub lists-in : lists_in d links ≡ lists_of d own parity
  unfolding lists_in
  lists-in = ap₂ (λ (x y : List ℕ). record { self = x; parity = y }) self_in parity_in

  pub linked : ListsFit d own parity → LinksFit d links
  linked F =
      record {
        entries = subst (λ (l : Interleavers). links ≡ tabulate (4 * n) (link_of (params_of d) l)) (sym lists-in) e;
        self = subst (λ (l : Interleavers). Permutes n (λ p. get_or l.self p 0)) (sym lists-in) F.own_permutes;
        parity = subst (λ (l : Interleavers). Permutes n (λ p. get_or l.parity p 0)) (sym lists-in) F.parity_permutes;
      }

-- ---- its entries

module _ {d : Design} {links : List ℕ} (T : LinksFit d links) where
  pub links_long : length links ≡ 4 * order_of d
  links_long = ap length T.entries ∙ tabulate-length (4 * order_of d) (link_of (params_of d) (lists_in d links))

  by_rule : (q : ℕ) → q < 4 * order_of d → get_or links q 0 ≡ link_of (params_of d) (lists_in d links) q
  by_rule q h = ap (λ (l : List ℕ). get_or l q 0) T.entries ∙ tabulate-at (4 * order_of d) (link_of (params_of d) (lists_in d links)) 0 q h

  pub link_row : (q : ℕ) → q < 2 * order_of d → get_or links (0 + q) 0 ≡ partner (params_of d) (lists_in d links) true q
  link_row q h =
      let e : 0 + q ≡ q = omega arith in
      ap (λ (n : ℕ). get_or links n 0) e ∙ by_rule q (omega arith) ∙ link_forth (params_of d) (lists_in d links) q h

  pub link_column : (q : ℕ) → q < 2 * order_of d → get_or links (2 * order_of d + q) 0 ≡ partner (params_of d) (lists_in d links) false q
  link_column q h = by_rule (2 * order_of d + q) (omega arith) ∙ link_back (params_of d) (lists_in d links) q

  pub link_below : (q : ℕ) → q < 2 * order_of d → partner (params_of d) (lists_in d links) true q < 2 * order_of d
  link_below q h = partner-below (params_of d) (lists_in d links) T.self T.parity true q h
