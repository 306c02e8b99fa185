-- A loop that fills a list: from the front, by entries or by stretches, in any order, or so that something holds of each entry.
--   front_length, front-all       a list with a new front: its length, and where nothing of the old is left
--   front-part, front_last        the part behind the front was lent and came back; and it was the last
--   front-sets                    it was written by stores
--   filled                        the first i entries by the rule, the rest as it was
--   filled_none, filled_more, filled-all, filled-length   the loop's start, its step, its end
--   filled_next                   the entry that comes next is the old one
--   filled-stretch                a step that fills the next stretch
--   stretches                     the first i stretches of one width by the rule, the rest as it was
--   stretches_none, stretches_more, stretches_sets, stretches_all   the loop's start, its step by a part or by stores, its end
--   Placed                        the entries that come before e in some order are by the rule
--   placed_next, placed_all       a step that stores the entry that comes next, and the end
--   each_more, each_part          what holds of each entry filled holds after one more, and after a part that was lent
--   rest_more                     the entries that are not filled yet are as they were
-- Assumes nothing.
use mathlib.Core.Path.{◌≡◌, refl, sym, ap, ◌∙◌, subst}
use mathlib.Core.Logic.{◌≢◌}
use mathlib.Core.List.{List, [], ◌∷◌, ◌++◌, append-nil, append_assoc}
use Prim.Native.Nat.{ℕ, ◌+◌, ◌-◌, ◌*◌, ◌≤◌, ◌<◌}
use native.Mathlib.Nat.{zero-mul, suc-mul, add-sub_cancel_left}
use native.Mathlib.Numerals.{add-one}
use native.Mathlib.Decide.{dec_lt}
use native.Mathlib.Omega.{arith}
use lib.ListN.{length, get_or, set, take, drop, length-append, length-drop, drop_of_length-le, get_or-append}
use lib.Seq.{length-take-le, take_at, drop_at, drop-drop, sets, sets-eq, get_or-take, get_or-drop, get_or-append-add, get_or-set_other, ext_get_or}
use Rattle.bch.proofs.Store.{set_each}
use Rattle.staircase.specs.Lists.{tabulate, concat}
use Rattle.staircase.proofs.Tabulate.{tabulate-length, tabulate-at, tabulate-append, tabulate_last, concat_last, concat-length}

-- ---- a new front: the first a entries are g, the rest as it was

module _ (g l : List ℕ) (a : ℕ) where
  pub front_length : length g ≡ a → a ≤ length l → length (g ++ drop a l) ≡ length l
  front_length e h = omega (arith, length-append g (drop a l), length-drop a l)

  pub front-all : length l ≤ a → g ++ drop a l ≡ g
  front-all h = ap (λ (t : List ℕ). g ++ t) (drop_of_length-le l {i = a} h) ∙ append-nil g

  module _ (ys : List ℕ) (e : length g ≡ a) where
    -- the k entries behind it were lent and came back as ys
    pub front-part : (k : ℕ) → take a (g ++ drop a l) ++ (ys ++ drop k (drop a (g ++ drop a l))) ≡ g ++ ys ++ drop (a + k) l
    front-part k =
        rw (take_at g (drop a l) a e, drop_at g (drop a l) a e, drop-drop k a l) (sym (append_assoc g ys (drop (a + k) l)))

    -- they were stored there
    pub front-sets : a + length ys ≤ length l → sets (g ++ drop a l) a ys ≡ g ++ ys ++ drop (a + length ys) l
    front-sets h =
        let d : List ℕ = g ++ drop a l in
        sets-eq ys d a (omega (arith, length-append g (drop a l), length-drop a l)) ∙ append_assoc (take a d) ys (drop (a + length ys) d)
        ∙ rw (← drop-drop (length ys) a d) (front-part (length ys))

-- the last part: `rest` is no longer than the part
pub front_last : (g rest ys : List ℕ) (a k : ℕ) → length g ≡ a → length rest ≤ k → take a (g ++ rest) ++ (ys ++ drop k (drop a (g ++ rest))) ≡ g ++ ys
front_last g rest ys a k e h = rw (take_at g rest a e, drop_at g rest a e, drop_of_length-le rest {i = k} h, append-nil ys)

-- ---- entry by entry

unfoldable pub filled : (ℕ → ℕ) → List ℕ → ℕ → List ℕ
filled f l i = tabulate i f ++ drop i l

pub filled_none : (f : ℕ → ℕ) (l : List ℕ) → l ≡ filled f l 0
unfolding filled tabulate
filled_none f l = refl

pub filled_more : (f : ℕ → ℕ) (l : List ℕ) (i : ℕ) → i < length l → set (filled f l i) i (f i) ≡ filled f l (i + 1)
unfolding filled
filled_more f l i h =
    front-sets (tabulate i f) l i (f i ∷ []) (tabulate-length i f) (omega arith)
    ∙ ap (λ (t : List ℕ). t ++ drop (i + 1) l) (sym (tabulate_last i f) ∙ ap (λ (k : ℕ). tabulate k f) (sym (add-one i)))

pub filled-all : (f : ℕ → ℕ) (l : List ℕ) (i n : ℕ) → i ≡ n → length l ≡ n → filled f l i ≡ tabulate n f
unfolding filled
filled-all f l i n e d = front-all (tabulate i f) l i (omega arith) ∙ ap (λ (k : ℕ). tabulate k f) e

pub filled-length : (f : ℕ → ℕ) (l : List ℕ) (i : ℕ) → i ≤ length l → length (filled f l i) ≡ length l
unfolding filled
filled-length f l i h = front_length (tabulate i f) l i (tabulate-length i f) h

pub filled_next : (f : ℕ → ℕ) (l : List ℕ) (i : ℕ) → get_or (filled f l i) i 0 ≡ get_or l i 0
unfolding filled
filled_next f l i =
    let e : i ≡ length (tabulate i f) + 0 = omega (arith, tabulate-length i f) in
    ap (λ (z : ℕ). get_or (tabulate i f ++ drop i l) z 0) e ∙ get_or-append-add (tabulate i f) (drop i l) 0 0 ∙ get_or-drop i l 0 0
    ∙ ap (λ (z : ℕ). get_or l z 0) (let q : i + 0 ≡ i = omega arith in q)

-- the stretch of w entries from `from` on was lent and came back as ys
pub filled-stretch : (f : ℕ → ℕ) (l xs ys : List ℕ) (from w : ℕ) → xs ≡ filled f l from → ys ≡ tabulate w (λ k. f (from + k))
    → take from xs ++ (ys ++ drop (from + w - from) (drop from xs)) ≡ filled f l (from + w)
unfolding filled
filled-stretch f l xs ys from w e d =
    rw (e, add-sub_cancel_left from w, tabulate-append from w f, ← d) (front-part (tabulate from f) l from ys (tabulate-length from f) w)

-- ---- by stretches

-- the first i stretches of w entries by the rule, the rest as it was
unfoldable pub stretches : (ℕ → List ℕ) → List ℕ → ℕ → ℕ → List ℕ
stretches f l w i = concat i f ++ drop (i * w) l

module _ (f : ℕ → List ℕ) (l : List ℕ) (w : ℕ) where
  pub stretches_none : l ≡ stretches f l w 0
  unfolding stretches concat
  stretches_none = sym (ap (λ (k : ℕ). drop k l) (zero-mul w))

  pub stretches_all : (i n : ℕ) → i ≡ n → length l ≡ n * w → stretches f l w i ≡ concat n f
  unfolding stretches
  stretches_all i n e long = rw e (front-all (concat n f) l (n * w) (omega arith))

  -- stretch i was lent and came back as ys
  pub stretches_more : ((k : ℕ) → length (f k) ≡ w) → (xs ys : List ℕ) (i : ℕ) → xs ≡ stretches f l w i → ys ≡ f i
      → take (i * w) xs ++ (ys ++ drop (i * w + w - i * w) (drop (i * w) xs)) ≡ stretches f l w (i + 1)
  unfolding stretches
  stretches_more wide xs ys i e d =
      rw (e, d, add-sub_cancel_left (i * w) w, add-one i, concat_last i f, suc-mul i w)
      (front-part (concat i f) l (i * w) (f i) (concat-length i w f wide) w)

  -- stretch i was written by stores
  pub stretches_sets : ((k : ℕ) → length (f k) ≡ w) → (i : ℕ) → i * w + w ≤ length l → sets (stretches f l w i) (i * w) (f i) ≡ stretches f l w (i + 1)
  unfolding stretches
  stretches_sets wide i h =
      rw (add-one i, concat_last i f, suc-mul i w)
      (front-sets (concat i f) l (i * w) (f i) (concat-length i w f wide) (omega (arith, wide i)) ∙ ap (λ (k : ℕ). concat i f ++ f i ++ drop (i * w + k) l) (wide i))

-- ---- in any order: entry q is the one that comes at turn `turn q`

abbrev pub Placed : ℕ → (ℕ → ℕ) → (ℕ → ℕ) → List ℕ → ℕ → Type 0
Placed n f turn xs e = (q : ℕ) → q < n → turn q < e → get_or xs q 0 ≡ f q

pub placed_next : (n : ℕ) (f turn : ℕ → ℕ) (xs : List ℕ) (e q v : ℕ) → q < length xs → ((j : ℕ) → j < n → turn j ≡ e → j ≡ q) → Placed n f turn xs e → v ≡ f q
    → Placed n f turn (set xs q v) (e + 1)
placed_next n f turn xs e q v h only before here =
    set_each (λ j z. j < n → turn j < e + 1 → z ≡ f j) xs q v h (λ l t. here)
    (λ j d l t. before j l (let later : turn j ≢ e = λ i. d (only j l i) in omega arith))

pub placed_all : (n : ℕ) (f turn : ℕ → ℕ) (xs : List ℕ) (e : ℕ) → length xs ≡ n → ((q : ℕ) → q < n → turn q < e) → Placed n f turn xs e → xs ≡ tabulate n f
placed_all n f turn xs e long done placed =
    ext_get_or 0 xs (tabulate n f) (long ∙ sym (tabulate-length n f))
    (λ q h. let l : q < n = omega (arith, long) in placed q l (done q l) ∙ sym (tabulate-at n f 0 q l))

-- ---- what holds of each entry

pub each_more : (P : ℕ → ℕ → Type 0) (l : List ℕ) (i v : ℕ) → i < length l → ((q : ℕ) → q < i → P q (get_or l q 0)) → P i v
    → (q : ℕ) → q < i + 1 → P q (get_or (set l i v) q 0)
each_more P l i v h before here = set_each (λ (q z : ℕ). q < i + 1 → P q z) l i v h (λ k. here) (λ q d k. before q (omega arith))

-- the part of k entries from a on came back as ys
pub each_part : (P : ℕ → ℕ → Type 0) (l ys : List ℕ) (a k : ℕ) → a ≤ length l → length ys ≡ k
    → ((q : ℕ) → q < a → P q (get_or l q 0)) → ((s : ℕ) → s < k → P (a + s) (get_or ys s 0))
    → (q : ℕ) → q < a + k → P q (get_or (take a l ++ (ys ++ drop k (drop a l))) q 0)
each_part P l ys a k h e before here q m = go (dec_lt q a)
  where
    front : length (take a l) ≡ a
    front = length-take-le a l h

    rest : List ℕ
    rest = ys ++ drop k (drop a l)

    go : Dec (q < a) → P q (get_or (take a l ++ rest) q 0)
    go (yes i) = subst (P q) (sym (get_or-append (take a l) rest 0 q (omega (arith, front)) ∙ get_or-take a l q 0 i)) (before q i)
    go (no i) =
        let s : ℕ = q - a in
        let j : a + s ≡ q = omega arith in
        let f : length (take a l) + s ≡ q = omega (arith, front) in
        let at : get_or ys s 0 ≡ get_or (take a l ++ rest) q 0 =
        sym (get_or-append ys (drop k (drop a l)) 0 s (omega arith)) ∙ sym (get_or-append-add (take a l) rest s 0)
        ∙ ap (λ (p : ℕ). get_or (take a l ++ rest) p 0) f in
        subst (P q) at (subst (λ (p : ℕ). P p (get_or ys s 0)) j (here s (omega arith)))

pub rest_more : (l a : List ℕ) (i v : ℕ) → ((q : ℕ) → i ≤ q → get_or l q 0 ≡ get_or a q 0) → (q : ℕ) → i + 1 ≤ q → get_or (set l i v) q 0 ≡ get_or a q 0
rest_more l a i v h q k = get_or-set_other l i q v 0 (λ e. omega arith) ∙ h q (omega arith)
