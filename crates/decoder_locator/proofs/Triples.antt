-- Three positions whose entries have a sum, one of them tried out.
--   NotBefore              no pair has what an earlier entry leaves of the sum
--   not-before-more, not_three   one position more, and all of them
--   with_first, with_middle, with_last   the position tried, put where it belongs among the two that are found
--   with_one               what is found where the position tried is one of each three
-- Assumes nothing.
use mathlib.Core.Path.{◌≡◌, sym, ap, ◌∙◌, subst}
use mathlib.Core.Logic.{◌≢◌, ◌⊎◌, inl, inr}
use mathlib.Core.List.{List}
use Prim.Native.Nat.{ℕ, ◌+◌, ◌≤◌, ◌<◌}
use native.Mathlib.Decide.{ℕ_discrete}
use native.Mathlib.Omega.{arith}
use lib.ListN.{length, get_or}
use Rattle.std.specs.Prelude.{Option, None, Some}
use Rattle.bch.specs.Polynomial.{◌⊕◌}
use Rattle.bch.proofs.Sum.{⊕·simp, ⊕_comm, ⊕_assoc, ⊕-left_comm, ⊕-self, ⊕-zero-right, ⊕-self-left}
use Rattle.decoder_locator.specs.Steps.{NotOne, NotTwo, NotThree, PairIs, TripleIs, TripleWith, OneOfThree}

brought : (a b x : ℕ) → a ⊕ b ≡ x → b ≡ x ⊕ a
brought a b x e = sym (⊕-self-left a b) ∙ ap (λ (z : ℕ). a ⊕ z) e ∙ ⊕_comm a x

back : (a b x : ℕ) → b ≡ x ⊕ a → a ⊕ b ≡ x
back a b x e = ap (λ (z : ℕ). a ⊕ z) (e ∙ ⊕_comm x a) ∙ ⊕-self-left a x

cancelled : (a b x : ℕ) → a ⊕ b ≡ x ⊕ a → b ≡ x
cancelled a b x e = brought a b (x ⊕ a) e ∙ ⊕_assoc x a a ∙ ap (λ (z : ℕ). x ⊕ z) (⊕-self a) ∙ ⊕-zero-right x

-- no pair has what the entry at i leaves of the sum, for i below j
abbrev pub NotBefore : List ℕ → ℕ → ℕ → Type 0
NotBefore table x j = (i : ℕ) → i < j → NotTwo table (x ⊕ get_or table i 0)

pub not-before-more : (table : List ℕ) (x j : ℕ) → NotBefore table x j → NotTwo table (x ⊕ get_or table j 0) → NotBefore table x (j + 1)
not-before-more table x j h d i l = go (ℕ_discrete i j)
  where
    go : Dec (i ≡ j) → NotTwo table (x ⊕ get_or table i 0)
    go (yes e) = subst (λ (z : ℕ). NotTwo table (x ⊕ get_or table z 0)) (sym e) d
    go (no n) = h i (omega arith)

pub not_three : (table : List ℕ) (x j : ℕ) → length table ≤ j → NotBefore table x j → NotThree table x
not_three table x j end h i p q k l b e = h i (omega arith) p q l b (brought (get_or table i 0) (get_or table p 0 ⊕ get_or table q 0) x e)

module _ (table : List ℕ) (x j p q : ℕ) (one : NotOne table x) (l : j < length table) (h : PairIs table (x ⊕ get_or table j 0) (Some (p, q))) where
  abbrev T : ℕ → ℕ
  T k = get_or table k 0

  at : (k : ℕ) → j ≡ k → T p ⊕ T q ≡ x ⊕ T k
  unfolding PairIs
  at k z = subst (λ (y : ℕ). T p ⊕ T q ≡ x ⊕ T y) z h.2

  not-among : (j ≢ p) × (j ≢ q)
  unfolding PairIs
  not-among = (
    λ z. one q h.1 (cancelled (T p) (T q) x (at p z)),
    λ z. one p (omega (arith, h.0, h.1)) (cancelled (T q) (T p) x (⊕_comm (T q) (T p) ∙ at q z)),
  )

  sum : T j ⊕ (T p ⊕ T q) ≡ x
  unfolding PairIs
  sum = back (T j) (T p ⊕ T q) x h.2

  pub with_first : j < p → TripleWith table x j (Some (j, p, q))
  unfolding PairIs TripleIs TripleWith
  with_first k = (k, h.0, h.1, sum)

  pub with_middle : p ≤ j → j < q → TripleWith table x j (Some (p, j, q))
  unfolding PairIs TripleIs TripleWith
  with_middle k i = let n = not-among in (omega arith, i, h.1, ⊕-left_comm (T p) (T j) (T q) ∙ sum)

  pub with_last : q ≤ j → TripleWith table x j (Some (p, q, j))
  unfolding PairIs TripleIs TripleWith
  with_last k = let n = not-among in (h.0, omega arith, l, sym (⊕_assoc (T p) (T q) (T j)) ∙ ⊕_comm (T p ⊕ T q) (T j) ∙ sum)

left : (a b c x : ℕ) → a ⊕ (b ⊕ c) ≡ x → (a ⊕ c ≡ x ⊕ b) × (a ⊕ b ≡ x ⊕ c)
left a b c x e =
    let f : a ⊕ c ≡ a ⊕ (b ⊕ c) ⊕ b = simp ⊕·simp in
    let g : a ⊕ b ≡ a ⊕ (b ⊕ c) ⊕ c = simp ⊕·simp in
    (f ∙ ap (λ (z : ℕ). z ⊕ b) e, g ∙ ap (λ (z : ℕ). z ⊕ c) e)

not_three_at : (table : List ℕ) (x j : ℕ) → OneOfThree table x j → NotTwo table (x ⊕ get_or table j 0) → NotThree table x
not_three_at table x j one d i p q k l b e = go (one i p q k l b e)
  where
    T : ℕ → ℕ
    T k = get_or table k 0

    at : (k : ℕ) → j ≡ k → NotTwo table (x ⊕ T k)
    at k z = subst (λ (y : ℕ). NotTwo table (x ⊕ T y)) z d

    go : (j ≡ i) ⊎ ((j ≡ p) ⊎ (j ≡ q)) → ⊥
    go (inl z) = at i z p q l b (brought (T i) (T p ⊕ T q) x e)
    go (inr (inl z)) = at p z i q (omega arith) b (left (T i) (T p) (T q) x e).0
    go (inr (inr z)) = at q z i p k (omega arith) (left (T i) (T p) (T q) x e).1

pub with_one : (table : List ℕ) (x j : ℕ) (a : Option (ℕ × ℕ × ℕ)) → OneOfThree table x j → TripleWith table x j a → TripleIs table x a
unfolding TripleIs TripleWith
with_one table x j None one h = not_three_at table x j one h
with_one table x j (Some (i, p, q)) one h = h
