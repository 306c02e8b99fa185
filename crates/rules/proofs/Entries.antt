-- Laws of rule 7: the entries of a list, and the marks of those that were seen.
--   entry-at                         two bytes of the list are an entry
--   seen l x p                       x is one of the first p entries
--   Marked l n marks p               the marks of the numbers below n tell which of them are among the first p entries
--   marked_none, marked_more         no entry, and one more
--   too_high, repeated, new_entry    the rule's test at an entry: it is n or more; it is marked; neither
-- Assumes nothing.
use mathlib.Core.Path.{◌≡◌, refl, sym, ◌∙◌}
use mathlib.Core.Bool.{Bool, true, false, ◌||◌, cond}
use mathlib.Core.List.{List}
use Prim.Native.Nat.{ℕ, suc, ◌+◌, ◌*◌, ◌≤◌, ◌<◌}
use native.Mathlib.Numerals.{add-one}
use native.Mathlib.Omega.{arith}
use lib.Dec.{ltb, eqb}
use lib.ListN.{length, get_or, set, replicate, get_or-replicate}
use borrow.Author.Tests.{le-leb, lt-leb, eq-eqb, ne_eqb}
use Rattle.bch.proofs.Store.{set_each}
use Rattle.staircase.specs.Lists.{first_where}
use Rattle.staircase.specs.Rules.{entries, bad_entry}
use Rattle.staircase.proofs.Tabulate.{tabulate-at}
use Rattle.staircase.proofs.Search.{first_where_last}

pub entry-at : (n : ℕ) (b : List ℕ) (p : ℕ) → p < n → get_or b (2 * p) 0 + 256 * get_or b (2 * p + 1) 0 ≡ get_or (entries n b) p 0
unfolding entries
entry-at n b p h = sym (tabulate-at n (λ p. get_or b (2 * p) 0 + 256 * get_or b (2 * p + 1) 0) 0 p h)

module _ (l : List ℕ) where
  unfoldable pub seen : ℕ → ℕ → Bool
  seen x p = ltb (first_where p (λ q. eqb (get_or l q 0) x)) p

  seen_more : (x p : ℕ) → seen x (suc p) ≡ (seen x p || eqb (get_or l p 0) x)
  unfolding seen
  seen_more x p = first_where_last p (λ q. eqb (get_or l q 0) x)

  module _ (n : ℕ) where
    unfoldable pub Marked : List ℕ → ℕ → Type 0
    Marked marks p = (x : ℕ) → x < n → get_or marks x 0 ≡ cond (seen x p) 1 0

    pub marked_none : Marked (replicate n 0) 0
    unfolding Marked seen first_where
    marked_none x h = get_or-replicate n x 0 0 h

    module _ (marks : List ℕ) (p : ℕ) (m : Marked marks p) where
      pub marked_more : get_or l p 0 < length marks → Marked (set marks (get_or l p 0) 1) (p + 1)
      unfolding Marked
      marked_more h =
          set_each (λ x z. x < n → z ≡ cond (seen x (p + 1)) 1 0) marks (get_or l p 0) 1 h
          (λ k. rw (add-one p, seen_more (get_or l p 0) p, eq-eqb (get_or l p 0) (get_or l p 0) refl) (sym (or-true (seen (get_or l p 0) p))))
          (λ x d k. rw (add-one p, seen_more x p, ne_eqb (get_or l p 0) x (λ e. d (sym e))) (m x k ∙ sym (or-false (seen x p))))
        where
          or-true : (z : Bool) → ◌≡◌ {A = ℕ} (cond (z || true) 1 0) 1
          or-true true = refl
          or-true false = refl

          or-false : (z : Bool) → ◌≡◌ {A = ℕ} (cond (z || false) 1 0) (cond z 1 0)
          or-false true = refl
          or-false false = refl

      -- of a number below n the mark decides
      entry-mark : get_or l p 0 < n → get_or marks (get_or l p 0) 0 ≡ cond (bad_entry n l p) 1 0
      unfolding bad_entry Marked seen
      entry-mark h = rw (lt-leb n (get_or l p 0) h) (m (get_or l p 0) h)

      pub repeated : get_or l p 0 < n → (get_or marks (get_or l p 0) 0 ≡ 0 → ⊥) → bad_entry n l p ≡ true
      repeated h g = go (bad_entry n l p) (entry-mark h)
        where
          go : (z : Bool) → get_or marks (get_or l p 0) 0 ≡ cond z 1 0 → z ≡ true
          go true e = refl
          go false e = absurd (g e)

      pub new_entry : get_or l p 0 < n → get_or marks (get_or l p 0) 0 ≡ 0 → bad_entry n l p ≡ false
      new_entry h g = go (bad_entry n l p) (entry-mark h)
        where
          go : (z : Bool) → get_or marks (get_or l p 0) 0 ≡ cond z 1 0 → z ≡ false
          go true e = absurd (omega arith)
          go false e = refl

    pub too_high : (p : ℕ) → n ≤ get_or l p 0 → bad_entry n l p ≡ true
    unfolding bad_entry
    too_high p h = rw (le-leb n (get_or l p 0) h)
