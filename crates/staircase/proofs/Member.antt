-- Membership and sublists.
--   In, in_left, in_right, in_cases, in?   membership
--   in_tabulate, tabulate_in, in_concat, concat_in, in_map, map_in   in a table, in lists one after the other, under a function
--   Sub                        what is left of a list when some entries are struck out
--   choices-sub, sub-choices   the choices of at most t entries are the sublists of at most t entries
-- Assumes nothing.
use mathlib.Core.Path.{◌≡◌, refl, sym, ap, subst}
use mathlib.Core.Logic.{◌≢◌, ◌⊎◌, inl, inr}
use mathlib.Core.List.{List, [], ◌∷◌, ◌++◌, map}
use Prim.Native.Nat.{ℕ, zero, suc, ◌≤◌, ◌<◌, zero-le, suc-le-suc}
use native.Mathlib.Nat.{le_of_suc-le-suc, not-suc-le-zero}
use lib.ListN.{length}
use Rattle.staircase.specs.Lists.{tabulate, concat}
use Rattle.staircase.specs.Decoder.{choices}

module _ {A : Type 0} where
  abbrev pub In : A → List A → Type 0
  In a [] = ⊥
  In a (x ∷ l) = (a ≡ x) ⊎ In a l

  pub in_left : (a : A) (l m : List A) → In a l → In a (l ++ m)
  in_left a (x ∷ l) m (inl e) = inl e
  in_left a (x ∷ l) m (inr h) = inr (in_left a l m h)
  in_left a [] m x' = elim x' [ ]

  pub in_right : (a : A) (l m : List A) → In a m → In a (l ++ m)
  in_right a [] m h = h
  in_right a (x ∷ l) m h = inr (in_right a l m h)

  pub in_cases : (a : A) (l m : List A) → In a (l ++ m) → In a l ⊎ In a m
  in_cases a [] m h = inr h
  in_cases a (x ∷ l) m (inl e) = inl (inl e)
  in_cases a (x ∷ l) m (inr h) = go (in_cases a l m h)
    where
      go : In a l ⊎ In a m → In a (x ∷ l) ⊎ In a m
      go (inl k) = inl (inr k)
      go (inr k) = inr k

  pub in_tabulate : (n : ℕ) (f : ℕ → A) (k : ℕ) → k < n → In (f k) (tabulate n f)
  unfolding tabulate
  in_tabulate zero f k h = absurd (not-suc-le-zero h)
  in_tabulate (suc n) f zero h = inl refl
  in_tabulate (suc n) f (suc k) h = inr (in_tabulate n (λ j. f (suc j)) k (le_of_suc-le-suc h))

  pub in_concat : (a : A) (n : ℕ) (f : ℕ → List A) (k : ℕ) → k < n → In a (f k) → In a (concat n f)
  unfolding concat
  in_concat a zero f k h i = absurd (not-suc-le-zero h)
  in_concat a (suc n) f zero h i = in_left a (f zero) (concat n (λ j. f (suc j))) i
  in_concat a (suc n) f (suc k) h i = in_right a (f zero) (concat n (λ j. f (suc j))) (in_concat a n (λ j. f (suc j)) k (le_of_suc-le-suc h) i)

  pub tabulate_in : (n : ℕ) (f : ℕ → A) (a : A) → In a (tabulate n f) → (k : ℕ) × (k < n) × (a ≡ f k)
  unfolding tabulate
  tabulate_in (suc n) f a (inl e) = (zero, suc-le-suc zero-le, e)
  tabulate_in (suc n) f a (inr h) = let t = tabulate_in n (λ j. f (suc j)) a h in (suc t.0, suc-le-suc t.1, t.2)
  tabulate_in zero f a x' = elim x' [ ]

  pub concat_in : (n : ℕ) (f : ℕ → List A) (a : A) → In a (concat n f) → (k : ℕ) × (k < n) × In a (f k)
  unfolding concat
  concat_in (suc n) f a h = go (in_cases a (f zero) (concat n (λ j. f (suc j))) h) (λ i. concat_in n (λ j. f (suc j)) a i)
    where
      go : In a (f zero) ⊎ In a (concat n (λ j. f (suc j))) → (In a (concat n (λ j. f (suc j))) → (k : ℕ) × (k < n) × In a (f (suc k)))
          → (k : ℕ) × (k < suc n) × In a (f k)
      go (inl i) rest = (zero, suc-le-suc zero-le, i)
      go (inr i) rest = let t = rest i in (suc t.0, suc-le-suc t.1, t.2)
  concat_in zero f a h = elim h [ ]

  pub in? : ((x y : A) → (x ≡ y) ⊎ (x ≢ y)) → (a : A) (l : List A) → In a l ⊎ (¬ In a l)
  in? same a [] = inr (λ h. h)
  in? same a (x ∷ l) = go (same a x) (in? same a l)
    where
      go : (a ≡ x) ⊎ (a ≢ x) → In a l ⊎ (¬ In a l) → In a (x ∷ l) ⊎ (¬ In a (x ∷ l))
      go (inl e) r = inl (inl e)
      go (inr d) (inl i) = inl (inr i)
      go (inr d) (inr n) = inr (λ h. split h)
        where
          split : In a (x ∷ l) → ⊥
          split (inl e) = d e
          split (inr i) = n i

  -- c is what is left of l when some entries are struck out
  pub data Sub : List A → List A → Type 0 where
    done : Sub [] []
    skip : {x : A} {c l : List A} → Sub c l → Sub c (x ∷ l)
    keep : {x : A} {c l : List A} → Sub c l → Sub (x ∷ c) (x ∷ l)

  pub sub_nil : (l : List A) → Sub [] l
  sub_nil [] = done
  sub_nil (x ∷ l) = skip (sub_nil l)

  pub sub_in : {c l : List A} (a : A) → Sub c l → In a c → In a l
  sub_in a (skip s) h = inr (sub_in a s h)
  sub_in a (keep s) (inl e) = inl e
  sub_in a (keep s) (inr h) = inr (sub_in a s h)
  sub_in a done h = elim h [ ]

module _ {A B : Type 0} where
  pub map_in : (f : A → B) (l : List A) (b : B) → In b (map f l) → (a : A) × In a l × (b ≡ f a)
  map_in f (x ∷ l) b (inl e) = (x, inl refl, e)
  map_in f (x ∷ l) b (inr h) = let t = map_in f l b h in (t.0, inr t.1, t.2)
  map_in f [] b x' = elim x' [ ]

  pub in_map : (f : A → B) (l : List A) (a : A) → In a l → In (f a) (map f l)
  in_map f (x ∷ l) a (inl e) = inl (ap f e)
  in_map f (x ∷ l) a (inr h) = inr (in_map f l a h)
  in_map f [] a x' = elim x' [ ]

-- the choices of at most t entries are the sublists of at most t entries
module _ {A : Type 0} where
  pub choices-sub : (l : List A) (t : ℕ) (c : List A) → In c (choices t l) → Sub c l × (length c ≤ t)
  unfolding choices
  choices-sub l zero c (inl e) = (subst (λ (z : List A). Sub z l) (sym e) (sub_nil l), subst (λ (z : List A). length z ≤ 0) (sym e) zero-le)
  choices-sub [] (suc t) c (inl e) = (subst (λ (z : List A). Sub z []) (sym e) done, subst (λ (z : List A). length z ≤ suc t) (sym e) zero-le)
  choices-sub (x ∷ l) (suc t) c h =
      go (in_cases c (choices (suc t) l) (map (λ d. x ∷ d) (choices t l)) h) (choices-sub l (suc t) c) (choices-sub l t)
    where
      go : In c (choices (suc t) l) ⊎ In c (map (λ d. x ∷ d) (choices t l)) → (In c (choices (suc t) l) → Sub c l × (length c ≤ suc t))
          → ((d : List A) → In d (choices t l) → Sub d l × (length d ≤ t)) → Sub c (x ∷ l) × (length c ≤ suc t)
      go (inl h) without with₁ = let p = without h in (skip p.0, p.1)
      go (inr h) without with₁ =
          let m = map_in (λ d. x ∷ d) (choices t l) c h in
          let p = with₁ m.0 m.1 in (
            subst (λ (z : List A). Sub z (x ∷ l)) (sym m.2) (keep p.0),
            subst (λ (z : List A). length z ≤ suc t) (sym m.2) (suc-le-suc p.1),
          )
  choices-sub l zero c (inr x'') = elim x'' [ ]
  choices-sub [] (suc t) c (inr x4) = elim x4 [ ]

  pub sub-choices : {l c : List A} (t : ℕ) → Sub c l → length c ≤ t → In c (choices t l)
  unfolding choices
  sub-choices zero done h = inl refl
  sub-choices (suc t) done h = inl refl
  sub-choices zero (skip {c = []} s) h = inl refl
  sub-choices zero (skip {c = y ∷ c} s) h = absurd (not-suc-le-zero h)
  sub-choices (suc t) (skip {x = x} {c = c} {l = l} s) h = in_left c (choices (suc t) l) (map (λ d. x ∷ d) (choices t l)) (sub-choices {l = l} {c = c} (suc t) s h)
  sub-choices zero (keep s) h = absurd (not-suc-le-zero h)
  sub-choices (suc t) (keep {x = x} {c = c} {l = l} s) h =
      in_right (x ∷ c) (choices (suc t) l) (map (λ d. x ∷ d) (choices t l)) (in_map (λ d. x ∷ d) (choices t l) c (sub-choices t s (le_of_suc-le-suc h)))
