-- The words of a frame that are outside their codes, counted.
--   outside_each-append, outside-append   of two lists of words, one after the other
--   outside_each-bound, outside-bound     no more than there are words
--   outside_next                         of one group more
--   each_inside, all_inside              where none is counted, each word is in its code
--   outside_each_inside                   where each word is in its code, none is counted
-- Assumes nothing.
use mathlib.Core.Path.{◌≡◌, refl, sym, ap, ap₂, ◌∙◌, subst}
use mathlib.Core.Bool.{Bool, true, false, cond}
use mathlib.Core.Logic.{inl, inr}
use mathlib.Core.List.{List, [], ◌∷◌, ◌++◌, map-append}
use Prim.Native.Nat.{ℕ, suc, ◌+◌, ◌≤◌}
use native.Mathlib.Nat.{zero-add, add_assoc}
use native.Mathlib.Omega.{arith}
use lib.ListN.{length, length-map}
use Rattle.staircase.specs.Lists.{concat}
use Rattle.staircase.specs.Design.{Params}
use Rattle.staircase.specs.Frame.{Frame, Site, Word, word, plain, in_code, outside_each, outside_among}
use Rattle.staircase.proofs.Member.{In, in_map}
use Rattle.staircase.proofs.Tabulate.{concat_last}

module _ (f : Frame) where
  pub outside_each-append : (u v : List Word) → outside_each f (u ++ v) ≡ outside_each f u + outside_each f v
  unfolding outside_each
  outside_each-append [] v = sym (zero-add (outside_each f v))
  outside_each-append (w ∷ u) v =
      ap (λ (n : ℕ). cond (in_code w.code f w.sites) 0 1 + n) (outside_each-append u v)
      ∙ sym (add_assoc (cond (in_code w.code f w.sites) 0 1) (outside_each f u) (outside_each f v))

  at_most_one : (z : Bool) → cond z 0 1 ≤ 1
  at_most_one true = omega arith
  at_most_one false = omega arith

  pub outside_each-bound : (u : List Word) → outside_each f u ≤ length u
  unfolding outside_each
  outside_each-bound [] = omega arith
  outside_each-bound (w ∷ u) = omega (arith, at_most_one (in_code w.code f w.sites), outside_each-bound u)

  pub each_inside : (ws : List Word) → outside_each f ws ≡ 0 → (w : Word) → In w ws → in_code w.code f w.sites ≡ true
  unfolding outside_each
  each_inside (v ∷ ws) e w (inl h) = ap (λ (u : Word). in_code u.code f u.sites) h ∙ inside (in_code v.code f v.sites) (omega (arith, e))
    where
      inside : (z : Bool) → ◌≡◌ {A = ℕ} (cond z 0 1) 0 → z ≡ true
      inside true d = refl
      inside false d = absurd (omega arith)
  each_inside (v ∷ ws) e w (inr h) = each_inside ws (omega (arith, e)) w h
  each_inside [] e w x'' = elim x'' [ ]

  pub outside_each_inside : (ws : List Word) → ((w : Word) → In w ws → in_code w.code f w.sites ≡ true) → outside_each f ws ≡ 0
  unfolding outside_each
  outside_each_inside [] h = refl
  outside_each_inside (w ∷ ws) h =
      ap₂ (λ (x y : ℕ). x + y) (ap (λ (z : Bool). cond z 0 1) (h w (inl refl))) (outside_each_inside ws (λ v i. h v (inr i)))

-- ---- words of one code

module _ (s : Params) (f : Frame) where
  pub outside-append : (u v : List (List Site)) → outside_among s f (u ++ v) ≡ outside_among s f u + outside_among s f v
  unfolding outside_among
  outside-append u v = ap (outside_each f) (map-append (word s) u v) ∙ outside_each-append f (plain s u) (plain s v)

  pub outside-bound : (u : List (List Site)) → outside_among s f u ≤ length u
  unfolding outside_among
  outside-bound u = subst (λ (n : ℕ). outside_each f (plain s u) ≤ n) (length-map u (word s)) (outside_each-bound f (plain s u))

  pub outside_next : (n : ℕ) (g : ℕ → List (List Site))
      → outside_among s f (concat (suc n) g) ≡ outside_among s f (concat n g) + outside_among s f (g n)
  outside_next n g = ap (outside_among s f) (concat_last n g) ∙ outside-append (concat n g) (g n)

  pub all_inside : (ws : List (List Site)) → outside_among s f ws ≡ 0 → (w : List Site) → In w ws → in_code s f w ≡ true
  unfolding outside_among
  all_inside ws e w i = each_inside f (plain s ws) e (word s w) (in_map (word s) ws w i)
