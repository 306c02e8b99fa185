-- Words of four stretches, of m, m, r and r entries: row words and column words are such words. The first three are a word's information.
--   three, four                         these lists, from the values of each stretch
--   first-stretch .. fourth-stretch     the value at a position
--   in_second, in_third, in_fourth      values that are in a word
--   three_bits, three_same              bits, and the same values
--   four_length, four_map, four_same    the length, the values under a function, the same values
--   four_all                            a fact of every entry
-- Assumes nothing.
use mathlib.Core.Path.{◌≡◌, refl, sym, ap, ap₂, ◌∙◌, subst}
use mathlib.Core.Logic.{◌⊎◌, inl, inr}
use mathlib.Core.List.{List, [], ◌∷◌, ◌++◌, map}
use Prim.Native.Nat.{ℕ, ◌+◌, ◌-◌, ◌*◌, ◌≤◌, ◌<◌}
use native.Mathlib.Omega.{arith}
use lib.ListN.{length, get_or, length-append, get_or-append}
use lib.Seq.{get_or-append-add}
use Rattle.bch.specs.Polynomial.{Bits}
use Rattle.bch.proofs.Systematic.{append_bits}
use Rattle.staircase.specs.Lists.{tabulate}
use Rattle.staircase.proofs.Tabulate.{Binary, tabulate-length, tabulate-at, tabulate-bits, tabulate-same, tabulate-map}
use Rattle.staircase.proofs.Member.{In, in_left, in_right, in_cases, in_tabulate, tabulate_in}

abbrev pub three : {S : Type 0} → ℕ → ℕ → (ℕ → S) → (ℕ → S) → (ℕ → S) → List S
three m r A B X = tabulate m A ++ tabulate m B ++ tabulate r X

abbrev pub four : {S : Type 0} → ℕ → ℕ → (ℕ → S) → (ℕ → S) → (ℕ → S) → (ℕ → S) → List S
four m r A B X Q = three m r A B X ++ tabulate r Q

-- ---- lengths and entries

module _ {S : Type 0} (m r : ℕ) (A B X Q : ℕ → S) where
  two_length : length (tabulate m A ++ tabulate m B) ≡ 2 * m
  two_length = omega (arith, length-append (tabulate m A) (tabulate m B), tabulate-length m A, tabulate-length m B)

  pub three-length : length (three m r A B X) ≡ 2 * m + r
  three-length = omega (arith, length-append (tabulate m A ++ tabulate m B) (tabulate r X), two_length, tabulate-length r X)

  pub four_length : length (four m r A B X Q) ≡ 2 * m + 2 * r
  four_length = omega (arith, length-append (three m r A B X) (tabulate r Q), three-length, tabulate-length r Q)

  module _ (d : S) where
    last_at : (u : List S) (k n : ℕ) (f : ℕ → S) → length u ≡ k → (p : ℕ) → k ≤ p → p < k + n → get_or (u ++ tabulate n f) p d ≡ f (p - k)
    last_at u k n f e p h g =
        let q : p ≡ length u + (p - k) = omega arith in
        ap (λ (z : ℕ). get_or (u ++ tabulate n f) z d) q ∙ get_or-append-add u (tabulate n f) (p - k) d ∙ tabulate-at n f d (p - k) (omega arith)

    in_three : (p : ℕ) → p < 2 * m + r → get_or (four m r A B X Q) p d ≡ get_or (three m r A B X) p d
    in_three p h = get_or-append (three m r A B X) (tabulate r Q) d p (omega (arith, three-length))

    in_two : (p : ℕ) → p < 2 * m → get_or (four m r A B X Q) p d ≡ get_or (tabulate m A ++ tabulate m B) p d
    in_two p h = in_three p (omega arith) ∙ get_or-append (tabulate m A ++ tabulate m B) (tabulate r X) d p (omega (arith, two_length))

    pub first-stretch : (p : ℕ) → p < m → get_or (four m r A B X Q) p d ≡ A p
    first-stretch p h =
        in_two p (omega arith) ∙ get_or-append (tabulate m A) (tabulate m B) d p (omega (arith, tabulate-length m A)) ∙ tabulate-at m A d p h

    pub second-stretch : (p : ℕ) → m ≤ p → p < 2 * m → get_or (four m r A B X Q) p d ≡ B (p - m)
    second-stretch p h g = in_two p g ∙ last_at (tabulate m A) m m B (tabulate-length m A) p h (omega arith)

    pub third-stretch : (p : ℕ) → 2 * m ≤ p → p < 2 * m + r → get_or (four m r A B X Q) p d ≡ X (p - 2 * m)
    third-stretch p h g = in_three p g ∙ last_at (tabulate m A ++ tabulate m B) (2 * m) r X two_length p h g

    pub fourth_stretch : (p : ℕ) → 2 * m + r ≤ p → p < 2 * m + 2 * r → get_or (four m r A B X Q) p d ≡ Q (p - (2 * m + r))
    fourth_stretch p h g = last_at (three m r A B X) (2 * m + r) r Q three-length p h (omega arith)

  -- ---- membership

  pub in_second : (j : ℕ) → j < m → In (B j) (four m r A B X Q)
  in_second j h =
      in_left (B j) (three m r A B X) (tabulate r Q)
      (in_left (B j) (tabulate m A ++ tabulate m B) (tabulate r X) (in_right (B j) (tabulate m A) (tabulate m B) (in_tabulate m B j h)))

  pub in_third : (b : ℕ) → b < r → In (X b) (four m r A B X Q)
  in_third b h = in_left (X b) (three m r A B X) (tabulate r Q) (in_right (X b) (tabulate m A ++ tabulate m B) (tabulate r X) (in_tabulate r X b h))

  pub in_fourth : (b : ℕ) → b < r → In (Q b) (four m r A B X Q)
  in_fourth b h = in_right (Q b) (three m r A B X) (tabulate r Q) (in_tabulate r Q b h)

  pub four_all : (F : S → Type 0) → ((j : ℕ) → j < m → F (A j)) → ((j : ℕ) → j < m → F (B j)) → ((b : ℕ) → b < r → F (X b)) → ((b : ℕ) → b < r → F (Q b))
      → (y : S) → In y (four m r A B X Q) → F y
  four_all F a b x q y i = last (in_cases y (three m r A B X) (tabulate r Q) i)
    where
      each : (n : ℕ) (f : ℕ → S) → ((j : ℕ) → j < n → F (f j)) → In y (tabulate n f) → F y
      each n f h i = let t = tabulate_in n f y i in subst F (sym t.2) (h t.0 t.1)

      first : In y (tabulate m A) ⊎ In y (tabulate m B) → F y
      first (inl i) = each m A a i
      first (inr i) = each m B b i

      middle : In y (tabulate m A ++ tabulate m B) ⊎ In y (tabulate r X) → F y
      middle (inl i) = first (in_cases y (tabulate m A) (tabulate m B) i)
      middle (inr i) = each r X x i

      last : In y (three m r A B X) ⊎ In y (tabulate r Q) → F y
      last (inl i) = middle (in_cases y (tabulate m A ++ tabulate m B) (tabulate r X) i)
      last (inr i) = each r Q q i

-- ---- other values

pub three_bits : (m r : ℕ) (A B X : ℕ → ℕ) → Binary A → Binary B → Binary X → Bits (three m r A B X)
three_bits m r A B X a b x =
    append_bits (tabulate m A ++ tabulate m B) (tabulate r X)
    (append_bits (tabulate m A) (tabulate m B) (tabulate-bits m A a) (tabulate-bits m B b)) (tabulate-bits r X x)

module _ {S : Type 0} (m r : ℕ) (A B X A₂ B₂ X₂ : ℕ → S)
    (a : (j : ℕ) → j < m → A j ≡ A₂ j) (b : (j : ℕ) → j < m → B j ≡ B₂ j) (x : (k : ℕ) → k < r → X k ≡ X₂ k) where
  pub three_same : three m r A B X ≡ three m r A₂ B₂ X₂
  three_same = ap₂ (λ (u v : List S). u ++ v) (ap₂ (λ (u v : List S). u ++ v) (tabulate-same m A A₂ a) (tabulate-same m B B₂ b)) (tabulate-same r X X₂ x)

  pub four_same : (Q Q₂ : ℕ → S) → ((k : ℕ) → k < r → Q k ≡ Q₂ k) → four m r A B X Q ≡ four m r A₂ B₂ X₂ Q₂
  four_same Q Q₂ q = ap₂ (λ (u v : List S). u ++ v) three_same (tabulate-same r Q Q₂ q)

module _ {S T : Type 0} (φ : S → T) where
  map-append : (u v : List S) → map φ (u ++ v) ≡ map φ u ++ map φ v
  map-append [] v = refl
  map-append (x ∷ u) v = ap (λ t. φ x ∷ t) (map-append u v)

  pub four_map : (m r : ℕ) (A B X Q : ℕ → S) → map φ (four m r A B X Q) ≡ four m r (λ j. φ (A j)) (λ j. φ (B j)) (λ b. φ (X b)) (λ b. φ (Q b))
  four_map m r A B X Q =
      map-append (three m r A B X) (tabulate r Q)
      ∙ ap₂ (λ (u v : List T). u ++ v)
      (map-append (tabulate m A ++ tabulate m B) (tabulate r X)
      ∙ ap₂ (λ (u v : List T). u ++ v) (map-append (tabulate m A) (tabulate m B) ∙ ap₂ (λ (u v : List T). u ++ v) (tabulate-map φ m A) (tabulate-map φ m B)) (tabulate-map φ r X))
      (tabulate-map φ r Q)
