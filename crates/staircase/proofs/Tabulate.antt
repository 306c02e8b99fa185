-- Tables, and lists one after the other.
--   Binary f                                      every value of f is a bit
--   tabulate-length, tabulate-at, tabulate-bits   the length of a table, its entries, and that they are bits
--   tabulate-same, tabulate-map                   tables of the same values, and of values under a function
--   tabulate-append                               a table in two parts
--   tabulate_last, concat_last                    one more entry, and one more list, at the end
--   concat-same                                   the same lists, one after the other
--   concat-length, concat-at                      lists of one size, one after the other
-- Assumes nothing.
use mathlib.Core.Path.{◌≡◌, refl, sym, ap, ap₂, ◌∙◌}
use mathlib.Core.List.{List, [], ◌∷◌, ◌++◌, map, append-nil, append_assoc}
use Prim.Native.Nat.{ℕ, zero, suc, ◌+◌, ◌*◌, ◌<◌, zero-le, suc-le-suc}
use native.Mathlib.Nat.{le_of_suc-le-suc, not-suc-le-zero, zero-mul, suc-mul, zero-add, suc-add, add_assoc, add_comm}
use native.Mathlib.Omega.{arith}
use lib.ListN.{length, get_or, length-append, get_or-append}
use lib.Seq.{get_or-append-add}
use Rattle.bch.specs.Polynomial.{Bits}
use Rattle.staircase.specs.Lists.{tabulate, concat}

abbrev pub Binary : (ℕ → ℕ) → Type 0
Binary f = (k : ℕ) → f k < 2

pub tabulate-length : {A : Type 0} (n : ℕ) (f : ℕ → A) → length (tabulate n f) ≡ n
unfolding tabulate
tabulate-length zero f = refl
tabulate-length (suc n) f = ap suc (tabulate-length n (λ k. f (suc k)))

pub tabulate-at : {A : Type 0} (n : ℕ) (f : ℕ → A) (d : A) (k : ℕ) → k < n → get_or (tabulate n f) k d ≡ f k
unfolding tabulate
tabulate-at zero f d k h = absurd (not-suc-le-zero h)
tabulate-at (suc n) f d zero h = refl
tabulate-at (suc n) f d (suc k) h = tabulate-at n (λ j. f (suc j)) d k (le_of_suc-le-suc h)

pub tabulate-bits : (n : ℕ) (f : ℕ → ℕ) → Binary f → Bits (tabulate n f)
unfolding tabulate
tabulate-bits zero f h k = omega arith
tabulate-bits (suc n) f h zero = h zero
tabulate-bits (suc n) f h (suc k) = tabulate-bits n (λ j. f (suc j)) (λ j. h (suc j)) k

pub tabulate-same : {A : Type 0} (n : ℕ) (f g : ℕ → A) → ((k : ℕ) → k < n → f k ≡ g k) → tabulate n f ≡ tabulate n g
unfolding tabulate
tabulate-same zero f g h = refl
tabulate-same (suc n) f g h = ap₂ (λ x y. x ∷ y) (h zero (suc-le-suc zero-le)) (tabulate-same n (λ k. f (suc k)) (λ k. g (suc k)) (λ k l. h (suc k) (suc-le-suc l)))

pub tabulate-map : {A B : Type 0} (φ : A → B) (n : ℕ) (f : ℕ → A) → map φ (tabulate n f) ≡ tabulate n (λ k. φ (f k))
unfolding tabulate
tabulate-map φ zero f = refl
tabulate-map φ (suc n) f = ap (λ t. φ (f zero) ∷ t) (tabulate-map φ n (λ k. f (suc k)))

pub tabulate_last : {A : Type 0} (n : ℕ) (f : ℕ → A) → tabulate (suc n) f ≡ tabulate n f ++ f n ∷ []
unfolding tabulate
tabulate_last zero f = refl
tabulate_last (suc n) f = ap (λ t. f zero ∷ t) (tabulate_last n (λ k. f (suc k)))

-- ---- lists one after the other

pub tabulate-append : {A : Type 0} (m n : ℕ) (f : ℕ → A) → tabulate (m + n) f ≡ tabulate m f ++ tabulate n (λ k. f (m + k))
unfolding tabulate
tabulate-append zero n f = ap (λ (k : ℕ). tabulate k f) (zero-add n) ∙ tabulate-same n f (λ k. f (zero + k)) (λ k l. ap f (sym (zero-add k)))
tabulate-append {A} (suc m) n f =
    ap (λ (k : ℕ). tabulate k f) (suc-add m n)
    ∙ ap (λ (t : List A). f zero ∷ t)
    (tabulate-append m n (λ k. f (suc k))
    ∙ ap (λ (t : List A). tabulate m (λ k. f (suc k)) ++ t) (tabulate-same n (λ k. f (suc (m + k))) (λ k. f (suc m + k)) (λ k l. ap f (sym (suc-add m k)))))

pub concat_last : {A : Type 0} (n : ℕ) (f : ℕ → List A) → concat (suc n) f ≡ concat n f ++ f n
unfolding concat
concat_last zero f = append-nil (f zero)
concat_last (suc n) f =
    ap (λ t. f zero ++ t) (concat_last n (λ k. f (suc k))) ∙ sym (append_assoc (f zero) (concat n (λ k. f (suc k))) (f (suc n)))

pub concat-same : {A : Type 0} (n : ℕ) (f g : ℕ → List A) → ((k : ℕ) → k < n → f k ≡ g k) → concat n f ≡ concat n g
unfolding concat
concat-same zero f g h = refl
concat-same (suc n) f g h = ap₂ ◌++◌ (h zero (suc-le-suc zero-le)) (concat-same n (λ k. f (suc k)) (λ k. g (suc k)) (λ k l. h (suc k) (suc-le-suc l)))

pub concat-length : {A : Type 0} (n size : ℕ) (f : ℕ → List A) → ((k : ℕ) → length (f k) ≡ size) → length (concat n f) ≡ n * size
unfolding concat
concat-length zero size f h = sym (zero-mul size)
concat-length (suc n) size f h =
    length-append (f zero) (concat n (λ k. f (suc k))) ∙ ap₂ (λ (x y : ℕ). x + y) (h zero) (concat-length n size (λ k. f (suc k)) (λ k. h (suc k)))
    ∙ add_comm size (n * size) ∙ sym (suc-mul n size)

pub concat-at : (n size : ℕ) (f : ℕ → List ℕ) → ((k : ℕ) → length (f k) ≡ size) → (i q : ℕ) → i < n → q < size
    → get_or (concat n f) (i * size + q) 0 ≡ get_or (f i) q 0
unfolding concat
concat-at zero size f h i q hi hq = absurd (not-suc-le-zero hi)
concat-at (suc n) size f h zero q hi hq =
    ap (λ (z : ℕ). get_or (f zero ++ concat n (λ k. f (suc k))) z 0) (ap (λ (z : ℕ). z + q) (zero-mul size) ∙ zero-add q)
    ∙ get_or-append (f zero) (concat n (λ k. f (suc k))) 0 q (omega (arith, h zero))
concat-at (suc n) size f h (suc i) q hi hq =
    let e : suc i * size + q ≡ length (f zero) + (i * size + q) =
    ap (λ (z : ℕ). z + q) (suc-mul i size ∙ add_comm (i * size) size) ∙ add_assoc size (i * size) q ∙ ap (λ (z : ℕ). z + (i * size + q)) (sym (h zero)) in
    ap (λ (z : ℕ). get_or (f zero ++ concat n (λ k. f (suc k))) z 0) e
    ∙ get_or-append-add (f zero) (concat n (λ k. f (suc k))) (i * size + q) 0
    ∙ concat-at n size (λ k. f (suc k)) (λ k. h (suc k)) i q (le_of_suc-le-suc hi) hq
