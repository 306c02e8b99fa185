-- Lists of one length joined, several at a time.
--   concat-append       as many as m and n
--   concat_grid         n times as many as m, by two numbers
--   concat-bits         bits, where each is of bits
--   several_end         the next n stretches end within the whole
--   stretches_next      the stretch that comes next is the old one
--   stretches_several   the next n stretches were lent and came back
-- Assumes nothing.
use mathlib.Core.Path.{◌≡◌, refl, sym, ap, ap₂, ◌∙◌}
use mathlib.Core.List.{List, ◌++◌, append-nil, append_assoc}
use Prim.Native.Nat.{ℕ, zero, suc, ◌+◌, ◌-◌, ◌*◌, ◌/◌, ◌%◌, ◌≤◌}
use native.Mathlib.Nat.{add-zero, add-suc, zero-mul, suc-mul, add-mul, mul-le-mul_right, add-sub_cancel_left}
use native.Mathlib.Omega.{arith}
use lib.Arith.{digits_div, digits_mod}
use lib.ListN.{length, take, drop}
use lib.Seq.{drop_at}
use Rattle.bch.specs.Polynomial.{Bits}
use Rattle.bch.proofs.Systematic.{append_bits}
use Rattle.staircase.specs.Lists.{concat}
use Rattle.staircase.specs.Batch.{frame_at}
use Rattle.staircase.proofs.Tabulate.{concat_last, concat-same, concat-length}
use Rattle.staircase.proofs.Fill.{stretches, front-part}

pub concat-append : (m n : ℕ) (f : ℕ → List ℕ) → concat (m + n) f ≡ concat m f ++ concat n (λ k. f (m + k))
unfolding concat
concat-append m zero f = ap (λ (z : ℕ). concat z f) (add-zero m) ∙ sym (append-nil (concat m f))
concat-append m (suc n) f =
    ap (λ (z : ℕ). concat z f) (add-suc m n) ∙ concat_last (m + n) f ∙ ap (λ (t : List ℕ). t ++ f (m + n)) (concat-append m n f)
    ∙ append_assoc (concat m f) (concat n (λ k. f (m + k))) (f (m + n)) ∙ ap (λ (t : List ℕ). concat m f ++ t) (sym (concat_last n (λ k. f (m + k))))

concat-none : (f g : ℕ → List ℕ) → concat 0 f ≡ concat 0 g
unfolding concat
concat-none f g = refl

pub concat_grid : (n m : ℕ) (f : ℕ → ℕ → List ℕ) → concat (n * m) (λ q. f (q / m) (q % m)) ≡ concat n (λ i. concat m (f i))
concat_grid zero m f = ap (λ (z : ℕ). concat z (λ q. f (q / m) (q % m))) (zero-mul m) ∙ concat-none (λ q. f (q / m) (q % m)) (λ i. concat m (f i))
concat_grid (suc n) m f =
    ap (λ (z : ℕ). concat z (λ q. f (q / m) (q % m))) (suc-mul n m) ∙ concat-append (n * m) m (λ q. f (q / m) (q % m))
    ∙ ap₂ ◌++◌ (concat_grid n m f)
    (concat-same m (λ k. f ((n * m + k) / m) ((n * m + k) % m)) (f n) (λ k h. ap₂ f (digits_div n h) (digits_mod n h)))
    ∙ sym (concat_last n (λ i. concat m (f i)))

pub concat-bits : (n : ℕ) (f : ℕ → List ℕ) → ((k : ℕ) → Bits (f k)) → Bits (concat n f)
unfolding concat
concat-bits zero f h k = omega arith
concat-bits (suc n) f h k = append_bits (f zero) (concat n (λ k. f (suc k))) (h zero) (concat-bits n (λ k. f (suc k)) (λ k. h (suc k))) k

pub several_end : (i n m w : ℕ) → i + n ≤ m → i * w + n * w ≤ m * w
several_end i n m w h = rw add-mul at (mul-le-mul_right w h)

pub stretches_next : (f : ℕ → List ℕ) (l : List ℕ) (w : ℕ) → ((k : ℕ) → length (f k) ≡ w) → (xs : List ℕ) (i : ℕ) → xs ≡ stretches f l w i → frame_at w xs i ≡ frame_at w l i
unfolding stretches
stretches_next f l w wide xs i e =
    ap (λ (t : List ℕ). frame_at w t i) e ∙ ap (take w) (drop_at (concat i f) (drop (i * w) l) (i * w) (concat-length i w f wide))

pub stretches_several : (f : ℕ → List ℕ) (l : List ℕ) (w : ℕ) → ((k : ℕ) → length (f k) ≡ w) → (xs ys : List ℕ) (i n : ℕ) → xs ≡ stretches f l w i
    → ys ≡ concat n (λ k. f (i + k)) → take (i * w) xs ++ (ys ++ drop (i * w + n * w - i * w) (drop (i * w) xs)) ≡ stretches f l w (i + n)
unfolding stretches
stretches_several f l w wide xs ys i n e d =
    rw (e, d, add-sub_cancel_left (i * w) (n * w), add-mul i n w, concat-append i n f)
    (front-part (concat i f) l (i * w) (concat n (λ k. f (i + k))) (concat-length i w f wide) (n * w))
