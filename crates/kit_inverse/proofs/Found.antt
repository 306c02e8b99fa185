-- The first wrong entry of one row of a product, and of all its rows.
--   found          what `first_wrong` of `matrix` finds in the bytes that `mask_rows` leaves
--   packed-spare   no bit of a packed row past n is 1
--   packed_found   the row that was packed
--   sent_found     the places of the inverse of a list
-- Assumes nothing.
use mathlib.Core.Path.{◌≡◌, ap, ◌∙◌}
use mathlib.Core.Bool.{Bool, not}
use mathlib.Core.List.{List}
use Prim.Native.Nat.{ℕ, ◌*◌, ◌/◌, ◌%◌, ◌≤◌, ◌<◌}
use native.Mathlib.Nat.{div-lt_iff_lt-mul}
use lib.Count.{ones}
use lib.Dec.{eqb}
use lib.ListN.{length, get_or}
use Rattle.staircase.specs.Lists.{sum_bits, first_where}
use Rattle.staircase.specs.System.{row_bytes, identity, preimage}
use Rattle.staircase.specs.Demand2.{Permutes}
use Rattle.staircase.proofs.Matrix.{sum_bits-same}
use Rattle.staircase.proofs.Search.{first_where-same}
use Rattle.matrix.specs.Packed.{packed_bit, plane_bit}
use Rattle.matrix.proofs.Product.{sum-spare}
use Rattle.kit_system.specs.Rows.{unstack_of}
use Rattle.kit_system.proofs.Places.{unstacked, sent-at}
use Rattle.kit_inverse.specs.Products.{wrong_in}

-- A is what is left in the bytes, and AP what is lent of them
pub found : (row t : List ℕ) (n e : ℕ) → ((k : ℕ) → n ≤ k → packed_bit row k ≡ 0) → (A AP : List ℕ)
    → ((x : ℕ) → x < n → ones (get_or A x 0) % 2 ≡ sum_bits (8 * row_bytes n) (λ k. packed_bit row k * plane_bit t n k x)) → AP ≡ A → length A ≡ n
    → first_where (length AP) (λ x. not (eqb (ones (get_or AP x 0) % 2) (identity e x))) ≡ first_where n (wrong_in (packed_bit row) t n e)
unfolding wrong_in
found row t n e spare A AP masked same len =
    ap (λ (l : List ℕ). first_where (length l) (λ x. not (eqb (ones (get_or l x 0) % 2) (identity e x)))) same
    ∙ ap (λ (m : ℕ). first_where m (λ x. not (eqb (ones (get_or A x 0) % 2) (identity e x)))) len
    ∙ first_where-same n (λ x. not (eqb (ones (get_or A x 0) % 2) (identity e x))) (wrong_in (packed_bit row) t n e)
    (λ x h. ap (λ (z : ℕ). not (eqb z (identity e x))) (masked x h ∙ sum-spare row n (λ k. plane_bit t n k x) (λ k a b. spare k a)))

-- R is a packed row with the bits of f, and RP what is lent of it
module _ (n : ℕ) (f : ℕ → ℕ) (R RP : List ℕ) (bits : (k : ℕ) → packed_bit R k ≡ f k) (same : RP ≡ R) where
  pub packed-spare : ((k : ℕ) → n ≤ k → f k ≡ 0) → (k : ℕ) → n ≤ k → packed_bit RP k ≡ 0
  packed-spare spare k h = ap (λ (l : List ℕ). packed_bit l k) same ∙ bits k ∙ spare k h

  pub packed_found : (t : List ℕ) (e : ℕ) → first_where n (wrong_in (packed_bit RP) t n e) ≡ first_where n (wrong_in f t n e)
  unfolding wrong_in
  packed_found t e =
      ap (λ (l : List ℕ). first_where n (wrong_in (packed_bit l) t n e)) same
      ∙ first_where-same n (wrong_in (packed_bit R) t n e) (wrong_in f t n e)
      (λ x h. ap (λ (z : ℕ). not (eqb z (identity e x)))
      (sum_bits-same n (λ k. packed_bit R k * plane_bit t n k x) (λ k. f k * plane_bit t n k x) (λ k l. ap (λ (z : ℕ). z * plane_bit t n k x) (bits k))))

-- `preimages` is the inverse of a list, and `lent` what is lent of it
module _ (n : ℕ) (list : List ℕ) (ok : Permutes n (λ p. get_or list p 0)) (preimages lent : List ℕ)
    (are : (q : ℕ) → q < n → get_or preimages q 0 ≡ preimage list n q) (same : lent ≡ preimages) where
  -- W p i is a test of place i, whose row is sent from p
  pub sent_found : (size r : ℕ) → n ≡ size * r → 0 < n → (W : ℕ → ℕ → Bool)
      → first_where (n * n) (λ i. W (get_or lent (unstack_of size r (i / n)) 0) i) ≡ first_where (n * n) (λ i. W (preimage list n (unstack_of size r (i / n))) i)
  sent_found size r d pos W =
      first_where-same (n * n) (λ i. W (get_or lent (unstack_of size r (i / n)) 0) i) (λ i. W (preimage list n (unstack_of size r (i / n))) i)
      (λ i h. ap (λ (p : ℕ). W p i) (sent-at n list ok preimages lent are same (unstack_of size r (i / n)) (unstacked size r n (i / n) d ((div-lt_iff_lt-mul pos).1 h)).below))
