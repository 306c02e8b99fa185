-- Planes that are filled one after the other.
--   PlaneByte f b x v        v has the entries f of column x, in the eight rows of plane b
--   planes-more, planes-all  a plane more, and all of them
-- Assumes nothing.
use mathlib.Core.Path.{◌≡◌, ◌∙◌}
use mathlib.Core.List.{List, ◌++◌}
use Prim.Native.Nat.{ℕ, ◌+◌, ◌-◌, ◌*◌, ◌/◌, ◌%◌, ◌<◌}
use native.Mathlib.Nat.{mul_comm, add-mul, one-mul, add-sub_cancel_left}
use native.Mathlib.Omega.{arith}
use lib.Arith.{digits_lt, digits_div, digits_mod}
use lib.ListN.{length, get_or, take, drop}
use Rattle.staircase.specs.System.{row_bytes}
use Rattle.staircase.proofs.Fill.{each_part}
use Rattle.matrix.specs.Packed.{plane_bit, Planes}
use Rattle.matrix.proofs.Bits.{bit}
use Rattle.matrix.proofs.Packed.{plane_end, plane_length}

abbrev pub PlaneByte : (ℕ → ℕ → ℕ) → ℕ → ℕ → ℕ → Type 0
PlaneByte f b x v = (r : ℕ) → r < 8 → bit v r ≡ f (8 * b + r) x

-- plane b of m was lent as a part and came back as ys, with the entries of its rows
pub planes_more : (n m : ℕ) (f : ℕ → ℕ → ℕ) (t ys : List ℕ) (b : ℕ) → b < m → length t ≡ n * m
    → length ys ≡ length (take (b * n + n - b * n) (drop (b * n) t)) → ((q : ℕ) → q < b * n → PlaneByte f (q / n) (q % n) (get_or t q 0))
    → ((x : ℕ) → x < n → PlaneByte f b x (get_or ys x 0))
    → (q : ℕ) → q < (b + 1) * n → PlaneByte f (q / n) (q % n) (get_or (take (b * n) t ++ (ys ++ drop (b * n + n - b * n) (drop (b * n) t))) q 0)
planes_more n m f t ys b h d e before here q l =
    let k : (b + 1) * n ≡ b * n + n = rw (add-mul b 1 n, one-mul n) in
    rw (add-sub_cancel_left (b * n) n)
    (each_part (λ (q v : ℕ). PlaneByte f (q / n) (q % n) v) t ys (b * n) n (omega (arith, plane_end b n m h)) (e ∙ plane_length t b n m h d) before
    (λ x k r g. here x k r g ∙ rw (digits_div b k, digits_mod b k)) q (omega arith))

pub planes_all : (t : List ℕ) (n : ℕ) (f : ℕ → ℕ → ℕ) → ((q : ℕ) → q < n * row_bytes n → PlaneByte f (q / n) (q % n) (get_or t q 0)) → Planes t n f
unfolding plane_bit
planes_all t n f h k x l m =
    let b : k / 8 < row_bytes n = omega arith in
    let q : k / 8 * n + x < n * row_bytes n = rw (mul_comm n (row_bytes n)) (digits_lt b m) in
    let e : 8 * (k / 8) + k % 8 ≡ k = omega arith in
    h (k / 8 * n + x) q (k % 8) (omega arith) ∙ rw (digits_div (k / 8) m, digits_mod (k / 8) m, e)
