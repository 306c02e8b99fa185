-- The entries of a product's row that are not the identity's, by the bytes that have an odd number of ones.
--   odd_at, wrong_at         the byte in column x has an odd number of ones; its parity is not entry (e, x) of the identity
--   some, some-none        one of the first n places passes a test; where none does, the first that does is n
--   wrong_past             a row whose one stands past the columns: a wrong entry is an odd byte
--   wrong_even, wrong_front, wrong_rest   else: column e has no one; a column before e has one; neither, so that those behind e decide
--   odd_part, odd_front    the bytes of a lent part: from a place on, and from the front
-- Assumes nothing.
use mathlib.Core.Path.{◌≡◌, refl, sym, ap, ap₂, ◌∙◌}
use mathlib.Core.Bool.{Bool, true, false, not, ◌||◌, cond}
use mathlib.Core.List.{List}
use Prim.Native.Nat.{ℕ, zero, suc, ◌+◌, ◌-◌, ◌%◌, ◌≤◌, ◌<◌}
use native.Mathlib.Nat.{add-zero, zero-add, add-suc, sub-zero, le_antisymm, mod-lt, zero-lt-suc}
use native.Mathlib.Numerals.{add-one}
use native.Mathlib.Omega.{arith}
use lib.Count.{ones}
use lib.Dec.{eqb, ltb}
use lib.ListN.{length, get_or, take, drop}
use lib.Seq.{get_or-take, get_or-drop}
use borrow.Author.Tests.{eq-eqb, ne_eqb, ltb-false}
use borrow.Rule.Slice.PartMut.{mid_len}
use Rattle.bch.proofs.Sum.{bit_ind}
use Rattle.staircase.specs.Lists.{first_where}
use Rattle.staircase.specs.System.{identity}
use Rattle.staircase.proofs.Search.{first_where-le, first_where-same, first_where_last}

abbrev pub odd_at : List ℕ → ℕ → Bool
odd_at bytes x = eqb (ones (get_or bytes x 0) % 2) 1

abbrev pub wrong_at : List ℕ → ℕ → ℕ → Bool
wrong_at acc e x = not (eqb (ones (get_or acc x 0) % 2) (identity e x))

abbrev pub some : ℕ → (ℕ → Bool) → Bool
some n f = ltb (first_where n f) n

pub some-none : (n : ℕ) (f : ℕ → Bool) → some n f ≡ false → n ≡ first_where n f
some-none n f h = le_antisymm (ltb-false (first_where n f) n h) (first_where-le n f)

-- ---- places one after another

some_same : (n : ℕ) (f g : ℕ → Bool) → ((k : ℕ) → k < n → f k ≡ g k) → some n f ≡ some n g
some_same n f g h = ap (λ (z : ℕ). ltb z n) (first_where-same n f g h)

or_assoc : (x y z : Bool) → ((x || y) || z) ≡ (x || (y || z))
or_assoc true y z = refl
or_assoc false y z = refl

or-false : (x : Bool) → x ≡ (x || false)
or-false true = refl
or-false false = refl

or-true : (x : Bool) → (x || true) ≡ true
or-true true = refl
or-true false = refl

odd_is : (c : ℕ) → (c % 2 ≡ 0 → ⊥) → c % 2 ≡ 1
odd_is c d = omega arith

some-sum : (a b : ℕ) (f : ℕ → Bool) → some (a + b) f ≡ (some a f || some b (λ k. f (a + k)))
unfolding first_where
some-sum a zero f = ap (λ (n : ℕ). some n f) (add-zero a) ∙ or-false (some a f)
some-sum a (suc b) f =
    ap (λ (n : ℕ). some n f) (add-suc a b) ∙ first_where_last (a + b) f
    ∙ ap (λ (z : Bool). z || f (a + b)) (some-sum a b f)
    ∙ or_assoc (some a f) (some b (λ k. f (a + k))) (f (a + b))
    ∙ ap (λ (z : Bool). some a f || z) (sym (first_where_last b (λ k. f (a + k))))

-- ---- a row

not-zero : (v : ℕ) → v < 2 → not (eqb v 0) ≡ eqb v 1
not-zero v h = bit_ind (λ (v : ℕ). not (eqb v 0) ≡ eqb v 1) refl refl v h

wrong_off : (acc : List ℕ) (e x : ℕ) → (e ≡ x → ⊥) → wrong_at acc e x ≡ odd_at acc x
wrong_off acc e x d =
    let p : ℕ = ones (get_or acc x 0) % 2 in
    ap (λ (z : Bool). not (eqb p (cond z 1 0))) (ne_eqb e x d) ∙ not-zero p (mod-lt (ones (get_or acc x 0)) (zero-lt-suc 1))

wrong_on : (acc : List ℕ) (e : ℕ) → wrong_at acc e e ≡ not (odd_at acc e)
wrong_on acc e = ap (λ (z : Bool). not (eqb (ones (get_or acc e 0) % 2) (cond z 1 0))) (eq-eqb e e refl)

pub wrong_past : (acc : List ℕ) (n e : ℕ) → n ≤ e → some n (odd_at acc) ≡ some n (wrong_at acc e)
wrong_past acc n e h = some_same n (odd_at acc) (wrong_at acc e) (λ k l. sym (wrong_off acc e k (λ q. absurd (omega arith))))

pub some_parts : (acc : List ℕ) (n e : ℕ) → e < n
    → some n (wrong_at acc e) ≡ (some e (odd_at acc) || (not (odd_at acc e) || some (n - (e + 1)) (λ k. odd_at acc (e + 1 + k))))
some_parts acc n e h =
    let b : ℕ = n - (e + 1) in
    let s : n ≡ e + 1 + b = omega arith in
    let f : ℕ → Bool = wrong_at acc e in
    ap (λ (m : ℕ). some m f) s ∙ some-sum (e + 1) b f
    ∙ ap₂ (λ (y z : Bool). y || z) (ap (λ (m : ℕ). some m f) (add-one e) ∙ first_where_last e f)
    (some_same b (λ k. f (e + 1 + k)) (λ k. odd_at acc (e + 1 + k)) (λ k l. wrong_off acc e (e + 1 + k) (λ q. absurd (omega arith))))
    ∙ or_assoc (some e f) (f e) (some b (λ k. odd_at acc (e + 1 + k)))
    ∙ ap₂ (λ (y z : Bool). y || (z || some b (λ k. odd_at acc (e + 1 + k)))) (sym (wrong_past acc e e (omega arith))) (wrong_on acc e)

-- ---- a lent part, from a place to a place

pub odd_part : (acc : List ℕ) (a k : ℕ) → k ≤ length acc
    → some (length (take (k - a) (drop a acc))) (odd_at (take (k - a) (drop a acc))) ≡ some (k - a) (λ j. odd_at acc (a + j))
odd_part acc a k h =
    let part : List ℕ = take (k - a) (drop a acc) in
    ap (λ (n : ℕ). some n (odd_at part)) (mid_len a k acc h)
    ∙ some_same (k - a) (odd_at part) (λ j. odd_at acc (a + j))
    (λ j l. ap (λ (z : ℕ). eqb (ones z % 2) 1) (get_or-take (k - a) (drop a acc) j 0 l ∙ get_or-drop a acc j 0))

pub odd_front : (acc : List ℕ) (k : ℕ) → k ≤ length acc
    → some (length (take (k - 0) (drop 0 acc))) (odd_at (take (k - 0) (drop 0 acc))) ≡ some k (odd_at acc)
odd_front acc k h =
    odd_part acc 0 k h ∙ ap (λ (n : ℕ). some n (λ j. odd_at acc (0 + j))) (sub-zero k)
    ∙ some_same k (λ j. odd_at acc (0 + j)) (odd_at acc) (λ j l. ap (odd_at acc) (zero-add j))

-- ---- what the steps of the pass tell

pub wrong_even : (acc : List ℕ) (n e c : ℕ) → e < n → c ≡ ones (get_or acc e 0) → c % 2 ≡ 0 → true ≡ some n (wrong_at acc e)
wrong_even acc n e c h q z =
    let o : odd_at acc e ≡ false = ap (λ (u : ℕ). eqb u 1) (ap (λ (u : ℕ). u % 2) (sym q) ∙ z) in
    sym
    (some_parts acc n e h
    ∙ ap (λ (y : Bool). some e (odd_at acc) || (not y || some (n - (e + 1)) (λ k. odd_at acc (e + 1 + k)))) o
    ∙ or-true (some e (odd_at acc)))

pub wrong_front : (acc : List ℕ) (n e : ℕ) → e < n → some e (odd_at acc) ≡ true → true ≡ some n (wrong_at acc e)
wrong_front acc n e h o =
    sym (some_parts acc n e h ∙ ap (λ (y : Bool). y || (not (odd_at acc e) || some (n - (e + 1)) (λ k. odd_at acc (e + 1 + k)))) o)

pub wrong_rest : (acc : List ℕ) (n e c : ℕ) → e < n → c ≡ ones (get_or acc e 0) → (c % 2 ≡ 0 → ⊥) → some e (odd_at acc) ≡ false
    → some (n - (e + 1)) (λ k. odd_at acc (e + 1 + k)) ≡ some n (wrong_at acc e)
wrong_rest acc n e c h q d f =
    let one : c % 2 ≡ 1 = odd_is c d in
    let o : odd_at acc e ≡ true = ap (λ (u : ℕ). eqb u 1) (ap (λ (u : ℕ). u % 2) (sym q) ∙ one) in
    sym
    (some_parts acc n e h
    ∙ ap₂ (λ (y z : Bool). y || (not z || some (n - (e + 1)) (λ k. odd_at acc (e + 1 + k)))) f o)
