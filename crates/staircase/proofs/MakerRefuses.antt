-- The maker of a kit's inverse refuses by rule 14 exactly where the system has no inverse, and at its first column that is a sum of earlier ones.
--   sum-dependent, dependent_earlier   the search of `dependent` and what it finds
--   maker-refuses                      the theorem, over the maker's call
-- Assumes nothing.
use mathlib.Core.Path.{◌≡◌, refl, sym, ap, ◌∙◌, subst}
use mathlib.Core.Bool.{Bool, true, false, true≢false}
use mathlib.Core.List.{List, [], ◌∷◌}
use Prim.Native.Nat.{ℕ, ◌+◌, ◌<◌}
use native.Mathlib.Omega.{arith}
use borrow.Author.Tests.{ltb-true}
use lib.Dec.{ltb}
use Rattle.staircase.specs.Lists.{first_where}
use Rattle.staircase.specs.Design.{Params, Interleavers, params, order}
use Rattle.staircase.specs.System.{system_entry}
use Rattle.staircase.specs.Square.{BitMatrix, digit, dependent, inverse_matrix, packed_matrix}
use Rattle.staircase.specs.Rules.{Verdict, ◌then◌, refuse, refuse_first, design_rules, length_rule, kit_lengths, interleavers, list_rule}
use Rattle.staircase.specs.Rules.Verdict.{accepted, refused}
use Rattle.staircase.specs.Maker.{make_work, singular_rule, make_verdict, make_call, make_front, SumOfEarlier, MakerRefuses}
use Rattle.staircase.specs.Demand1.{ByTable, worked, refused_by, among}
use Rattle.staircase.proofs.Search.{first_where_holds, first_where-before}
use Rattle.staircase.proofs.Square.{digit-bit}
use Rattle.staircase.proofs.Columns.{dependent_of, dependent-sum}
use Rattle.staircase.proofs.System.{system_entry-lt}
use Rattle.staircase.proofs.BchCode.{proper_of}
use Rattle.staircase.proofs.Rules.{then_first, design_limits}
use Rattle.staircase.proofs.OrderMoved.{chain_then}
use Rattle.staircase.proofs.Maker.{made_by-verdict, singular-none}
use Rattle.staircase.proofs.Demand1.{by_table_then, design-by_table, kit-fits-by_table, length-by_table, lists-by_table}

-- ---- a column that is a sum of earlier ones

module _ (n : ℕ) (a : ℕ → ℕ → ℕ) (j : ℕ) where
  sum-dependent : SumOfEarlier n a j → dependent n a j ≡ true
  sum-dependent (v, bits, sums) = dependent_of n a j v bits sums

  dependent_earlier : dependent n a j ≡ true → SumOfEarlier n a j
  dependent_earlier e = let x = dependent-sum n a j e in (digit x.0, digit-bit x.0, x.1)

-- ---- a search that refuses

refuse-true : (z : Bool) (rule place n p : ℕ) → refuse z rule place ≡ refused n p → (z ≡ true) × (place ≡ p)
refuse-true true rule place n p e = (refl, cc)
refuse-true false rule place n p e = let z : ◌≡◌ {A = ℕ} 0 1 = cc in absurd (omega arith)

-- the place passes, and none before it does
first-refused : (rule n : ℕ) (f : ℕ → Bool) (r p : ℕ) → refuse_first rule 0 n f ≡ refused r p
    → (p < n) × (f p ≡ true) × ((k : ℕ) → k < p → f k ≡ false)
unfolding refuse_first
first-refused rule n f r p e =
    let q : ℕ = first_where n f in
    let (found, at) = refuse-true (ltb q n) rule (0 + q) r p e in
    let here : q ≡ p = omega (arith, at) in
    let low : q < n = ltb-true q n found in (
      subst (λ (z : ℕ). z < n) here low,
      subst (λ (z : ℕ). f z ≡ true) here (first_where_holds n f low),
      λ k h. first_where-before n f k (subst (λ (z : ℕ). k < z) (sym here) h),
    )

first-or : (rule n : ℕ) (f : ℕ → Bool) → (refuse_first rule 0 n f ≡ accepted → ⊥) → (p : ℕ) × (refuse_first rule 0 n f ≡ refused rule p)
unfolding refuse_first
first-or rule n f h = go (ltb (first_where n f) n) h
  where
    go : (z : Bool) → (refuse z rule (0 + first_where n f) ≡ accepted → ⊥) → (p : ℕ) × (refuse z rule (0 + first_where n f) ≡ refused rule p)
    go true d = (0 + first_where n f, refl)
    go false d = absurd (d refl)

-- ---- rules of other numbers

abbrev front_numbers : List ℕ
front_numbers = 1 ∷ 2 ∷ 3 ∷ 6 ∷ 7 ∷ []

-- what is refused behind these rules is refused by the rule behind them
behind : (u v : Verdict) (p : ℕ) → ByTable front_numbers u → (u then v) ≡ refused 14 p → (u ≡ accepted) × (v ≡ refused 14 p)
behind u v p (worked e) d = (e, sym (ap (λ (z : Verdict). z then v) e) ∙ d)
behind u v p (refused_by n q e a t) d =
    let f : refused n q ≡ refused 14 p = sym (ap (λ (z : Verdict). z then v) e) ∙ d in
    let n14 : n ≡ 14 = cc in
    absurd (true≢false (sym (subst (λ (z : ℕ). among z front_numbers ≡ true) n14 a)))

-- ---- the call

module _ (m t M col : ℕ) (self parity old : List ℕ) (work : ℕ) where
  abbrev s : Params
  s = params m t M col

  abbrev l : Interleavers
  l = interleavers (params m t M col) self parity

  abbrev n : ℕ
  n = order (params m t M col)

  abbrev A : ℕ → ℕ → ℕ
  A = system_entry (params m t M col) (interleavers (params m t M col) self parity)

  abbrev front : Verdict
  front = make_front m t M col self parity old work

  front-by_table : ByTable front_numbers (make_front m t M col self parity old work)
  unfolding make_front
  front-by_table =
      let v6 : Verdict = length_rule 6 work (make_work s) in
      by_table_then front_numbers (design_rules m t M col) (kit_lengths s self parity old then v6 then list_rule s l) (design-by_table front_numbers refl refl refl m t M col)
      (λ d. by_table_then front_numbers (kit_lengths s self parity old) (v6 then list_rule s l) (kit-fits-by_table front_numbers refl s self parity old)
      (λ e. by_table_then front_numbers v6 (list_rule s l) (length-by_table front_numbers refl 6 work (make_work s) (omega arith) (omega arith))
      (λ f. lists-by_table front_numbers s (design_limits m t M col d).order-high refl l)))

  verdict-is : (make_call m t M col self parity old work).verdict ≡ (make_front m t M col self parity old work then singular_rule s l)
  unfolding make_call make_verdict make_front
  verdict-is =
      made_by-verdict (make_verdict m t M col self parity old work) old (packed_matrix n (inverse_matrix n A))
      ∙ chain_then (design_rules m t M col ∷ kit_lengths s self parity old ∷ length_rule 6 work (make_work s) ∷ []) (list_rule s l) (singular_rule s l)

  design_ok : make_front m t M col self parity old work ≡ accepted → design_rules m t M col ≡ accepted
  unfolding make_front
  design_ok e = then_first (design_rules m t M col) (kit_lengths s self parity old then length_rule 6 work (make_work s) then list_rule s l) e

  system-bits : make_front m t M col self parity old work ≡ accepted → BitMatrix A
  system-bits e = system_entry-lt s l (proper_of (design_limits m t M col (design_ok e)))

  -- a call that is refused by 14
  by14 : (p : ℕ) → (make_call m t M col self parity old work).verdict ≡ refused 14 p → (front ≡ accepted) × (singular_rule s l ≡ refused 14 p)
  by14 p e = behind front (singular_rule s l) p front-by_table (sym verdict-is ∙ e)

  found : (p : ℕ) → (make_call m t M col self parity old work).verdict ≡ refused 14 p
      → (p < n) × (dependent n A p ≡ true) × ((k : ℕ) → k < p → dependent n A k ≡ false)
  unfolding singular_rule
  found p e = first-refused 14 n (dependent n A) 14 p (by14 p e).1

  some_place : front ≡ accepted → (singular_rule s l ≡ accepted → ⊥) → (p : ℕ) × ((make_call m t M col self parity old work).verdict ≡ refused 14 p)
  unfolding singular_rule
  some_place f h =
      let (p, e) = first-or 14 n (dependent n A) h in
      (p, verdict-is ∙ ap (λ (z : Verdict). z then refuse_first 14 0 n (dependent n A)) f ∙ e)

  pub maker-refuses : MakerRefuses m t M col self parity old work
  maker-refuses =
      record {
        precisely = λ f. (
          λ x w. let q = by14 x.0 x.1 in let a = (singular-none s l (system-bits f)).1 w in let b = q.1 in let z : ◌≡◌ {A = ℕ} 0 1 = cc in omega arith,
          λ none. some_place f (λ e. none ((singular-none s l (system-bits f)).0 e)),
        );
        front = λ p e. (by14 p e).0;
        column = λ p e.
            let (low, here, before) = found p e in
            (low, dependent_earlier n A p here, λ j h x. true≢false (sym (sum-dependent n A j x) ∙ before j h));
      }
