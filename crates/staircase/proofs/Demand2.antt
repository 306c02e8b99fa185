-- Demand 2: of an allowed design, with slices of the right lengths, the kit checker accepts exactly the kits of the rule.
--   kit-passes   rules 7 to 9 accept a kit exactly when it passes by the rule
--   demand2      the theorem, over the kit checker's verdict
-- Assumes nothing.
use mathlib.Core.Path.{◌≡◌, refl}
use mathlib.Core.Logic.{◌↔◌}
use mathlib.Core.List.{List}
use Prim.Native.Nat.{ℕ, ◌*◌, ◌<◌}
use native.Mathlib.Omega.{arith}
use Rattle.staircase.specs.Design.{Params, Interleavers, params, order}
use Rattle.staircase.specs.System.{system_entry, inverse_entry}
use Rattle.staircase.specs.Rules.{Verdict, ◌then◌, refuse_first, design_rules, length_rule, kit_lengths, kit_work, interleavers, list_rule, spare_row, spare_rule, wrong_entry, inverse_rule, kit_rules}
use Rattle.staircase.specs.Rules.Verdict.{accepted}
use Rattle.staircase.specs.Calls.{kit_verdict}
use Rattle.staircase.specs.Demand2.{KitPasses, FitsOrder}
use Rattle.staircase.proofs.System.{Proper, order-positive, system_entry-lt}
use Rattle.staircase.specs.Square.{Inverts}
use Rattle.staircase.proofs.Square.{other_order}
use Rattle.staircase.proofs.BchCode.{proper_of}
use Rattle.staircase.proofs.Rules.{then_first, then_rest, then_accepted, refuse_first-false, refuse_first-accepted, length-accepted, design_limits, lengths_accepted, lists_permute, permute_lists, spare-zero, zero-spare, product-identity, identity-product}

module _ (s : Params) (l : Interleavers) (w : List ℕ) where
  abbrev n : ℕ
  n = order s

  entry-bit : (i j : ℕ) → inverse_entry w n i j < 2
  unfolding inverse_entry
  entry-bit i j = omega arith

  passes : Proper s → kit_rules s l w ≡ accepted → KitPasses s l w
  unfolding kit_rules spare_rule inverse_rule
  passes ok e =
      let lists = lists_permute s l (then_first (list_rule s l) (spare_rule s w then inverse_rule s l w) e) in
      let rest : (spare_rule s w then inverse_rule s l w) ≡ accepted = then_rest (list_rule s l) (spare_rule s w then inverse_rule s l w) e in
      let right : Inverts n (system_entry s l) (inverse_entry w n) =
      product-identity n (system_entry s l) (inverse_entry w n)
      (refuse_first-false 9 0 (n * n) (wrong_entry n (system_entry s l) (inverse_entry w n)) (then_rest (spare_rule s w) (inverse_rule s l w) rest))
      in
      record {
        self = lists.0;
        parity = lists.1;
        spare = λ i j hi. spare-zero w n i (refuse_first-false 8 0 n (spare_row w n) (then_first (spare_rule s w) (inverse_rule s l w) rest) i hi) j;
        right_inverse = right;
        left_inverse = other_order n (system_entry s l) (inverse_entry w n) (system_entry-lt s l ok) entry-bit right;
      }

  accepts : Proper s → KitPasses s l w → kit_rules s l w ≡ accepted
  unfolding kit_rules spare_rule inverse_rule
  accepts ok k =
      then_accepted (permute_lists s l k.self k.parity)
      (then_accepted
      (refuse_first-accepted 8 0 n (spare_row w n) (λ i hi. zero-spare w n i (λ j. k.spare i j hi)))
      (refuse_first-accepted 9 0 (n * n) (wrong_entry n (system_entry s l) (inverse_entry w n)) (identity-product n (system_entry s l) (inverse_entry w n) (order-positive s ok) k.right_inverse)))

  pub kit-passes : Proper s → (kit_rules s l w ≡ accepted) ↔ KitPasses s l w
  kit-passes ok = (passes ok, accepts ok)

module _ (m t M col : ℕ) (self parity w : List ℕ) where
  abbrev s : Params
  s = params m t M col

  pub demand2 : design_rules m t M col ≡ accepted → FitsOrder (order (params m t M col)) self parity w
      → (kit_verdict m t M col self parity w (kit_work (params m t M col)) ≡ accepted) ↔ KitPasses (params m t M col) (interleavers (params m t M col) self parity) w
  unfolding kit_verdict
  demand2 d k =
      let l : Interleavers = interleavers s self parity in
      let v6 : Verdict = length_rule 6 (kit_work s) (kit_work s) in
      let both = kit-passes s l w (proper_of (design_limits m t M col d)) in (
        λ e. both.0
            (then_rest v6 (kit_rules s l w)
            (then_rest (kit_lengths s self parity w) (v6 then kit_rules s l w) (then_rest (design_rules m t M col) (kit_lengths s self parity w then v6 then kit_rules s l w) e))),
        λ q. then_accepted d
            (then_accepted (lengths_accepted s self parity w k) (then_accepted (length-accepted 6 (kit_work s) (kit_work s) refl) (both.1 q))),
      )

-- "the second half of rule 9 .. is then known never to occur": where A W is the identity, W A has no wrong entry
pub second_never : (s : Params) (l : Interleavers) (w : List ℕ) → Proper s → inverse_rule s l w ≡ accepted
    → refuse_first 9 (order s * order s) (order s * order s) (wrong_entry (order s) (inverse_entry w (order s)) (system_entry s l)) ≡ accepted
unfolding inverse_rule
second_never s l w ok e =
    let n : ℕ = order s in
    refuse_first-accepted 9 (n * n) (n * n) (wrong_entry n (inverse_entry w n) (system_entry s l))
    (identity-product n (inverse_entry w n) (system_entry s l) (order-positive s ok)
    (other_order n (system_entry s l) (inverse_entry w n) (system_entry-lt s l ok) (entry-bit s l w)
    (product-identity n (system_entry s l) (inverse_entry w n) (refuse_first-false 9 0 (n * n) (wrong_entry n (system_entry s l) (inverse_entry w n)) e))))
