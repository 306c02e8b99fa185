-- Rule 10 before rule 9: which answers change.
--   chain, chain_then   rules one after another, and another behind them
--   moved-of            two rules that change places behind a chain
--   bits-moved          rules 10 and 9 behind any others
--   order-moved         the claim, for every call of the encoder
--   batch-order-moved   for every call of the encoder of several frames
-- Assumes nothing.
use mathlib.Core.Path.{◌≡◌, refl, sym, ◌∙◌}
use mathlib.Core.Bool.{Bool, true, false}
use mathlib.Core.Logic.{◌≢◌, ◌↔◌}
use mathlib.Core.List.{List, [], ◌∷◌}
use Prim.Native.Nat.{ℕ, ◌+◌, ◌*◌}
use native.Mathlib.Omega.{arith}
use lib.Dec.{ltb}
use lib.ListN.{length, get_or}
use Rattle.staircase.specs.Lists.{first_where}
use Rattle.staircase.specs.Design.{Params, Interleavers, params, order}
use Rattle.staircase.specs.System.{system_entry, inverse_entry}
use Rattle.staircase.specs.Rules.{Verdict, ◌then◌, refuse, refuse_first, design_rules, count_rule, length_rule, kit_lengths, frame_lengths, kit_work, interleavers, list_rule, spare_rule, wrong_entry, inverse_rule, bit_rule, content_rules}
use Rattle.staircase.specs.Rules.Verdict.{accepted, refused}
use Rattle.staircase.specs.Calls.{encode_verdict}
use Rattle.staircase.specs.Batch.{batch_rule, batch_lengths, batch_verdict}
use Rattle.staircase.specs.OrderMoved.{Moved, front_rules, former_verdict, OrderMoved, batch_front, former_batch, BatchOrderMoved}

-- rules one after another, and u behind them
abbrev pub chain : List Verdict → Verdict → Verdict
chain [] u = u
chain (v ∷ vs) u = v then chain vs u

pub chain_then : (vs : List Verdict) (u x : Verdict) → chain vs (u then x) ≡ (chain vs u then x)
chain_then [] u x = refl
chain_then (accepted ∷ vs) u x = chain_then vs u x
chain_then (refused n p ∷ vs) u x = refl

-- two rules with other numbers, in either order
Swapped : Verdict → Verdict → Verdict → Type 0
Swapped u b i =
    (((u then b then i) ≢ (u then i then b)) ↔ ((u ≡ accepted) × (b ≢ accepted) × (i ≢ accepted)))
    × (((u then b then i) ≢ (u then i then b)) → ((u then i then b) ≡ i) × ((u then b then i) ≡ b))

swapped : (u b i : Verdict) → (b ≡ i → b ≡ accepted) → Swapped u b i
unfolding Swapped
swapped accepted accepted i d =
    ((λ n. absurd (n (right i)), λ x. absurd (x.1 refl)), λ n. absurd (n (right i)))
  where
    right : (i : Verdict) → i ≡ (i then accepted)
    right accepted = refl
    right (refused n p) = refl
swapped accepted (refused n p) accepted d = ((λ x. absurd (x refl), λ x. absurd (x.2 refl)), λ x. absurd (x refl))
swapped accepted (refused n p) (refused m q) d =
    ((λ x. (refl, other n p, other m q), λ x e. other n p (d e)), λ x. (refl, refl))
  where
    other : (n p : ℕ) → refused n p ≢ accepted
    other n p e = let z : ◌≡◌ {A = ℕ} 0 1 = cc in omega arith
swapped (refused m q) b i d = ((λ x. absurd (x refl), λ x. absurd (other m q x.0)), λ x. absurd (x refl))
  where
    other : (n p : ℕ) → refused n p ≢ accepted
    other n p e = let z : ◌≡◌ {A = ℕ} 0 1 = cc in omega arith

-- a refusal by rule 10 is none by rule 9
refuse-apart : (a b : Bool) (p q : ℕ) → refuse a 10 p ≡ refuse b 9 q → refuse a 10 p ≡ accepted
refuse-apart false b p q e = refl
refuse-apart true false p q e = e
refuse-apart true true p q e = let z : ◌≡◌ {A = ℕ} 10 9 = cc in absurd (omega arith)

first-apart : (a n : ℕ) (f : ℕ → Bool) (b k : ℕ) (g : ℕ → Bool) → refuse_first 10 a n f ≡ refuse_first 9 b k g → refuse_first 10 a n f ≡ accepted
unfolding refuse_first
first-apart a n f b k g e = refuse-apart (ltb (first_where n f) n) (ltb (first_where k g) k) (a + first_where n f) (b + first_where k g) e

-- rules 10 and 9, behind the rules vs and u
module _ (s : Params) (l : Interleavers) (w info : List ℕ) where
  apart : bit_rule 0 info ≡ inverse_rule s l w → bit_rule 0 info ≡ accepted
  unfolding bit_rule inverse_rule
  apart e =
      let n : ℕ = order s in
      first-apart 0 (length info) (λ k. ltb 1 (get_or info k 0)) 0 (n * n) (wrong_entry n (system_entry s l) (inverse_entry w n)) e

  pub bits-moved : (vs : List Verdict) (u : Verdict)
      → Moved (chain vs u) (bit_rule 0 info) (inverse_rule s l w) (chain vs (u then bit_rule 0 info then inverse_rule s l w))
      (chain vs u then inverse_rule s l w then bit_rule 0 info)
  unfolding Swapped
  bits-moved vs u =
      let b : Verdict = bit_rule 0 info in
      let i : Verdict = inverse_rule s l w in
      let x : Swapped (chain vs u) b i = swapped (chain vs u) b i apart in
      let same : chain vs (u then b then i) ≡ (chain vs u then b then i) = chain_then vs u (b then i) in
      record {
        where_changed = ((λ n. x.0.0 (λ e. n (same ∙ e))), (λ y e. x.0.1 y (sym same ∙ e)));
        changed = λ n. let z = x.1 (λ e. n (same ∙ e)) in (z.0, same ∙ z.1);
      }

module _ (m t M col L : ℕ) (self parity w info red : List ℕ) (work : ℕ) where
  abbrev s : Params
  s = params m t M col

  abbrev l : Interleavers
  l = interleavers (params m t M col) self parity

  pub order-moved : OrderMoved m t M col L self parity w info red work
  unfolding encode_verdict content_rules former_verdict front_rules
  order-moved =
      bits-moved s l w info
      (design_rules m t M col ∷ count_rule L ∷ kit_lengths s self parity w ∷ frame_lengths s L info red ∷ length_rule 6 work (kit_work s) ∷ list_rule s l ∷ []) (spare_rule s w)

  pub batch-order-moved : (n : ℕ) → BatchOrderMoved m t M col L n self parity w info red work
  unfolding batch_verdict content_rules former_batch batch_front
  batch-order-moved n =
      bits-moved s l w info
      (design_rules m t M col ∷ count_rule L ∷ batch_rule n ∷ kit_lengths s self parity w ∷ batch_lengths s L n info red ∷ length_rule 6 work (kit_work s) ∷ list_rule s l ∷ [])
      (spare_rule s w)
