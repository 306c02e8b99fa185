-- The maker of a kit's inverse: what it makes passes the kit checker, it refuses for want of an inverse exactly when there is none, and it makes the
-- only inverse.
--   inverse-bits, entry-bit                     the entries of the inverse are bits, and those of packed rows
--   made_by-verdict, made-verdict                the call's verdict; that of rule 14 alone, for buffers of its lengths and permutations
--   singular-none                               rule 14
--   made-passes                                 a made kit passes the checker
--   made-only                                   a kit that passes is the made one
-- Assumes nothing.
use mathlib.Core.Path.{◌≡◌, refl, ap, ◌∙◌}
use mathlib.Core.Logic.{◌↔◌}
use mathlib.Core.List.{List}
use Prim.Native.Nat.{ℕ, ◌*◌, ◌^◌, ◌<◌}
use native.Mathlib.Omega.{arith}
use lib.ListN.{get_or}
use Rattle.staircase.specs.Lists.{first_where}
use Rattle.staircase.specs.Design.{Params, Interleavers, params, order}
use Rattle.staircase.specs.System.{system_entry, inverse_entry, product, identity}
use Rattle.staircase.specs.Square.{BitMatrix, Inverts, sends_to, dependent, inverse_matrix, packed_matrix}
use Rattle.staircase.specs.Rules.{Verdict, ◌then◌, design_rules, length_rule, kit_lengths, kit_work, interleavers, list_rule}
use Rattle.staircase.specs.Rules.Verdict.{accepted, refused}
use Rattle.staircase.specs.Calls.{kit_verdict}
use Rattle.staircase.specs.Demand2.{KitPasses, FitsOrder}
use Rattle.staircase.specs.Maker.{make_work, singular_rule, make_verdict, made_by, make_call}
use Rattle.staircase.proofs.Matrix.{sum_bits-same}
use Rattle.staircase.proofs.Square.{digit-bit, other_order}
use Rattle.staircase.proofs.Columns.{independent_inverse, inverse_independent, inverse-is}
use Rattle.staircase.proofs.System.{Proper, order-positive, system_entry-lt}
use Rattle.staircase.proofs.BchCode.{proper_of}
use Rattle.staircase.proofs.Rules.{then_first, then_rest, refuse_first-false, refuse_first-accepted, design_limits, length-accepted, lengths_fit, lengths_accepted, lists_permute}
use Rattle.staircase.proofs.Demand2.{demand2}
use Rattle.staircase.proofs.Packed.{packed-length, packed-entry, packed-spare, packed-only}

-- ---- rule 14

pub inverse-bits : (n : ℕ) (a : ℕ → ℕ → ℕ) → BitMatrix (inverse_matrix n a)
unfolding inverse_matrix
inverse-bits n a i j = digit-bit (first_where (2 ^ n) (sends_to n n a (λ k. identity k j))) i

pub entry-bit : (u : List ℕ) (n i j : ℕ) → inverse_entry u n i j < 2
unfolding inverse_entry
entry-bit u n i j = omega arith

product-same : (n : ℕ) (a u w : ℕ → ℕ → ℕ) → ((i j : ℕ) → i < n → j < n → u i j ≡ w i j) → (i j : ℕ) → j < n → product n a u i j ≡ product n a w i j
unfolding product
product-same n a u w h i j hj = sum_bits-same n (λ k. a i k * u k j) (λ k. a i k * w k j) (λ k m. ap (λ (z : ℕ). a i k * z) (h k j m hj))

module _ (s : Params) (l : Interleavers) (ha : BitMatrix (system_entry s l)) where
  rule_inverse : singular_rule s l ≡ accepted → Inverts (order s) (system_entry s l) (inverse_matrix (order s) (system_entry s l))
  unfolding singular_rule
  rule_inverse e = independent_inverse (order s) (system_entry s l) ha (refuse_first-false 14 0 (order s) (dependent (order s) (system_entry s l)) e)

  -- "The maker refuses for want of an inverse precisely when A has none"
  pub singular-none : (singular_rule s l ≡ accepted)
      ↔ ((w : ℕ → ℕ → ℕ) × BitMatrix w × Inverts (order s) (system_entry s l) w × Inverts (order s) w (system_entry s l))
  unfolding singular_rule
  singular-none = (
    λ e. (
      inverse_matrix (order s) (system_entry s l),
      inverse-bits (order s) (system_entry s l),
      rule_inverse e,
      other_order (order s) (system_entry s l) (inverse_matrix (order s) (system_entry s l)) ha (inverse-bits (order s) (system_entry s l)) (rule_inverse e),
    ),
    λ t. refuse_first-accepted 14 0 (order s) (dependent (order s) (system_entry s l)) (inverse_independent (order s) (system_entry s l) t.0 ha t.1 t.2),
  )

-- ---- the call

pub made_by-verdict : (v : Verdict) (old new : List ℕ) → (made_by v old new).verdict ≡ v
made_by-verdict accepted old new = refl
made_by-verdict (refused n p) old new = refl

module _ (m t M col : ℕ) (self parity old : List ℕ) (work : ℕ) where
  abbrev s : Params
  s = params m t M col

  abbrev l : Interleavers
  l = interleavers (params m t M col) self parity

  abbrev new : List ℕ
  new = packed_matrix (order s) (inverse_matrix (order s) (system_entry s l))

  abbrev v6 : Verdict
  v6 = length_rule 6 work (make_work s)

  module _ (e : make_verdict m t M col self parity old work ≡ accepted) where
    design_ok : design_rules m t M col ≡ accepted
    unfolding make_verdict
    design_ok = then_first (design_rules m t M col) (kit_lengths s self parity old then v6 then list_rule s l then singular_rule s l) e

    rest : (kit_lengths s self parity old then v6 then list_rule s l then singular_rule s l) ≡ accepted
    unfolding make_verdict
    rest = then_rest (design_rules m t M col) (kit_lengths s self parity old then v6 then list_rule s l then singular_rule s l) e

    contents : (list_rule s l then singular_rule s l) ≡ accepted
    contents = then_rest v6 (list_rule s l then singular_rule s l) (then_rest (kit_lengths s self parity old) (v6 then list_rule s l then singular_rule s l) rest)

    passes : KitPasses s l new
    passes =
        let ok : Proper s = proper_of (design_limits m t M col design_ok) in
        let lists = lists_permute s l (then_first (list_rule s l) (singular_rule s l) contents) in
        let ha : BitMatrix (system_entry s l) = system_entry-lt s l ok in
        let n : ℕ = order s in
        let a : ℕ → ℕ → ℕ = system_entry s l in
        let hw : BitMatrix (inverse_matrix n a) = inverse-bits n a in
        let right : Inverts n a (inverse_entry new n) = λ i j hi hj.
        product-same n a (inverse_entry new n) (inverse_matrix n a) (packed-entry n (inverse_matrix n a) hw) i j hj
        ∙ rule_inverse s l ha (then_rest (list_rule s l) (singular_rule s l) contents) i j hi hj in
        record {
          self = lists.0;
          parity = lists.1;
          spare = packed-spare n (inverse_matrix n a) hw;
          right_inverse = right;
          left_inverse = other_order n a (inverse_entry new n) ha (entry-bit new n) right;
        }

    fits : FitsOrder (order s) self parity new
    fits =
        let k = lengths_fit s self parity old (then_first (kit_lengths s self parity old) (v6 then list_rule s l then singular_rule s l) rest) in
        record {
          self_length = k.self_length;
          parity_length = k.parity_length;
          inverse_length = packed-length (order s) (inverse_matrix (order s) (system_entry s l)) (inverse-bits (order s) (system_entry s l));
        }

    -- "A made kit passes the checker"
    pub made-passes : kit_verdict m t M col self parity (make_call m t M col self parity old work).inverse (kit_work (params m t M col)) ≡ accepted
    unfolding make_call
    made-passes =
        ap (λ (z : Verdict). kit_verdict m t M col self parity (made_by z old new).inverse (kit_work s)) e
        ∙ (demand2 m t M col self parity new design_ok fits).1 passes

  -- lists that are permutations can be refused by rule 14 alone
  pub made-verdict : design_rules m t M col ≡ accepted → FitsOrder (order (params m t M col)) self parity old → work ≡ make_work (params m t M col)
      → list_rule (params m t M col) (interleavers (params m t M col) self parity) ≡ accepted
      → (make_call m t M col self parity old work).verdict ≡ singular_rule (params m t M col) (interleavers (params m t M col) self parity)
  unfolding make_call make_verdict
  made-verdict d fit long lists =
      made_by-verdict (make_verdict m t M col self parity old work) old new
      ∙ ap (λ (z : Verdict). z then kit_lengths s self parity old then v6 then list_rule s l then singular_rule s l) d
      ∙ ap (λ (z : Verdict). z then v6 then list_rule s l then singular_rule s l) (lengths_accepted s self parity old fit)
      ∙ ap (λ (z : Verdict). z then list_rule s l then singular_rule s l) (length-accepted 6 work (make_work s) long)
      ∙ ap (λ (z : Verdict). z then singular_rule s l) lists

  -- the inverse of a kit that passes is the one that is made
  pub made-only : (w : List ℕ) → ((k : ℕ) → get_or w k 0 < 256) → design_rules m t M col ≡ accepted → FitsOrder (order (params m t M col)) self parity w
      → KitPasses (params m t M col) (interleavers (params m t M col) self parity) w
      → w ≡ packed_matrix (order (params m t M col)) (inverse_matrix (order (params m t M col)) (system_entry (params m t M col) (interleavers (params m t M col) self parity)))
  made-only w bytes d f k =
      let ok : Proper s = proper_of (design_limits m t M col d) in
      let n : ℕ = order s in
      let a : ℕ → ℕ → ℕ = system_entry s l in
      let ha : BitMatrix a = system_entry-lt s l ok in
      packed-only n (inverse_matrix n a) (inverse-bits n a) (order-positive s ok) w f.inverse_length bytes
      (inverse-is n a (inverse_entry w n) ha (entry-bit w n) k.right_inverse) k.spare
