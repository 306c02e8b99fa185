-- The rules of original staircase frames: what they let through, and demand 1 of the calls.
--   original_limits             a design that rules 1, 2 and 19 let through
--   degree_some, degree_of, distance_of   its code
--   info_bits-bits, bits-info_bits          rule 10 over the information
-- Assumes nothing.
use mathlib.Core.Path.{◌≡◌, sym, ap, ◌∙◌}
use mathlib.Core.Bool.{Bool, false, cond}
use mathlib.Core.List.{List}
use Prim.Native.Nat.{ℕ, ◌-◌, ◌*◌, ◌/◌, ◌%◌, ◌^◌, ◌<◌}
use native.Mathlib.Decide.{dec_lt}
use native.Mathlib.Omega.{arith}
use lib.Dec.{ltb, leb}
use lib.ListN.{length, get_or, get_or-eq_default}
use borrow.Author.Tests.{lt-ltb, le-ltb, ltb-false, leb-false}
use Rattle.bch.specs.Code.{generator}
use Rattle.bch.proofs.Bch.{Code, degree, degree_positive}
use Rattle.staircase.specs.Design.{Params, params}
use Rattle.staircase.specs.Rules.{◌then◌, size_rule}
use Rattle.staircase.specs.Rules.Verdict.{accepted}
use Rattle.original.specs.Rules.{row_length, row_long_rule, thin_rule, original_rules, in_information, info_bits, Original}
use Rattle.original.specs.Demand.{InfoBits}
use Rattle.staircase.proofs.Rules.{then_first, then_rest, refuse-false, refuse_first-false, refuse_first-accepted, size_limits}
use Rattle.staircase.proofs.Correction.{CodeDistance}
use Rattle.original.proofs.Rows.{row_distance}

pub original_limits : (m t M col : ℕ) → original_rules m t M col ≡ accepted → Original m t M col
unfolding original_rules row_long_rule thin_rule
original_limits m t M col e =
    let s : Params = params m t M col in
    let rest : (row_long_rule m s then thin_rule s) ≡ accepted = then_rest (size_rule m t M col) (row_long_rule m s then thin_rule s) e in
    let (a, b, c, d, f, g, h) = size_limits m t M col (then_first (size_rule m t M col) (row_long_rule m s then thin_rule s) e) in
    record {
      m-low = a;
      m-high = b;
      t-low = c;
      t-high = d;
      M-high = g;
      col-high = h;
      long = ltb-false (2 ^ m - 1) (row_length s) (refuse-false (ltb (2 ^ m - 1) (row_length s)) 2 (row_length s) (then_first (row_long_rule m s) (thin_rule s) rest));
      thin = leb-false M s.r (refuse-false (leb M s.r) 19 s.r (then_rest (row_long_rule m s) (thin_rule s) rest));
    }

module _ {m t M col : ℕ} (d : Original m t M col) where
  code_of : Code m t
  code_of =
      record { m-low = d.m-low; m-high = d.m-high; t-low = d.t-low; t-high = d.t-high; fits = let a = d.long in let b = d.thin in omega (arith, a, b) }

  pub degree_some : 0 < m * t
  degree_some = degree_positive m t code_of

  pub degree_of : generator m t / 2 ^ (m * t) ≡ 1
  degree_of = degree m t code_of

  pub distance_of : CodeDistance (params m t M col) (2 * M)
  distance_of = row_distance m t M col d.m-low d.m-high d.t-low d.t-high d.thin d.long

-- "the encoder doesn't judge old parity by rule 10"
pub info_bits-bits : (s : Params) (l : List ℕ) → info_bits s l ≡ accepted → InfoBits s l
unfolding info_bits
info_bits-bits s l e k c = go (dec_lt k (length l))
  where
    go : Dec (k < length l) → get_or l k 0 < 2
    go (yes h) =
        let z : cond (in_information s k) (ltb 1 (get_or l k 0)) false ≡ false =
        refuse_first-false 10 0 (length l) (λ j. cond (in_information s j) (ltb 1 (get_or l j 0)) false) e k h in
        let y : ltb 1 (get_or l k 0) ≡ false = ap (λ (b : Bool). cond b (ltb 1 (get_or l k 0)) false) (sym (lt-ltb (k % s.M) (s.M - s.r) c)) ∙ z in
        omega (arith, ltb-false 1 (get_or l k 0) y)
    go (no h) = let z : get_or l k 0 ≡ 0 = get_or-eq_default l 0 (omega (arith, h)) in omega (arith, z)

pub bits-info_bits : (s : Params) (l : List ℕ) → InfoBits s l → info_bits s l ≡ accepted
unfolding info_bits
bits-info_bits s l bits = refuse_first-accepted 10 0 (length l) (λ k. cond (in_information s k) (ltb 1 (get_or l k 0)) false) (λ k h. go k (dec_lt (k % s.M) (s.M - s.r)))
  where
    go : (k : ℕ) → Dec (k % s.M < s.M - s.r) → cond (in_information s k) (ltb 1 (get_or l k 0)) false ≡ false
    go k (yes c) =
        ap (λ (b : Bool). cond b (ltb 1 (get_or l k 0)) false) (lt-ltb (k % s.M) (s.M - s.r) c) ∙ le-ltb 1 (get_or l k 0) (let z = bits k c in omega (arith, z))
    go k (no c) = ap (λ (b : Bool). cond b (ltb 1 (get_or l k 0)) false) (le-ltb (k % s.M) (s.M - s.r) (omega (arith, c)))
