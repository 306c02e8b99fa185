-- The call for mixed lists: what an accepted one leaves.
--   mixed_by-verdict   its verdict
--   mixed-left        its buffers are the mixed lists of the seed, with what holds of these
-- Assumes nothing.
use mathlib.Core.Path.{◌≡◌, refl, sym, ap, ap₂, ◌∙◌, subst}
use mathlib.Core.List.{List}
use Prim.Native.Nat.{ℕ, ◌<◌}
use native.Mathlib.Omega.{arith}
use lib.ListN.{length}
use Rattle.staircase.specs.Design.{Params, Limits, params, order}
use Rattle.staircase.specs.Rules.{Verdict, interleavers, list_rule}
use Rattle.staircase.specs.Rules.Verdict.{accepted, refused}
use Rattle.staircase.specs.Maker.{make_work, singular_rule, make_verdict, make_call}
use Rattle.staircase.specs.Spread.{list_bytes, spread_verdict, Apart}
use Rattle.staircase.specs.Mixed.{mixed_to, after_list, mixed, mixed_by, mixed_call, MixedLeft}
use Rattle.staircase.proofs.System.{Proper}
use Rattle.staircase.proofs.BchCode.{proper_of}
use Rattle.staircase.proofs.Maker.{made_by-verdict, made-verdict, made-passes}
use Rattle.staircase.proofs.SpreadCall.{bytes-length, bytes-entries, spread-design, spread_limits, spread-wide}
use Rattle.staircase.proofs.Mixed.{mixed-lt, mixed-lists, mixed-apart}

pub mixed_by-verdict : (v : Verdict) (s : Params) (seed : ℕ) (self parity : List ℕ) → (mixed_by v s seed self parity).verdict ≡ v
mixed_by-verdict accepted s seed self parity = refl
mixed_by-verdict (refused n p) s seed self parity = refl

module _ (m t M col seed : ℕ) (self parity : List ℕ) (e : (mixed_call m t M col seed self parity).verdict ≡ accepted) where
  abbrev s : Params
  s = params m t M col

  abbrev own : List ℕ
  own = (mixed_call m t M col seed self parity).self

  abbrev par : List ℕ
  par = (mixed_call m t M col seed self parity).parity

  passed : spread_verdict m t M col self parity ≡ accepted
  unfolding mixed_call
  passed = sym (mixed_by-verdict (spread_verdict m t M col self parity) s seed self parity) ∙ e

  limits : Limits m t M col
  limits = spread_limits m t M col self parity passed

  ok : Proper s
  ok = proper_of limits

  left-self : own ≡ list_bytes (order s) (mixed_to s 0 seed)
  unfolding mixed_call
  left-self = ap (λ (z : Verdict). (mixed_by z s seed self parity).self) passed

  left-parity : par ≡ list_bytes (order s) (mixed_to s s.r (after_list s seed))
  unfolding mixed_call
  left-parity = ap (λ (z : Verdict). (mixed_by z s seed self parity).parity) passed

  mixed-small : (by state p : ℕ) → p < order s → mixed_to s by state p < 65536
  mixed-small by state p h = omega (arith, mixed-lt s ok state by p h, limits.order-high)

  left-lists : interleavers s own par ≡ mixed s seed
  unfolding mixed
  left-lists =
      ap₂ (λ (x y : List ℕ). interleavers s x y) left-self left-parity
      ∙ ap₂ (λ (x y : List ℕ). record { self = x; parity = y }) (bytes-entries (order s) (mixed_to s 0 seed) (mixed-small 0 seed))
      (bytes-entries (order s) (mixed_to s s.r (after_list s seed)) (mixed-small s.r (after_list s seed)))

  passes : list_rule s (interleavers s own par) ≡ accepted
  passes = ap (list_rule s) left-lists ∙ mixed-lists s ok seed

  made : (old : List ℕ) (work : ℕ) → (make_call m t M col own par old work).verdict ≡ accepted → make_verdict m t M col own par old work ≡ accepted
  unfolding make_call
  made old work h = sym (made_by-verdict (make_verdict m t M col own par old work) old _) ∙ h

  pub mixed-left : MixedLeft m t M col seed self parity
  mixed-left = record {
    lists = left-lists;
    apart = subst (Apart s) (sym left-lists) (mixed-apart s ok seed (spread-wide m t M col self parity passed));
    pass = passes;
    maker = λ old long.
        made-verdict m t M col own par old (make_work s) (spread-design m t M col self parity passed)
        record {
          self_length = ap length left-self ∙ bytes-length (order s) (mixed_to s 0 seed);
          parity_length = ap length left-parity ∙ bytes-length (order s) (mixed_to s s.r (after_list s seed));
          inverse_length = long;
        }
        refl passes
        ∙ ap (singular_rule s) left-lists;
    kit = λ old work h. made-passes m t M col own par old work (made old work h);
  }
