-- Laws of the names of the rules.
--   past                   a number that is none of the first k, and not k
--   name_told, name_none   what is answered and left for a rule's number, and for one that no rule has
-- Assumes nothing.
use mathlib.Core.Path.{◌≡◌, sym, ap, ◌∙◌}
use mathlib.Core.Logic.{◌≢◌}
use mathlib.Core.List.{List, []}
use Prim.Native.Nat.{ℕ, suc, ◌≤◌, zero-le}
use native.Mathlib.Omega.{arith}
use lib.ListN.{length, get_or-eq_default}
use borrow.Author.Tests.{le-leb}
use Rattle.bauchleton.specs.Answers.{pasted}
use Rattle.bauchleton.specs.RuleNames.{rule_names, rule_name}

pub past : {n k : ℕ} → k ≤ n → n ≢ k → suc k ≤ n
past h g = omega (arith, h, g)

pub name_told : (name out : List ℕ) {rule k a : ℕ} {left : List ℕ} → rule ≡ k → name ≡ rule_name k → (a ≡ length name) × (left ≡ pasted name out)
    → (a ≡ length (rule_name rule)) × (left ≡ pasted (rule_name rule) out)
name_told name out e h (n, l) =
    let same : name ≡ rule_name _ = h ∙ ap rule_name (sym e) in (n ∙ ap length same, l ∙ ap (λ (z : List ℕ). pasted z out) same)

nothing-pasted : (out : List ℕ) → out ≡ pasted [] out
unfolding pasted
nothing-pasted out = rw (le-leb 0 (length out) zero-le)

pub name_none : (rule : ℕ) (out : List ℕ) → 20 ≤ rule → (0 ≡ length (rule_name rule)) × (out ≡ pasted (rule_name rule) out)
unfolding rule_name
name_none rule out h =
    let e : [] ≡ rule_name rule = sym (get_or-eq_default rule_names [] {n = rule} h) in
    (ap length e, nothing-pasted out ∙ ap (λ (z : List ℕ). pasted z out) e)
