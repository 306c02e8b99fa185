-- The list's entry is a place of Y or P, and its place in the stack is below n.
use mathlib.Core.Path.{◌≡◌, ap, ◌∙◌}
use mathlib.Core.List.{List}
use Prim.Native.Nat.{ℕ, ◌+◌, ◌*◌, ◌<◌}
use native.Mathlib.Omega.{arith}
use lib.ListN.{get_or}
use Rattle.staircase.specs.Rules.{entries}
use Rattle.rules.proofs.Entries.{entry-at}
use Rattle.kit_system.specs.Rows.{stack_of}
use Rattle.kit_system.proofs.Terms.{stack_of-below}
use Rattle.staircase.proofs.Bounds.{place_below}
use Rattle.kit_system.proofs.sent.Goals as goal

entry-is : (list : List ℕ) (n size r b a y : ℕ) → n ≡ size * r → b < r → a < size → ((q : ℕ) → q < n → get_or (entries n list) q 0 < n)
    → y ≡ get_or list (2 * (b * size + a)) 0 + 256 * get_or list (2 * (b * size + a) + 1) 0
    → (y ≡ get_or (entries n list) (b * size + a) 0) × (stack_of size r y < n)
entry-is list n size r b a y d hb ha small e =
    let p : b * size + a < n = omega (arith, place_below size r b a hb ha) in
    let i : y ≡ get_or (entries n list) (b * size + a) 0 = e ∙ entry-at n list (b * size + a) p in
    (i, omega (arith, stack_of-below size r y (omega arith) (omega (arith, small (b * size + a) p))))

pub returns : goal.returns
returns c =
    let a = c.args in
    let h = c.requires in
    let z = entry-is a.list.now a.n a.size a.r a.b a.a _ h.0 h.1 h.2 h.5 c.entry-y.ensures.0 in
    (ap (stack_of a.size a.r) z.0, z.1)
