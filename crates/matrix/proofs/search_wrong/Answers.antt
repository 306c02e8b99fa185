use mathlib.Core.Path.{◌≡◌, sym, ◌∙◌}
use mathlib.Core.Bool.{true, false}
use mathlib.Core.List.{List}
use Prim.Native.Nat.{ℕ, ◌%◌}
use native.Mathlib.Omega.{arith}
use borrow.Author.Tests.{eq-eqb, ne_eqb}
use lib.Count.{ones}
use lib.ListN.{length, get_or}
use Rattle.staircase.specs.System.{identity}
use Rattle.staircase.proofs.Search.{first_where-is, first_where-none}
use Rattle.matrix.proofs.Wrong.{wrong_at}
use Rattle.matrix.proofs.search_wrong.Goals as goal

is-wrong : (acc : List ℕ) (e x u : ℕ) → u ≡ identity e x → (ones (get_or acc x 0) % 2 ≡ u → ⊥) → wrong_at acc e x ≡ true
is-wrong acc e x u q h = rw (ne_eqb (ones (get_or acc x 0) % 2) (identity e x) (λ z. h (z ∙ sym q)))

is_right : (acc : List ℕ) (e x u : ℕ) → u ≡ identity e x → ones (get_or acc x 0) % 2 ≡ u → wrong_at acc e x ≡ false
is_right acc e x u q h = rw (eq-eqb (ones (get_or acc x 0) % 2) (identity e x) (h ∙ q))

pub returns-then-odd-identity_entry : goal.returns-then-odd-identity_entry
returns-then-odd-identity_entry c =
    let a = c.args in
    let l = c.loop-x in
    sym
    (first_where-is _ (wrong_at a.acc.now a.e) l.x (omega arith)
    (is-wrong a.acc.now a.e l.x _ c.identity_entry.ensures c.if-odd-identity_entry.true) l.invariant)

pub returns : goal.returns
returns c =
    let a = c.args in
    let l = c.loop-x in
    let e : l.x ≡ length a.acc.now = omega arith in
    sym (first_where-none _ (wrong_at a.acc.now a.e) (rw e at l.invariant))
