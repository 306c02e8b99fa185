-- The last state as the host is told it, and the bits.
use mathlib.Core.Path.{ap, ◌∙◌}
use mathlib.Core.List.{[], ◌∷◌}
use Prim.Native.Nat.{ℕ}
use Rattle.rules_verdict.specs.Number.{told}
use Rattle.bauchleton.proofs.buffers.bauchleton_load_fill_buffer.Goals as goal

pub returns : goal.returns
returns c =
    let f = c.fill_buffer-last.ensures in
    let t = c.tell.ensures in
    (t.0, f.0, t.1 ∙ ap (λ (n : ℕ). told (0 ∷ n ∷ []) c.args.answer.now) (c.from.ensures ∙ f.1))
