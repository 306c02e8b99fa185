use mathlib.Core.Path.{◌≡◌, subst}
use Prim.Native.Nat.{ℕ}
use native.Mathlib.Omega.{arith}
use Rattle.original.proofs.Rules.{degree_some, degree_of}
use Rattle.design.specs.Sizes.{params_of}
use Rattle.original_encoder.proofs.Blocks.{Done, done_next, done_all}
use Rattle.original_encoder.proofs.encode_blocks.Goals as goal

pub loop-b-preserved : goal.loop-b-preserved
loop-b-preserved c =
    let a = c.args in
    let p = c.requires in
    let d = p.0.allowed in
    let l = c.loop-b in
    done_next (params_of a.d) (degree_some d) d.thin (degree_of d) a.blocks a.buffer.now p.0.long p.0.bits p.3 l.b (omega arith) l.buffer _ l.invariant
    c.encode_block.ensures.0

pub returns : goal.returns
returns c =
    let a = c.args in
    let p = c.requires in
    let d = p.0.allowed in
    let l = c.loop-b in
    let e : l.b ≡ a.blocks = omega arith in
    done_all (params_of a.d) (degree_some d) d.thin (degree_of d) a.blocks a.buffer.now p.0.long p.0.bits p.3 l.buffer
    (subst (λ (n : ℕ). Done (params_of a.d) a.buffer.now n l.buffer) e l.invariant)
