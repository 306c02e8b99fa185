-- The words come into the order of the stack, are multiplied, and come back.
use mathlib.Core.Path.{◌≡◌, sym, ap, ◌∙◌}
use Prim.Native.Nat.{◌-◌, ◌*◌}
use native.Mathlib.Nat.{mul_comm, mul-pos}
use native.Mathlib.Omega.{arith}
use lib.ListN.{length}
use Rattle.staircase.proofs.Tabulate.{tabulate-length}
use Rattle.staircase.proofs.Fill.{front_length}
use Rattle.encoder_solution.proofs.Solution.{stack-spare, stack-few, solution_made}
use Rattle.encoder_solution.proofs.solve_in.Goals as goal

pub multiply-requires : goal.multiply-requires
multiply-requires c =
    let a = c.args in
    let p = c.requires in
    let n = a.size * a.r in
    let y = c.transpose in
    let long : length y.new.to ≡ n - 0 = ap length y.ensures ∙ tabulate-length n _ ∙ omega arith in (
      p.0,
      p.7,
      omega (arith, mul-pos p.2 p.3),
      p.4,
      front_length y.new.to a.constants.now (n - 0) long (omega arith) ∙ p.5,
      stack-spare a.words.now a.constants.now y.new.to a.size a.r a.count p.3 p.6 y.ensures,
      stack-few a.words.now a.constants.now y.new.to a.size a.r a.count p.3 p.6 y.ensures p.9,
    )

pub returns : goal.returns
returns c =
    let a = c.args in
    let y = c.transpose in
    let m = c.multiply in
    let z = c.transpose-2 in
    solution_made a.inverse.now a.words.now a.constants.now y.new.to a.products.now m.new.products
    z.new.to a.size a.r a.count
    c.requires.2 c.requires.3 c.requires.6 c.requires.8 y.ensures m.ensures.1 z.ensures

pub transpose-requires-2 : goal.transpose-requires-2
transpose-requires-2 c =
    let a = c.args in
    let swap = mul_comm a.r a.size in
    (c.multiply.ensures.0 ∙ c.requires.7 ∙ sym swap, c.requires.1 ∙ sym swap, c.requires.2)
