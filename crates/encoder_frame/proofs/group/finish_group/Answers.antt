-- Y is filled, read again for what it adds to the remainders, and their digits are added to P.
use mathlib.Core.Path.{sym, ap, ◌∙◌, subst⁻¹}
use mathlib.Core.List.{◌++◌}
use Prim.Native.Nat.{◌-◌, ◌*◌}
use native.Mathlib.Omega.{arith}
use lib.ListN.{length, take, drop, replicate}
use Rattle.bch.specs.Polynomial.{Bits}
use Rattle.staircase.proofs.Tabulate.{tabulate-length}
use Rattle.words_positions.proofs.Parts.{part-is}
use Rattle.words_blocks.proofs.Sums.{part_length}
use Rattle.encoder_solution.proofs.Stack.{parity-binary}
use Rattle.encoder_solution.proofs.Solution.{zeros-part}
use Rattle.encoder_frame.proofs.Finish.{front_half, behind-length, behind-bits, finished_made}
use Rattle.encoder_frame.proofs.group.finish_group.Goals as goal

pub add_rows-requires : goal.add_rows-requires
add_rows-requires c =
    let a = c.args in
    let p = c.requires in
    let n = a.size * a.r in
    let y = c.y_bits in
    front_half a.words.now a.part.now a.out.now y.new.out a.g a.size a.r p.5 p.2 p.0 p.3 y.ensures (take
    (a.size - 0) (drop 0 (replicate 512 0))) (part_length (replicate 512 0) 0 a.size a.size (omega arith) (omega arith))

pub add_bits-requires : goal.add_bits-requires
add_bits-requires c =
    let a = c.args in
    let p = c.requires in
    let n = a.size * a.r in
    let y = c.y_bits in
    let x = c.p_bits in
    let long = ap length x.ensures ∙ tabulate-length n _ in
    let again = part-is x.new.out (drop (n - 0) (replicate 4096 0)) n long in (
      ap length again ∙ long ∙ sym (behind-length a.words.now a.part.now a.out.now y.new.out a.g a.size a.r p.5 p.2
          p.0 p.3 y.ensures),
      subst⁻¹ Bits again (parity-binary (take (a.size - 0)
          (c.add_rows.new.acc ++ drop (a.size - 0) (replicate 512 0)))
          x.new.out a.size a.r x.ensures),
      behind-bits a.words.now a.part.now a.out.now y.new.out a.g a.size
          a.r p.5 p.2 p.0 p.3 y.ensures p.4,
    )

pub returns : goal.returns
returns c =
    let a = c.args in
    let p = c.requires in
    let n = a.size * a.r in
    let y =
    c.y_bits in
    let x = c.add_rows in
    let d = c.p_bits in
    let b = c.add_bits in
    let few = part_length (replicate 512 0) 0 a.size a.size (omega arith) (omega arith) in
    let many = x.ensures.0 ∙ few in
    let long = ap length d.ensures ∙ tabulate-length n _ in
    finished_made a.words.now a.part.now a.out.now y.new.out a.g a.size a.r p.5 p.2 p.0 p.3 y.ensures
    (take (a.size - 0) (drop 0 (replicate 512 0))) x.new.acc _ d.new.out _ b.new.out few (λ k. zeros-part 512 (a.size - 0) k) x.ensures.1
    (part-is x.new.acc (drop (a.size - 0) (replicate 512 0)) a.size many) d.ensures (part-is d.new.out (drop (n - 0) (replicate
    4096 0)) n long) b.ensures
