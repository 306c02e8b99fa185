-- The constants go into the words, the words are solved, and the groups finished.
use mathlib.Core.Path.{sym, ap, ◌∙◌}
use Prim.Native.Nat.{ℕ, ◌+◌, ◌*◌}
use native.Mathlib.Omega.{arith}
use lib.ListN.{length}
use Rattle.staircase.proofs.Tabulate.{tabulate-length}
use Rattle.words_blocks.proofs.Sums.{part_length}
use Rattle.encoder_frame.proofs.Solved.{groups_solved}
use Rattle.encoder_frame.proofs.stretch.solve_groups.Goals as goal

pub add_constants-requires : goal.add_constants-requires
add_constants-requires c =
    let a = c.args in
    let p = c.requires in
    let T = p.0 in
    let n = a.sizes.size * a.sizes.r in (
      T.places ∙ sym p.2,
      p.4 ∙ ap (λ (k : ℕ). a.count * (2 * k)) (sym p.2),
      p.1,
      p.5,
      λ q h. omega (arith, T.within q (omega arith), p.2),
      p.3,
      omega (arith, T.words.small, p.2),
    )

pub finish_groups-requires : goal.finish_groups-requires
finish_groups-requires c =
    let a = c.args in
    let p = c.requires in
    let z = a.sizes in
    let T = p.0.words in (
      ap length c.solve.ensures ∙ tabulate-length (z.size * z.r) _,
      p.1,
      part_length a.columns.now (2 * z.size) (2 * z.size + z.r) z.r (omega arith) (omega (arith, T.powers)),
      p.4,
      p.5,
      T.some-columns,
      T.few-columns,
      T.some-rows,
      T.few-rows,
      T.small,
    )

pub returns : goal.returns
returns c =
    let a = c.args in
    let p = c.requires in
    let z = a.sizes in
    let x = c.add_constants in
    let y = c.solve in
    c.finish_groups.ensures
    ∙ groups_solved a.columns.now a.preimages.now a.inverse.now x.new.words y.new.words a.red.now z.size z.r a.count
    p.0.words.some-columns p.0.words.some-rows (omega (arith, p.0.words.powers)) y.ensures
    (λ g q h l. rw p.2 at x.ensures.1 g q h l)
