use mathlib.Core.Path.{◌≡◌, sym, ap, ◌∙◌}
use mathlib.Core.List.{List, ◌++◌}
use Prim.Native.Nat.{ℕ, ◌+◌, ◌-◌, ◌*◌, ◌/◌, ◌<◌, min}
use native.Mathlib.Omega.{arith}
use lib.ListN.{length, get_or, take, drop, length-drop}
use lib.Seq.{take_at}
use Rattle.std.specs.Iterator.Adapters.{enumerate_count, enumerate_source}
use Rattle.std.specs.Slice.Iter.{chunks_rest}
use Rattle.bch.specs.Polynomial.{◌⊕◌}
use Rattle.staircase.proofs.Fill.{front_length}
use Rattle.words_blocks.proofs.Sums.{part_length}
use Rattle.encoder_solution.specs.Words.{row_product}
use Rattle.encoder_solution.proofs.Chunks.{chunk_rest, chunk_at}
use Rattle.encoder_solution.proofs.Words.{product-none, product-more}
use Rattle.encoder_solution.proofs.product.multiply_in.Goals as goal

pub loop-k-init : goal.loop-k-init
loop-k-init c =
    let a = c.args in
    let z : enumerate_count c.into_iter-k-iterator.result ≡ 0 = cc in
    let rest : chunks_rest (enumerate_source c.into_iter-k-iterator.result) ≡ a.constants.now = cc in
    let from : 0 ≡ 64 * enumerate_count c.into_iter-k-iterator.result = omega (arith, z) in
    let done : 8 * 0 ≡ min (64 * enumerate_count c.into_iter-k-iterator.result) (8 * a.w) = omega (arith, z) in (
      cc,
      rest ∙ ap (λ (n : ℕ). drop n a.constants.now) from,
      omega arith,
      omega arith,
      λ e h. product-none a.inverse.now a.w (λ k. get_or a.constants.now k 0) e (get_or a.products.now e 0)
          ∙ ap (λ (n : ℕ). get_or a.products.now e 0 ⊕ row_product a.inverse.now a.w (λ k. get_or a.constants.now k 0) e n) done,
    )

pub loop-k-preserved : goal.loop-k-preserved
loop-k-preserved c =
    let a = c.args in
    let l = c.loop-k in
    let s = c.in-Some.ensures.steps in
    let n : ℕ = enumerate_count l.k-iterator in
    let chunk = c.in-Some.words.now in
    let count : ℕ = length chunk / 8 in
    let y = c.fill_tables in
    let added = c.add_columns in
    let next = sym l.invariant.1 ∙ s.0.1.0 in
    let size : length chunk ≡ min 64 (length (drop (64 * n) a.constants.now)) = s.0.1.1 ∙ omega (arith, l.invariant.0, ap length l.invariant.1) in
    let left = length-drop (64 * n) a.constants.now in
    let some : 64 * n < length a.constants.now = omega (arith, s.0.1.2, ap length l.invariant.1, left) in
    let rest = chunk_rest a.constants.now chunk _ (64 * n) next 64 size in
    let long : length y.new.tables ≡ 256 * count = y.ensures.0 ∙ part_length l.tables 0 (256 * count) (256 * count) (omega (arith, size)) (omega (arith, size)) in
    let after : 64 * n + 64 ≡ 64 * enumerate_count c.next.new.self = omega (arith, s.2) in
    let before : min (64 * n) (8 * a.w) ≡ 8 * (8 * c.in-Some.k) = omega (arith, s.1, some) in
    let taken : 8 * (8 * c.in-Some.k + count) ≡ min (64 * enumerate_count c.next.new.self) (8 * a.w) = omega (arith, s.1, s.2, size, left, some) in
    let P : ℕ → ℕ → ℕ = λ e k. get_or a.products.now e 0 ⊕ row_product a.inverse.now a.w (λ q. get_or a.constants.now q 0) e k in
    let back = take_at y.new.tables (drop (256 * count - 0) l.tables) (256 * count - 0) (long ∙ omega arith) in (
      omega (arith, s.0.0, l.invariant.0),
      rest ∙ ap (λ (z : ℕ). drop z a.constants.now) after,
      front_length y.new.tables l.tables (256 * count - 0) (long ∙ omega arith) (omega (arith, size)) ∙ l.invariant.2,
      added.ensures.0 ∙ l.invariant.3,
      λ e h. product-more a.inverse.now a.w (λ q. get_or a.constants.now q 0) e (8 * c.in-Some.k) count (λ q. get_or chunk q 0)
          (take (256 * count - 0) (y.new.tables ++ drop (256 * count - 0) l.tables))
          (λ q m. chunk_at a.constants.now chunk _ (64 * n) next q (omega (arith, m)) ∙ ap (λ (z : ℕ). get_or a.constants.now z 0) (omega (arith, s.1)))
          (λ q m. ap (λ (t : List ℕ). get_or t q 0) back ∙ y.ensures.1 q m) (λ q. (c.type_inv.inverse q).fits)
          (get_or a.products.now e 0) (get_or l.products e 0) _ (l.invariant.4 e h ∙ ap (P e) before) (added.ensures.1 e (omega arith)) ∙ ap (P e) taken,
    )
