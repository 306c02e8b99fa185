use mathlib.Core.Path.{◌≡◌, sym, ap, ap₂, ◌∙◌}
use Prim.Native.Nat.{ℕ, suc, ◌+◌, ◌-◌, ◌*◌, ◌/◌, ◌%◌, ◌^◌, ◌<◌}
use native.Mathlib.Numerals.{add-one}
use native.Mathlib.Omega.{arith}
use lib.ListN.{length, take}
use lib.Seq.{take_all, take-suc, length-take-le}
use Rattle.std.proofs.lemmas.List.{same_from_push}
use Rattle.std.specs.Iterator.Adapters.{enumerate_count, enumerate_source, take_count, take_source, rev_source}
use Rattle.std.specs.Slice.Iter.{iter_rest}
use Rattle.bch.specs.Polynomial.{◌⊕◌}
use Rattle.bch.specs.Field.{power}
use Rattle.bch.specs.Powers.{xor_sum}
use Rattle.bch.proofs.Syndromes.{syndromes-bits}
use Rattle.decoder_locator.proofs.values_by_bits.Goals as goal

abbrev values : ℕ → ℕ → ℕ → ℕ
values m x i = (x / 2 ^ i % 2) * (power m i + 65536 * power m (3 * i))

pub loop-k-init : goal.loop-k-init
unfolding xor_sum
loop-k-init c =
    let T = c.args.table.now in
    let z : enumerate_count c.into_iter-k-iterator.result ≡ 0 = ap enumerate_count c.into_iter-k-iterator.ensures.into_iter_gives ∙ c.enumerate-k-items.ensures.count in
    let rest : iter_rest (rev_source (take_source (enumerate_source c.into_iter-k-iterator.result))) ≡ T = cc in
    let count : take_count (enumerate_source c.into_iter-k-iterator.result) ≡ c.args.r = cc in
    (omega (arith, count, z), rest ∙ sym (take_all (length T - enumerate_count c.into_iter-k-iterator.result) T (omega (arith, z))), ap (λ (i : ℕ). xor_sum i (values c.args.m c.args.x)) (sym z))

pub loop-k-preserved : goal.loop-k-preserved
unfolding xor_sum ◌⊕◌
loop-k-preserved c =
    let a = c.args in
    let T = a.table.now in
    let l = c.loop-k in
    let k = enumerate_count l.k-iterator in
    let j = length T - (k + 1) in
    let s = c.in-Some.ensures.steps in
    let below : j < length T = omega (arith, s.0.1) in
    let h : length T - k ≡ suc j = omega (arith, s.0.1) in
    let last = same_from_push _ _ _ _ (sym s.0.0 ∙ l.invariant.1 ∙ ap (λ (z : ℕ). take z T) h ∙ take-suc T j 0 below) in
    let e : length T - 1 - j ≡ k = omega (arith, s.0.1) in
    let v = c.requires.5 j below ∙ ap (λ (i : ℕ). power a.m i + 65536 * power a.m (3 * i)) e in (
      omega (arith, s.0.1, s.2),
      last.0 ∙ ap (λ (z : ℕ). take z T) (omega (arith, s.2)),
      ap₂ ◌⊕◌ l.invariant.2 (ap₂ (λ (i y : ℕ). (a.x / 2 ^ i % 2) * y) s.1 (last.1 ∙ v)) ∙ ap (λ (i : ℕ). xor_sum i (values a.m a.x)) (sym (s.2 ∙ add-one k)),
    )

pub returns : goal.returns
returns c =
    let a = c.args in
    let l = c.loop-k in
    let k = enumerate_count l.k-iterator in
    let T = a.table.now in
    let left : length (iter_rest (rev_source (take_source (enumerate_source l.k-iterator)))) ≡ length T - k = ap length l.invariant.1 ∙ length-take-le (length T - k) T (omega arith) in
    let none : 0 < take_count (enumerate_source l.k-iterator) → length (iter_rest (rev_source (take_source (enumerate_source l.k-iterator)))) ≡ 0 = λ h. (c.in-None.ensures.steps.0 h).0 in
    let e : k ≡ a.r = grind (arith, left, none) in
    l.invariant.2 ∙ ap (λ (i : ℕ). xor_sum i (values a.m a.x)) e
    ∙ sym (syndromes-bits a.m c.requires.0 c.requires.1 a.r a.x c.requires.4)
