use native.Mathlib.Omega.{arith}
use Prim.Native.Nat.{◌^◌, ◌<◌}
use Rattle.text_lines.proofs.Decimal.{dec_one_length, dec-more-length}
use Rattle.text_lines.proofs.Storing.{put_one, put_last}
use Rattle.text_lines.proofs.+put_digits.Goals as goal

pub bounds-out-at : goal.bounds-out-at
bounds-out-at t c = omega (arith, dec_one_length c.args.v c.if-v-lt10.true)

pub returns-then-v-lt10 : goal.returns-then-v-lt10
returns-then-v-lt10 t c = let p = put_one c.args.out.now c.args.at c.args.v c.if-v-lt10.true in record { value = p.0; out_after = p.1 }

pub put_digits-i-requires : goal.put_digits-i-requires
put_digits-i-requires t c =
    let a = c.args in
    let h : a.v < 2 ^ 64 = omega arith in
    (omega arith, omega (arith, dec-more-length a.v c.if-v-lt10.false h))

pub bounds-out-i : goal.bounds-out-i
bounds-out-i t c =
    let a = c.args in
    let h : a.v < 2 ^ 64 = omega arith in
    omega (arith, dec-more-length a.v c.if-v-lt10.false h, c.put_digits-i.ensures.value)

pub overflow_add-result-2 : goal.overflow_add-result-2
overflow_add-result-2 t c =
    let a = c.args in
    let h : a.v < 2 ^ 64 = omega arith in
    omega (arith, dec-more-length a.v c.if-v-lt10.false h, c.put_digits-i.ensures.value)

pub returns : goal.returns
returns t c =
    let a = c.args in
    let h : a.v < 2 ^ 64 = omega arith in
    let p = put_last a.out.now a.at a.v c.if-v-lt10.false h (c.put_digits-i.ensures.value, c.put_digits-i.ensures.out_after) in record { value = p.0; out_after = p.1 }
