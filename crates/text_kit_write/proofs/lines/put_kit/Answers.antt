-- The parts of the text, one behind another, fill the buffer: `kit-put` of proofs/Parts.antt.
use native.Mathlib.Omega.{arith}
use mathlib.Core.Path.{◌≡◌, sym, ap, ◌∙◌}
use Prim.Native.Nat.{ℕ, ◌*◌}
use Rattle.staircase.specs.System.{row_bytes}
use Rattle.design.specs.Sizes.{order_of}
use Rattle.text_kit_write.proofs.Parts.{parts_length, kit-put}
use Rattle.text_kit_write.proofs.lines.put_kit.Goals as goal

pub put_head-i-requires : goal.put_head-i-requires
put_head-i-requires c =
    let a = c.args in
    let long =
    parts_length a.d.m a.d.t a.d.size a.own.now a.parity.now a.inverse.now c.m.ensures
    c.t.ensures
    c.size.ensures
    c.order-n.ensures.0 in
    omega (arith, long, c.requires.text_len)

pub put_pairs-j-requires : goal.put_pairs-j-requires
put_pairs-j-requires c =
    let a = c.args in
    let p = c.requires in
    let order = c.order-n in
    let e : order.result ≡ order_of a.d = order.ensures.0 in
    let long =
    parts_length a.d.m a.d.t a.d.size a.own.now a.parity.now a.inverse.now c.m.ensures
    c.t.ensures
    c.size.ensures e in record {
      own_len = (omega (arith, p.allowed.1.self_length), omega (arith, p.allowed.1.parity_length), omega (arith, p.allowed.0.order-high));
      parity_in_bounds = omega (arith, long, p.text_len, c.put_head-i.ensures.value);
    }

pub put_bytes-k-requires : goal.put_bytes-k-requires
put_bytes-k-requires c =
    let a = c.args in
    let long =
    parts_length a.d.m a.d.t a.d.size a.own.now a.parity.now a.inverse.now c.m.ensures
    c.t.ensures
    c.size.ensures
    c.order-n.ensures.0 in
    let p = c.requires in
    omega (arith, long, p.text_len, c.put_head-i.ensures.value, c.put_pairs-j.ensures.value)

pub put_rows-requires : goal.put_rows-requires
put_rows-requires c =
    let a = c.args in
    let p = c.requires in
    let order = c.order-n in
    let e : order.result ≡ order_of a.d = order.ensures.0 in
    let long =
    parts_length a.d.m a.d.t a.d.size a.own.now a.parity.now a.inverse.now c.m.ensures
    c.t.ensures
    c.size.ensures e in record {
      inverse_len = (p.allowed.1.inverse_length ∙ ap (λ (k : ℕ). k * row_bytes k) (sym e), omega (arith, p.allowed.0.order-high));
      inverse_in_bounds = omega (arith, long, p.text_len, c.put_head-i.ensures.value, c.put_pairs-j.ensures.value, c.put_bytes-k.ensures.value);
    }

pub returns : goal.returns
returns c =
    let a = c.args in
    kit-put a.d.m a.d.t a.d.size a.own.now a.parity.now a.inverse.now c.m.ensures
    c.t.ensures
    c.size.ensures
    c.order-n.ensures.0 a.text.now
    c.requires.text_len
    (c.put_head-i.ensures.value, c.put_head-i.ensures.out_after)
    (c.put_pairs-j.ensures.value, c.put_pairs-j.ensures.out_after)
    (c.put_bytes-k.ensures.value, c.put_bytes-k.ensures.out_after)
    (c.put_rows.ensures.value, c.put_rows.ensures.out_after)
