-- The laws of Sizes say what each test refuses.
use Prim.Native.Nat.{◌+◌, ◌-◌, ◌*◌, ◌^◌, ◌≤◌}
use native.Mathlib.Omega.{arith}
use Rattle.staircase.specs.Design.{Limits}
use Rattle.answers.specs.Answers.{refusal_verdict, verdict_of}
use Rattle.design.specs.Answers.{DesignIs, DesignAllowed}
use Rattle.design.proofs.Answers.{made_of}
use Rattle.design.proofs.Sizes.{sizes, too_long, too_large, accepts}
use Rattle.design.proofs.feed_forward.Goals as goal

pub overflow_mul-r : goal.overflow_mul-r
overflow_mul-r c = let a = c.args in omega (arith, sizes a.m a.t a.size a.col c.requires)

pub overflow_mul-n : goal.overflow_mul-n
overflow_mul-n c = let a = c.args in omega (arith, sizes a.m a.t a.size a.col c.requires)

pub overflow_mul-n-2 : goal.overflow_mul-n-2
overflow_mul-n-2 c = let a = c.args in omega (arith, sizes a.m a.t a.size a.col c.requires)

pub overflow_add-n : goal.overflow_add-n
overflow_add-n c = let a = c.args in omega (arith, sizes a.m a.t a.size a.col c.requires)

pub overflow_shl-longest : goal.overflow_shl-longest
overflow_shl-longest c = let a = c.args in omega (arith, sizes a.m a.t a.size a.col c.requires)

pub overflow_sub-longest : goal.overflow_sub-longest
overflow_sub-longest c = let a = c.args in omega (arith, sizes a.m a.t a.size a.col c.requires)

pub returns-then-longest-n : goal.returns-then-longest-n
unfolding verdict_of refusal_verdict DesignIs DesignAllowed
returns-then-longest-n c =
    let a = c.args in
    let s = sizes a.m a.t a.size a.col c.requires in
    (too_long a.m a.t a.size a.col (omega arith), tt, tt)

pub overflow_mul-order : goal.overflow_mul-order
overflow_mul-order c = let a = c.args in omega (arith, sizes a.m a.t a.size a.col c.requires)

pub returns-then-order-gt-MOST_ORDER : goal.returns-then-order-gt-MOST_ORDER
unfolding verdict_of refusal_verdict DesignIs DesignAllowed
returns-then-order-gt-MOST_ORDER c =
    let a = c.args in
    let s = sizes a.m a.t a.size a.col c.requires in
    (too_large a.m a.t a.size a.col (omega arith) (omega arith), tt, tt)

pub design_of-requires : goal.design_of-requires
design_of-requires c = c.requires

pub returns : goal.returns
unfolding verdict_of DesignIs DesignAllowed
returns c =
    let a = c.args in
    let s = sizes a.m a.t a.size a.col c.requires in
    let is = c.design_of.ensures in
    let e : 2 * a.size + 2 * (a.m * a.t) ≤ 2 ^ a.m - 1 = omega arith in
    let f : a.size * (a.m * a.t) ≤ 4096 = omega arith in
    let limits : Limits a.m a.t a.size a.col = record {
      m-low = s.m_range.0;
      m-high = s.m_range.1;
      t-low = s.t_range.0;
      t-high = s.t_range.1;
      M-low = s.M_range.0;
      M-high = s.M_range.1;
      col-high = s.col-high;
      n_high = e;
      order-high = f;
    } in
    (accepts a.m a.t a.size a.col e f, is, made_of Limits _ is limits)
