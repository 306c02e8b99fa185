-- The laws of Sizes say what each test refuses.
use Prim.Native.Nat.{◌-◌, ◌*◌, ◌^◌, ◌≤◌, ◌<◌}
use native.Mathlib.Omega.{arith}
use Rattle.original.specs.Rules.{Original}
use Rattle.answers.specs.Answers.{refusal_verdict, verdict_of}
use Rattle.design.specs.Answers.{DesignIs, DesignOriginal}
use Rattle.design.proofs.Answers.{made_of}
use Rattle.design.proofs.Sizes.{sizes, row_too_long, too_thin, accepts_original}
use Rattle.design.proofs.original.Goals as goal

pub overflow_mul-n : goal.overflow_mul-n
overflow_mul-n c = let a = c.args in omega (arith, sizes a.m a.t a.size a.col c.requires)

pub overflow_shl-longest : goal.overflow_shl-longest
overflow_shl-longest c = let a = c.args in omega (arith, sizes a.m a.t a.size a.col c.requires)

pub overflow_sub-longest : goal.overflow_sub-longest
overflow_sub-longest c = let a = c.args in omega (arith, sizes a.m a.t a.size a.col c.requires)

pub returns-then-longest-n : goal.returns-then-longest-n
unfolding verdict_of refusal_verdict DesignIs DesignOriginal
returns-then-longest-n c =
    let a = c.args in
    let s = sizes a.m a.t a.size a.col c.requires in
    (row_too_long a.m a.t a.size a.col (omega arith), tt, tt)

pub overflow_mul-r : goal.overflow_mul-r
overflow_mul-r c = let a = c.args in omega (arith, sizes a.m a.t a.size a.col c.requires)

pub returns-then-size-r : goal.returns-then-size-r
unfolding verdict_of refusal_verdict DesignIs DesignOriginal
returns-then-size-r c =
    let a = c.args in
    let s = sizes a.m a.t a.size a.col c.requires in
    (too_thin a.m a.t a.size a.col (omega arith) (omega arith), tt, tt)

pub design_of-requires : goal.design_of-requires
design_of-requires c = c.requires

pub returns : goal.returns
unfolding verdict_of DesignIs DesignOriginal
returns c =
    let a = c.args in
    let s = sizes a.m a.t a.size a.col c.requires in
    let is = c.design_of.ensures in
    let e : 2 * a.size ≤ 2 ^ a.m - 1 = omega arith in
    let f : a.m * a.t < a.size = omega arith in
    let limits : Original a.m a.t a.size a.col = record {
      m-low = s.m_range.0;
      m-high = s.m_range.1;
      t-low = s.t_range.0;
      t-high = s.t_range.1;
      M-high = s.M_range.1;
      col-high = s.col-high;
      long = e;
      thin = f;
    } in
    (accepts_original a.m a.t a.size a.col e f, is, made_of Original _ is limits)
