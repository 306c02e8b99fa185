-- The tables of a design.
--   word-sizes   its words are within what the tables ask for
-- Assumes nothing.
use native.Mathlib.Nat.{mul-le-mul}
use native.Mathlib.Omega.{arith}
use Rattle.design.specs.declared.Design.{Design}
use Rattle.design.specs.Answers.{Allowed}
use Rattle.design.specs.Sizes.{params_of}
use Rattle.design.proofs.Allowed.{code_of}
use Rattle.layout.specs.declared.Shape.TheVariants.{FeedForward}
use Rattle.layout.specs.Layouts.{bits_in}
use Rattle.decoder_tables.specs.Sizes.{WordSizes}

pub word-sizes : (d : Design) → Allowed d → WordSizes d.m d.t (bits_in FeedForward (params_of d))
unfolding bits_in
word-sizes d h =
    let low = mul-le-mul h.m-low h.t-low in
    record {
      m-low = h.m-low;
      m-high = h.m-high;
      t-low = h.t-low;
      t-high = h.t-high;
      fits = (code_of d h).fits;
      n_low = omega (arith, low, h.M-low);
      n_high = h.n_high;
    }
