-- Laws of rules 1, 2, 3 and 19, as a function that returns at the first that refuses meets them.
--   no_m, no_t, no_M, no_col, sizes_in       rule 1 refuses, and does not
--   Sizes, sizes                             what is known once rule 1 accepts
--   too_long, too_large, accepts             feed-forward codes: rule 2 refuses, rule 3 refuses, none does
--   row-too-long, too-thin, accepts-original original codes: rule 2 refuses, rule 19 refuses, none does
--   range_rule                               a rule on a number's range
--   product-fits                             a product of two numbers of 16 bits
--   shl_one                                  a shift of one is a power of 2
-- Assumes nothing.
use mathlib.Core.Path.{◌≡◌, refl, ◌∙◌}
use mathlib.Core.Bool.{Bool, true, false, cond}
use Prim.Native.Nat.{ℕ, ◌-◌, ◌*◌, ◌%◌, ◌^◌, ◌≤◌, ◌<◌}
use native.Mathlib.Nat.{one-mul}
use native.Mathlib.Omega.{arith}
use lib.Pow.{pow_pos, shl_exact}
use mir.Syntax.{w64}
use mir.Val.{Fits}
use borrow.Author.Tests.{lt-ltb, le-ltb, lt-leb, le-leb}
use Rattle.staircase.specs.Design.{Params, params, word_length, order, least_m, most-m, most-t, most-M, most-col, most-order}
use Rattle.staircase.specs.Rules.{out_of_range, refuse, ◌then◌, size_rule, long_rule, large_rule}
use Rattle.staircase.specs.Rules.Verdict.{accepted, refused}
use Rattle.staircase.proofs.Bounds.{small_product}
use Rattle.staircase.proofs.Rules.{size_limits}
use Rattle.original.specs.Rules.{row_long_rule, thin_rule}

pub product-fits : (a b : ℕ) → a < 65536 → b < 65536 → Fits w64 (a * b)
product-fits a b h g = omega (arith, small_product a b 65535 65535 (omega arith) (omega arith))

pub shl_one : (k : ℕ) → k ≤ 10 → (1 * 2 ^ k) % 2 ^ 64 ≡ 2 ^ k
shl_one k h = shl_exact {a = 1} 1 k 64 (omega arith) (omega arith) ∙ one-mul (2 ^ k)

pub range_rule : (b : Bool) (n p : ℕ) → cond b (refused n p) accepted ≡ refuse b n p
range_rule true n p = refl
range_rule false n p = refl

pub record Sizes (m t M col : ℕ) : Type 0 where
  pub m_range : (least_m ≤ m) × (m ≤ most-m)
  pub t_range : (1 ≤ t) × (t ≤ most-t)
  pub M_range : (1 ≤ M) × (M ≤ most-M)
  pub col-high : col ≤ most-col
  pub r-high : m * t ≤ 30
  pub order-high : M * (m * t) ≤ 15000
  pub power-low : 0 < 2 ^ m
  pub power_shifted : (1 * 2 ^ m) % 2 ^ 64 ≡ 2 ^ m

module _ (m t M col : ℕ) where
  pub no_m : out_of_range least_m most-m m ≡ true → refused 1 1 ≡ size_rule m t M col
  unfolding size_rule
  no_m a = rw a

  module _ (a : out_of_range least_m most-m m ≡ false) where
    pub no_t : out_of_range 1 most-t t ≡ true → refused 1 2 ≡ size_rule m t M col
    unfolding size_rule
    no_t b = rw (a, b)

    module _ (b : out_of_range 1 most-t t ≡ false) where
      pub no_M : out_of_range 1 most-M M ≡ true → refused 1 3 ≡ size_rule m t M col
      unfolding size_rule
      no_M d = rw (a, b, d)

      pub no_col : out_of_range 1 most-M M ≡ false → most-col < col → refused 1 4 ≡ size_rule m t M col
      unfolding size_rule
      no_col d e = rw (a, b, d, lt-ltb most-col col e)

      pub sizes_in : out_of_range 1 most-M M ≡ false → col ≤ most-col → accepted ≡ size_rule m t M col
      unfolding size_rule
      sizes_in d e = rw (a, b, d, le-ltb most-col col e)

  pub sizes : size_rule m t M col ≡ accepted → Sizes m t M col
  sizes e =
      let (ml, mh, tl, th, Ml, Mh, ch) = size_limits m t M col e in
      let r : m * t ≤ 30 = small_product m t most-m most-t mh th in
      record {
        m_range = (ml, mh);
        t_range = (tl, th);
        M_range = (Ml, Mh);
        col-high = ch;
        r-high = r;
        order-high = small_product M (m * t) most-M 30 Mh r;
        power-low = pow_pos m;
        power_shifted = shl_one m mh;
      }

  abbrev s : Params
  s = params m t M col

  pub too_long : 2 ^ m - 1 < word_length s → refused 2 (word_length s) ≡ (long_rule m s then large_rule s)
  unfolding long_rule
  too_long e = rw (lt-ltb (2 ^ m - 1) (word_length s) e)

  module _ (e : word_length s ≤ 2 ^ m - 1) where
    pub too_large : most-order < order s → refused 3 (order s) ≡ (long_rule m s then large_rule s)
    unfolding long_rule large_rule
    too_large f = rw (le-ltb (2 ^ m - 1) (word_length s) e, lt-ltb most-order (order s) f)

    pub accepts : order s ≤ most-order → accepted ≡ (long_rule m s then large_rule s)
    unfolding long_rule large_rule
    accepts f = rw (le-ltb (2 ^ m - 1) (word_length s) e, le-ltb most-order (order s) f)

  pub row_too_long : 2 ^ m - 1 < 2 * M → refused 2 (2 * M) ≡ (row_long_rule m s then thin_rule s)
  unfolding row_long_rule
  row_too_long e = rw (lt-ltb (2 ^ m - 1) (2 * M) e)

  module _ (e : 2 * M ≤ 2 ^ m - 1) where
    pub too_thin : M ≤ m * t → refused 19 (m * t) ≡ (row_long_rule m s then thin_rule s)
    unfolding row_long_rule thin_rule
    too_thin f = rw (le-ltb (2 ^ m - 1) (2 * M) e, le-leb M (m * t) f)

    pub accepts_original : m * t < M → accepted ≡ (row_long_rule m s then thin_rule s)
    unfolding row_long_rule thin_rule
    accepts_original f = rw (le-ltb (2 ^ m - 1) (2 * M) e, lt-leb M (m * t) f)
