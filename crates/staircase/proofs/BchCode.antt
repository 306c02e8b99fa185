-- The BCH codes of an allowed design.
--   code_of      m and t are those of a code
--   proper_of    the sizes are not 0, and the generators have degree r
--   odd_of       the generator has the term 1
--   apart_of, columns-apart   codewords that differ in at most 2t places are equal, of row words and of column words
-- Assumes nothing.
use mathlib.Core.Path.{◌≡◌, sym, ◌∙◌, subst}
use Prim.Native.Nat.{ℕ, ◌-◌, ◌*◌, ◌/◌, ◌%◌, ◌^◌, ◌≤◌}
use native.Mathlib.Omega.{arith}
use lib.Dec.{eqb}
use lib.Pow.{pow_pos}
use Rattle.bch.specs.Code.{generator}
use Rattle.bch.specs.Mirror.{mirror}
use Rattle.bch.proofs.Bch.{Code, degree, degree_positive, bch_bound}
use Rattle.bch.proofs.MirrorBch.{generator_odd, mirror_of_degree, mirrored-bound}
use Rattle.staircase.specs.Design.{params, column_generator, column_code, word_length, Limits}
use Rattle.staircase.proofs.Search.{cond_ind}
use Rattle.staircase.proofs.System.{Proper}
use Rattle.staircase.proofs.Correction.{CodeDistance}

module _ {m t M col : ℕ} (d : Limits m t M col) where
  pub code_of : Code m t
  code_of = record { m-low = d.m-low; m-high = d.m-high; t-low = d.t-low; t-high = d.t-high; fits = omega (arith, d.n_high, d.M-low, pow_pos m) }

  pub odd_of : generator m t % 2 ≡ 1
  odd_of = generator_odd m t d.m-low d.m-high d.t-high code_of.fits

  column_degree : column_generator (params m t M col) / 2 ^ (m * t) ≡ 1
  unfolding column_generator
  column_degree =
      cond_ind (λ (g : ℕ). g / 2 ^ (m * t) ≡ 1) (eqb col 0) (generator m t) (mirror (m * t) (generator m t)) (λ e. degree m t code_of) (λ e. mirror_of_degree m t code_of)

  pub proper_of : Proper (params m t M col)
  proper_of = record { mpos = d.M-low; rpos = degree_positive m t code_of; degree = degree m t code_of; column_degree = column_degree }

  abbrev n : ℕ
  n = word_length (params m t M col)

  pub apart_of : CodeDistance (params m t M col) (word_length (params m t M col))
  apart_of u v lu lv hu hv = bch_bound m t code_of u v hu hv (lu ∙ sym lv) (subst (λ (z : ℕ). z ≤ 2 ^ m - 1) (sym lu) d.n_high)

  pub columns-apart : CodeDistance (column_code (params m t M col)) (word_length (params m t M col))
  unfolding column_generator
  columns-apart =
      cond_ind (λ (g : ℕ). CodeDistance (record { M = M; r = m * t; t = t; g = g; col = col }) n) (eqb col 0) (generator m t) (mirror (m * t) (generator m t))
      (λ e u v lu lv hu hv. bch_bound m t code_of u v hu hv (lu ∙ sym lv) (subst (λ (z : ℕ). z ≤ 2 ^ m - 1) (sym lu) d.n_high))
      (λ e u v lu lv hu hv. mirrored-bound m t code_of u v hu hv (lu ∙ sym lv) (omega (arith, lu)) (subst (λ (z : ℕ). z ≤ 2 ^ m - 1) (sym lu) d.n_high))
