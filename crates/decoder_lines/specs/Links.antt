-- The lines of a frame, as code holds them: steps of the decoder, which no promise names.
--   link_of             entry q of the table of links
--   lists_in            the two lists that a table holds
--   LinksFit           a table of links, of lists that are permutations
--   incidence_of        a position of a word, from code's answer
-- Assumes nothing.
use Rattle.std.specs.Prelude.{◌≡◌, true, false, cond, List, ℕ, ◌+◌, ◌-◌, ◌*◌, ltb, get_or}
use Rattle.staircase.specs.Lists.{tabulate}
use Rattle.staircase.specs.Design.{Params, Interleavers, order}
use Rattle.staircase.specs.Demand2.{Permutes}
use Rattle.staircase.specs.Lines.{Incidence, incidence, partner}
use Rattle.design.specs.declared.Design.{Design}
use Rattle.design.specs.Sizes.{params_of, order_of}
use Rattle.decoder_lines.specs.declared.WordBit.{WordBit}

-- from X and then Q to Y and then P, and behind that the way back
unfoldable pub link_of : Params → Interleavers → ℕ → ℕ
link_of s l q = cond (ltb q (2 * order s)) (partner s l true q) (partner s l false (q - 2 * order s))

unfoldable pub lists_in : Design → List ℕ → Interleavers
lists_in d links = record {
  self = tabulate (order_of d) (λ p. get_or links p 0);
  parity = tabulate (order_of d) (λ p. get_or links (order_of d + p) 0 - order_of d);
}

pub record LinksFit (d : Design) (links : List ℕ) : Type 0 where
  pub entries : links ≡ tabulate (4 * order_of d) (link_of (params_of d) (lists_in d links))
  pub self : Permutes (order_of d) (λ p. get_or (lists_in d links).self p 0)
  pub parity : Permutes (order_of d) (λ p. get_or (lists_in d links).parity p 0)

abbrev pub incidence_of : WordBit → Incidence
incidence_of b = incidence b.line b.word b.position
