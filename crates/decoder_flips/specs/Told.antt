-- What the code tells of a word, as the definitions say it.
--   outcome_of     clean, corrected or stuck
-- Assumes nothing.
use Rattle.staircase.specs.Outcomes.{Outcome as Case}
use Rattle.staircase.specs.Outcomes.Outcome.{clean, corrected, stuck}
use Rattle.decoder_flips.specs.declared.Outcome.{Outcome}
use Rattle.decoder_flips.specs.declared.Outcome.TheVariants.{Clean, Corrected, Stuck}

abbrev pub outcome_of : Outcome → Case
outcome_of Clean = clean
outcome_of (Corrected n) = corrected n
outcome_of Stuck = stuck
