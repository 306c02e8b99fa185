-- Rows of rule 16, of the share and of an account, as equations about the definitions.
--   tally_of        a tally of two totals, the first and the last, and 7 for the others
--   decode_k        a decode of blocks 0, 1 with group 0001 0111 under document 01's kit K
--   RowsTally      the rows; `rows_tally` in proofs/RowsTally.antt shows them
-- Assumes nothing.
use Rattle.std.specs.Prelude.{◌≡◌, [], ◌∷◌, ℕ, ◌+◌, ◌^◌}
use Rattle.staircase.specs.Rules.{decoder_work}
use Rattle.staircase.specs.Rules.Verdict.{accepted, refused}
use Rattle.staircase.specs.RowsK.{params_k, self_k, parity_k}
use Rattle.staircase.specs.Tally.{Tally, empty, Decode, decode_with, full_rule, account}
use Rattle.staircase.specs.Report.{Share, share_of}

abbrev pub tally_of : ℕ → ℕ → Tally
tally_of frames stuck = record { frames = frames; bits = 7; turned = 7; rounds = 7; outside = 7; stuck = stuck }

abbrev pub share : ℕ → ℕ → Share
share a b = record { top = a; bottom = b }

abbrev pub decode_k : ℕ → Decode
decode_k rounds =
    decode_with 4 1 1 0 2 rounds self_k parity_k (0 ∷ 1 ∷ []) (0 ∷ 0 ∷ 0 ∷ 1 ∷ 0 ∷ 1 ∷ 1 ∷ 1 ∷ []) (decoder_work params_k 2)

pub record RowsTally : Type 0 where
  -- "above 2^62"
  pub most : full_rule (tally_of (2 ^ 62) (2 ^ 62)) ≡ accepted
  -- "the first such total's position in the order above, from 1"
  pub frames : full_rule (tally_of (2 ^ 62 + 1) (2 ^ 62 + 1)) ≡ refused 16 1
  pub stuck : full_rule (tally_of (2 ^ 62) (2 ^ 62 + 1)) ≡ refused 16 6
  -- "two whole numbers with no common factor (0 and 1 for no sent bits)"
  pub none : share_of 0 0 ≡ share 0 1
  pub no_bits : share_of 5 0 ≡ share 0 1
  pub no_turned : share_of 0 12 ≡ share 0 1
  pub all : share_of 12 12 ≡ share 1 1
  pub some : share_of 8 12 ≡ share 2 3
  -- "mended, result 2, 1, 0", of ten bits, twice; between them a decode that rule 5 refuses
  pub twice : account empty (decode_k 0 ∷ decode_k 65 ∷ decode_k 0 ∷ []) ≡ record { frames = 2; bits = 20; turned = 2; rounds = 4; outside = 0; stuck = 0 }
