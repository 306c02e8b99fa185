-- Rows of the decoder with a window, under kit K: blocks 0, 1, 0, 0, which have two groups, as equations about the definitions.
--   window_k       the call on L blocks, with a number of rounds and a window of v groups
--   WindowRows    the rows; `window_rows` in proofs/WindowRows.antt shows them
-- Assumes nothing.
use Rattle.std.specs.Prelude.{◌≡◌, List, [], ◌∷◌, ℕ}
use Rattle.staircase.specs.Rules.{decoder_work}
use Rattle.staircase.specs.Rules.Verdict.{accepted}
use Rattle.staircase.specs.Calls.{Corrected}
use Rattle.staircase.specs.Window.{window_rule, window_call}
use Rattle.staircase.specs.RowsK.{params_k, self_k, parity_k, refused_k}

abbrev pub window_k : ℕ → ℕ → ℕ → List ℕ → List ℕ → Corrected
window_k L rounds v info red = window_call 4 1 1 0 L rounds v self_k parity_k info red (decoder_work params_k L)

pub record WindowRows : Type 0 where
  -- the last bit of the second group is wrong: a window of one group makes an idle round at the first position and two rounds at the second
  pub one_group : window_k 4 0 1 (0 ∷ 1 ∷ 0 ∷ 0 ∷ []) (0 ∷ 0 ∷ 0 ∷ 1 ∷ 0 ∷ 1 ∷ 1 ∷ 0 ∷ 0 ∷ 0 ∷ 0 ∷ 1 ∷ 0 ∷ 0 ∷ 1 ∷ 0 ∷ [])
      ≡ record {
        verdict = accepted;
        frame = record { info = 0 ∷ 1 ∷ 0 ∷ 0 ∷ []; red = 0 ∷ 0 ∷ 0 ∷ 1 ∷ 0 ∷ 1 ∷ 1 ∷ 0 ∷ 0 ∷ 0 ∷ 0 ∷ 1 ∷ 0 ∷ 0 ∷ 1 ∷ 1 ∷ [] };
        counts = record { rounds = 3; turned = 1; outside = 0; stuck = 0 };
      }
  -- a window of both groups has one position
  pub both_groups : window_k 4 0 2 (0 ∷ 1 ∷ 0 ∷ 0 ∷ []) (0 ∷ 0 ∷ 0 ∷ 1 ∷ 0 ∷ 1 ∷ 1 ∷ 0 ∷ 0 ∷ 0 ∷ 0 ∷ 1 ∷ 0 ∷ 0 ∷ 1 ∷ 0 ∷ [])
      ≡ record {
        verdict = accepted;
        frame = record { info = 0 ∷ 1 ∷ 0 ∷ 0 ∷ []; red = 0 ∷ 0 ∷ 0 ∷ 1 ∷ 0 ∷ 1 ∷ 1 ∷ 0 ∷ 0 ∷ 0 ∷ 0 ∷ 1 ∷ 0 ∷ 0 ∷ 1 ∷ 1 ∷ [] };
        counts = record { rounds = 2; turned = 1; outside = 0; stuck = 0 };
      }
  -- with one round allowed at each position
  pub one_round : window_k 4 1 1 (0 ∷ 1 ∷ 0 ∷ 0 ∷ []) (0 ∷ 0 ∷ 0 ∷ 1 ∷ 0 ∷ 1 ∷ 1 ∷ 0 ∷ 0 ∷ 0 ∷ 0 ∷ 1 ∷ 0 ∷ 0 ∷ 1 ∷ 0 ∷ [])
      ≡ record {
        verdict = accepted;
        frame = record { info = 0 ∷ 1 ∷ 0 ∷ 0 ∷ []; red = 0 ∷ 0 ∷ 0 ∷ 1 ∷ 0 ∷ 1 ∷ 1 ∷ 0 ∷ 0 ∷ 0 ∷ 0 ∷ 1 ∷ 0 ∷ 0 ∷ 1 ∷ 1 ∷ [] };
        counts = record { rounds = 2; turned = 1; outside = 0; stuck = 0 };
      }
  -- the first group cannot be corrected alone (document 01's row "blocks 0, 0 with group 0000 0101"), and stays outside behind the window: it is counted
  -- as outside at the end, and not as stuck at the last position
  pub left_behind : (window_k 4 0 1 (0 ∷ 1 ∷ 0 ∷ 0 ∷ []) (0 ∷ 0 ∷ 0 ∷ 0 ∷ 0 ∷ 1 ∷ 0 ∷ 1 ∷ 0 ∷ 0 ∷ 0 ∷ 1 ∷ 0 ∷ 0 ∷ 1 ∷ 1 ∷ [])).counts
      ≡ record { rounds = 2; turned = 0; outside = 1; stuck = 0 }
  -- "18 window, after 5, when V is 0 or above 64; the place is V", and before 6: information of a wrong length beside it
  pub rounds_first : window_k 2 65 0 (0 ∷ []) [] ≡ refused_k 5 65 (0 ∷ []) []
  pub no_group : window_k 2 0 0 (0 ∷ []) [] ≡ refused_k 18 0 (0 ∷ []) []
  pub many_groups : window_k 2 0 65 (0 ∷ []) [] ≡ refused_k 18 65 (0 ∷ []) []
  pub most_groups : window_rule 64 ≡ accepted
  pub short_info : window_k 2 0 64 (0 ∷ []) [] ≡ refused_k 6 4 (0 ∷ []) []
