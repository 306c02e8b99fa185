-- Rows of the writer of kit text, under the design of document 01's kit K, as equations about the definitions. The text's buffer holds bytes 255 before
-- the call.
--   blank n        n bytes 255
--   written_k       the writer's call with K's parity list and inverse, a self list and a buffer of n bytes
--   wide_self       the self list 65535 0 2 3
--   RowsWriter     the rows; `rows_writer` in proofs/RowsWriter.antt shows them
-- Assumes nothing.
use Rattle.std.specs.Prelude.{◌≡◌, List, [], ◌∷◌, ℕ, length, replicate}
use Rattle.staircase.specs.Rules.Verdict.{accepted, refused}
use Rattle.staircase.specs.RowsK.{self_k, parity_k, inverse_k}
use Rattle.text.specs.KitWriter.{KitWritten, write_call, measure_call}
use Rattle.text.specs.TextsK.{text_k}

abbrev pub blank : ℕ → List ℕ
blank n = replicate n 255

abbrev pub written_k : List ℕ → ℕ → KitWritten
written_k self n = write_call 4 1 1 self parity_k inverse_k (blank n)

abbrev pub wide_self : List ℕ
wide_self = 255 ∷ 255 ∷ 0 ∷ 0 ∷ 2 ∷ 0 ∷ 3 ∷ 0 ∷ []

pub record RowsWriter : Type 0 where
  -- "This is kit K, whole"
  pub long : length text_k ≡ 94
  pub measured : measure_call 4 1 1 self_k parity_k ≡ record { verdict = accepted; length = 94 }
  pub written : written_k self_k 94 ≡ record { verdict = accepted; text = text_k }
  -- "rule 6 gains place 7, a text buffer whose length isn't the text's"
  pub short_buffer : written_k self_k 93 ≡ record { verdict = refused 6 7; text = blank 93 }
  pub long_buffer : written_k self_k 95 ≡ record { verdict = refused 6 7; text = blank 95 }
  -- "(there each entry counts with all its digits, even five)": with a buffer of that length it is the list that is refused
  pub wide_measured : measure_call 4 1 1 wide_self parity_k ≡ record { verdict = accepted; length = 98 }
  pub wide_entry : written_k wide_self 98 ≡ record { verdict = refused 7 0; text = blank 98 }
  pub wide_buffer : written_k wide_self 97 ≡ record { verdict = refused 6 7; text = blank 97 }
