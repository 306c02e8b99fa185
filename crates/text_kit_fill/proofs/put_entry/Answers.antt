-- Two stores in a row.
use native.Mathlib.Numerals.{add-one}
use Rattle.text_kit_fill.proofs.put_entry.Goals as goal

pub returns : goal.returns
returns c = rw add-one
