-- What judging a text finds.
--   found_scan     the number of blocks or the place that is found, as a scan without values
-- Assumes nothing.
use Rattle.std.specs.Prelude.{ℕ, [], Result, Ok, Err}
use Rattle.text_formats.specs.Format.{Scan, refused, read}
use Rattle.text_items.specs.declared.Broken.{Broken}

abbrev pub found_scan : Result ℕ Broken → Scan
found_scan (Ok n) = read n []
found_scan (Err b) = refused b.place
