-- A loop over the chunks of a list, of so many entries, as far as it has them.
--   chunk_rest   what is left after a chunk
--   chunk_at     an entry of the chunk
-- Assumes nothing.
use mathlib.Core.Path.{◌≡◌, sym, ap, ◌∙◌}
use mathlib.Core.List.{List, ◌++◌}
use Prim.Native.Nat.{ℕ, ◌+◌, ◌≤◌, ◌<◌, min}
use native.Mathlib.Decide.{dec_le}
use native.Mathlib.Omega.{arith}
use lib.ListN.{length, get_or, drop, drop_of_length-le, length-drop, get_or-append}
use lib.Seq.{drop-drop, drop-append_seam, get_or-drop}

-- n entries are passed, and the chunk is the next of the list
module _ (list chunk rest : List ℕ) (n : ℕ) (next : drop n list ≡ chunk ++ rest) where
  pub chunk_rest : (size : ℕ) → length chunk ≡ min size (length (drop n list)) → rest ≡ drop (n + size) list
  chunk_rest size long =
      sym (drop-append_seam chunk rest) ∙ ap (λ (z : List ℕ). drop (length chunk) z) (sym next) ∙ drop-drop (length chunk) n list ∙ go (dec_le (n + size) (length list))
    where
      go : Dec (n + size ≤ length list) → drop (n + length chunk) list ≡ drop (n + size) list
      go (yes h) = ap (λ (z : ℕ). drop (n + z) list) (omega (arith, long, length-drop n list))
      go (no h) =
          drop_of_length-le list {i = n + length chunk} (omega (arith, long, length-drop n list)) ∙ sym (drop_of_length-le list {i = n + size} (omega arith))

  pub chunk_at : (k : ℕ) → k < length chunk → get_or chunk k 0 ≡ get_or list (n + k) 0
  chunk_at k h =
      sym (get_or-append chunk rest 0 k h) ∙ ap (λ (z : List ℕ). get_or z k 0) (sym next) ∙ get_or-drop n list k 0
