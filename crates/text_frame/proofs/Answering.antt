-- What judging finds, as the answers of the calls.
--   found_wrong, found_count      the scan behind what is found
--   count-told, place_told        the answers to what is found
--   blocks_found, frame_found     judging by the sizes that the code has finds the scans that the rules cite
--   blocks-told, frame-told       the answers say what these rules say
--   blocks_accepted               an answer that is accepted is a number of blocks
-- Assumes nothing.
use Prim.Native.Nat.{ℕ, ◌*◌}
use mathlib.Core.Path.{◌≡◌, refl, sym, ap, subst, ◌∙◌}
use mathlib.Core.List.{List, []}
use native.Mathlib.Omega.{arith}
use Rattle.text_formats.specs.Format as format
use Rattle.text_formats.specs.Format.{Scan, read, scan}
use Rattle.text_formats.specs.Items.{verdict}
use Rattle.staircase.specs.Design.{most-blocks}
use Rattle.text.specs.Rules.{scan_rule, mark, values_of}
use Rattle.text.specs.FrameText.{block_format, frame_format}
use Rattle.std.specs.Prelude.{Result, Ok, Err, IsOk}
use Rattle.text_items.proofs.Handing.{error_not}
use Rattle.staircase.specs.Rules.Verdict.{accepted}
use Rattle.text_frame_scan.specs.Judged.{found_scan}
use Rattle.text_frame.specs.Answers.{blocks_verdict, CountIs}
use Rattle.text.specs.FrameReader.{block_scan, block_rule, block_count, frame_scan, frame_rule, frame_count}
use Rattle.answers.specs.declared.TextError.{TextError}
use Rattle.answers.specs.declared.TextError.TheVariants.{Broken as BrokenAt}
use Rattle.text_items.specs.declared.Broken.{Broken}

scan_wrong : (x : Scan) (q : ℕ) → format.refused q ≡ verdict x → x ≡ format.refused q
scan_wrong (format.refused r) q e = sym e
scan_wrong (read l vs) q e = let z : ◌≡◌ {A = ℕ} 0 1 = cc in absurd (omega arith)

scan-count : (x : Scan) (n : ℕ) → read n [] ≡ verdict x → x ≡ read n (values_of x)
unfolding values_of
scan-count (format.refused r) n e = let z : ◌≡◌ {A = ℕ} 0 1 = cc in absurd (omega arith)
scan-count (read l vs) n e = let z : l ≡ n = cc in ap (λ (m : ℕ). read m vs) z

module _ (x : Scan) (f : Result ℕ Broken) (e : found_scan f ≡ verdict x) where
  pub found_wrong : (q : Broken) → f ≡ Err q → x ≡ format.refused q.place
  found_wrong q g = scan_wrong x q.place (sym (ap found_scan g) ∙ e)

  pub found_count : (n : ℕ) → f ≡ Ok n → x ≡ read n (values_of x)
  found_count n g = scan-count x n (sym (ap found_scan g) ∙ e)

-- the answers to what is found
pub count-told : (f : Result ℕ Broken) (n : ℕ) → f ≡ Ok n → (blocks_verdict (Ok n) ≡ scan_rule 12 (found_scan f)) × CountIs (Ok n) (mark (found_scan f))
unfolding blocks_verdict CountIs scan_rule mark
count-told f n e = (sym (ap (λ (g : Result ℕ Broken). scan_rule 12 (found_scan g)) e), sym (ap (λ (g : Result ℕ Broken). mark (found_scan g)) e))

pub place_told : (f : Result ℕ Broken) (q : Broken) → f ≡ Err q → (a : Result ℕ TextError) → a ≡ Err (BrokenAt q.place)
    → (blocks_verdict a ≡ scan_rule 12 (found_scan f)) × CountIs a (mark (found_scan f))
unfolding blocks_verdict CountIs scan_rule
place_told f q e a h = rw h (sym (ap (λ (g : Result ℕ Broken). scan_rule 12 (found_scan g)) e), tt)

scanned : (l : ℕ) (vs : List ℕ) → scan_rule 12 (read l []) ≡ scan_rule 12 (read l vs)
unfolding scan_rule
scanned l vs = refl

counted : (l : ℕ) (vs : List ℕ) → mark (read l []) ≡ mark (read l vs)
unfolding mark
counted l vs = refl

-- the answer that tells a scan's verdict tells the scan
as_told : (x : Scan) (f : Result ℕ Broken) (a : Result ℕ TextError) → found_scan f ≡ verdict x → (blocks_verdict a ≡ scan_rule 12 (found_scan f)) × CountIs a (mark (found_scan f))
    → (blocks_verdict a ≡ scan_rule 12 x) × CountIs a (mark x)
as_told x f a e (v, n) = (v ∙ ap (scan_rule 12) e ∙ rule x, subst (CountIs a) (ap mark e ∙ marked x) n)
  where
    rule : (x : Scan) → scan_rule 12 (verdict x) ≡ scan_rule 12 x
    rule (format.refused q) = refl
    rule (read l vs) = scanned l vs

    marked : (x : Scan) → mark (verdict x) ≡ mark x
    marked (format.refused q) = refl
    marked (read l vs) = counted l vs

-- ---- block text

module _ (M area : ℕ) (s : List ℕ) (f : Result ℕ Broken) (ea : area ≡ M * M) (e : found_scan f ≡ verdict (scan (block_format area most-blocks) s)) where
  pub blocks_found : found_scan f ≡ verdict (block_scan M s)
  unfolding block_scan
  blocks_found = e ∙ ap (λ (a : ℕ). verdict (scan (block_format a most-blocks) s)) ea

  pub blocks-told : (a : Result ℕ TextError) → (blocks_verdict a ≡ scan_rule 12 (found_scan f)) × CountIs a (mark (found_scan f))
      → (blocks_verdict a ≡ block_rule M s) × CountIs a (block_count M s)
  unfolding block_rule block_count
  blocks-told a t = as_told (block_scan M s) f a blocks_found t

-- ---- frame text

module _ (M r area order : ℕ) (s : List ℕ) (f : Result ℕ Broken) (ea : area ≡ M * M) (eo : order ≡ M * r) (e : found_scan f ≡ verdict (scan (frame_format area order most-blocks) s)) where
  pub frame_found : found_scan f ≡ verdict (frame_scan M r s)
  unfolding frame_scan
  frame_found = e ∙ ap (λ (a : ℕ). verdict (scan (frame_format a order most-blocks) s)) ea ∙ ap (λ (o : ℕ). verdict (scan (frame_format (M * M) o most-blocks) s)) eo

  pub frame-told : (a : Result ℕ TextError) → (blocks_verdict a ≡ scan_rule 12 (found_scan f)) × CountIs a (mark (found_scan f))
      → (blocks_verdict a ≡ frame_rule M r s) × CountIs a (frame_count M r s)
  unfolding frame_rule frame_count
  frame-told a t = as_told (frame_scan M r s) f a frame_found t

-- ---- the answer

pub blocks_accepted : (x : Result ℕ TextError) → blocks_verdict x ≡ accepted → IsOk x
unfolding blocks_verdict
blocks_accepted (Ok n) e = refl
blocks_accepted (Err r) e = absurd (error_not 12 r e)
