-- The scan of a text by its two lines, and designs that rules 1 to 3 let through.
--   small                           the sizes of designs that rules 1 to 3 let through
--   Found, two_lines                the two lines at the start of a text, or the place where they go wrong
--   scan-stuck, scan_found          the verdict of either
--   Accepted, accepted-is           an accepted text starts with two lines of a design that passes, and the scan reads the rest
-- Assumes nothing.
use Prim.Native.Nat.{ℕ, ◌*◌}
use mathlib.Core.Path.{◌≡◌, refl, sym, ap, ◌∙◌}
use mathlib.Core.List.{List, [], ◌∷◌}
use mathlib.Core.Logic.{◌⊎◌, inl, inr}
use native.Mathlib.Omega.{arith}
use lib.ListN.{get_or}
use Rattle.text_formats.specs.Format as format
use Rattle.text_formats.specs.Format.{Scan, scan}
use Rattle.text_formats.specs.Items.{Walk, stuck, past, walk, scan_at}
use Rattle.text.specs.Rules.{scan_rule}
use Rattle.staircase.specs.Design.{order}
use Rattle.staircase.specs.Rules.{Verdict, ◌then◌, design_rules}
use Rattle.staircase.specs.Rules.Verdict.{accepted, refused}
use Rattle.staircase.proofs.Rules.{then_first, then_rest, design_limits}
use Rattle.text.specs.KitText.{head_items, kit_format, rest_format}
use Rattle.text.specs.KitReader.{head_number, kit_params, body_scan, body_rule, scan_kit, Passing}
use Rattle.text.proofs.KitTexts.{Small, head_three, kit-rest}
use Rattle.text.proofs.TwoLines.{Shown, head_read, head_stuck}

-- ---- designs that rules 1 to 3 let through

pub small : (m t M : ℕ) → Passing m t M → Small m t M
small m t M e =
    let l = design_limits m t M 0 e in
    record { hm = omega (arith, l.m-high); ht = omega (arith, l.t-high); h_m = omega (arith, l.M-high); hn = omega (arith, l.order-high) }

-- ---- the two lines of a text, and what the scan makes of the rest

pub record Found (s : List ℕ) : Type 0 where
  pub m : ℕ
  pub t : ℕ
  pub M : ℕ
  pub q : ℕ
  pub lines : walk head_items s 0 ≡ past (m ∷ t ∷ M ∷ []) q

pub two_lines : (s : List ℕ) → ((q : ℕ) × (walk head_items s 0 ≡ stuck q)) ⊎ Found s
two_lines s = go (walk head_items s 0) refl
  where
    go : (w : Walk) → walk head_items s 0 ≡ w → ((q : ℕ) × (walk head_items s 0 ≡ stuck q)) ⊎ Found s
    go (stuck q) e = inl (q, e)
    go (past ws q) e =
        inr
        (record { m = get_or ws 0 0; t = get_or ws 1 0; M = get_or ws 2 0; q = q; lines = e ∙ ap (λ (l : List ℕ). past l q) (head_three s ws q e) })

pub scan-stuck : (s : List ℕ) (q : ℕ) → walk head_items s 0 ≡ stuck q → scan_kit s ≡ refused 11 q
unfolding scan_kit
scan-stuck s q e =
    ap (λ (v : Verdict). v then design_rules (head_number s 0) (head_number s 1) (head_number s 2) 0 then body_rule s) (head_stuck s q e)

module _ (s : List ℕ) (F : Found s) where
  pub shown : Shown s F.m F.t F.M F.q
  shown = head_read s F.m F.t F.M F.q F.lines

  pub order_found : order (kit_params s) ≡ F.M * (F.m * F.t)
  order_found = rw (shown.first, shown.second, shown.third)

  pub body_found : body_scan s ≡ scan_at (rest_format (F.M * (F.m * F.t))) s F.q
  unfolding body_scan
  body_found = rw (shown.after, order_found)

  pub scan_found : scan_kit s ≡ (design_rules F.m F.t F.M 0 then scan_rule 11 (scan (kit_format F.m F.t F.M) s))
  unfolding scan_kit body_rule
  scan_found =
      ap (λ (v : Verdict). v then design_rules (head_number s 0) (head_number s 1) (head_number s 2) 0 then scan_rule 11 (body_scan s)) shown.rule
      ∙ ap (λ (x : Scan). design_rules (head_number s 0) (head_number s 1) (head_number s 2) 0 then scan_rule 11 x)
      (body_found ∙ sym (kit-rest s F.m F.t F.M F.q F.lines))
      ∙ rw (shown.first, shown.second, shown.third)

pub rule_read : (x : Scan) → scan_rule 11 x ≡ accepted → (L : ℕ) × (vs : List ℕ) × (x ≡ format.read L vs)
unfolding scan_rule
rule_read (format.refused k) e = let z : ◌≡◌ {A = ℕ} 0 1 = cc in absurd (omega arith)
rule_read (format.read L vs) e = (L, vs, refl)

-- ---- accepted texts

pub record Accepted (s : List ℕ) : Type 0 where
  pub found : Found s
  pub passing : Passing found.m found.t found.M
  pub mark : ℕ
  pub vs : List ℕ
  pub scanned : scan (kit_format found.m found.t found.M) s ≡ format.read mark vs

pub accepted-is : (s : List ℕ) → scan_kit s ≡ accepted → Accepted s
accepted-is s e = go (two_lines s)
  where
    go : ((q : ℕ) × (walk head_items s 0 ≡ stuck q)) ⊎ Found s → Accepted s
    go (inl (q, f)) = let g = scan-stuck s q f in let z : ◌≡◌ {A = ℕ} 0 1 = cc in absurd (omega arith)
    go (inr F) =
        let d : Verdict = design_rules F.m F.t F.M 0 in
        let x : Scan = scan (kit_format F.m F.t F.M) s in
        let g : (d then scan_rule 11 x) ≡ accepted = sym (scan_found s F) ∙ e in
        let (L, vs, h) = rule_read x (then_rest d (scan_rule 11 x) g) in
        record { found = F; passing = then_first d (scan_rule 11 x) g; mark = L; vs = vs; scanned = h }
