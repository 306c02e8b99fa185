-- What a reader promises about texts that are two lines and some items, as kit texts and list texts are. The reader is any verdict that judges a text by
-- its two lines, by rules 1 to 3 and by the scan of the rest.
--   longest_once                     one length alone is the longest
--   starts_found, found_starts       the two lines with which a text starts are found there
--   headed_cases, headed_once        a text starts with two lines or not, and with one design's alone
--   headed_accepted                  a text is accepted exactly when it is one of a design that rules 1 to 3 let through
--   headed_place_lines, headed_place_rest   rule 11 and its place: of a text that does not start with two lines, and of one that starts with those of a
--                                    design that rules 1 to 3 let through
--   headed_rules                     a text that starts with two lines that rules 1 to 3 refuse
-- Assumes nothing.
use Prim.Native.Nat.{ℕ, ◌+◌, ◌*◌, ◌≤◌}
use mathlib.Core.Path.{◌≡◌, refl, sym, ap, ◌∙◌, subst}
use mathlib.Core.List.{List}
use mathlib.Core.Logic.{◌⊎◌, inl, inr, ◌↔◌}
use native.Mathlib.Omega.{arith}
use lib.ListN.{length, drop}
use Rattle.text_formats.specs.Format as format
use Rattle.text_formats.specs.Format.{Item, Longest, Scan, scan}
use Rattle.text_formats.specs.Items.{stuck, walk}
use Rattle.text_formats.proofs.Scan.{scan-complete, scan-sound}
use Rattle.text_formats.proofs.Spelling.{Tidy}
use Rattle.text.specs.Rules.{scan_rule}
use Rattle.staircase.specs.Rules.{Verdict, ◌then◌, design_rules}
use Rattle.staircase.specs.Rules.Verdict.{accepted, refused}
use Rattle.staircase.proofs.Rules.{then_first, then_rest}
use Rattle.text.specs.KitText.{head_items, head_bytes, ShortNumbers, StartsKit}
use Rattle.text.specs.KitReader.{Passing}
use Rattle.text.proofs.KitTexts.{head_place, head_found, head_passed, head_small, headed, HeadedText, headed_clear, headed_starts, headed_rest, headed_place}
use Rattle.text.proofs.KitJudged.{small, Found, two_lines, rule_read}
use Rattle.text.proofs.KitLines.{headed_longest}

-- one length alone is the longest
longest_once : (T : List ℕ → Type 0) (s : List ℕ) (j k : ℕ) → Longest T s j → Longest T s k → j ≡ k
longest_once T s j k a b = omega (arith, a.most k b.shared, b.most j a.shared)

-- ---- two lines at the start of a text

-- the two lines with which a text starts are found there
unfoldable pub starts_found : (s : List ℕ) (m t M : ℕ) → StartsKit m t M s → Found s
starts_found s m t M h =
    record { m = m; t = t; M = M; q = 0 + length (head_bytes m t M); lines = head_found m t M s h.rest h.m-short h.t-short h.M-short h.text }

found_starts : (s : List ℕ) (F : Found s) → StartsKit F.m F.t F.M s
found_starts s F =
    let l = head_small s F.m F.t F.M F.q F.lines in
    record { m-short = l.0; t-short = l.1; M-short = l.2; rest = drop F.q s; text = (head_passed s F.m F.t F.M F.q F.lines).spelt }

-- A text starts with two lines, or it does not; and with those of one design alone.
pub headed_cases : (s : List ℕ) → ((m t M : ℕ) → StartsKit m t M s → ⊥) ⊎ ((m : ℕ) × (t : ℕ) × (M : ℕ) × StartsKit m t M s)
unfolding starts_found
headed_cases s = go (two_lines s)
  where
    go : ((q : ℕ) × (walk head_items s 0 ≡ stuck q)) ⊎ Found s → ((m t M : ℕ) → StartsKit m t M s → ⊥) ⊎ ((m : ℕ) × (t : ℕ) × (M : ℕ) × StartsKit m t M s)
    go (inl (q, f)) = inl (λ m t M h. let g = (starts_found s m t M h).lines in let z : ◌≡◌ {A = ℕ} 0 1 = cc in omega arith)
    go (inr F) = inr (F.m, F.t, F.M, found_starts s F)

pub headed_once : (s : List ℕ) (m t M m₂ t₂ M₂ : ℕ) → StartsKit m t M s → StartsKit m₂ t₂ M₂ s → (m ≡ m₂) × (t ≡ t₂) × (M ≡ M₂)
unfolding starts_found
headed_once s m t M m₂ t₂ M₂ a b =
    let f = (starts_found s m t M a).lines in
    let g = (starts_found s m₂ t₂ M₂ b).lines in
    let x : m ≡ m₂ = cc in
    let y : t ≡ t₂ = cc in
    let z : M ≡ M₂ = cc in
    (x, y, z)

-- ---- a reader of such texts

module _ (body : ℕ → List Item) (tidy : (n : ℕ) → n ≤ 10000 → Tidy (body n)) (judge : List ℕ → Verdict)
    (judge-stuck : (s : List ℕ) (q : ℕ) → walk head_items s 0 ≡ stuck q → judge s ≡ refused 11 q)
    (judge-found : (s : List ℕ) (F : Found s)
    → judge s ≡ (design_rules F.m F.t F.M 0 then scan_rule 11 (scan (headed body F.m F.t F.M) s))) where
  -- A text is accepted exactly when it is such a text of a design that rules 1 to 3 let through.
  pub headed_accepted : (s : List ℕ) → (judge s ≡ accepted) ↔ HeadedText body Passing s
  unfolding scan_rule starts_found
  headed_accepted s = (there (two_lines s), back)
    where
      there : ((q : ℕ) × (walk head_items s 0 ≡ stuck q)) ⊎ Found s → judge s ≡ accepted → HeadedText body Passing s
      there (inl (q, f)) e = let g = judge-stuck s q f in let z : ◌≡◌ {A = ℕ} 0 1 = cc in absurd (omega arith)
      there (inr F) e =
          let d : Verdict = design_rules F.m F.t F.M 0 in
          let x : Scan = scan (headed body F.m F.t F.M) s in
          let g : (d then scan_rule 11 x) ≡ accepted = sym (judge-found s F) ∙ e in
          let p : Passing F.m F.t F.M = then_first d (scan_rule 11 x) g in
          let q = small F.m F.t F.M p in
          let (L, vs, h) = rule_read x (then_rest d (scan_rule 11 x) g) in (
            F.m,
            F.t,
            F.M,
            p,
            (
              L,
              vs,
              scan-sound (headed body F.m F.t F.M) L vs s (headed_clear body F.m F.t F.M q (tidy (F.M * (F.m * F.t)) q.hn)) h,
            ),
          )

      back : HeadedText body Passing s → judge s ≡ accepted
      back (m, t, M, p, (L, vs, r)) =
          let g = small m t M p in
          let (u, e) = headed_starts body m t M s (L, vs, r) in
          judge-found s (starts_found s m t M (record { m-short = g.hm; t-short = g.ht; M-short = g.h_m; rest = u; text = e }))
          ∙ ap (λ (v : Verdict). v then scan_rule 11 (scan (headed body m t M) s)) p
          ∙ ap (scan_rule 11) (scan-complete (headed body m t M) L vs s (headed_clear body m t M g (tidy (M * (m * t)) g.hn)) r)

  -- A text that does not start with two lines is refused by rule 11, and its place is the length of the longest start that some such text shares,
  -- whatever its three numbers are: it goes wrong within the two lines.
  pub headed_place_lines : (s : List ℕ) → ((m t M : ℕ) → StartsKit m t M s → ⊥) → (k : ℕ)
      → (judge s ≡ refused 11 k) ↔ Longest (HeadedText body ShortNumbers) s k
  headed_place_lines s none k = go (two_lines s)
    where
      go : ((q : ℕ) × (walk head_items s 0 ≡ stuck q)) ⊎ Found s → (judge s ≡ refused 11 k) ↔ Longest (HeadedText body ShortNumbers) s k
      go (inl (q, f)) =
          let g = judge-stuck s q f in
          let l : Longest (HeadedText body ShortNumbers) s q = headed_longest body s none q (head_place s q f) in (
            λ e. let z : q ≡ k = cc in subst (λ (j : ℕ). Longest (HeadedText body ShortNumbers) s j) z l,
            λ h. g ∙ ap (λ (n : ℕ). refused 11 n) (longest_once (HeadedText body ShortNumbers) s q k l h),
          )
      go (inr F) = absurd (none F.m F.t F.M (found_starts s F))

  -- A text that starts with the two lines of a design that rules 1 to 3 let through is refused by rule 11 exactly where it is no such text of such a
  -- design, and its place is the length of the longest start that some such text of such a design shares.
  pub headed_place_rest : (s : List ℕ) (m t M : ℕ) → StartsKit m t M s → Passing m t M
      → (k : ℕ) → (judge s ≡ refused 11 k) ↔ ((HeadedText body Passing s → ⊥) × Longest (HeadedText body Passing) s k)
  unfolding scan_rule starts_found
  headed_place_rest s m t M h p k = go (scan (headed body m t M) s) refl
    where
      F : Found s
      F = starts_found s m t M h

      found : judge s ≡ scan_rule 11 (scan (headed body m t M) s)
      found = judge-found s F ∙ ap (λ (v : Verdict). v then scan_rule 11 (scan (headed body m t M) s)) p

      place : (j : ℕ) → scan (headed body m t M) s ≡ format.refused j → Longest (HeadedText body Passing) s j
      place j e =
          headed_place s m t M F.q F.lines body (small m t M p) (tidy (M * (m * t)) (small m t M p).hn) Passing small p j
          (sym (headed_rest s m t M F.q F.lines body) ∙ e)

      go : (x : Scan) → scan (headed body m t M) s ≡ x → (judge s ≡ refused 11 k) ↔ ((HeadedText body Passing s → ⊥) × Longest (HeadedText body Passing) s k)
      go (format.refused j) e =
          let v : judge s ≡ refused 11 j = found ∙ ap (scan_rule 11) e in (
            λ f.
                let z : j ≡ k = cc in
                (λ x. let a = (headed_accepted s).1 x in let y : ◌≡◌ {A = ℕ} 0 1 = cc in absurd (omega arith), place k (e ∙ ap format.refused z)),
            λ x. v ∙ ap (λ (n : ℕ). refused 11 n) (longest_once (HeadedText body Passing) s j k (place j e) x.1),
          )
      go (format.read L vs) e =
          let v : judge s ≡ accepted = found ∙ ap (scan_rule 11) e in (
            λ f. let y : ◌≡◌ {A = ℕ} 0 1 = cc in absurd (omega arith),
            λ x. absurd (x.0 ((headed_accepted s).0 v)),
          )

  -- A text that starts with two lines whose numbers rules 1 to 3 refuse is refused so, whatever follows.
  pub headed_rules : (s : List ℕ) (m t M n k : ℕ) → StartsKit m t M s → design_rules m t M 0 ≡ refused n k → judge s ≡ refused n k
  unfolding starts_found
  headed_rules s m t M n k h p =
      judge-found s (starts_found s m t M h) ∙ ap (λ (v : Verdict). v then scan_rule 11 (scan (headed body m t M) s)) p
