-- Laws of what the calls on texts tell.
--   told-by                                         equal verdicts are told alike
--   kit-made, kit-error                             a kit reader's answer
--   blocks-counted, blocks-error                    the answer of a reader of blocks or of a frame
--   Fits, made-fits, refused-design                 what a new design says of m, t and M
--   behind-refused, behind-made, kept-old, kept_on  any reader behind a design that is refused and behind one that is made
--   scan-blocks-*, read-blocks-*                    the readers of block text
--   scan-frame-*, read-frame-*                      those of frame text
-- Assumes nothing.
use Rattle.std.specs.Prelude.{Err, Ok, Result}
use mathlib.Core.Path.{◌≡◌, sym, ap, ◌∙◌, subst}
use mathlib.Core.List.{List, [], ◌∷◌}
use Prim.Native.Nat.{ℕ, ◌*◌}
use Rattle.staircase.specs.Rules.{Verdict, ◌then◌, design_rules}
use Rattle.staircase.specs.Rules.Verdict.{accepted, refused}
use Rattle.design.specs.declared.Design.{Design}
use Rattle.answers.specs.declared.Refusal.{Refusal}
use Rattle.answers.specs.declared.TextError.{TextError}
use Rattle.answers.specs.declared.TextError.TheVariants.{Refused, Broken}
use Rattle.text_items.specs.Answers.{error_verdict}
use Rattle.design.specs.Answers.{DesignIs, Allowed}
use Rattle.rules_verdict.specs.declared.Judged.{Judged}
use Rattle.rules_verdict.specs.Number.{number, place_of, judged_of, told}
use Rattle.rules_verdict.proofs.Refused.{refusal_judged}
use Rattle.text_kit.specs.Answers.{kit_scan_verdict, KitDesign}
use Rattle.text.specs.KitReader.{head_number}
use Rattle.text_frame.specs.Answers.{blocks_verdict, CountIs}
use Rattle.text.specs.FrameReader.{block_rule, block_count, block_info, read_blocks_call, frame_rule, frame_count, frame_info, frame_red, read_frame_call}
use Rattle.text.specs.Rules.{kept}
use Rattle.bauchleton_text.specs.Answers.{kit_answer, blocks_answer, scan_blocks_for, read_blocks_for, scan_frame_for, read_frame_for}
use Rattle.answers.specs.Answers.{refusal_verdict, verdict_of}

pub told-by : (answer : Verdict → List ℕ) (l : List ℕ) {u v : Verdict} {n : ℕ} {k : List ℕ} → u ≡ v → (n ≡ number u) × (k ≡ told (answer u) l)
    → (n ≡ number v) × (k ≡ told (answer v) l)
told-by answer l e (hn, hk) = (hn ∙ ap number e, hk ∙ ap (λ (x : Verdict). told (answer x) l) e)

-- a text's error refuses
error_judged : (rule : ℕ) (e : TextError) (j : Judged) → j ≡ judged_of (error_verdict rule e) → error_verdict rule e ≡ refused j.rule j.place
unfolding number place_of
error_judged rule (Refused r) j i = refusal_judged r j i
error_judged rule (Broken p) j i = rw i

-- ---- kit text

pub kit-made : (l : List ℕ) {a : Result Design TextError} (d : Design) {n : ℕ} {k : List ℕ} → a ≡ Ok d → (n ≡ 0) × (k ≡ told (0 ∷ d.m ∷ d.t ∷ d.size ∷ []) l)
    → (s : List ℕ) → KitDesign a s → (n ≡ number (kit_scan_verdict a)) × (k ≡ told (kit_answer (kit_scan_verdict a) s) l)
unfolding number kit_scan_verdict KitDesign kit_answer
kit-made l d e (hn, hk) s is =
    let q : (d.m ≡ head_number s 0) × (d.t ≡ head_number s 1) × (d.size ≡ head_number s 2) × (d.col ≡ 0) × Allowed d = subst (λ (x : Result Design TextError). KitDesign x s) e is in
    let em : d.m ≡ head_number s 0 = q.0 in
    let et : d.t ≡ head_number s 1 = q.1 in
    let e_m : d.size ≡ head_number s 2 = q.2 in
    let list : 0 ∷ d.m ∷ d.t ∷ d.size ∷ [] ≡ 0 ∷ head_number s 0 ∷ head_number s 1 ∷ head_number s 2 ∷ [] = cc in
    told-by (λ (v : Verdict). kit_answer v s) l (sym (ap kit_scan_verdict e)) (hn, hk ∙ ap (λ (x : List ℕ). told x l) list)

kit-rule : (l : List ℕ) (v : Verdict) {rule place n : ℕ} {k : List ℕ} → v ≡ refused rule place → (n ≡ rule) × (k ≡ told (place ∷ 0 ∷ 0 ∷ 0 ∷ []) l)
    → (s : List ℕ) → (n ≡ number v) × (k ≡ told (kit_answer v s) l)
unfolding number kit_answer
kit-rule l v e h s = told-by (λ (x : Verdict). kit_answer x s) l (sym e) h

pub kit-error : (l : List ℕ) {a : Result Design TextError} (e : TextError) (j : Judged) {n : ℕ} {k : List ℕ} → a ≡ Err e → j ≡ judged_of (error_verdict 11 e)
    → (n ≡ j.rule) × (k ≡ told (j.place ∷ 0 ∷ 0 ∷ 0 ∷ []) l)
    → (s : List ℕ) → (n ≡ number (kit_scan_verdict a)) × (k ≡ told (kit_answer (kit_scan_verdict a) s) l)
unfolding kit_scan_verdict
kit-error l {a = a} e j q i h s = kit-rule l (kit_scan_verdict a) (ap kit_scan_verdict q ∙ error_judged 11 e j i) h s

-- ---- block text and frame text

pub blocks-counted : (l : List ℕ) {a : Result ℕ TextError} (b : ℕ) {n : ℕ} {k : List ℕ} → a ≡ Ok b → (n ≡ 0) × (k ≡ told (0 ∷ b ∷ []) l)
    → (L : ℕ) → CountIs a L → (n ≡ number (blocks_verdict a)) × (k ≡ told (blocks_answer (blocks_verdict a) L) l)
unfolding number blocks_verdict CountIs blocks_answer
blocks-counted l b e (hn, hk) L is =
    let q : b ≡ L = subst (λ (x : Result ℕ TextError). CountIs x L) e is in
    told-by (λ (v : Verdict). blocks_answer v L) l (sym (ap blocks_verdict e)) (hn, hk ∙ ap (λ (x : ℕ). told (0 ∷ x ∷ []) l) q)

blocks_rule : (l : List ℕ) (v : Verdict) {rule place n : ℕ} {k : List ℕ} → v ≡ refused rule place → (n ≡ rule) × (k ≡ told (place ∷ 0 ∷ []) l)
    → (L : ℕ) → (n ≡ number v) × (k ≡ told (blocks_answer v L) l)
unfolding number blocks_answer
blocks_rule l v e h L = told-by (λ (x : Verdict). blocks_answer x L) l (sym e) h

pub blocks-error : (l : List ℕ) {a : Result ℕ TextError} (e : TextError) (j : Judged) {n : ℕ} {k : List ℕ} → a ≡ Err e → j ≡ judged_of (error_verdict 12 e)
    → (n ≡ j.rule) × (k ≡ told (j.place ∷ 0 ∷ []) l)
    → (L : ℕ) → (n ≡ number (blocks_verdict a)) × (k ≡ told (blocks_answer (blocks_verdict a) L) l)
unfolding blocks_verdict
blocks-error l {a = a} e j q i h L = blocks_rule l (blocks_verdict a) (ap blocks_verdict q ∙ error_judged 12 e j i) h L

-- ---- rules 1 to 3

pub record Fits (d : Design) (m t M : ℕ) : Type 0 where
  pub allowed : design_rules m t M 0 ≡ accepted
  pub r : d.m * d.t ≡ m * t
  pub size : d.size ≡ M

pub made-fits : {x : Result Design Refusal} (d : Design) (m t M : ℕ) → x ≡ Ok d → verdict_of x ≡ design_rules m t M 0 → DesignIs x m t M 0 → Fits d m t M
unfolding verdict_of DesignIs
made-fits d m t M e v is =
    let q : (d.m ≡ m) × (d.t ≡ t) × (d.size ≡ M) × (d.col ≡ 0) = subst (λ (x : Result Design Refusal). DesignIs x m t M 0) e is in
    let em : d.m ≡ m = q.0 in
    let et : d.t ≡ t = q.1 in
    record { allowed = sym v ∙ ap verdict_of e; r = cc; size = q.2 }

pub refused-design : {x : Result Design Refusal} (r : Refusal) (j : Judged) (m t M : ℕ) → x ≡ Err r → verdict_of x ≡ design_rules m t M 0
    → j ≡ judged_of (refusal_verdict r) → design_rules m t M 0 ≡ refused j.rule j.place
unfolding verdict_of
refused-design r j m t M e v i = sym v ∙ ap verdict_of e ∙ refusal_judged r j i

-- ---- a reader behind rules 1 to 3: u is their verdict, v the reader's

-- what tell_blocks ensures
abbrev pub Tells : Result ℕ TextError → ℕ → List ℕ → List ℕ → Type 0
Tells b n k l = (L : ℕ) → CountIs b L → (n ≡ number (blocks_verdict b)) × (k ≡ told (blocks_answer (blocks_verdict b) L) l)

module _ (l : List ℕ) (u v : Verdict) (L : ℕ) {n : ℕ} {k : List ℕ} where
  behind-refused : {rule place : ℕ} → u ≡ refused rule place → (n ≡ rule) × (k ≡ told (place ∷ 0 ∷ []) l)
      → (n ≡ number (u then v)) × (k ≡ told (blocks_answer (u then v) L) l)
  behind-refused e h = blocks_rule l (u then v) (ap (λ (x : Verdict). x then v) e) h L

  behind-made : (b : Result ℕ TextError) → u ≡ accepted → blocks_verdict b ≡ v → CountIs b L → Tells b n k l
      → (n ≡ number (u then v)) × (k ≡ told (blocks_answer (u then v) L) l)
  behind-made b e f is tell = told-by (λ (x : Verdict). blocks_answer x L) l (f ∙ sym (ap (λ (x : Verdict). x then v) e)) (tell L is)

-- and what is left in a slice
kept_old : (u v : Verdict) (new old : List ℕ) {rule place : ℕ} → u ≡ refused rule place → old ≡ kept (u then v) new old
unfolding kept
kept_old u v new old e = sym (ap (λ (x : Verdict). kept (x then v) new old) e)

kept_on : (u v : Verdict) (new old : List ℕ) → u ≡ accepted → kept v new old ≡ kept (u then v) new old
kept_on u v new old e = sym (ap (λ (x : Verdict). kept (x then v) new old) e)

-- M and r of a design that was made
fits : {A : Type 0} (g : ℕ → ℕ → A) {d : Design} {m t M : ℕ} → Fits d m t M → g d.size (d.m * d.t) ≡ g M (m * t)
fits g {d = d} {m = m} {t = t} f = ap (λ (z : ℕ). g z (d.m * d.t)) f.size ∙ ap (g _) f.r

-- ---- block text

module _ (l s : List ℕ) where
  pub scan-blocks-refused : (m t M : ℕ) {rule place n : ℕ} {k : List ℕ} → design_rules m t M 0 ≡ refused rule place
      → (n ≡ rule) × (k ≡ told (place ∷ 0 ∷ []) l)
      → (n ≡ number (scan_blocks_for m t M s)) × (k ≡ told (blocks_answer (scan_blocks_for m t M s) (block_count M s)) l)
  unfolding scan_blocks_for
  scan-blocks-refused m t M e h = behind-refused l (design_rules m t M 0) (block_rule M s) (block_count M s) e h

  pub scan-blocks-made : (b : Result ℕ TextError) {d : Design} {m t M : ℕ} {n : ℕ} {k : List ℕ} → Fits d m t M → blocks_verdict b ≡ block_rule d.size s
      → CountIs b (block_count d.size s) → Tells b n k l
      → (n ≡ number (scan_blocks_for m t M s)) × (k ≡ told (blocks_answer (scan_blocks_for m t M s) (block_count M s)) l)
  unfolding scan_blocks_for
  scan-blocks-made b {m = m} {t = t} {M = M} f v is tell =
      behind-made l (design_rules m t M 0) (block_rule M s) (block_count M s) b f.allowed (v ∙ fits (λ (x y : ℕ). block_rule x s) f)
      (subst (CountIs b) (fits (λ (x y : ℕ). block_count x s) f) is) tell

  module _ (info : List ℕ) where
    pub read-blocks-refused : (m t M : ℕ) {rule place n : ℕ} {k : List ℕ} → design_rules m t M 0 ≡ refused rule place
        → (n ≡ rule) × (k ≡ told (place ∷ 0 ∷ []) l)
        → (n ≡ number (read_blocks_for m t M s info).verdict) × (info ≡ (read_blocks_for m t M s info).info)
        × (k ≡ told (blocks_answer (read_blocks_for m t M s info).verdict (block_count M s)) l)
    unfolding read_blocks_for
    read-blocks-refused m t M e h =
        let v : Verdict = (read_blocks_call M s info).verdict in
        let q = behind-refused l (design_rules m t M 0) v (block_count M s) e h in
        (q.0, kept_old (design_rules m t M 0) v (block_info M s) info e, q.1)

    pub read-blocks-made : (b : Result ℕ TextError) {left : List ℕ} {d : Design} {m t M : ℕ} {n : ℕ} {k : List ℕ} → Fits d m t M
        → blocks_verdict b ≡ (read_blocks_call d.size s info).verdict → CountIs b (block_count d.size s)
        → left ≡ (read_blocks_call d.size s info).info → Tells b n k l
        → (n ≡ number (read_blocks_for m t M s info).verdict) × (left ≡ (read_blocks_for m t M s info).info)
        × (k ≡ told (blocks_answer (read_blocks_for m t M s info).verdict (block_count M s)) l)
    unfolding read_blocks_for read_blocks_call
    read-blocks-made b {m = m} {t = t} {M = M} f v is h tell =
        let w : Verdict = (read_blocks_call M s info).verdict in
        let q = behind-made l (design_rules m t M 0) w (block_count M s) b f.allowed (v ∙ fits (λ (x y : ℕ). (read_blocks_call x s info).verdict) f)
        (subst (CountIs b) (fits (λ (x y : ℕ). block_count x s) f) is) tell in
        (q.0, h ∙ fits (λ (x y : ℕ). (read_blocks_call x s info).info) f ∙ kept_on (design_rules m t M 0) w (block_info M s) info f.allowed, q.1)

  -- ---- frame text

  pub scan-frame-refused : (m t M : ℕ) {rule place n : ℕ} {k : List ℕ} → design_rules m t M 0 ≡ refused rule place
      → (n ≡ rule) × (k ≡ told (place ∷ 0 ∷ []) l)
      → (n ≡ number (scan_frame_for m t M s)) × (k ≡ told (blocks_answer (scan_frame_for m t M s) (frame_count M (m * t) s)) l)
  unfolding scan_frame_for
  scan-frame-refused m t M e h = behind-refused l (design_rules m t M 0) (frame_rule M (m * t) s) (frame_count M (m * t) s) e h

  pub scan-frame-made : (b : Result ℕ TextError) {d : Design} {m t M : ℕ} {n : ℕ} {k : List ℕ} → Fits d m t M
      → blocks_verdict b ≡ frame_rule d.size (d.m * d.t) s → CountIs b (frame_count d.size (d.m * d.t) s) → Tells b n k l
      → (n ≡ number (scan_frame_for m t M s)) × (k ≡ told (blocks_answer (scan_frame_for m t M s) (frame_count M (m * t) s)) l)
  unfolding scan_frame_for
  scan-frame-made b {m = m} {t = t} {M = M} f v is tell =
      behind-made l (design_rules m t M 0) (frame_rule M (m * t) s) (frame_count M (m * t) s) b f.allowed (v ∙ fits (λ (x y : ℕ). frame_rule x y s) f)
      (subst (CountIs b) (fits (λ (x y : ℕ). frame_count x y s) f) is) tell

  module _ (info red : List ℕ) where
    pub read-frame-refused : (m t M : ℕ) {rule place n : ℕ} {k : List ℕ} → design_rules m t M 0 ≡ refused rule place
        → (n ≡ rule) × (k ≡ told (place ∷ 0 ∷ []) l)
        → (n ≡ number (read_frame_for m t M s info red).verdict) × (info ≡ (read_frame_for m t M s info red).info) × (red ≡ (read_frame_for m t M s info red).red)
        × (k ≡ told (blocks_answer (read_frame_for m t M s info red).verdict (frame_count M (m * t) s)) l)
    unfolding read_frame_for
    read-frame-refused m t M e h =
        let u : Verdict = design_rules m t M 0 in
        let v : Verdict = (read_frame_call M (m * t) s info red).verdict in
        let q = behind-refused l u v (frame_count M (m * t) s) e h in
        (q.0, kept_old u v (frame_info M (m * t) s) info e, kept_old u v (frame_red M (m * t) s) red e, q.1)

    pub read-frame-made : (b : Result ℕ TextError) {info' red' : List ℕ} {d : Design} {m t M : ℕ} {n : ℕ} {k : List ℕ} → Fits d m t M
        → blocks_verdict b ≡ (read_frame_call d.size (d.m * d.t) s info red).verdict → CountIs b (frame_count d.size (d.m * d.t) s)
        → info' ≡ (read_frame_call d.size (d.m * d.t) s info red).info → red' ≡ (read_frame_call d.size (d.m * d.t) s info red).red → Tells b n k l
        → (n ≡ number (read_frame_for m t M s info red).verdict) × (info' ≡ (read_frame_for m t M s info red).info)
        × (red' ≡ (read_frame_for m t M s info red).red)
        × (k ≡ told (blocks_answer (read_frame_for m t M s info red).verdict (frame_count M (m * t) s)) l)
    unfolding read_frame_for read_frame_call
    read-frame-made b {m = m} {t = t} {M = M} f v is hi hr tell =
        let u : Verdict = design_rules m t M 0 in
        let w : Verdict = (read_frame_call M (m * t) s info red).verdict in
        let a : u ≡ accepted = f.allowed in
        let q = behind-made l u w (frame_count M (m * t) s) b a (v ∙ fits (λ (x y : ℕ). (read_frame_call x y s info red).verdict) f)
        (subst (CountIs b) (fits (λ (x y : ℕ). frame_count x y s) f) is) tell in (
          q.0,
          hi ∙ fits (λ (x y : ℕ). (read_frame_call x y s info red).info) f ∙ kept_on u w (frame_info M (m * t) s) info a,
          hr ∙ fits (λ (x y : ℕ). (read_frame_call x y s info red).red) f ∙ kept_on u w (frame_red M (m * t) s) red a,
          q.1,
        )
