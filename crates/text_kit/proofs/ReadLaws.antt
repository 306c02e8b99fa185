-- The reader's verdict and what it leaves, as the code has it.
--   Leaves                            the answer and the three slices are those of the definition
--   read_error .. read_whole          `read_kit`
--   lists_ready, inverse_ready        what the filling requires
-- Assumes nothing.
use Rattle.std.specs.Prelude.{Err, Ok, Result}
use Prim.Native.Nat.{ℕ, ◌*◌, ◌≤◌, ◌<◌}
use mathlib.Core.Path.{◌≡◌, refl, sym, ap, ◌∙◌}
use mathlib.Core.Logic.{◌≢◌}
use mathlib.Core.List.{List, ◌++◌}
use native.Mathlib.Omega.{arith}
use lib.ListN.{length}
use Rattle.text_formats.specs.Items.{Walk, stuck, past, walk, values, Passes, bits_lines}
use Rattle.text.specs.Rules.{values_of}
use Rattle.text.proofs.Kept.{kept_new, kept_old}
use Rattle.staircase.specs.Rules.{Verdict, ◌then◌, kit_lengths}
use Rattle.staircase.specs.Rules.Verdict.{accepted}
use Rattle.staircase.specs.Design.{Params, order}
use Rattle.staircase.specs.System.{row_bytes}
use Rattle.staircase.specs.Demand2.{FitsOrder}
use Rattle.design.specs.declared.Design.{Design}
use Rattle.answers.specs.declared.Refusal.{Refusal}
use Rattle.answers.specs.declared.TextError.{TextError}
use Rattle.answers.specs.declared.TextError.TheVariants.{Refused, Broken as BrokenAt}
use Rattle.text_items.specs.declared.Broken.{Broken}
use Rattle.text_items.specs.Answers.{error_verdict}
use Rattle.answers.specs.Answers.{verdict_of}
use Rattle.design.specs.Sizes.{params_of}
use Rattle.answers.proofs.Checks.{refused_then, passed_then}
use Rattle.staircase.proofs.Rules.{lengths_fit}
use Rattle.text.specs.KitText.{pair_lines}
use Rattle.text.specs.KitReader.{firsts, seconds, packs, pack_rows, kit_params, body_scan, body_rule, self_of, parity_of, inverse_of, read_verdict, read_kit_call}
use Rattle.text_kit.specs.Answers.{kit_scan_verdict, KitDesign}
use Rattle.text_kit_scan.specs.Answers.{front_rule, front_verdict, FrontIs, rest_rule, rest_verdict, RestParts}
use Rattle.text.proofs.KitCounting.{pairs_walked, self-shown, parity-shown, inverse_shown}
use Rattle.text_items.proofs.Handing.{error_first, error_not}
use Rattle.text_kit.proofs.ScanLaws.{front_then, Opens, front-error, opens, small-order, order_is, body_is, rule_is, kit-design}

-- ---- the call

abbrev pub Leaves : Result Design TextError → List ℕ → List ℕ → List ℕ → List ℕ → List ℕ → List ℕ → List ℕ → Type 0
Leaves a s own parity w own' parity' w' =
    (kit_scan_verdict a ≡ (read_kit_call s own parity w).verdict)
    × (KitDesign a s
    × ((own' ≡ (read_kit_call s own parity w).self)
    × ((parity' ≡ (read_kit_call s own parity w).parity)
    × (w' ≡ (read_kit_call s own parity w).inverse))))

module _ (a : Result Design TextError) (s own parity w : List ℕ) (e : kit_scan_verdict a ≡ read_verdict s own parity w) (d : KitDesign a s) where
  leaves_old : kit_scan_verdict a ≢ accepted → Leaves a s own parity w own parity w
  unfolding read_kit_call
  leaves_old h =
      let n : read_verdict s own parity w ≢ accepted = λ z. h (e ∙ z) in
      let v : Verdict = read_verdict s own parity w in
      (e, (d, (sym (kept_old v (self_of s) own n), (sym (kept_old v (parity_of s) parity n), sym (kept_old v (inverse_of s) w n)))))

  leaves_new : kit_scan_verdict a ≡ accepted → (own' parity' w' : List ℕ) → own' ≡ self_of s → parity' ≡ parity_of s → w' ≡ inverse_of s
      → Leaves a s own parity w own' parity' w'
  unfolding read_kit_call
  leaves_new h own' parity' w' f g i =
      let n : read_verdict s own parity w ≡ accepted = sym e ∙ h in
      let v : Verdict = read_verdict s own parity w in
      (e, (d, (f ∙ sym (kept_new v (self_of s) own n), (g ∙ sym (kept_new v (parity_of s) parity n), i ∙ sym (kept_new v (inverse_of s) w n)))))

module _ (s own parity w : List ℕ) where
  from_front : (v : Verdict) → front_rule s ≡ v → (v then (kit_lengths (kit_params s) own parity w then body_rule s)) ≡ read_verdict s own parity w
  unfolding read_verdict
  from_front v e = sym (front_then s (kit_lengths (kit_params s) own parity w then body_rule s) v e)

  module _ (f : Result (Design × ℕ) TextError) (ef : (front_verdict f ≡ front_rule s) × FrontIs f s) where
    pub read_error : (e : TextError) → f ≡ Err e → (a : Result Design TextError) → a ≡ Err e → Leaves a s own parity w own parity w
    unfolding kit_scan_verdict KitDesign
    read_error e g a k =
        rw k
        (leaves_old (Err e) s own parity w
        (sym (error_first 11 e (kit_lengths (kit_params s) own parity w then body_rule s)) ∙ from_front (error_verdict 11 e) (front-error s f ef e g))
        tt
        (error_not 11 e))

    module _ (d : Design) (at : ℕ) (g : f ≡ Ok (d, at)) (x : Result Unit Refusal) (ex : verdict_of x ≡ kit_lengths (params_of d) own parity w) where
      open_is : Opens s d at
      open_is = opens s f ef d at g

      sizes_are : params_of d ≡ kit_params s
      sizes_are = rw (open_is.m-is, open_is.t-is, open_is.M-is, open_is.col-is)

      lengths_are : verdict_of x ≡ kit_lengths (kit_params s) own parity w
      lengths_are = ex ∙ ap (λ (k : Params). kit_lengths k own parity w) sizes_are

      pub read_lengths : (r : Refusal) → x ≡ Err r → (a : Result Design TextError) → a ≡ Err (Refused r) → Leaves a s own parity w own parity w
      unfolding kit_scan_verdict KitDesign verdict_of
      read_lengths r h a k =
          rw k
          (leaves_old (Err (Refused r)) s own parity w
          (sym (ap verdict_of h) ∙ refused_then (body_rule s) lengths_are h ∙ from_front accepted open_is.rule)
          tt
          (error_not 11 (Refused r)))

      module _ (px : x ≡ (Ok tt)) (n : ℕ) (en : (n ≡ d.size * (d.m * d.t)) × (n < 4294967296)) where
        pub read_small : n ≤ 4096
        read_small = small-order s d at open_is n en.0

        module _ (y : Result (ℕ × ℕ) Broken) (ey : (rest_verdict y ≡ rest_rule n s at) × RestParts y n s at) where
          rest-is : rest_verdict y ≡ read_verdict s own parity w
          rest-is = ey.0 ∙ sym (rule_is s d at open_is n en.0) ∙ passed_then (body_rule s) lengths_are px ∙ from_front accepted open_is.rule

          pub read-not : (q : Broken) → y ≡ Err q → (a : Result Design TextError) → a ≡ Err (BrokenAt q.place) → Leaves a s own parity w own parity w
          unfolding kit_scan_verdict KitDesign rest_verdict
          read-not q h a k = rw k (leaves_old (Err (BrokenAt q.place)) s own parity w (sym (ap rest_verdict h) ∙ rest-is) tt (error_not 11 (BrokenAt q.place)))

          module _ (i j : ℕ) (h : y ≡ Ok (i, j)) where
            parts : RestParts (Ok (i, j)) n s at
            parts = rw h at ey.1

            lengths_ok : kit_lengths (params_of d) own parity w ≡ accepted
            unfolding verdict_of
            lengths_ok = sym ex ∙ ap verdict_of px

            fits : FitsOrder n own parity w
            fits = rw en.0 (lengths_fit (params_of d) own parity w lengths_ok)

            -- what the filling requires
            pub lists_ready : (n ≤ 4096) × (Passes (walk (pair_lines 0 n) s i) × ((length own ≡ 2 * n) × (length parity ≡ 2 * n)))
            unfolding RestParts
            lists_ready = (read_small, (parts.0, (fits.self_length, fits.parity_length)))

            pub inverse_ready : (n ≤ 4096) × (Passes (walk (bits_lines n 0 n) s j) × (length w ≡ n * row_bytes n))
            unfolding RestParts
            inverse_ready = (read_small, (parts.1, fits.inverse_length))

            abbrev Ws : List ℕ
            Ws = values (walk (pair_lines 0 n) s i)

            abbrev Us : List ℕ
            Us = values (walk (bits_lines n 0 n) s j)

            order_ok : order (kit_params s) ≡ n
            order_ok = sym (order_is s d at open_is n en.0)

            shows : values_of (body_scan s) ≡ Ws ++ Us
            unfolding RestParts
            shows = ap values_of (body_is s d at open_is n en.0) ∙ parts.2

            passes-past : (v : Walk) → Passes v → (q : ℕ) × (v ≡ past (values v) q)
            passes-past (stuck q) k = absurd k
            passes-past (past ws q) k = (q, refl)

            count : length Ws ≡ 2 * n
            count =
                let (q, e) = passes-past (walk (pair_lines 0 n) s i) lists_ready.1.0 in
                pairs_walked n s i Ws q (omega (arith, read_small)) e

            pub read_whole : (own' parity' w' : List ℕ) → own' ≡ packs (firsts (values (walk (pair_lines 0 n) s i)))
                → parity' ≡ packs (seconds (values (walk (pair_lines 0 n) s i))) → w' ≡ pack_rows n n (values (walk (bits_lines n 0 n) s j))
                → Leaves (Ok d) s own parity w own' parity' w'
            unfolding kit_scan_verdict rest_verdict
            read_whole own' parity' w' a b c =
                leaves_new (Ok d) s own parity w (sym (ap rest_verdict h) ∙ rest-is) (kit-design s d at open_is n en.0) refl own' parity' w'
                (a ∙ sym (self-shown s n Ws Us order_ok shows count))
                (b ∙ sym (parity-shown s n Ws Us order_ok shows count))
                (c ∙ sym (inverse_shown s n Ws Us order_ok shows count))
