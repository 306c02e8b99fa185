-- The steps of `makekit`, as the code has them.
--   front_starts, front_error                 the two lines
--   lists_broken, lists-read                  the lists' lines
--   kit_shown                                 what is printed for the lists that were filled
--   long-prints                               rule 13 for the kit's text
--   inverse-room, make_ready                  the arrays have room for the maker
--   made-prints                               what the maker's answer prints is what is printed for the lists
--   write-part .. kit-printed                 the text that is written
-- Assumes nothing.
use Rattle.std.specs.Prelude.{Err, Ok, Result}
use mathlib.Core.Path.{◌≡◌, refl, sym, ap, ap₂, ◌∙◌}
use mathlib.Core.List.{List, ◌++◌}
use Prim.Native.Nat.{ℕ, ◌+◌, ◌*◌, ◌≤◌, ◌<◌}
use native.Mathlib.Omega.{arith}
use native.Mathlib.Nat.{mul-le-mul}
use borrow.Author.Tests.{lt-ltb, le-ltb}
use lib.Dec.{ltb}
use lib.ListN.{length, replicate, length-replicate, take, drop}
use lib.Seq.{sets, sets-eq, length-take-le}
use Rattle.text_formats.specs.Format as format
use Rattle.text_formats.specs.Items.{walk, values, scan_at}
use Rattle.staircase.specs.System.{row_bytes}
use Rattle.staircase.specs.Demand2.{FitsOrder}
use Rattle.staircase.specs.Rules.{Verdict, refuse, kit_lengths}
use Rattle.staircase.specs.Rules.Verdict.{accepted, refused}
use Rattle.staircase.specs.Maker.{Made, make_work, make_verdict, made_by, make_call}
use Rattle.design.specs.declared.Design.{Design}
use Rattle.answers.specs.declared.Refusal.{Refusal}
use Rattle.design.specs.Answers.{Allowed}
use Rattle.design.specs.Sizes.{params_of, order_of}
use Rattle.rules_verdict.specs.declared.Judged.{Judged}
use Rattle.rules_verdict.specs.Number.{judged_of}
use Rattle.text.specs.Rules.{scan_rule}
use Rattle.text.specs.KitText.{pair_lines, kit_bytes}
use Rattle.text.specs.KitReader.{head_number, firsts, seconds, packs}
use Rattle.text.specs.KitWriter.{text_length}
use Rattle.text.specs.Programs.{refusal_text, most-input, printed}
use Rattle.text.specs.MakeKit.{lists_format, lists_scan, lists_rule, self_shown, parity_shown, text_rule, make_kit_call, make_kit_output}
use Rattle.text.proofs.Programs.{then_refused, then_on}
use Rattle.text.proofs.KitSpelled.{text-length}
use Rattle.answers.specs.declared.TextError.{TextError}
use Rattle.text_items.specs.declared.Broken.{Broken}
use Rattle.text_items.specs.Answers.{error_verdict}
use Rattle.text_kit_scan.specs.Answers.{front_rule, front_verdict, FrontIs, PartIs, ListsAre}
use Rattle.program.specs.Output.{Printed, most-output}
use Rattle.program.proofs.Bounds.{few-rows}
use Rattle.program.proofs.Printing.{printed-text}
use Rattle.program.proofs.Starting.{error_judged}
use Rattle.program_makekit.specs.Steps.{kit_made, kit_output, Fronted, Listed, Measured, MakeReady, WriteReady}
use Rattle.text.proofs.MakeKitLaws.{front-refused, lists-refused, behind-lists, lists-accepted, self-values, parity-values, rows-below}
use Rattle.answers.specs.Answers.{verdict_of}

-- ---- the two lines

module _ (s : List ℕ) (short : length s ≤ most-input) (x : Result (Design × ℕ) TextError) (ev : front_verdict x ≡ front_rule s) where
  pub front_starts : (d : Design) (at : ℕ) → x ≡ Ok (d, at) → FrontIs x s → Fronted d at s
  unfolding front_verdict FrontIs
  front_starts d at f i =
      let g : FrontIs (Ok (d, at)) s = rw f at i in
      record { short = short; front = sym ev ∙ ap front_verdict f; m-is = g.0; t-is = g.1; M-is = g.2; col-is = g.3; allowed = g.4; at-is = g.5 }

  pub front_error : (e : TextError) (j : Judged) → x ≡ Err e → j ≡ judged_of (error_verdict 11 e) → make_kit_output s ≡ refusal_text j.rule j.place
  unfolding front_verdict front_rule
  front_error e j f g = front-refused s short j.rule j.place (sym ev ∙ ap front_verdict f ∙ error_judged 11 e j g)

-- ---- the lists' lines

module _ (d : Design) (at : ℕ) (s : List ℕ) (F : Fronted d at s) (n : ℕ) (en : n ≡ order_of d) (y : Result ℕ Broken) (ey : ListsAre y n s at) where
  scan-is : lists_scan s ≡ scan_at (lists_format n) s at
  unfolding lists_scan
  scan-is = rw (en, F.m-is, F.t-is, F.M-is, F.at-is)

  pub lists_broken : (b : Broken) → y ≡ Err b → make_kit_output s ≡ refusal_text 11 b.place
  unfolding PartIs lists_rule scan_rule front_rule
  lists_broken b f =
      let g : scan_at (lists_format n) s at ≡ format.refused b.place = rw f at ey in
      lists-refused s F.short F.front 11 b.place (ap (scan_rule 11) (scan-is ∙ g))

  pub lists-read : (i : ℕ) → y ≡ Ok i → Listed d i s
  unfolding PartIs
  lists-read i f =
      let g : PartIs (lists_format n) (pair_lines 0 n) (Ok i) s at = rw f at ey in
      record { at = at; fronted = F; right = rw en at g.0; shows = rw en at (scan-is ∙ g.1) }

-- ---- the lists

module _ (d : Design) (i : ℕ) (s : List ℕ) (L : Listed d i s) where
  abbrev Shown : List ℕ
  Shown = values (walk (pair_lines 0 (order_of d)) s i)

  output_shown : make_kit_output s ≡ kit_output (head_number s 0) (head_number s 1) (head_number s 2) (self_shown s) (parity_shown s)
  unfolding kit_output kit_made text_rule make_kit_call front_rule
  output_shown = behind-lists s L.fronted.short L.fronted.front (lists-accepted s Shown L.shows)

  pub kit_shown : (n : ℕ) (own parity : List ℕ) → n ≡ order_of d → own ≡ packs (firsts (values (walk (pair_lines 0 n) s i)))
      → parity ≡ packs (seconds (values (walk (pair_lines 0 n) s i))) → make_kit_output s ≡ kit_output d.m d.t d.size own parity
  kit_shown n own parity en eo ep =
      let vs : ℕ → List ℕ = λ k. values (walk (pair_lines 0 k) s i) in
      let a : own ≡ self_shown s = eo ∙ ap (λ (k : ℕ). packs (firsts (vs k))) en ∙ sym (self-values s Shown L.shows) in
      let b : parity ≡ parity_shown s = ep ∙ ap (λ (k : ℕ). packs (seconds (vs k))) en ∙ sym (parity-values s Shown L.shows) in
      output_shown ∙ rw (a, b, L.fronted.m-is, L.fronted.t-is, L.fronted.M-is)

-- ---- the length of the kit's text

pub long-prints : (m t M : ℕ) (own parity : List ℕ) (long : ℕ) → long ≡ text_length m t M own parity → most-input < long
    → kit_output m t M own parity ≡ refusal_text 13 1
unfolding kit_output printed
long-prints m t M own parity long e h =
    let l : most-input < text_length m t M own parity = rw e at h in
    ap (λ (v : Verdict). printed v (kit_bytes m t M own parity (kit_made m t M own parity).inverse))
    (then_refused (refuse (ltb most-input (text_length m t M own parity)) 13 1) (kit_made m t M own parity).verdict 13 1
    (simp (lt-ltb most-input (text_length m t M own parity) l)))

module _ (d : Design) (own parity : List ℕ) (long : ℕ) (S : Measured d own parity long) where
  few-entries : order_of d ≤ 181
  few-entries = few-rows (order_of d) (omega (arith, rows-below d.m d.t d.size own parity, S.length-is, S.short))

  short-output : kit_output d.m d.t d.size own parity
      ≡ printed (kit_made d.m d.t d.size own parity).verdict
      (kit_bytes d.m d.t d.size own parity (kit_made d.m d.t d.size own parity).inverse)
  unfolding kit_output
  short-output =
      let l : text_length d.m d.t d.size own parity ≤ most-input = rw S.length-is at S.short in
      let v : Verdict = (kit_made d.m d.t d.size own parity).verdict in
      ap (λ (u : Verdict). printed u (kit_bytes d.m d.t d.size own parity (kit_made d.m d.t d.size own parity).inverse))
      (then_on (refuse (ltb most-input (text_length d.m d.t d.size own parity)) 13 1) v v
      (simp (le-ltb most-input (text_length d.m d.t d.size own parity) l)) refl)

  -- ---- the arrays

  module _ (n w : ℕ) (en : n ≡ order_of d) (ew : w ≡ row_bytes (order_of d)) where
    few_bytes : w ≤ 23
    few_bytes = omega (arith, few-entries, ew)

    pub inverse-room : n * w ≤ 4163
    inverse-room =
        let a : n ≤ 181 = omega (arith, few-entries, en) in
        let b : w ≤ 23 = few_bytes in
        let c : n * w ≤ 181 * 23 = mul-le-mul a b in
        omega arith

    pub make_ready : (inverse work : ℕ) → n * w ≡ inverse → (2 * n + 512) * w ≡ work → MakeReady d own parity long inverse work
    unfolding make_work
    make_ready inverse work ei ek = record { measured = S; inverse-length = sym ei ∙ rw (en, ew); work-length = sym ek ∙ rw (en, ew) }

-- ---- the maker

-- the old inverse is measured and not looked at
measured-only : (m t M k : ℕ) (own parity a b : List ℕ) → length a ≡ length b → make_verdict m t M 0 own parity a k ≡ make_verdict m t M 0 own parity b k
unfolding make_verdict kit_lengths
measured-only m t M k own parity a b e = rw e

-- and printed is only what was made
old_apart : (f : List ℕ → List ℕ) (u v : Verdict) (a b new : List ℕ) → u ≡ v
    → printed (made_by u a new).verdict (f (made_by u a new).inverse) ≡ printed (made_by v b new).verdict (f (made_by v b new).inverse)
unfolding printed
old_apart f u v a b new e = rw e (go v)
  where
    go : (v : Verdict)
        → printed (made_by v a new).verdict (f (made_by v a new).inverse) ≡ printed (made_by v b new).verdict (f (made_by v b new).inverse)
    go accepted = refl
    go (refused n p) = refl

module _ (d : Design) (own parity : List ℕ) (long : ℕ) (inverse : List ℕ) (work : ℕ) (R : MakeReady d own parity long (length inverse) work) where
  abbrev zeros : List ℕ
  zeros = replicate (order_of d * row_bytes (order_of d)) 0

  abbrev shown : Made → List ℕ
  shown x = printed x.verdict (kit_bytes d.m d.t d.size own parity x.inverse)

  same : shown (kit_made d.m d.t d.size own parity) ≡ shown (make_call d.m d.t d.size 0 own parity inverse (make_work (params_of d)))
  unfolding kit_made make_call make_work
  same =
      let verdict : List ℕ → Verdict = λ x. make_verdict d.m d.t d.size 0 own parity x (make_work (params_of d)) in
      old_apart (λ x. kit_bytes d.m d.t d.size own parity x) (verdict zeros) (verdict inverse) zeros inverse _
      (measured-only d.m d.t d.size (make_work (params_of d)) own parity zeros inverse
      (length-replicate (order_of d * row_bytes (order_of d)) 0 ∙ sym R.inverse-length))

  pub made-prints : (c : Result Unit Refusal) (inverse' : List ℕ) → verdict_of c ≡ (make_call d.m d.t d.size 0 own parity inverse work).verdict
      → inverse' ≡ (make_call d.m d.t d.size 0 own parity inverse work).inverse
      → kit_output d.m d.t d.size own parity ≡ printed (verdict_of c) (kit_bytes d.m d.t d.size own parity inverse')
  made-prints c inverse' ev ei =
      short-output d own parity long R.measured ∙ same
      ∙ ap (λ (k : ℕ). shown (make_call d.m d.t d.size 0 own parity inverse k)) (sym R.work-length)
      ∙ sym (ap₂ (λ (v : Verdict) (l : List ℕ). printed v (kit_bytes d.m d.t d.size own parity l)) ev ei)

-- ---- what is written

module _ (d : Design) (own parity : List ℕ) (long : ℕ) (inverse : List ℕ) (R : WriteReady d own parity long (length inverse)) where
  text-long : long ≡ length (kit_bytes d.m d.t d.size own parity inverse)
  text-long = R.measured.length-is ∙ sym (text-length d.m d.t d.size own parity inverse)

  write_room : (o : List ℕ) → most-output ≤ length o → long ≤ length o
  write_room o h = omega (arith, R.measured.short)

  -- the first bytes of a buffer
  pub write_part : (o : List ℕ) → most-output ≤ length o → long ≡ length (take long o)
  write_part o h = sym (length-take-le long o (write_room o h))

  pub write_fits : (o : List ℕ) → most-output ≤ length o
      → (Allowed d × FitsOrder (order_of d) own parity inverse)
      × (length (take long o) ≡ length (kit_bytes d.m d.t d.size own parity inverse))
  write_fits o h =
      let F = R.measured.fit in (
        (F.allowed, record { self_length = F.own-length; parity_length = F.parity-length; inverse_length = R.inverse-length }),
        sym (write_part o h) ∙ text-long,
      )

  -- the text, where the first bytes of a buffer were made it
  pub kit-printed : (c : Result Unit Refusal) → c ≡ (Ok tt) → (o new : List ℕ) → most-output ≤ length o
      → new ≡ kit_bytes d.m d.t d.size own parity inverse
      → Printed (printed (verdict_of c) (kit_bytes d.m d.t d.size own parity inverse)) long o (new ++ drop long o)
  unfolding verdict_of printed
  kit-printed c f o new h e =
      let t : List ℕ = kit_bytes d.m d.t d.size own parity inverse in
      let room : 0 + length t ≤ length o = omega (arith, text-long, write_room o h) in
      let z : long ≡ 0 + length t = omega (arith, text-long) in
      let g : new ++ drop long o ≡ sets o 0 t = ap₂ (λ (l : List ℕ) (k : ℕ). l ++ drop k o) e z ∙ sym (sets-eq t o 0 room) in
      rw f (printed-text t t o (new ++ drop long o) long refl room z g)
