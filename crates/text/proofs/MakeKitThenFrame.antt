-- `makekit` and `frame` one after the other.
--   packs_bytes            the bytes of a list are bytes
--   Checked, kit_checked   what an accepted kit asks for
--   makekit_then_frame     the claim, for every list text that `makekit` does not refuse
--   makekit_prints         what `makekit` prints starts with `m` exactly where its rules accept: a user sees by the first byte whether it refuses
-- Assumes nothing.
use mathlib.Core.Path.{◌≡◌, refl, sym, ap, subst, ◌∙◌}
use mathlib.Core.Logic.{◌↔◌}
use mathlib.Core.List.{List, [], ◌∷◌}
use Prim.Native.Nat.{ℕ, zero, suc, ◌*◌, ◌≤◌}
use native.Mathlib.Omega.{arith}
use borrow.Author.Tests.{ltb-false}
use lib.Dec.{ltb}
use lib.ListN.{length, get_or, replicate, length-replicate}
use Rattle.staircase.specs.Design.{Params, params, order}
use Rattle.staircase.specs.System.{system_entry, row_bytes}
use Rattle.staircase.specs.Square.{inverse_matrix, packed_matrix}
use Rattle.staircase.specs.Rules.{Verdict, ◌then◌, refuse, design_rules, length_rule, kit_lengths, red_length, kit_work, interleavers, list_rule, spare_rule, inverse_rule, kit_rules}
use Rattle.staircase.specs.Rules.Verdict.{accepted, refused}
use Rattle.staircase.specs.Calls.{kit_verdict, Encoded}
use Rattle.staircase.specs.Demand2.{KitPasses, FitsOrder}
use Rattle.staircase.specs.Demand3.{Given}
use Rattle.staircase.specs.Maker.{make_work, make_verdict, made_by, make_call}
use Rattle.staircase.proofs.System.{order-positive}
use Rattle.staircase.proofs.BchCode.{proper_of}
use Rattle.staircase.proofs.Packed.{packed_byte_lem}
use Rattle.staircase.proofs.Rules.{then_first, then_rest, then_accepted, refuse-false, design_limits, lengths_fit}
use Rattle.staircase.proofs.Demand2.{demand2}
use Rattle.staircase.proofs.Maker.{made_by-verdict, inverse-bits, made-passes}
use Rattle.staircase.proofs.Demand3.{encode-made}
use Rattle.text.specs.KitText.{kit_bytes}
use Rattle.text.specs.KitReader.{firsts, seconds, packs, head_number, head_rule, kit_params, scan_kit, self_of, parity_of, inverse_of}
use Rattle.text.specs.KitWriter.{text_length, HoldsBytes}
use Rattle.text.specs.Rules.{values_of}
use Rattle.text.specs.FrameReader.{block_rule, block_count, block_info}
use Rattle.text.specs.Programs.{refusal_text, most-input, printed, frame_call}
use Rattle.text.specs.FrameThenMend.{frame_verdict, kit_of, kit_m}
use Rattle.text.specs.MakeKit.{lists_scan, lists_rule, self_shown, parity_shown, text_rule, make_kit_call, make_kit_verdict, make_kit_output}
use Rattle.text.specs.MakeKitThenFrame.{MakeKitThenFrame}
use Rattle.text.proofs.KitSpelled.{text-length}
use Rattle.text.proofs.KitWritten.{written-accepted, written-design, written-self, written-parity, written-inverse}
use Rattle.text.proofs.FramePromises.{blocks_hold}
use Rattle.text.proofs.Programs.{short_inputs}

-- ---- what the printed text starts with

printed-first : (v : Verdict) (m t M : ℕ) (self parity w : List ℕ) → (get_or (printed v (kit_bytes m t M self parity w)) 0 0 ≡ 109) ↔ (v ≡ accepted)
unfolding printed kit_bytes refusal_text
printed-first accepted m t M self parity w = (λ e. refl, λ e. refl)
printed-first (refused k p) m t M self parity w = (λ e. absurd (omega (arith, e)), λ e. let z : ◌≡◌ {A = ℕ} 0 1 = cc in absurd (omega arith))

pub makekit_prints : (s : List ℕ) → (get_or (make_kit_output s) 0 0 ≡ 109) ↔ (make_kit_verdict s ≡ accepted)
unfolding make_kit_output
makekit_prints s =
    printed-first (make_kit_verdict s) (head_number s 0) (head_number s 1) (head_number s 2) (self_shown s) (parity_shown s) (make_kit_call s).inverse

-- ---- bytes

packs_bytes : (vs : List ℕ) → HoldsBytes (packs vs)
unfolding packs
packs_bytes [] k = omega arith
packs_bytes (v ∷ vs) zero = omega arith
packs_bytes (v ∷ vs) (suc zero) = omega arith
packs_bytes (v ∷ vs) (suc (suc k)) = packs_bytes vs k

-- ---- a kit that the checker accepts

record Checked (m t M : ℕ) (self parity w : List ℕ) : Type 0 where
  pub design : design_rules m t M 0 ≡ accepted
  pub fits : FitsOrder (order (params m t M 0)) self parity w
  pub lists : list_rule (params m t M 0) (interleavers (params m t M 0) self parity) ≡ accepted
  pub spare : spare_rule (params m t M 0) w ≡ accepted
  pub passes : KitPasses (params m t M 0) (interleavers (params m t M 0) self parity) w

kit_checked : (m t M : ℕ) (self parity w : List ℕ) → kit_verdict m t M 0 self parity w (kit_work (params m t M 0)) ≡ accepted → Checked m t M self parity w
unfolding kit_verdict kit_rules
kit_checked m t M self parity w e =
    let s : Params = params m t M 0 in
    let l = interleavers s self parity in
    let v9 : Verdict = inverse_rule s l w in
    let v7 : Verdict = list_rule s l then spare_rule s w then v9 in
    let v6 : Verdict = length_rule 6 (kit_work s) (kit_work s) in
    let fit : Verdict = kit_lengths s self parity w in
    let d : design_rules m t M 0 ≡ accepted = then_first (design_rules m t M 0) (fit then v6 then v7) e in
    let e6 : (fit then v6 then v7) ≡ accepted = then_rest (design_rules m t M 0) (fit then v6 then v7) e in
    let e7 : v7 ≡ accepted = then_rest v6 v7 (then_rest fit (v6 then v7) e6) in
    let f : FitsOrder (order s) self parity w = lengths_fit s self parity w (then_first fit (v6 then v7) e6) in
    record {
      design = d;
      fits = f;
      lists = then_first (list_rule s l) (spare_rule s w then v9) e7;
      spare = then_first (spare_rule s w) v9 (then_rest (list_rule s l) (spare_rule s w then v9) e7);
      passes = (demand2 m t M 0 self parity w d f).0 e;
    }

-- ---- the two programs

module _ (s : List ℕ) (ok : make_kit_verdict s ≡ accepted) where
  abbrev m : ℕ
  m = head_number s 0

  abbrev t : ℕ
  t = head_number s 1

  abbrev M : ℕ
  M = head_number s 2

  abbrev self : List ℕ
  self = self_shown s

  abbrev parity : List ℕ
  parity = parity_shown s

  abbrev inverse : List ℕ
  inverse = (make_kit_call s).inverse

  abbrev old : List ℕ
  old = replicate (order (kit_params s) * row_bytes (order (kit_params s))) 0

  abbrev design : Verdict
  design = design_rules m t M 0

  abbrev call : Verdict
  call = (make_kit_call s).verdict

  behind-lists : (text_rule s then call) ≡ accepted
  unfolding make_kit_verdict
  behind-lists =
      let input : Verdict = refuse (ltb most-input (length s)) 13 2 in
      then_rest (lists_rule s) (text_rule s then call)
      (then_rest design (lists_rule s then text_rule s then call)
      (then_rest (head_rule s) (design then lists_rule s then text_rule s then call) (then_rest input (head_rule s then design then lists_rule s then text_rule s then call) ok)))

  text-short : text_length m t M self parity ≤ most-input
  unfolding text_rule
  text-short =
      let long : ℕ = text_length m t M self parity in
      ltb-false most-input long (refuse-false (ltb most-input long) 13 1 (then_first (text_rule s) call behind-lists))

  maker-accepts : make_verdict m t M 0 self parity old (make_work (kit_params s)) ≡ accepted
  unfolding make_kit_call make_call
  maker-accepts = sym (made_by-verdict (make_verdict m t M 0 self parity old (make_work (kit_params s))) old _) ∙ then_rest (text_rule s) call behind-lists

  kit-passes : kit_verdict m t M 0 self parity inverse (kit_work (params m t M 0)) ≡ accepted
  unfolding make_kit_call
  kit-passes = made-passes m t M 0 self parity old (make_work (kit_params s)) maker-accepts

  K : Checked m t M self parity inverse
  K = kit_checked m t M self parity inverse kit-passes

  -- its slices hold bytes

  self-bytes : HoldsBytes self
  unfolding self_shown
  self-bytes = packs_bytes (firsts (values_of (lists_scan s)))

  parity-bytes : HoldsBytes parity
  unfolding parity_shown
  parity-bytes = packs_bytes (seconds (values_of (lists_scan s)))

  inverse-bytes : HoldsBytes inverse
  unfolding make_kit_call make_call
  inverse-bytes =
      let p : Params = kit_params s in
      let a = system_entry p (interleavers p self parity) in
      let new : List ℕ = packed_matrix (order p) (inverse_matrix (order p) a) in
      let made : inverse ≡ new = ap (λ (v : Verdict). (made_by v old new).inverse) maker-accepts in
      subst HoldsBytes (sym made) (packed_byte_lem (order p) (inverse_matrix (order p) a) (inverse-bits (order p) a) (order-positive p (proper_of (design_limits m t M 0 K.design))))

  -- what is printed

  abbrev out : List ℕ
  out = make_kit_output s

  out_is : out ≡ kit_bytes m t M self parity inverse
  unfolding make_kit_output printed
  out_is = ap (λ (v : Verdict). printed v (kit_bytes m t M self parity inverse)) ok

  numbers : (head_number out 0 ≡ m) × (head_number out 1 ≡ t) × (head_number out 2 ≡ M)
  numbers =
      subst (λ (x : List ℕ). (head_number x 0 ≡ m) × (head_number x 1 ≡ t) × (head_number x 2 ≡ M)) (sym out_is)
      (written-design m t M self parity inverse K.design K.fits self-bytes parity-bytes inverse-bytes K.lists K.spare)

  out_reads : scan_kit out ≡ accepted
  out_reads = ap scan_kit out_is ∙ written-accepted m t M self parity inverse K.design K.fits self-bytes parity-bytes inverse-bytes K.lists K.spare

  out_short : length out ≤ most-input
  out_short = subst (λ (n : ℕ). n ≤ most-input) (sym (ap length out_is ∙ text-length m t M self parity inverse)) text-short

  out_self : self_of out ≡ self
  out_self = ap self_of out_is ∙ written-self m t M self parity inverse K.design K.fits self-bytes parity-bytes inverse-bytes K.lists K.spare

  out_parity : parity_of out ≡ parity
  out_parity = ap parity_of out_is ∙ written-parity m t M self parity inverse K.design K.fits self-bytes parity-bytes inverse-bytes K.lists K.spare

  out_inverse : inverse_of out ≡ inverse
  out_inverse = ap inverse_of out_is ∙ written-inverse m t M self parity inverse K.design K.fits self-bytes parity-bytes inverse-bytes K.lists K.spare

  out_passes : kit_verdict (head_number out 0) (head_number out 1) (head_number out 2) 0 (self_of out) (parity_of out) (inverse_of out) (kit_work (kit_params out)) ≡ accepted
  out_passes = rw (numbers.0, numbers.1, numbers.2, out_self, out_parity, out_inverse) kit-passes

  -- the call of `frame` on any blocks

  module _ (text : List ℕ) (blocks : block_rule (kit_m out) text ≡ accepted) where
    abbrev L : ℕ
    L = block_count (head_number out 2) text

    abbrev info : List ℕ
    info = block_info (head_number out 2) text

    abbrev zeros : List ℕ
    zeros = replicate (red_length (kit_params out) (block_count (head_number out 2) text)) 0

    G : Given (kit_of out) L info zeros
    G =
        let C = kit_checked (head_number out 0) (head_number out 1) (head_number out 2) (self_of out) (parity_of out) (inverse_of out) out_passes in
        let B = blocks_hold (head_number out 2) text blocks in
        record {
          design = C.design;
          fits = C.fits;
          passes = C.passes;
          some = B.some;
          few = B.few;
          bits = B.info-bits;
          info-fits = B.info-length;
          old_fits = length-replicate (red_length (kit_params out) L) 0;
        }

    call_accepts : (frame_call out text).verdict ≡ accepted
    unfolding frame_call
    call_accepts = ap (λ (x : Encoded). x.verdict) (encode-made (kit_of out) L info zeros G info zeros G.bits G.info-fits G.old_fits)

  pub makekit_then_frame : MakeKitThenFrame s
  unfolding frame_verdict
  makekit_then_frame =
      record {
        reads = out_reads;
        short = out_short;
        first = numbers.0;
        second = numbers.1;
        third = numbers.2;
        self = out_self;
        parity = out_parity;
        inverse = out_inverse;
        passes = out_passes;
        frames = λ text short blocks.
            then_accepted (short_inputs out text out_short short) (then_accepted out_reads (then_accepted blocks (call_accepts text blocks)));
      }
