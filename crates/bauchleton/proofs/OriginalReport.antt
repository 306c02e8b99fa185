-- Laws of the calls on original staircase frames from C.
--   written-left                      what a refused encoder leaves
--   original_parts                    the encoder's rules, those up to 6 and rule 10
--   original_forty                    with 40 bytes the encoder is what it is without them
--   original_lent, original_whole, original_other   with 40 bytes it is lent the whole buffer, and with another number nothing of it
--   original_told                     what its host is told, whatever the report's length
--   buffer-left                       what a refused decoder leaves
--   original_decode_parts, original_decode_forty, original_decode_other   the same of the decoder
--   original_decode-told              what its host is told, whatever the report's length
--   buffer-told                       the decoder's answer as the host is told it
-- Assumes nothing.
use Rattle.answers.specs.declared.Counts as declared
use Rattle.answers.specs.declared.Refusal.{Refusal}
use Rattle.std.specs.Prelude.{Result}
use mathlib.Core.Path.{◌≡◌, refl, sym, ap, ap₂, ◌∙◌}
use mathlib.Core.Logic.{◌≢◌}
use mathlib.Core.List.{List, [], ◌++◌, append-nil}
use Prim.Native.Nat.{ℕ, ◌-◌, ◌*◌, ◌<◌}
use native.Mathlib.Nat.{mul-pos}
use native.Mathlib.Omega.{arith}
use lib.ListN.{length, take, drop, drop_of_length-le}
use lib.Seq.{take-length}
use Rattle.staircase.specs.Design.{Params, params}
use Rattle.staircase.specs.Frame.{Frame}
use Rattle.staircase.specs.Rules.{Verdict, ◌then◌, count_rule, rounds_rule, length_rule, info_length, bit_rule}
use Rattle.staircase.specs.Rules.Verdict.{accepted, refused}
use Rattle.staircase.specs.Calls.{Counts}
use Rattle.staircase.proofs.Rules.{then_first, then_rest, count_limits}
use Rattle.answers.specs.Answers.{verdict_of, corrected_of, buffer_decoded, written_of}
use Rattle.original.specs.Frame.{buffer_of, encoded}
use Rattle.original.specs.Rules.{original_rules, info_bits, original_work}
use Rattle.original.specs.Calls.{Written, written_by, original_encode_verdict, original_encode_call, original_decode_verdict, original_decoded, original_counts, CorrectedBuffer, corrected_buffer_by, original_decode_call}
use Rattle.original.proofs.Rules.{original_limits}
use Rattle.rules.proofs.Chain.{then_assoc}
use Rattle.rules_verdict.specs.Number.{number, place_of, told}
use Rattle.rules_verdict.proofs.Stores.{told_alike}
use Rattle.bauchleton.specs.Answers.{corrected_answer}
use Rattle.bauchleton.specs.Report.{report_bytes, check_report, report_length, lent_length}
use Rattle.bauchleton.specs.OriginalReport.{original_sizes, original_encode_reported, original_decode_sizes, original_decode_reported, corrected_buffer_answer}
use Rattle.bauchleton.proofs.Answers.{corrected-left}
use Rattle.bauchleton.proofs.Report.{then_three, then_four, then_five, report-bytes, report_forty, OneRule, one_rule, checked_long, report-told}

pub written-left : (v : Verdict) (old new : List ℕ) → v ≢ accepted → (v ≡ (written_by v old new).verdict) × (old ≡ (written_by v old new).buffer)
written-left accepted old new h = absurd (h refl)
written-left (refused n p) old new h = (refl, refl)

written_alike : (v w : Verdict) (new old after : List ℕ) → OneRule v w
    → (number (written_by v [] new).verdict ≡ number (written_by w old after).verdict) × ((written_by v [] new).buffer ++ old ≡ (written_by w old after).buffer)
written_alike accepted w new old after h = absurd (h.1 refl)
written_alike (refused n p) accepted new old after h = absurd (h.2 refl)
written_alike (refused n p) (refused k q) new old after h = (h.0, refl)

buffer_alike : (v w : Verdict) (old new : List ℕ) (c : Counts) → OneRule v w
    → (number (corrected_buffer_by v old new c).verdict ≡ number (corrected_buffer_by w old new c).verdict)
    × ((corrected_buffer_by v old new c).buffer ≡ (corrected_buffer_by w old new c).buffer)
buffer_alike accepted w old new c h = absurd (h.1 refl)
buffer_alike (refused n p) accepted old new c h = absurd (h.2 refl)
buffer_alike (refused n p) (refused k q) old new c h = (h.0, refl)

-- a buffer and the decoder's working bytes are never due 0 bytes
some_bits : (m t M L : ℕ) → (original_rules m t M 0 then count_rule L) ≡ accepted → (0 < info_length (params m t M 0) L) × (0 < original_work (params m t M 0) L)
unfolding original_work
some_bits m t M L a =
    let o = original_limits m t M 0 (then_first (original_rules m t M 0) (count_rule L) a) in
    let blocks : 0 < L = (count_limits L (then_rest (original_rules m t M 0) (count_rule L) a)).0 in
    let size : 0 < M = omega (arith, o.thin) in
    let rows : 0 < L * M = mul-pos blocks size in
    (mul-pos blocks (mul-pos size size), omega (arith, rows))

first_two : (a b c : Verdict) → (a then b then c) ≡ accepted → (a then b) ≡ accepted
first_two a b c e = then_first (a then b) c (then_assoc a b c ∙ e)

-- ---- the encoder

module _ (m t M L : ℕ) where
  sizes_then : (have : ℕ) (v : Verdict)
      → (original_sizes m t M L have then v) ≡ (original_rules m t M 0 then count_rule L then length_rule 4 have (info_length (params m t M 0) L) then v)
  unfolding original_sizes
  sizes_then have v = then_three (original_rules m t M 0) (count_rule L) (length_rule 4 have (info_length (params m t M 0) L)) v

  pub original_parts : (l : List ℕ) → original_encode_verdict m t M 0 L l ≡ (original_sizes m t M L (length l) then info_bits (params m t M 0) l)
  unfolding original_encode_verdict
  original_parts l = sym (sizes_then (length l) (info_bits (params m t M 0) l))

  module _ (l report : List ℕ) where
    pub original_forty : length report ≡ 40 → original_encode_reported report m t M L l ≡ original_encode_call m t M 0 L l
    unfolding original_encode_reported original_encode_call
    original_forty e =
        ap (λ (v : Verdict). written_by v l (encoded (params m t M 0) L l))
        (report_forty report (original_sizes m t M L (length l)) (info_bits (params m t M 0) l) e ∙ sym (original_parts l))

    -- the encoder with the first n bytes of the buffer, which is left as it was behind them
    abbrev pub original_lent : ℕ → Written
    original_lent n = record { verdict = (original_encode_call m t M 0 L (take n l)).verdict; buffer = (original_encode_call m t M 0 L (take n l)).buffer ++ drop n l }

    pub original_whole : length report ≡ 40 → original_encode_reported report m t M L l ≡ original_lent (length l)
    original_whole e =
        let c : List ℕ → Written = original_encode_call m t M 0 L in
        let none : drop (length l) l ≡ [] = drop_of_length-le l {i = length l} (omega arith) in
        original_forty e
        ∙ sym (ap₂ (λ (a b : List ℕ). record { verdict = (c a).verdict; buffer = (c a).buffer ++ b }) (take-length l) none
        ∙ ap (λ (b : List ℕ). record { verdict = (c l).verdict; buffer = b }) (append-nil (c l).buffer))

    pub original_other : length report ≢ 40 → (number (original_lent 0).verdict ≡ number (original_encode_reported report m t M L l).verdict)
        × ((original_lent 0).buffer ≡ (original_encode_reported report m t M L l).buffer)
    unfolding original_encode_call original_encode_reported original_sizes
    original_other h =
        let s : Params = params m t M 0 in
        written_alike (original_encode_verdict m t M 0 L []) (original_sizes m t M L (length l) then report_length report then info_bits s l) (encoded s L []) l (encoded s L l)
        (one_rule report h (original_sizes m t M L) (original_rules m t M 0 then count_rule L) 4 (length l) (info_length s L)
        (λ n. sym (then_assoc (original_rules m t M 0) (count_rule L) (length_rule 4 n (info_length s L)))) (λ a. (some_bits m t M L a).0)
        (info_bits s []) (info_bits s l) (original_parts []))

    pub original_told : {n a : ℕ} (c : Result Unit Refusal) {part k : List ℕ} → n ≡ lent_length (length report) (length l)
        → written_of c part ≡ original_encode_call m t M 0 L (take (n - 0) (drop 0 l))
        → (a ≡ number (verdict_of c)) × (k ≡ told (report_bytes (check_report (verdict_of c))) report)
        → (a ≡ number (original_encode_reported report m t M L l).verdict)
        × (take 0 l ++ (part ++ drop (n - 0) (drop 0 l)) ≡ (original_encode_reported report m t M L l).buffer)
        × (k ≡ told (report_bytes (check_report (original_encode_reported report m t M L l).verdict)) report)
    original_told {n} c {part} e made h =
        let z : n - 0 ≡ n = omega arith in
        let is : written_of c part ≡ original_encode_call m t M 0 L (take n l) = made ∙ ap (λ (j : ℕ). original_encode_call m t M 0 L (take j l)) z in
        let t1 = told_alike number (λ (v : Verdict). report_bytes (check_report v)) report (ap (λ (w : Written). w.verdict) is) h in
        report-told (λ (w : Written). w.verdict) (λ (w : Written). w.buffer) (λ (w : Written). report_bytes (check_report w.verdict))
        (λ (w : Written). checked_long w.verdict) report original_lent (length l) (original_encode_reported report m t M L l) original_whole original_other e
        (t1.0, ap₂ (λ (j : ℕ) (b : List ℕ). b ++ drop j l) z (ap (λ (w : Written). w.buffer) is), t1.1)

-- ---- the decoder

pub buffer-left : (v : Verdict) (old new : List ℕ) (c : Counts) → v ≢ accepted → old ≡ (corrected_buffer_by v old new c).buffer
buffer-left accepted old new c h = absurd (h refl)
buffer-left (refused n p) old new c h = refl

module _ (m t M L k : ℕ) (l : List ℕ) (work : ℕ) where
  decode_then : (v : Verdict) → (original_decode_sizes m t M L k (length l) work then v)
      ≡ (original_rules m t M 0 then count_rule L then rounds_rule k then length_rule 4 (length l) (info_length (params m t M 0) L)
      then length_rule 6 work (original_work (params m t M 0) L) then v)
  unfolding original_decode_sizes
  decode_then v =
      then_five (original_rules m t M 0) (count_rule L) (rounds_rule k) (length_rule 4 (length l) (info_length (params m t M 0) L))
      (length_rule 6 work (original_work (params m t M 0) L)) v

  pub original_decode_parts : original_decode_verdict m t M 0 L k l work ≡ (original_decode_sizes m t M L k (length l) work then bit_rule 0 l)
  unfolding original_decode_verdict
  original_decode_parts = sym (decode_then (bit_rule 0 l))

  module _ (report : List ℕ) where
    pub original_decode_forty : length report ≡ 40 → original_decode_reported report m t M L k l work ≡ original_decode_call m t M 0 L k l work
    unfolding original_decode_reported original_decode_call
    original_decode_forty e =
        let s : Params = params m t M 0 in
        ap (λ (v : Verdict). corrected_buffer_by v l (original_decoded s L k l).frame.info (original_counts s L k l))
        (report_forty report (original_decode_sizes m t M L k (length l) work) (bit_rule 0 l) e ∙ sym original_decode_parts)

module _ (m t M L k : ℕ) (l : List ℕ) (work : ℕ) (report : List ℕ) where
  pub original_decode_other : length report ≢ 40
      → (number (original_decode_call m t M 0 L k l 0).verdict ≡ number (original_decode_reported report m t M L k l work).verdict)
      × ((original_decode_call m t M 0 L k l 0).buffer ≡ (original_decode_reported report m t M L k l work).buffer)
  unfolding original_decode_call original_decode_reported original_decode_sizes
  original_decode_other h =
      let s : Params = params m t M 0 in
      let r : Verdict = original_rules m t M 0 in
      let v4 : Verdict = length_rule 4 (length l) (info_length s L) in
      buffer_alike (original_decode_verdict m t M 0 L k l 0) (original_decode_sizes m t M L k (length l) work then report_length report then bit_rule 0 l) l
      (original_decoded s L k l).frame.info (original_counts s L k l)
      (one_rule report h (original_decode_sizes m t M L k (length l)) (r then count_rule L then rounds_rule k then v4) 6 work (original_work s L)
      (λ n. sym (then_four r (count_rule L) (rounds_rule k) v4 (length_rule 6 n (original_work s L))))
      (λ a. (some_bits m t M L (first_two r (count_rule L) (rounds_rule k then v4) a)).1) (bit_rule 0 l) (bit_rule 0 l) (original_decode_parts m t M L k l 0))

  pub original_decode-told : {n a : ℕ} {b y : List ℕ} → n ≡ lent_length (length report) work
      → (a ≡ number (original_decode_call m t M 0 L k l n).verdict) × (b ≡ (original_decode_call m t M 0 L k l n).buffer)
      × (y ≡ told (report_bytes (corrected_buffer_answer (original_decode_call m t M 0 L k l n))) report)
      → (a ≡ number (original_decode_reported report m t M L k l work).verdict) × (b ≡ (original_decode_reported report m t M L k l work).buffer)
      × (y ≡ told (report_bytes (corrected_buffer_answer (original_decode_reported report m t M L k l work))) report)
  original_decode-told =
      report-told (λ (z : CorrectedBuffer). z.verdict) (λ (z : CorrectedBuffer). z.buffer) (λ (z : CorrectedBuffer). report_bytes (corrected_buffer_answer z))
      (λ (z : CorrectedBuffer). report-bytes (place_of z.verdict) z.counts.rounds z.counts.turned z.counts.outside z.counts.stuck [])
      report (original_decode_call m t M 0 L k l) work (original_decode_reported report m t M L k l work) (original_decode_forty m t M L k l work report) original_decode_other

-- the report is that of the frame that the buffer is
pub buffer-told : (report : List ℕ) (d : Result declared.Counts Refusal) {l : List ℕ} {y : CorrectedBuffer} {a : ℕ} {k : List ℕ} → buffer_decoded d l ≡ y
    → (a ≡ number (corrected_of d (buffer_of l)).verdict) × (k ≡ told (report_bytes (corrected_answer (corrected_of d (buffer_of l)))) report)
    → (a ≡ number y.verdict) × (l ≡ y.buffer) × (k ≡ told (report_bytes (corrected_buffer_answer y)) report)
unfolding buffer_decoded
buffer-told report d {l = l} e h =
    let t = told_alike (λ (z : CorrectedBuffer). number z.verdict) (λ (z : CorrectedBuffer). report_bytes (corrected_buffer_answer z)) report e h in
    (t.0, sym (ap (λ (f : Frame). f.info) (corrected-left d (buffer_of l))) ∙ ap (λ (z : CorrectedBuffer). z.buffer) e, t.1)
