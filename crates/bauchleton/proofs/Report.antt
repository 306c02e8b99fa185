-- Laws of the 40 bytes of a report.
--   bytes_eight                 the bytes of a number
--   five_parts, told-report, stored_report   five numbers, one after the other; a report of another length is left as it was
--   judged-reported             a verdict's rule and place
--   then_deep, then_three, .., then_seven   rules one after another, regrouped
--   then_refused                rules whose last refuses do not accept
--   report-forty, report-other  a call's rules with the report's place, by the report's length
--   kit_parts, encode_parts, batch_parts, decode_parts, window_parts   a call's rules, those up to 6 and the others
--   kit_forty, encode_forty, batch_forty, decode_forty, window_forty   with 40 bytes a call is what it is without them
--   OneRule, one_rule           two refusals by one rule: a call that is lent nothing, where it is due some bytes, and one with a report of another length
--   kit_other, encode_other, batch_other, decode_other, window_other   so a call that is lent nothing answers and leaves what is promised
--   lent_none, lent_all, part_lent   what a call lends on
--   report-told, kit-told, encoded-told, decoded-told   what a host is told, whatever the report's length
-- Assumes nothing.
use mathlib.Core.Path.{◌≡◌, refl, sym, ap, ◌∙◌}
use mathlib.Core.Bool.{Bool, true, false, cond, not}
use mathlib.Core.Logic.{◌≢◌}
use mathlib.Core.List.{List, [], ◌∷◌, ◌++◌, append_assoc}
use Prim.Native.Nat.{ℕ, ◌-◌, ◌/◌, ◌%◌, ◌≤◌, ◌<◌}
use native.Mathlib.Nat.{div-one, mul-pos}
use native.Mathlib.Omega.{arith}
use borrow.Author.Tests.{eq-eqb, ne_eqb, eqb-true, eqb-false}
use lib.Dec.{eqb}
use Rattle.std.proofs.Common.{w64}
use Rattle.std.specs.Int.{to_le_bytes}
use lib.ListN.{length, take, drop, length-append, length-drop, drop_of_length-le}
use lib.Seq.{take_at, drop_at, length-take-le}
use Rattle.staircase.specs.Lists.{tabulate}
use Rattle.staircase.specs.Design.{Params, Interleavers, params, order}
use Rattle.staircase.specs.Frame.{Frame, frame_of}
use Rattle.staircase.specs.System.{redundancy, row_bytes}
use Rattle.staircase.specs.Decoder.{decoded}
use Rattle.staircase.specs.Rules.{Verdict, ◌then◌, refuse, design_rules, count_rule, rounds_rule, length_rule, list_lengths, kit_lengths, frame_lengths, kit_work, word_work, decoder_work, interleavers, kit_rules, content_rules}
use Rattle.staircase.specs.Rules.Verdict.{accepted, refused}
use Rattle.staircase.specs.Calls.{kit_verdict, Encoded, encoded_by, encode_verdict, encode_call, Counts, counts_of, Corrected, corrected_by, decode_verdict, decode_call}
use Rattle.staircase.specs.Batch.{batch_rule, batch_lengths, batch_verdict, batch_redundancy, batch_call}
use Rattle.staircase.specs.Window.{window_rule, windowed, window_counts, window_verdict, window_call}
use Rattle.staircase.specs.Tally.{Decode, decode_with, call_of, verdict_for}
use Rattle.staircase.proofs.Rules.{then_first, design_limits}
use Rattle.staircase.proofs.System.{order-positive}
use Rattle.staircase.proofs.BchCode.{proper_of}
use Rattle.rules.proofs.Chain.{then_assoc, then_where}
use Rattle.rules_verdict.specs.declared.Judged.{Judged}
use Rattle.rules_verdict.specs.Number.{number, place_of, judged_of, told}
use Rattle.rules_verdict.proofs.Stores.{told_other, told_alike}
use Rattle.bauchleton.specs.Answers.{corrected_answer}
use Rattle.bauchleton.specs.Report.{eight_bytes, report_bytes, check_report, report_length, lent_length, kit_sizes, kit_reported, encode_sizes, encode_reported, batch_sizes, batch_reported, numbers_for, bytes_for, decode_reported, window_numbers_for, window_call_of, window_reported}

-- ---- the bytes

pub bytes_eight : (n : ℕ) → to_le_bytes w64 n ≡ eight_bytes n
unfolding eight_bytes tabulate
bytes_eight n =
    ap (λ (x : ℕ). x % 256 ∷ n / 256 % 256 ∷ n / 65536 % 256 ∷ n / 16777216 % 256 ∷ n / 4294967296 % 256 ∷ n / 1099511627776 % 256
    ∷ n / 281474976710656 % 256 ∷ n / 72057594037927936 % 256 ∷ []) (sym (div-one n))

pub eight_length : (n : ℕ) → length (eight_bytes n) ≡ 8
unfolding eight_bytes tabulate
eight_length n = refl

-- the part from a, of k, came back as ys; before it stands p
put_next : (xs p q ys : List ℕ) (a k : ℕ) → xs ≡ p ++ q → length p ≡ a → take a xs ++ (ys ++ drop k (drop a xs)) ≡ (p ++ ys) ++ drop k q
put_next xs p q ys a k f e = rw (f, take_at p q a e, drop_at p q a e, append_assoc)

-- five parts of eight, stored one after the other
pub five_parts : (xs v w x y z : List ℕ) → length v ≡ 8 → length w ≡ 8 → length x ≡ 8 → length y ≡ 8 → (x0 x1 x2 x3 : List ℕ)
    → x0 ≡ v ++ drop 8 xs
    → x1 ≡ take 8 x0 ++ (w ++ drop 8 (drop 8 x0))
    → x2 ≡ take 16 x1 ++ (x ++ drop 8 (drop 16 x1))
    → x3 ≡ take 24 x2 ++ (y ++ drop 8 (drop 24 x2))
    → take 32 x3 ++ (z ++ drop 8 (drop 32 x3)) ≡ ((((v ++ w) ++ x) ++ y) ++ z) ++ drop 8 (drop 8 (drop 8 (drop 8 (drop 8 xs))))
five_parts xs v w x y z lv lw lx ly x0 x1 x2 x3 e0 e1 e2 e3 =
    let f1 = e1 ∙ put_next x0 v (drop 8 xs) w 8 8 e0 lv in
    let f2 = e2 ∙ put_next x1 (v ++ w) _ x 16 8 f1 (rw length-append (omega arith)) in
    let f3 = e3 ∙ put_next x2 ((v ++ w) ++ x) _ y 24 8 f2 (simp length-append (omega arith)) in
    put_next x3 (((v ++ w) ++ x) ++ y) _ z 32 8 f3 (simp length-append (omega arith))

-- numbers stored into a slice of as many entries
told_new : (new old : List ℕ) → length old ≡ length new → new ≡ told new old
unfolding told
told_new new old e = sym (ap (λ (b : Bool). cond b new old) (eq-eqb (length old) (length new) e))

-- five lists, grouped to either side
five_joined : (a b c d e : List ℕ) → ((((a ++ b) ++ c) ++ d) ++ e) ++ [] ≡ a ++ (b ++ (c ++ (d ++ (e ++ []))))
five_joined a b c d e = simp append_assoc

module _ (a b c d e : ℕ) (report : List ℕ) where
  pub report-bytes : length (report_bytes (a ∷ b ∷ c ∷ d ∷ e ∷ [])) ≡ 40
  unfolding report_bytes eight_bytes tabulate
  report-bytes = refl

  pub told-report : length report ≢ 40 → report ≡ told (report_bytes (a ∷ b ∷ c ∷ d ∷ e ∷ [])) report
  told-report h = told_other (report_bytes (a ∷ b ∷ c ∷ d ∷ e ∷ [])) report (λ z. h (z ∙ report-bytes))

  pub stored_report : length report ≡ 40 → (left : List ℕ)
      → left ≡ ((((eight_bytes a ++ eight_bytes b) ++ eight_bytes c) ++ eight_bytes d) ++ eight_bytes e) ++ drop 8 (drop 8 (drop 8 (drop 8 (drop 8 report))))
      → left ≡ told (report_bytes (a ∷ b ∷ c ∷ d ∷ e ∷ [])) report
  unfolding report_bytes
  stored_report h left q =
      let none : drop 8 (drop 8 (drop 8 (drop 8 (drop 8 report)))) ≡ [] =
      drop_of_length-le (drop 8 (drop 8 (drop 8 (drop 8 report)))) {i = 8} (simp length-drop (omega arith)) in
      q ∙ ap (λ (l : List ℕ). ((((eight_bytes a ++ eight_bytes b) ++ eight_bytes c) ++ eight_bytes d) ++ eight_bytes e) ++ l) none
      ∙ five_joined (eight_bytes a) (eight_bytes b) (eight_bytes c) (eight_bytes d) (eight_bytes e)
      ∙ told_new (report_bytes (a ∷ b ∷ c ∷ d ∷ e ∷ [])) report (h ∙ sym report-bytes)

pub judged-reported : (l : List ℕ) (v : Verdict) {j : Judged} {k : List ℕ} → j ≡ judged_of v → k ≡ told (report_bytes (j.place ∷ 0 ∷ 0 ∷ 0 ∷ 0 ∷ [])) l
    → (j.rule ≡ number v) × (k ≡ told (report_bytes (check_report v)) l)
judged-reported l v e h = (ap (λ (x : Judged). x.rule) e, h ∙ ap (λ (x : Judged). told (report_bytes (x.place ∷ 0 ∷ 0 ∷ 0 ∷ 0 ∷ [])) l) e)

-- ---- rules one after another

pub then_deep : (a u v w : Verdict) → (u then v) ≡ w → ((a then u) then v) ≡ (a then w)
then_deep a u v w e = then_assoc a u v ∙ ap (λ (z : Verdict). a then z) e

pub then_three : (a b c v : Verdict) → ((a then b then c) then v) ≡ (a then b then c then v)
then_three a b c v = then_deep a (b then c) v (b then c then v) (then_assoc b c v)

pub then_four : (a b c d v : Verdict) → ((a then b then c then d) then v) ≡ (a then b then c then d then v)
then_four a b c d v = then_deep a (b then c then d) v (b then c then d then v) (then_three b c d v)

pub then_five : (a b c d e v : Verdict) → ((a then b then c then d then e) then v) ≡ (a then b then c then d then e then v)
then_five a b c d e v = then_deep a (b then c then d then e) v (b then c then d then e then v) (then_four b c d e v)

pub then_six : (a b c d e f v : Verdict) → ((a then b then c then d then e then f) then v) ≡ (a then b then c then d then e then f then v)
then_six a b c d e f v = then_deep a (b then c then d then e then f) v (b then c then d then e then f then v) (then_five b c d e f v)

then_seven : (a b c d e f g v : Verdict)
    → ((a then b then c then d then e then f then g) then v) ≡ (a then b then c then d then e then f then g then v)
then_seven a b c d e f g v =
    then_deep a (b then c then d then e then f then g) v (b then c then d then e then f then g then v) (then_six b c d e f g v)

pub then_refused : (u : Verdict) (n p : ℕ) → (u then refused n p) ≢ accepted
then_refused accepted n p e = let z : ◌≡◌ {A = ℕ} 0 1 = cc in omega arith
then_refused (refused m q) n p e = let z : ◌≡◌ {A = ℕ} 0 1 = cc in omega arith

module _ (report : List ℕ) (u v : Verdict) where
  pub report_forty : length report ≡ 40 → (u then report_length report then v) ≡ (u then v)
  report_forty e = ap (λ (b : Bool). u then refuse (not b) 6 8 then v) (eq-eqb (length report) 40 e)

  pub report_other : length report ≢ 40 → (u then report_length report then v) ≡ (u then refused 6 8)
  report_other h = ap (λ (b : Bool). u then refuse (not b) 6 8 then v) (ne_eqb (length report) 40 h)

-- ---- with 40 bytes

-- a call that is judged again by the rules that it has
corrected-again : (v : Verdict) (f g : Frame) (c : Counts)
    → corrected_by v f (corrected_by v f g c).frame (corrected_by v f g c).counts ≡ corrected_by v f g c
corrected-again accepted f g c = refl
corrected-again (refused n p) f g c = refl

module _ (m t M : ℕ) (self parity w : List ℕ) (work : ℕ) where
  kit_then : (v : Verdict) → (kit_sizes m t M self parity w work then v)
      ≡ (design_rules m t M 0 then kit_lengths (params m t M 0) self parity w then length_rule 6 work (kit_work (params m t M 0)) then v)
  unfolding kit_sizes
  kit_then v = then_three (design_rules m t M 0) (kit_lengths (params m t M 0) self parity w) (length_rule 6 work (kit_work (params m t M 0))) v

  pub kit_parts : kit_verdict m t M 0 self parity w work
      ≡ (kit_sizes m t M self parity w work then kit_rules (params m t M 0) (interleavers (params m t M 0) self parity) w)
  unfolding kit_verdict
  kit_parts = sym (kit_then (kit_rules (params m t M 0) (interleavers (params m t M 0) self parity) w))

  pub kit_forty : (report : List ℕ) → length report ≡ 40 → kit_reported report m t M self parity w work ≡ kit_verdict m t M 0 self parity w work
  unfolding kit_reported
  kit_forty report e =
      report_forty report (kit_sizes m t M self parity w work) (kit_rules (params m t M 0) (interleavers (params m t M 0) self parity) w) e ∙ sym kit_parts

  module _ (L : ℕ) (info red : List ℕ) where
    encode_then : (v : Verdict) → (encode_sizes m t M L self parity w info red work then v)
        ≡ (design_rules m t M 0 then count_rule L then kit_lengths (params m t M 0) self parity w then frame_lengths (params m t M 0) L info red
        then length_rule 6 work (kit_work (params m t M 0)) then v)
    unfolding encode_sizes
    encode_then v =
        then_five (design_rules m t M 0) (count_rule L) (kit_lengths (params m t M 0) self parity w) (frame_lengths (params m t M 0) L info red)
        (length_rule 6 work (kit_work (params m t M 0))) v

    pub encode_parts : encode_verdict m t M 0 L self parity w info red work
        ≡ (encode_sizes m t M L self parity w info red work then content_rules (params m t M 0) (interleavers (params m t M 0) self parity) w info)
    unfolding encode_verdict
    encode_parts = sym (encode_then (content_rules (params m t M 0) (interleavers (params m t M 0) self parity) w info))

    pub encode_forty : (report : List ℕ) → length report ≡ 40
        → encode_reported report m t M L self parity w info red work ≡ encode_call m t M 0 L self parity w info red work
    unfolding encode_reported encode_call
    encode_forty report e =
        let s : Params = params m t M 0 in
        let l : Interleavers = interleavers s self parity in
        ap (λ (v : Verdict). encoded_by v red (redundancy s l w L info))
        (report_forty report (encode_sizes m t M L self parity w info red work) (content_rules s l w info) e ∙ sym encode_parts)

    batch_then : (n : ℕ) (v : Verdict) → (batch_sizes m t M L n self parity w info red work then v)
        ≡ (design_rules m t M 0 then count_rule L then batch_rule n then kit_lengths (params m t M 0) self parity w then batch_lengths (params m t M 0) L n info red
        then length_rule 6 work (kit_work (params m t M 0)) then v)
    unfolding batch_sizes
    batch_then n v =
        then_six (design_rules m t M 0) (count_rule L) (batch_rule n) (kit_lengths (params m t M 0) self parity w) (batch_lengths (params m t M 0) L n info red)
        (length_rule 6 work (kit_work (params m t M 0))) v

    pub batch_parts : (n : ℕ) → batch_verdict m t M 0 L n self parity w info red work
        ≡ (batch_sizes m t M L n self parity w info red work then content_rules (params m t M 0) (interleavers (params m t M 0) self parity) w info)
    unfolding batch_verdict
    batch_parts n = sym (batch_then n (content_rules (params m t M 0) (interleavers (params m t M 0) self parity) w info))

    pub batch_forty : (n : ℕ) (report : List ℕ) → length report ≡ 40
        → batch_reported report m t M L n self parity w info red work ≡ batch_call m t M 0 L n self parity w info red work
    unfolding batch_reported batch_call
    batch_forty n report e =
        let s : Params = params m t M 0 in
        let l : Interleavers = interleavers s self parity in
        ap (λ (v : Verdict). encoded_by v red (batch_redundancy s l w L n info))
        (report_forty report (batch_sizes m t M L n self parity w info red work) (content_rules s l w info) e ∙ sym (batch_parts n))

module _ (x : Decode) where
  numbers_then : (v : Verdict) → (numbers_for x then v)
      ≡ (design_rules x.m x.t x.M x.col then count_rule x.L then rounds_rule x.rounds
      then list_lengths (params x.m x.t x.M x.col) x.self x.parity then frame_lengths (params x.m x.t x.M x.col) x.L x.info x.red
      then length_rule 6 x.work (decoder_work (params x.m x.t x.M x.col) x.L) then v)
  unfolding numbers_for
  numbers_then v =
      let s : Params = params x.m x.t x.M x.col in
      then_six (design_rules x.m x.t x.M x.col) (count_rule x.L) (rounds_rule x.rounds) (list_lengths s x.self x.parity)
      (frame_lengths s x.L x.info x.red) (length_rule 6 x.work (decoder_work s x.L)) v

  pub decode_parts : verdict_for x ≡ (numbers_for x then bytes_for x)
  unfolding decode_verdict bytes_for
  decode_parts = sym (numbers_then (bytes_for x))

  pub decode_forty : (report : List ℕ) → length report ≡ 40 → decode_reported report x ≡ call_of x
  unfolding decode_reported decode_call
  decode_forty report e =
      let s : Params = params x.m x.t x.M x.col in
      let l : Interleavers = interleavers s x.self x.parity in
      let f : Frame = frame_of x.info x.red in
      ap (λ (v : Verdict). corrected_by v f (call_of x).frame (call_of x).counts) (report_forty report (numbers_for x) (bytes_for x) e ∙ sym decode_parts)
      ∙ corrected-again (verdict_for x) f (decoded s l x.L x.rounds f).frame (counts_of s l x.L x.rounds f)

  windowed_then : (n : ℕ) (v : Verdict) → (window_numbers_for n x then v)
      ≡ (design_rules x.m x.t x.M x.col then count_rule x.L then rounds_rule x.rounds then window_rule n
      then list_lengths (params x.m x.t x.M x.col) x.self x.parity then frame_lengths (params x.m x.t x.M x.col) x.L x.info x.red
      then length_rule 6 x.work (decoder_work (params x.m x.t x.M x.col) x.L) then v)
  unfolding window_numbers_for
  windowed_then n v =
      let s : Params = params x.m x.t x.M x.col in
      then_seven (design_rules x.m x.t x.M x.col) (count_rule x.L) (rounds_rule x.rounds) (window_rule n) (list_lengths s x.self x.parity)
      (frame_lengths s x.L x.info x.red) (length_rule 6 x.work (decoder_work s x.L)) v

  pub window_parts : (n : ℕ) → window_verdict x.m x.t x.M x.col x.L x.rounds n x.self x.parity x.info x.red x.work
      ≡ (window_numbers_for n x then bytes_for x)
  unfolding window_verdict bytes_for
  window_parts n = sym (windowed_then n (bytes_for x))

  pub window_forty : (n : ℕ) (report : List ℕ) → length report ≡ 40 → window_reported report n x ≡ window_call_of n x
  unfolding window_reported window_call
  window_forty n report e =
      let s : Params = params x.m x.t x.M x.col in
      let l : Interleavers = interleavers s x.self x.parity in
      let f : Frame = frame_of x.info x.red in
      ap (λ (v : Verdict). corrected_by v f (window_call_of n x).frame (window_call_of n x).counts)
      (report_forty report (window_numbers_for n x) (bytes_for x) e ∙ sym (window_parts n))
      ∙ corrected-again (window_verdict x.m x.t x.M x.col x.L x.rounds n x.self x.parity x.info x.red x.work) f
      (windowed s l x.L n x.rounds f).frame (window_counts s l x.L n x.rounds f)

-- ---- with another number of bytes

-- a decode with n working bytes
abbrev pub lending : ℕ → Decode → Decode
lending n x = decode_with x.m x.t x.M x.col x.L x.rounds x.self x.parity x.info x.red n

-- two refusals by one rule
abbrev pub OneRule : Verdict → Verdict → Type 0
OneRule v w = (number v ≡ number w) × (v ≢ accepted) × (w ≢ accepted)

number_six : (u : Verdict) (b : Bool) (p q : ℕ) → number (u then refused 6 p) ≡ number ((u then refuse b 6 p) then refused 6 q)
unfolding number
number_six accepted true p q = refl
number_six accepted false p q = refl
number_six (refused n m) b p q = refl

-- a call's rules up to 6, by the length of the last slice that they judge, which is due some bytes; the call is lent none of it
module _ (report : List ℕ) (h : length report ≢ 40) (sizes : ℕ → Verdict) (u : Verdict) (place have due : ℕ)
    (is : (n : ℕ) → sizes n ≡ (u then length_rule place n due)) (some : u ≡ accepted → 0 < due) where
  pub one_rule : (rest after : Verdict) {v : Verdict} → v ≡ (sizes 0 then rest) → OneRule v (sizes have then report_length report then after)
  one_rule rest after {v} e =
      let none : (u then length_rule place 0 due then rest) ≡ (u then refused 6 place) =
      then_where u (length_rule place 0 due then rest) (refused 6 place)
      (λ a. ap (λ (b : Bool). refuse (not b) 6 place then rest) (ne_eqb 0 due (λ (z : 0 ≡ due). let l = some a in omega arith))) in
      let empty : v ≡ (u then refused 6 place) = e ∙ ap (λ (z : Verdict). z then rest) (is 0) ∙ then_assoc u (length_rule place 0 due) rest ∙ none in
      let other : (sizes have then report_length report then after) ≡ ((u then length_rule place have due) then refused 6 8) =
      report_other report (sizes have) after h ∙ ap (λ (z : Verdict). z then refused 6 8) (is have) in (
        ap number empty ∙ number_six u (not (eqb have due)) place 8 ∙ sym (ap number other),
        (λ a. then_refused u 6 place (sym empty ∙ a)),
        (λ a. then_refused (u then length_rule place have due) 6 8 (sym other ∙ a)),
      )

pub corrected-frame : (v : Verdict) (f g : Frame) (c : Counts) → v ≢ accepted → f ≡ (corrected_by v f g c).frame
corrected-frame accepted f g c h = absurd (h refl)
corrected-frame (refused n p) f g c h = refl

encoded_alike : (v w : Verdict) (old new : List ℕ) → OneRule v w
    → (number (encoded_by v old new).verdict ≡ number (encoded_by w old new).verdict) × ((encoded_by v old new).red ≡ (encoded_by w old new).red)
encoded_alike accepted w old new h = absurd (h.1 refl)
encoded_alike (refused n p) accepted old new h = absurd (h.2 refl)
encoded_alike (refused n p) (refused k q) old new h = (h.0, refl)

pub corrected_alike : (v w : Verdict) (f g : Frame) (c : Counts) (o : Frame) (d : Counts) → OneRule v w
    → (number (corrected_by v f g c).verdict ≡ number (corrected_by w f o d).verdict) × ((corrected_by v f g c).frame ≡ (corrected_by w f o d).frame)
corrected_alike accepted w f g c o d h = absurd (h.1 refl)
corrected_alike (refused n p) accepted f g c o d h = absurd (h.2 refl)
corrected_alike (refused n p) (refused k q) f g c o d h = (h.0, refl)

positive : (m t M col : ℕ) → design_rules m t M col ≡ accepted → 0 < order (params m t M col)
positive m t M col e = order-positive (params m t M col) (proper_of (design_limits m t M col e))

kit-work-some : (m t M : ℕ) → design_rules m t M 0 ≡ accepted → 0 < kit_work (params m t M 0)
unfolding kit_work
kit-work-some m t M e =
    let n : 0 < order (params m t M 0) = positive m t M 0 e in
    let w : 0 < row_bytes (order (params m t M 0)) = omega (arith, n) in
    mul-pos n w

decoder_work-some : (m t M col L : ℕ) → design_rules m t M col ≡ accepted → 0 < decoder_work (params m t M col) L
unfolding decoder_work word_work
decoder_work-some m t M col L e = let n = positive m t M col e in omega (arith, n)

module _ (report : List ℕ) (h : length report ≢ 40) where
  module _ (m t M : ℕ) (self parity w : List ℕ) (work : ℕ) where
    pub kit_other : OneRule (kit_verdict m t M 0 self parity w 0) (kit_reported report m t M self parity w work)
    unfolding kit_reported kit_sizes
    kit_other =
        let s : Params = params m t M 0 in
        let rest : Verdict = kit_rules s (interleavers s self parity) w in
        one_rule report h (kit_sizes m t M self parity w) (design_rules m t M 0 then kit_lengths s self parity w) 6 work (kit_work s)
        (λ n. sym (then_assoc (design_rules m t M 0) (kit_lengths s self parity w) (length_rule 6 n (kit_work s))))
        (λ e. kit-work-some m t M (then_first (design_rules m t M 0) (kit_lengths s self parity w) e)) rest rest (kit_parts m t M self parity w 0)

    module _ (L : ℕ) (info red : List ℕ) where
      pub encode_other : (number (encode_call m t M 0 L self parity w info red 0).verdict ≡ number (encode_reported report m t M L self parity w info red work).verdict)
          × ((encode_call m t M 0 L self parity w info red 0).red ≡ (encode_reported report m t M L self parity w info red work).red)
      unfolding encode_call encode_reported encode_sizes
      encode_other =
          let s : Params = params m t M 0 in
          let l : Interleavers = interleavers s self parity in
          let b : Verdict = kit_lengths s self parity w in
          let c : Verdict = frame_lengths s L info red in
          let rest : Verdict = content_rules s l w info in
          encoded_alike (encode_verdict m t M 0 L self parity w info red 0) (encode_sizes m t M L self parity w info red work then report_length report then rest)
          red (redundancy s l w L info)
          (one_rule report h (encode_sizes m t M L self parity w info red) (design_rules m t M 0 then count_rule L then b then c) 6 work (kit_work s)
          (λ n. sym (then_four (design_rules m t M 0) (count_rule L) b c (length_rule 6 n (kit_work s))))
          (λ e. kit-work-some m t M (then_first (design_rules m t M 0) (count_rule L then b then c) e)) rest rest (encode_parts m t M self parity w 0 L info red))

      pub batch_other : (n : ℕ)
          → (number (batch_call m t M 0 L n self parity w info red 0).verdict ≡ number (batch_reported report m t M L n self parity w info red work).verdict)
          × ((batch_call m t M 0 L n self parity w info red 0).red ≡ (batch_reported report m t M L n self parity w info red work).red)
      unfolding batch_call batch_reported batch_sizes
      batch_other n =
          let s : Params = params m t M 0 in
          let l : Interleavers = interleavers s self parity in
          let b : Verdict = kit_lengths s self parity w in
          let c : Verdict = batch_lengths s L n info red in
          let rest : Verdict = content_rules s l w info in
          encoded_alike (batch_verdict m t M 0 L n self parity w info red 0) (batch_sizes m t M L n self parity w info red work then report_length report then rest)
          red (batch_redundancy s l w L n info)
          (one_rule report h (batch_sizes m t M L n self parity w info red) (design_rules m t M 0 then count_rule L then batch_rule n then b then c) 6 work (kit_work s)
          (λ n1. sym (then_five (design_rules m t M 0) (count_rule L) (batch_rule n) b c (length_rule 6 n1 (kit_work s))))
          (λ e. kit-work-some m t M (then_first (design_rules m t M 0) (count_rule L then batch_rule n then b then c) e)) rest rest
          (batch_parts m t M self parity w 0 L info red n))

  module _ (x : Decode) where
    -- of a decode with tallied or other rules behind
    pub decode_one : (rest after : Verdict) {v : Verdict} → v ≡ (numbers_for (lending 0 x) then rest) → OneRule v (numbers_for x then report_length report then after)
    unfolding numbers_for
    decode_one rest after e =
        let s : Params = params x.m x.t x.M x.col in
        let r : Verdict = design_rules x.m x.t x.M x.col in
        let b : Verdict = list_lengths s x.self x.parity in
        let c : Verdict = frame_lengths s x.L x.info x.red in
        one_rule report h (λ n. numbers_for (lending n x)) (r then count_rule x.L then rounds_rule x.rounds then b then c) 6 x.work (decoder_work s x.L)
        (λ n. sym (then_five r (count_rule x.L) (rounds_rule x.rounds) b c (length_rule 6 n (decoder_work s x.L))))
        (λ a. decoder_work-some x.m x.t x.M x.col x.L (then_first r (count_rule x.L then rounds_rule x.rounds then b then c) a)) rest after e

    pub decode_other : (number (call_of (lending 0 x)).verdict ≡ number (decode_reported report x).verdict)
        × ((call_of (lending 0 x)).frame ≡ (decode_reported report x).frame)
    unfolding decode_call decode_reported bytes_for
    decode_other =
        corrected_alike (verdict_for (lending 0 x)) (numbers_for x then report_length report then bytes_for x) (frame_of x.info x.red) _ _ _ _
        (decode_one (bytes_for x) (bytes_for x) (decode_parts (lending 0 x)))

    pub window_other : (n : ℕ) → (number (window_call_of n (lending 0 x)).verdict ≡ number (window_reported report n x).verdict)
        × ((window_call_of n (lending 0 x)).frame ≡ (window_reported report n x).frame)
    unfolding window_call window_reported window_numbers_for bytes_for
    window_other n =
        let s : Params = params x.m x.t x.M x.col in
        let r : Verdict = design_rules x.m x.t x.M x.col in
        let b : Verdict = list_lengths s x.self x.parity in
        let c : Verdict = frame_lengths s x.L x.info x.red in
        corrected_alike (window_verdict x.m x.t x.M x.col x.L x.rounds n x.self x.parity x.info x.red 0)
        (window_numbers_for n x then report_length report then bytes_for x) (frame_of x.info x.red) _ _ _ _
        (one_rule report h (λ k. window_numbers_for n (lending k x)) (r then count_rule x.L then rounds_rule x.rounds then window_rule n then b then c) 6
        x.work (decoder_work s x.L) (λ k. sym (then_six r (count_rule x.L) (rounds_rule x.rounds) (window_rule n) b c (length_rule 6 k (decoder_work s x.L))))
        (λ a. decoder_work-some x.m x.t x.M x.col x.L (then_first r (count_rule x.L then rounds_rule x.rounds then window_rule n then b then c) a))
        (bytes_for x) (bytes_for x) (window_parts (lending 0 x) n))

-- ---- what a host is told, whatever the report's length

module _ (report n : ℕ) where
  pub lent_none : report ≢ 40 → 0 ≡ lent_length report n
  unfolding lent_length
  lent_none h = sym (ap (λ (b : Bool). cond b n 0) (ne_eqb report 40 h))

  pub lent_all : report ≡ 40 → n ≡ lent_length report n
  unfolding lent_length
  lent_all e = sym (ap (λ (b : Bool). cond b n 0) (eq-eqb report 40 e))

-- the part of a slice that is lent
pub part_lent : (l report : List ℕ) (n : ℕ) → n ≡ lent_length (length report) (length l) → n ≤ length l → length (take (n - 0) (drop 0 l)) ≡ lent_length (length report) (length l)
part_lent l report n e h =
    let z : n - 0 ≡ n = omega arith in
    ap (λ (k : ℕ). length (take k l)) z ∙ length-take-le n l h ∙ e

-- a call, by the bytes that it is lent, and what the host is promised
module _ {A B : Type 0} (verdict : A → Verdict) (left : A → B) (answer : A → List ℕ) (long : (z : A) → length (answer z) ≡ 40) (report : List ℕ)
    (call : ℕ → A) (have : ℕ) (y : A) (forty : length report ≡ 40 → y ≡ call have)
    (other : length report ≢ 40 → (number (verdict (call 0)) ≡ number (verdict y)) × (left (call 0) ≡ left y)) where
  by_length : (b : Bool) → eqb (length report) 40 ≡ b → (number (verdict (call (cond b have 0))) ≡ number (verdict y))
      × (left (call (cond b have 0)) ≡ left y) × (told (answer (call (cond b have 0))) report ≡ told (answer y) report)
  by_length true e =
      let s : call have ≡ y = sym (forty (eqb-true (length report) 40 e)) in
      (ap (λ (z : A). number (verdict z)) s, ap left s, ap (λ (z : A). told (answer z) report) s)
  by_length false e =
      let h : length report ≢ 40 = eqb-false (length report) 40 e in (
        (other h).0,
        (other h).1,
        sym (told_other (answer (call 0)) report (λ z. h (z ∙ long (call 0)))) ∙ told_other (answer y) report (λ z. h (z ∙ long y)),
      )

  pub report-told : {n a : ℕ} {b : B} {k : List ℕ} → n ≡ lent_length (length report) have
      → (a ≡ number (verdict (call n))) × (b ≡ left (call n)) × (k ≡ told (answer (call n)) report)
      → (a ≡ number (verdict y)) × (b ≡ left y) × (k ≡ told (answer y) report)
  unfolding lent_length
  report-told e t =
      let s = by_length (eqb (length report) 40) refl in (
        t.0 ∙ ap (λ (n : ℕ). number (verdict (call n))) e ∙ s.0,
        t.1 ∙ ap (λ (n : ℕ). left (call n)) e ∙ s.1,
        t.2 ∙ ap (λ (n : ℕ). told (answer (call n)) report) e ∙ s.2,
      )

pub checked_long : (v : Verdict) → length (report_bytes (check_report v)) ≡ 40
checked_long v = report-bytes (place_of v) 0 0 0 0 []

-- of the kit checker
pub kit-told : (report : List ℕ) (m t M : ℕ) (self parity w : List ℕ) (work : ℕ) {n a : ℕ} {v : Verdict} {k : List ℕ}
    → n ≡ lent_length (length report) work → v ≡ kit_verdict m t M 0 self parity w n → (a ≡ number v) × (k ≡ told (report_bytes (check_report v)) report)
    → (a ≡ number (kit_reported report m t M self parity w work)) × (k ≡ told (report_bytes (check_report (kit_reported report m t M self parity w work))) report)
kit-told report m t M self parity w work e is h =
    let t1 = told_alike number (λ (v : Verdict). report_bytes (check_report v)) report is h in
    let r = report-told (λ (v : Verdict). v) (λ (v : Verdict). number v) (λ (v : Verdict). report_bytes (check_report v)) checked_long report
    (kit_verdict m t M 0 self parity w) work (kit_reported report m t M self parity w work) (kit_forty m t M self parity w work report)
    (λ h. ((kit_other report h m t M self parity w work).0, (kit_other report h m t M self parity w work).0)) e (t1.0, refl, t1.1) in
    (r.0, r.2)

-- of the encoders
pub encoded-told : (report : List ℕ) (call : ℕ → Encoded) (work : ℕ) (y : Encoded) → (length report ≡ 40 → y ≡ call work)
    → (length report ≢ 40 → (number (call 0).verdict ≡ number y.verdict) × ((call 0).red ≡ y.red))
    → {n a : ℕ} {v : Verdict} {r k : List ℕ} → n ≡ lent_length (length report) work → (v ≡ (call n).verdict) × (r ≡ (call n).red)
    → (a ≡ number v) × (k ≡ told (report_bytes (check_report v)) report)
    → (a ≡ number y.verdict) × (r ≡ y.red) × (k ≡ told (report_bytes (check_report y.verdict)) report)
encoded-told report call work y forty other e made h =
    let t = told_alike number (λ (v : Verdict). report_bytes (check_report v)) report made.0 h in
    report-told (λ (z : Encoded). z.verdict) (λ (z : Encoded). z.red) (λ (z : Encoded). report_bytes (check_report z.verdict)) (λ (z : Encoded). checked_long z.verdict)
    report call work y forty other e (t.0, made.1, t.1)

-- of the decoders
pub decoded-told : (report : List ℕ) (call : ℕ → Corrected) (work : ℕ) (y : Corrected) → (length report ≡ 40 → y ≡ call work)
    → (length report ≢ 40 → (number (call 0).verdict ≡ number y.verdict) × ((call 0).frame ≡ y.frame))
    → {n a : ℕ} {f : Frame} {k : List ℕ} → n ≡ lent_length (length report) work
    → (a ≡ number (call n).verdict) × (f ≡ (call n).frame) × (k ≡ told (report_bytes (corrected_answer (call n))) report)
    → (a ≡ number y.verdict) × (f ≡ y.frame) × (k ≡ told (report_bytes (corrected_answer y)) report)
decoded-told report call work y forty other e t =
    report-told (λ (z : Corrected). z.verdict) (λ (z : Corrected). z.frame) (λ (z : Corrected). report_bytes (corrected_answer z))
    (λ (z : Corrected). report-bytes (place_of z.verdict) z.counts.rounds z.counts.turned z.counts.outside z.counts.stuck [])
    report call work y forty other e t
