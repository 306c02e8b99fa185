-- An encoder's call that is accepted.
--   encoded_by-verdict     a call's verdict is that of its rules
--   encode-accepted       what demand 3 takes for given holds
--   encode-work           and the working bytes are as many as it wants
--   accepted_demand3      demand 3, from the encoder's accepted verdict
--   made-idle             the decoder makes one idle round on the frame itself
--   encode_old            another old redundancy gives the same
-- Assumes nothing.
use mathlib.Core.Path.{◌≡◌, refl, sym, ap, ◌∙◌}
use mathlib.Core.Bool.{true}
use mathlib.Core.List.{List}
use Prim.Native.Nat.{ℕ, ◌≤◌}
use lib.ListN.{length}
use Rattle.staircase.specs.Design.{Params, Interleavers, params, most-rounds}
use Rattle.staircase.specs.Frame.{Frame, Word, frame_of, words, in_code}
use Rattle.staircase.specs.System.{redundancy}
use Rattle.staircase.specs.Decoder.{decoded}
use Rattle.staircase.specs.Rules.{Verdict, ◌then◌, design_rules, count_rule, length_rule, kit_lengths, info_length, red_length, frame_lengths, kit_work, interleavers, content_rules}
use Rattle.staircase.specs.Rules.Verdict.{accepted, refused}
use Rattle.staircase.specs.Calls.{Encoded, encode_verdict, encoded_by, encode_call, counts_of, corrected_by, decode_call}
use Rattle.staircase.specs.Demand3.{Kit, sizes, lists, encode, decode, Given, Demand3}
use Rattle.staircase.proofs.Member.{In}
use Rattle.staircase.proofs.Rules.{then_first, then_rest, design_limits, count_limits, length_equal, lengths_fit, frame-lengths, bytes_bits, content_accepted}
use Rattle.staircase.proofs.BchCode.{proper_of}
use Rattle.staircase.proofs.Sites.{each_word}
use Rattle.staircase.proofs.Idle.{decoded-stays}
use Rattle.staircase.proofs.Decoded.{counts_of-stays}
use Rattle.staircase.proofs.Demand2.{kit-passes}
use Rattle.staircase.proofs.Demand3.{decode_admits, made-length, made_bits, made-rows, made-columns, demand3}

pub encoded_by-verdict : (v : Verdict) (old new : List ℕ) → (encoded_by v old new).verdict ≡ v
encoded_by-verdict accepted old new = refl
encoded_by-verdict (refused n p) old new = refl

-- ---- from the verdict

pub encode-accepted : (K : Kit) (L : ℕ) (info old : List ℕ) (work : ℕ)
    → encode_verdict K.m K.t K.M K.col L K.self K.parity K.inverse info old work ≡ accepted → Given K L info old
unfolding encode_verdict
encode-accepted K L info old work e =
    let s : Params = sizes K in
    let l : Interleavers = lists K in
    let v1 : Verdict = design_rules K.m K.t K.M K.col in
    let v6 : Verdict = kit_lengths s K.self K.parity K.inverse in
    let after-work : Verdict = content_rules s l K.inverse info in
    let after_frame : Verdict = length_rule 6 work (kit_work s) then after-work in
    let after-kit : Verdict = frame_lengths s L info old then after_frame in
    let after-count : Verdict = v6 then after-kit in
    let e4 : (count_rule L then after-count) ≡ accepted = then_rest v1 (count_rule L then after-count) e in
    let e6 : after-count ≡ accepted = then_rest (count_rule L) after-count e4 in
    let e7 : after-kit ≡ accepted = then_rest v6 after-kit e6 in
    let e8 : after-work ≡ accepted =
    then_rest (length_rule 6 work (kit_work s)) after-work (then_rest (frame_lengths s L info old) after_frame e7) in
    let design : v1 ≡ accepted = then_first v1 (count_rule L then after-count) e in
    let count = count_limits L (then_first (count_rule L) after-count e4) in
    let content = content_accepted s l K.inverse info e8 in
    let long = frame-lengths s L info old (then_first (frame_lengths s L info old) after_frame e7) in
    record {
      design = design;
      fits = lengths_fit s K.self K.parity K.inverse (then_first v6 after-kit e6);
      passes = (kit-passes s l K.inverse (proper_of (design_limits K.m K.t K.M K.col design))).0 content.0;
      some = count.0;
      few = count.1;
      bits = bytes_bits 0 info content.1;
      info-fits = long.0;
      old_fits = long.1;
    }

pub encode-work : (K : Kit) (L : ℕ) (info old : List ℕ) (work : ℕ)
    → encode_verdict K.m K.t K.M K.col L K.self K.parity K.inverse info old work ≡ accepted → work ≡ kit_work (sizes K)
unfolding encode_verdict
encode-work K L info old work e =
    let s : Params = sizes K in
    let after-work : Verdict = content_rules s (lists K) K.inverse info in
    let after_frame : Verdict = length_rule 6 work (kit_work s) then after-work in
    let v6 : Verdict = kit_lengths s K.self K.parity K.inverse in
    let after-kit : Verdict = frame_lengths s L info old then after_frame in
    let e6 : (v6 then after-kit) ≡ accepted =
    then_rest (count_rule L) (v6 then after-kit) (then_rest (design_rules K.m K.t K.M K.col) (count_rule L then v6 then after-kit) e) in
    length_equal 6 work (kit_work s)
    (then_first (length_rule 6 work (kit_work s)) after-work (then_rest (frame_lengths s L info old) after_frame (then_rest v6 after-kit e6)))

pub accepted_demand3 : (K : Kit) (L : ℕ) (info old : List ℕ) → (encode K L info old).verdict ≡ accepted → Demand3 K L info old
unfolding encode_call
accepted_demand3 K L info old e =
    let v : Verdict = encode_verdict K.m K.t K.M K.col L K.self K.parity K.inverse info old (kit_work (sizes K)) in
    demand3 K L info old
    (encode-accepted K L info old (kit_work (sizes K)) (sym (encoded_by-verdict v old (redundancy (sizes K) (lists K) K.inverse L info)) ∙ e))

-- ---- the frame itself

module _ (K : Kit) (L : ℕ) (info old : List ℕ) (G : Given K L info old) where
  abbrev s : Params
  s = sizes K

  abbrev l : Interleavers
  l = lists K

  abbrev made : List ℕ
  made = redundancy (sizes K) (lists K) K.inverse L info

  abbrev frame : Frame
  frame = frame_of info (redundancy (sizes K) (lists K) K.inverse L info)

  inside : (v : Word) → In v (words s l L) → in_code v.code frame v.sites ≡ true
  inside =
      each_word s L l (proper_of (design_limits K.m K.t K.M K.col G.design)) G.passes.self G.passes.parity (λ v. in_code v.code frame v.sites ≡ true)
      (made-rows K L info old G) (made-columns K L info old G)

  pub made-idle : (k : ℕ) → k ≤ most-rounds
      → decode K L k frame ≡ record { verdict = accepted; frame = frame; counts = record { rounds = 1; turned = 0; outside = 0; stuck = 0 } }
  unfolding decode_call
  made-idle k hk =
      ap (λ (v : Verdict). corrected_by v frame (decoded s l L k frame).frame (counts_of s l L k frame))
      (decode_admits K L info old G k hk info made G.info-fits (made-length K L info old G) G.bits (made_bits K L info old G))
      ∙ (λ i. record { verdict = accepted; frame = (decoded-stays s frame l L k inside i).frame; counts = counts_of-stays s l L k frame inside i })

-- ---- another old redundancy

-- "whatever its redundancy buffer held"
pub encode_old : (m t M col L : ℕ) (self parity w info old old₂ red : List ℕ) (work : ℕ) → length old₂ ≡ length old
    → encode_call m t M col L self parity w info old work ≡ record { verdict = accepted; red = red }
    → encode_call m t M col L self parity w info old₂ work ≡ record { verdict = accepted; red = red }
unfolding encode_call encode_verdict frame_lengths
encode_old m t M col L self parity w info old old₂ red work same e =
    let s : Params = params m t M col in
    let l : Interleavers = interleavers s self parity in
    by_length
    (λ k. design_rules m t M col then count_rule L
    then kit_lengths s self parity w then (length_rule 4 (length info) (info_length s L) then length_rule 5 k (red_length s L)) then length_rule 6 work (kit_work s)
    then content_rules s l w info)
    (redundancy s l w L info) e
  where
    made_kept : (v : Verdict) (new : List ℕ) → encoded_by v old new ≡ record { verdict = accepted; red = red }
        → encoded_by v old₂ new ≡ record { verdict = accepted; red = red }
    made_kept accepted new f = f
    made_kept (refused n p) new f = let q : refused n p ≡ accepted = ap (λ (z : Encoded). z.verdict) f in cc

    by_length : (v : ℕ → Verdict) (new : List ℕ) → encoded_by (v (length old)) old new ≡ record { verdict = accepted; red = red }
        → encoded_by (v (length old₂)) old₂ new ≡ record { verdict = accepted; red = red }
    by_length v new f = ap (λ (k : ℕ). encoded_by (v k) old₂ new) same ∙ made_kept (v (length old)) new f
