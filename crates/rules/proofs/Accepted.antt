-- What rules 4 to 7 and 10 say once they accept.
--   lengths_equal      each slice has the length that is due
--   sizes-accepted, frame-accepted   rules 4 and 5, and the same
--   batch-accepted     rules 4 and 17, and the same
--   frame_small        the lengths of a frame are small
--   kept_small         and what the decoder keeps of it
--   received, received_work   what the rules leave of a received frame
--   decoder_received, decoder-work, decoder_rounds   and of one that is to be decoded
-- Assumes nothing.
use mathlib.Core.Path.{◌≡◌}
use mathlib.Core.List.{List, []}
use Prim.Native.Nat.{ℕ, ◌+◌, ◌*◌, ◌^◌, ◌≤◌, ◌<◌}
use native.Mathlib.Omega.{arith}
use lib.Dec.{ltb}
use borrow.Author.Tests.{ltb-false}
use Rattle.staircase.specs.Design.{Params, most-blocks, most-rounds}
use Rattle.staircase.specs.Frame.{groups}
use Rattle.staircase.specs.Rules.{Verdict, ◌then◌, count_rule, rounds_rule, length_rule, info_length, red_length, list_rule, spare_rule, frame_bits, interleavers, word_work, kept_work, decoder_work}
use Rattle.staircase.specs.Rules.Verdict.{accepted}
use Rattle.staircase.specs.Batch.{most-frames, batch_rule}
use Rattle.staircase.proofs.Bounds.{small_product}
use Rattle.staircase.proofs.Rules.{then_first, then_rest, refuse-false, count_limits, length_equal, lists_permute, frame-bits}
use Rattle.staircase.proofs.Batch.{batch_limits}
use Rattle.design.specs.declared.Design.{Design}
use Rattle.design.specs.Answers.{Allowed}
use Rattle.design.specs.Sizes.{params_of, order_of}
use Rattle.rules.specs.declared.lengths.Lengths.{Lengths}
use Rattle.rules.specs.Lengths.{lengths_of, lengths_rule, lists_with, lists_due, decoder_due, frame_due, batch_due, size_rules, batch_size_rules, frame_rules, batch_rules}
use Rattle.rules.specs.Bytes.{byte_rules}
use Rattle.rules.specs.Received.{Received}

abbrev Equal : Lengths → Lengths → Type 0
Equal have due = (have.own ≡ due.own) × (have.parity ≡ due.parity) × (have.inverse ≡ due.inverse)
    × (have.info ≡ due.info) × (have.red ≡ due.red) × (have.work ≡ due.work)

pub lengths_equal : (have due : Lengths) → lengths_rule have due ≡ accepted → Equal have due
unfolding lengths_rule
lengths_equal have due e =
    let v5 : Verdict = length_rule 5 have.red due.red then length_rule 6 have.work due.work in
    let v4 : Verdict = length_rule 4 have.info due.info then v5 in
    let v3 : Verdict = length_rule 3 have.inverse due.inverse then v4 in
    let v2 : Verdict = length_rule 2 have.parity due.parity then v3 in
    let e2 : v2 ≡ accepted = then_rest (length_rule 1 have.own due.own) v2 e in
    let e3 : v3 ≡ accepted = then_rest (length_rule 2 have.parity due.parity) v3 e2 in
    let e4 : v4 ≡ accepted = then_rest (length_rule 3 have.inverse due.inverse) v4 e3 in
    let e5 : v5 ≡ accepted = then_rest (length_rule 4 have.info due.info) v5 e4 in (
      length_equal 1 have.own due.own (then_first (length_rule 1 have.own due.own) v2 e),
      length_equal 2 have.parity due.parity (then_first (length_rule 2 have.parity due.parity) v3 e2),
      length_equal 3 have.inverse due.inverse (then_first (length_rule 3 have.inverse due.inverse) v4 e3),
      length_equal 4 have.info due.info (then_first (length_rule 4 have.info due.info) v5 e4),
      length_equal 5 have.red due.red (then_first (length_rule 5 have.red due.red) (length_rule 6 have.work due.work) e5),
      length_equal 6 have.work due.work (then_rest (length_rule 5 have.red due.red) (length_rule 6 have.work due.work) e5),
    )

pub sizes-accepted : (L k : ℕ) (have due : Lengths) → size_rules L k have due ≡ accepted → (1 ≤ L) × (L ≤ most-blocks) × (k ≤ most-rounds) × Equal have due
unfolding size_rules rounds_rule
sizes-accepted L k have due e =
    let v : Verdict = lengths_rule have due in
    let f : (rounds_rule k then v) ≡ accepted = then_rest (count_rule L) (rounds_rule k then v) e in
    let n = count_limits L (then_first (count_rule L) (rounds_rule k then v) e) in (
      n.0,
      n.1,
      ltb-false most-rounds k (refuse-false (ltb most-rounds k) 5 k (then_first (rounds_rule k) v f)),
      lengths_equal have due (then_rest (rounds_rule k) v f),
    )

pub frame-accepted : (s : Params) (L k : ℕ) (have due : Lengths) → frame_rules s L k have due ≡ accepted
    → (1 ≤ L) × (L ≤ most-blocks) × (k ≤ most-rounds) × Equal have (frame_due s L due)
unfolding frame_rules
frame-accepted s L k have due e = sizes-accepted L k have (frame_due s L due) e

pub batch-accepted : (s : Params) (L n : ℕ) (have due : Lengths) → batch_rules s L n have due ≡ accepted
    → (L ≤ most-blocks) × (n ≤ most-frames) × Equal have (batch_due s L n due)
unfolding batch_rules batch_size_rules
batch-accepted s L n have due e =
    let v : Verdict = lengths_rule have (batch_due s L n due) in
    let f : (batch_rule n then v) ≡ accepted = then_rest (count_rule L) (batch_rule n then v) e in (
      (count_limits L (then_first (count_rule L) (batch_rule n then v) e)).1,
      (batch_limits n (then_first (batch_rule n) v f)).1,
      lengths_equal have (batch_due s L n due) (then_rest (batch_rule n) v f),
    )

pub frame_small : (d : Design) (L info red : ℕ) → Allowed d → L ≤ most-blocks → info ≡ info_length (params_of d) L → red ≡ red_length (params_of d) L → info + red < 2 ^ 63
frame_small d L info red a h e f =
    let x = small_product L (d.size * d.size) 4096 250000 h (small_product d.size d.size 500 500 a.M-high a.M-high) in
    let y = small_product (groups L) (2 * order_of d) 4096 8192 (omega arith) (omega (arith, a.order-high)) in
    omega (arith, e, f, x, y)

pub kept_small : (d : Design) (L : ℕ) → Allowed d → L ≤ most-blocks
    → (8 * (groups L * d.size) ≤ 16384000) × (8 * (groups L * d.size) + (info_length (params_of d) L + red_length (params_of d) L) ≤ 1100000000)
kept_small d L a h =
    let x = small_product L (d.size * d.size) 4096 250000 h (small_product d.size d.size 500 500 a.M-high a.M-high) in
    let y = small_product (groups L) (2 * order_of d) 4096 8192 (omega arith) (omega (arith, a.order-high)) in
    let z = small_product (groups L) d.size 4096 500 (omega arith) a.M-high in
    (omega (arith, z), omega (arith, x, y, z))

module _ (d : Design) (L k : ℕ) (own parity info red : List ℕ) (work due : ℕ) (allowed : Allowed d)
    (e : (frame_rules (params_of d) L k (lengths_of own parity [] info red work) (lists_with (params_of d) due) then byte_rules (params_of d) (interleavers (params_of d) own parity) [] info red) ≡ accepted) where
  abbrev s : Params
  s = params_of d

  abbrev first : Verdict
  first = frame_rules s L k (lengths_of own parity [] info red work) (lists_with s due)

  abbrev bytes : Verdict
  bytes = byte_rules s (interleavers s own parity) [] info red

  received_by : Received d L own parity info red
  unfolding frame_due byte_rules
  received_by =
      let n = frame-accepted s L k (lengths_of own parity [] info red work) (lists_with s due) (then_first first bytes e) in
      let b : bytes ≡ accepted = then_rest first bytes e in
      let lists = list_rule s (interleavers s own parity) in
      let p = lists_permute s (interleavers s own parity) (then_first lists (spare_rule s [] then frame_bits info red) b) in
      let q = frame-bits info red (then_rest (spare_rule s []) (frame_bits info red) (then_rest lists (spare_rule s [] then frame_bits info red) b)) in
      record {
        allowed = allowed;
        some-blocks = n.0;
        few-blocks = n.1;
        lists = record { own_length = n.3.0; parity_length = n.3.1; own_permutes = p.0; parity_permutes = p.1 };
        frame = record { info_length = n.3.3; red_length = n.3.4; info_bits = q.0; red_bits = q.1 };
      }

  work-by : work ≡ due
  unfolding frame_due
  work-by = (frame-accepted s L k (lengths_of own parity [] info red work) (lists_with s due) (then_first first bytes e)).3.5

  rounds-by : k ≤ most-rounds
  rounds-by = (frame-accepted s L k (lengths_of own parity [] info red work) (lists_with s due) (then_first first bytes e)).2

-- the word checker's working bytes
module _ (d : Design) (L k : ℕ) (own parity info red : List ℕ) (work : ℕ) (allowed : Allowed d)
    (e : (frame_rules (params_of d) L k (lengths_of own parity [] info red work) (lists_due (params_of d)) then byte_rules (params_of d) (interleavers (params_of d) own parity) [] info red) ≡ accepted) where
  pub received : Received d L own parity info red
  unfolding lists_due
  received = received_by d L k own parity info red work (word_work (params_of d)) allowed e

  pub received_work : work ≡ order_of d
  unfolding lists_due word_work
  received_work = work-by d L k own parity info red work (word_work (params_of d)) allowed e

-- the decoder's
module _ (d : Design) (L k : ℕ) (own parity info red : List ℕ) (work : ℕ) (allowed : Allowed d)
    (e : (frame_rules (params_of d) L k (lengths_of own parity [] info red work) (decoder_due (params_of d) L) then byte_rules (params_of d) (interleavers (params_of d) own parity) [] info red) ≡ accepted) where
  pub decoder_received : Received d L own parity info red
  unfolding decoder_due
  decoder_received = received_by d L k own parity info red work (decoder_work (params_of d) L) allowed e

  pub decoder-work : work ≡ order_of d + kept_work (params_of d) L
  unfolding decoder_due decoder_work word_work
  decoder-work = work-by d L k own parity info red work (decoder_work (params_of d) L) allowed e

  pub decoder_rounds : k ≤ most-rounds
  unfolding decoder_due
  decoder_rounds = rounds-by d L k own parity info red work (decoder_work (params_of d) L) allowed e
