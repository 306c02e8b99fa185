-- The two calls of the loopback, one after the other.
--   turned-length, turned-bits   a buffer with some bits turned
--   accepted_ok                  what the rules accept is made
--   part_length                  the part at the start of the working bytes that is lent
--   front_call                   the encoder's call, with its part of the working bytes
--   numbers-accepted             rules 1 to 5 accept what demand 3 takes for given, at an allowed number of rounds
--   loopback_numbers             the result where rules 1 to 5 refuse
--   loopback_encoder             where the encoder does
--   small-frame                  its design is allowed, its blocks are few, and so are the rows of its inverse
--   own-length, working_fits, decoder_lent   the decoder's working bytes are among those that are lent, and how many they are
--   decode-same                  a decoder's call on the same buffers
--   loopback_decoded             the result after the decoder, which accepts the frame
-- Assumes nothing.
use Rattle.std.specs.Prelude.{Err, Ok, Result, IsOk, IsErr, IsErrAnd}
use mathlib.Core.Path.{◌≡◌, refl, sym, ap, ap₂, ◌∙◌, subst}
use mathlib.Core.Bool.{Bool, true, false, not, cond}
use mathlib.Core.Logic.{◌≢◌}
use mathlib.Core.List.{List}
use Prim.Native.Nat.{ℕ, ◌+◌, ◌-◌, ◌*◌, ◌/◌, ◌≤◌, ◌<◌}
use native.Mathlib.Decide.{dec_lt, ℕ_discrete}
use native.Mathlib.Omega.{arith}
use borrow.Author.Tests.{le-ltb, ltb-false, eq-eqb, ne_eqb}
use lib.Dec.{eqb, ltb}
use lib.ListN.{length, get_or, take, get_or-eq_default}
use lib.Seq.{length-take-le}
use Rattle.bch.specs.Polynomial.{Bits}
use Rattle.staircase.specs.Design.{Params, Interleavers, params, order, most-order, most-blocks, most-rounds}
use Rattle.staircase.specs.System.{row_bytes, redundancy}
use Rattle.staircase.specs.Frame.{Frame, frame_of}
use Rattle.staircase.specs.Decoder.{decoded}
use Rattle.staircase.specs.Rules.{Verdict, ◌then◌, refuse, design_rules, count_rule, rounds_rule, length_rule, kit_lengths, frame_lengths, kit_work, kept_work, decoder_work, interleavers, content_rules}
use Rattle.staircase.specs.Rules.Verdict.{accepted, refused}
use Rattle.staircase.specs.Calls.{encoded_by, encode_verdict, encode_call, Counts, counts_of, Corrected, corrected_by, decode_verdict, decode_call}
use Rattle.staircase.specs.Demand3.{Kit, Given}
use Rattle.staircase.proofs.Bounds.{small_product}
use Rattle.staircase.proofs.Tabulate.{tabulate-length, tabulate-at}
use Rattle.staircase.proofs.Rules.{then_first, then_rest, then_accepted, refuse-false, refuse-accepted, in_range, design_limits, count_limits}
use Rattle.staircase.proofs.BchCode.{proper_of}
use Rattle.staircase.proofs.Demand3.{decode_admits, made-length, made_bits}
use Rattle.staircase.proofs.Encoded.{encoded_by-verdict, encode-accepted, encode-work}
use Rattle.answers.specs.declared.Counts as told
use Rattle.answers.specs.declared.Refusal.{Refusal}
use Rattle.answers.specs.Answers.{refusal_verdict, verdict_of, corrected_of}
use Rattle.answers.proofs.Checks.{handed_on, refused_on, refusal_refuses, check_refused}
use Rattle.decoder.proofs.DecodeCall.{refused-is}
use Rattle.loopback.specs.Link.{turned, number_rules, loopback_work, loopback_verdict, loopback_call}

-- ---- turned bits

pub turned-length : (errors b : List ℕ) → length (turned errors b) ≡ length b
unfolding turned
turned-length errors b = tabulate-length (length b) (λ k. cond (eqb (get_or errors k 0) 0) (get_or b k 0) (1 - get_or b k 0))

pub turned-bits : (errors b : List ℕ) → Bits b → Bits (turned errors b)
unfolding turned
turned-bits errors b h k = go (dec_lt k (length b))
  where
    bit : (z : Bool) → cond z (get_or b k 0) (1 - get_or b k 0) < 2
    bit true = h k
    bit false = omega arith

    go : Dec (k < length b) → get_or (turned errors b) k 0 < 2
    go (yes l) = subst (λ (z : ℕ). z < 2) (sym (tabulate-at (length b) (λ j. cond (eqb (get_or errors j 0) 0) (get_or b j 0) (1 - get_or b j 0)) 0 k l)) (bit (eqb (get_or errors k 0) 0))
    go (no l) = subst (λ (z : ℕ). z < 2) (sym (get_or-eq_default (turned errors b) 0 {n = k} (omega (arith, turned-length errors b)))) (omega arith)

-- ---- a design that the rules accept is made

pub accepted_ok : {A : Type 0} (x : Result A Refusal) → verdict_of x ≡ accepted → IsOk x
unfolding verdict_of
accepted_ok (Ok y) e = refl
accepted_ok (Err r) e = absurd (refusal_refuses r e)

-- ---- working bytes

pub part_length : (l : List ℕ) (n : ℕ) → n ≤ length l → length (take (n - 0) l) ≡ n
part_length l n h = length-take-le (n - 0) l (omega arith) ∙ omega arith

-- the encoder is lent all but those of what the decoder keeps
pub front_call : (m t M col L : ℕ) (self parity w info red work : List ℕ) {front kept : ℕ} → front ≡ length work - kept
    → kept ≡ kept_work (params m t M col) L
    → encode_call m t M col L self parity w info red (length (take (front - 0) work)) ≡ encode_call m t M col L self parity w info red (length work - kept_work (params m t M col) L)
front_call m t M col L self parity w info red work {front} f k =
    ap (encode_call m t M col L self parity w info red) (part_length work front (omega (arith, f)) ∙ f ∙ ap (λ (n : ℕ). length work - n) k)

-- ---- the verdict

less_rule : (w x a : ℕ) → 0 < a → length_rule 6 (w - x) a ≡ length_rule 6 w (a + x)
less_rule w x a h = ap (λ (z : Bool). refuse (not z) 6 6) (go (ℕ_discrete (w - x) a))
  where
    go : Dec (w - x ≡ a) → eqb (w - x) a ≡ eqb w (a + x)
    go (yes e) = eq-eqb (w - x) a e ∙ sym (eq-eqb w (a + x) (omega (arith, e)))
    go (no n) = ne_eqb (w - x) a n ∙ sym (ne_eqb w (a + x) (λ e. n (omega (arith, e))))

pub numbers-accepted : (K : Kit) (L : ℕ) (info old : List ℕ) → Given K L info old → (k : ℕ) → k ≤ most-rounds → number_rules K.m K.t K.M K.col L k ≡ accepted
unfolding number_rules count_rule rounds_rule
numbers-accepted K L info old G k h =
    then_accepted G.design
    (then_accepted (refuse-accepted 4 L (in_range 1 most-blocks L G.some G.few)) (refuse-accepted 5 k (le-ltb most-rounds k h)))

pub decode-same : (m t M col L k : ℕ) (self parity : List ℕ) {i i' r r' : List ℕ} {n n' : ℕ} → i ≡ i' → r ≡ r' → n ≡ n'
    → decode_call m t M col L k self parity i r n ≡ decode_call m t M col L k self parity i' r' n'
decode-same m t M col L k self parity {i} {i'} {r} {r'} {n} {n'} p q e =
    ap₂ (λ (x y : List ℕ). decode_call m t M col L k self parity x y n) p q ∙ ap (λ (z : ℕ). decode_call m t M col L k self parity i' r' z) e

module _ (m t M col L k : ℕ) (self parity w info_errors red_errors info red : List ℕ) (work : ℕ) where
  abbrev K : Kit
  K = record { m = m; t = t; M = M; col = col; self = self; parity = parity; inverse = w }

  abbrev s : Params
  s = params m t M col

  abbrev l : Interleavers
  l = interleavers (params m t M col) self parity

  abbrev received : Frame
  received = frame_of (turned info_errors info) (turned red_errors (redundancy (params m t M col) (interleavers (params m t M col) self parity) w L info))

  abbrev done : Frame
  done = (decoded s l L k received).frame

  abbrev counts : Counts
  counts = counts_of s l L k received

  -- a refused call counts nothing and leaves the frame
  refused_result : (y : Result told.Counts Refusal) {r : Refusal} → y ≡ Err r → verdict_of y ≡ loopback_verdict m t M col L k self parity w info red work
      → corrected_of y (frame_of info red) ≡ loopback_call m t M col L k self parity w info_errors red_errors info red work
  unfolding corrected_of verdict_of loopback_call
  refused_result y {r} q e =
      ap (λ (z : Result told.Counts Refusal). corrected_of z (frame_of info red)) q
      ∙ refused-is (refusal_verdict r) (frame_of info red) done counts (refusal_refuses r)
      ∙ ap (λ (x : Verdict). corrected_by x (frame_of info red) done counts) (sym (ap verdict_of q) ∙ e)

  -- refused by rules 1 to 5; y is what the call hands on
  pub loopback_numbers : (y : Result told.Counts Refusal) (x : Result Unit Refusal) → verdict_of x ≡ number_rules m t M col L k → {r : Refusal} → x ≡ Err r
      → IsErr y × IsErrAnd y (λ (e : Refusal). e ≡ r)
      → corrected_of y (frame_of info red) ≡ loopback_call m t M col L k self parity w info_errors red_errors info red work
  unfolding loopback_verdict
  loopback_numbers y x v e h =
      refused_result y (handed_on y h.1)
      (refused_on (kit_lengths s self parity w then frame_lengths s L info red then length_rule 6 work (loopback_work s L) then content_rules s l w info) v y e h)

  module _ (ok : number_rules m t M col L k ≡ accepted) where
    counted : (count_rule L then rounds_rule k) ≡ accepted
    unfolding number_rules
    counted = then_rest (design_rules m t M col) (count_rule L then rounds_rule k) ok

    few-rounds : k ≤ most-rounds
    unfolding rounds_rule
    few-rounds = ltb-false most-rounds k (refuse-false (ltb most-rounds k) 5 k (then_rest (count_rule L) (rounds_rule k) counted))

    designed : design_rules m t M col ≡ accepted
    unfolding number_rules
    designed = then_first (design_rules m t M col) (count_rule L then rounds_rule k) ok

    pub small-frame : (design_rules m t M col ≡ accepted) × (L ≤ most-blocks) × (order (params m t M col) ≤ most-order)
    small-frame =
        let limits = design_limits m t M col designed in (designed, (count_limits L (then_first (count_rule L) (rounds_rule k) counted)).1, limits.order-high)

    abbrev more : ℕ
    more = kept_work (params m t M col) L

    kit-some : (0 < kit_work s) × (order s ≤ kit_work s)
    unfolding kit_work
    kit-some =
        let fit = proper_of (design_limits m t M col designed) in
        let p = small_product 1 1 M (m * t) fit.mpos fit.rpos in
        let one : 1 ≤ row_bytes (order s) = omega (arith, p) in
        let q = small_product (order s) 1 (order s) (row_bytes (order s)) (omega arith) one in
        (omega (arith, p, q), omega (arith, q))

    -- the last of the working bytes are left out: those of what the decoder keeps
    same_rule : length_rule 6 (work - kept_work (params m t M col) L) (kit_work s) ≡ length_rule 6 work (loopback_work s L)
    unfolding loopback_work
    same_rule = less_rule work more (kit_work s) kit-some.0

    -- the encoder's rules 1 to 4 are passed, so that the others decide
    verdict-encodes : loopback_verdict m t M col L k self parity w info red work ≡ encode_verdict m t M col L self parity w info red (work - kept_work (params m t M col) L)
    unfolding loopback_verdict encode_verdict number_rules
    verdict-encodes =
        let rest : Verdict = kit_lengths s self parity w then frame_lengths s L info red then length_rule 6 (work - more) (kit_work s) then content_rules s l w info in
        ap (λ (v : Verdict). v then kit_lengths s self parity w then frame_lengths s L info red then length_rule 6 work (loopback_work s L) then content_rules s l w info) ok
        ∙ ap (λ (v : Verdict). kit_lengths s self parity w then frame_lengths s L info red then v then content_rules s l w info) (sym same_rule)
        ∙ sym (ap (λ (v : Verdict). v then count_rule L then rest) (then_first (design_rules m t M col) (count_rule L then rounds_rule k) ok)
        ∙ ap (λ (v : Verdict). v then rest) (then_first (count_rule L) (rounds_rule k) counted))

    encoder-verdict : (encode_call m t M col L self parity w info red (work - kept_work (params m t M col) L)).verdict ≡ encode_verdict m t M col L self parity w info red (work - kept_work (params m t M col) L)
    unfolding encode_call
    encoder-verdict = encoded_by-verdict (encode_verdict m t M col L self parity w info red (work - kept_work (params m t M col) L)) red (redundancy s l w L info)

    -- refused by the encoder, which leaves the redundancy
    pub loopback_encoder : (y : Result told.Counts Refusal) (x : Result Unit Refusal) (after : List ℕ) → verdict_of x ≡ (encode_call m t M col L self parity w info red (work - kept_work (params m t M col) L)).verdict
        → after ≡ (encode_call m t M col L self parity w info red (work - kept_work (params m t M col) L)).red → {r : Refusal} → x ≡ Err r → IsErrAnd y (λ (e : Refusal). e ≡ r)
        → corrected_of y (frame_of info after) ≡ loopback_call m t M col L k self parity w info_errors red_errors info red work
    unfolding encode_call verdict_of
    loopback_encoder y x after v a e h =
        let u : Verdict = encode_verdict m t M col L self parity w info red (work - kept_work (params m t M col) L) in
        let q = handed_on y h in
        ap (λ (z : List ℕ). corrected_of y (frame_of info z)) (a ∙ red-stays u (λ z. check_refused e (v ∙ encoder-verdict ∙ z)))
        ∙ refused_result y q (ap verdict_of q ∙ sym (ap verdict_of e) ∙ v ∙ encoder-verdict ∙ sym verdict-encodes)
      where
        red-stays : (u : Verdict) → u ≢ accepted → (encoded_by u red (redundancy s l w L info)).red ≡ red
        red-stays accepted h = absurd (h refl)
        red-stays (refused n p) h = refl

    -- encoded: the decoder's answer
    module _ (v : (encode_call m t M col L self parity w info red (work - kept_work (params m t M col) L)).verdict ≡ accepted) where
      accepts : encode_verdict m t M col L self parity w info red (work - kept_work (params m t M col) L) ≡ accepted
      accepts = sym encoder-verdict ∙ v

      G : Given K L info red
      G = encode-accepted K L info red (work - kept_work (params m t M col) L) accepts

      made-red : (encode_call m t M col L self parity w info red (work - kept_work (params m t M col) L)).red ≡ redundancy s l w L info
      unfolding encode_call
      made-red = ap (λ (x : Verdict). (encoded_by x red (redundancy s l w L info)).red) accepts

      pub own-length : length self ≡ 2 * order (params m t M col)
      own-length = G.fits.self_length

      pub working_fits : order (params m t M col) + kept_work (params m t M col) L ≤ work
      working_fits =
          let e : work - more ≡ kit_work s = encode-work K L info red (work - kept_work (params m t M col) L) accepts in
          omega (arith, e, kit-some.0, kit-some.1)

      -- half of the list and what the decoder keeps
      pub decoder_lent : {own kept : ℕ} → own ≡ length self → kept ≡ kept_work (params m t M col) L → own / 2 + kept ≡ order (params m t M col) + kept_work (params m t M col) L
      decoder_lent e k = omega (arith, e, k, own-length)

      pub loopback_decoded : (x : Corrected) (after : List ℕ) (n : ℕ) → after ≡ (encode_call m t M col L self parity w info red (work - kept_work (params m t M col) L)).red → n ≡ decoder_work (params m t M col) L
          → x ≡ decode_call m t M col L k self parity (turned info_errors info) (turned red_errors after) n
          → x ≡ loopback_call m t M col L k self parity w info_errors red_errors info red work
      unfolding loopback_call decode_call
      loopback_decoded x after n a q e =
          let made : List ℕ = redundancy s l w L info in
          let i : List ℕ = turned info_errors info in
          let o : List ℕ = turned red_errors made in
          let ev : decode_verdict m t M col L k self parity i o (decoder_work s L) ≡ accepted =
          decode_admits K L info red G k few-rounds i o (turned-length info_errors info ∙ G.info-fits) (turned-length red_errors made ∙ made-length K L info red G)
          (turned-bits info_errors info G.bits) (turned-bits red_errors made (made_bits K L info red G)) in
          e
          ∙ ap₂ (λ (z : List ℕ) (y : ℕ). decode_call m t M col L k self parity i (turned red_errors z) y) (a ∙ made-red) q
          ∙ ap (λ (z : Verdict). corrected_by z received done counts) ev
          ∙ sym (ap (λ (z : Verdict). corrected_by z (frame_of info red) done counts) (verdict-encodes ∙ accepts))
