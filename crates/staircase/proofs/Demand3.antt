-- Demand 3, whole: for any kit that passes by demand 2's rule, any allowed number of blocks, any information and whatever the redundancy buffer
-- held, over what the encoder's call and the decoder's call leave.
--   encode-made                 the encoder accepts any bits, and leaves the redundancy of the definition
--   decode_admits               the decoder accepts any bits of the frame's lengths
--   made-length, made_bits      the redundancy that the encoder leaves, `made`
--   made-rows, made-columns     with it every word is in the code
--   made-restored               and comes back from a copy with at most t wrong bits a word
--   demand3                     the theorem
-- Assumes nothing.
use mathlib.Core.Path.{◌≡◌, refl, sym, ap, ◌∙◌, subst}
use mathlib.Core.Bool.{true}
use mathlib.Core.Logic.{◌≢◌}
use mathlib.Core.List.{List}
use Prim.Native.Nat.{ℕ, zero, suc, ◌+◌, ◌-◌, ◌*◌, ◌/◌, ◌≤◌, ◌<◌}
use native.Mathlib.Decide.{dec_lt}
use native.Mathlib.Omega.{arith}
use lib.ListN.{length, get_or}
use borrow.Author.Tests.{le-ltb}
use Rattle.bch.specs.Polynomial.{Bits}
use Rattle.bch.specs.Code.{distance}
use Rattle.staircase.specs.Design.{Params, Interleavers, column_code, word_length, order, Limits, most-blocks, most-rounds}
use Rattle.staircase.specs.Frame.{Frame, Site, Word, frame_of, groups, row_sites, column_sites, row_at, column_at, words, read, in_code, outside_each, outside}
use Rattle.staircase.specs.System.{redundancy}
use Rattle.staircase.specs.Decoder.{Decoded, run_each, default_rounds, rounds_allowed, decoded}
use Rattle.staircase.specs.Outcomes.{last_stuck}
use Rattle.staircase.specs.LineErrors.{line_errors}
use Rattle.staircase.specs.Rules.{Verdict, count_rule, rounds_rule, list_lengths, info_length, red_length, frame_lengths, kit_work, decoder_work, list_rule, kit_rules, frame_bits}
use Rattle.staircase.specs.Rules.Verdict.{accepted}
use Rattle.staircase.specs.Calls.{encode_verdict, Encoded, encoded_by, encode_call, decode_verdict, counts_of, corrected_by, decode_call}
use Rattle.staircase.specs.Demand2.{KitPasses}
use Rattle.staircase.specs.Demand3.{Kit, sizes, lists, decode, Given, EachWord, SameBut, Restored, Demand3}
use Rattle.staircase.proofs.Rules.{then_first, then_accepted, refuse-accepted, in_range, length-accepted, design_limits, lengths_accepted, bits-accepted, accepted_content}
use Rattle.staircase.proofs.Member.{In}
use Rattle.staircase.proofs.Flip.{Received, bit_at-bits}
use Rattle.staircase.proofs.Outside.{each_inside}
use Rattle.staircase.proofs.Correction.{CodeDistance, Sound, FewWrong, Covers, outside_each-none, run_each_restore}
use Rattle.staircase.proofs.Freed.{last_stuck_free}
use Rattle.staircase.proofs.Decoded.{rounds_allowed-some}
use Rattle.staircase.proofs.System.{Proper}
use Rattle.staircase.proofs.BchCode.{proper_of, apart_of, columns-apart}
use Rattle.staircase.proofs.Sites.{row_sites-length, column_sites-length, row_among-words, column-among-words, each_word, info_covered, red_covered}
use Rattle.staircase.proofs.Redundancy.{redundancy-length, redundancy-bits, rows_in_code, columns_in_code, redundancy-only}
use Rattle.staircase.proofs.Reach.{reach}
use Rattle.staircase.proofs.Demand2.{kit-passes}

-- ---- the theorem

module _ (K : Kit) (L : ℕ) (info old : List ℕ) (G : Given K L info old) where
  abbrev m : ℕ
  m = K.m

  abbrev t : ℕ
  t = K.t

  abbrev M : ℕ
  M = K.M

  abbrev col : ℕ
  col = K.col

  abbrev self : List ℕ
  self = K.self

  abbrev parity : List ℕ
  parity = K.parity

  abbrev w : List ℕ
  w = K.inverse

  abbrev s : Params
  s = sizes K

  abbrev l : Interleavers
  l = lists K

  abbrev kit : KitPasses (sizes K) (lists K) K.inverse
  kit = G.passes

  abbrev made : List ℕ
  made = redundancy (sizes K) (lists K) K.inverse L info

  abbrev frame : Frame
  frame = frame_of info (redundancy (sizes K) (lists K) K.inverse L info)

  limits : Limits m t M col
  limits = design_limits m t M col G.design

  ok : Proper s
  ok = proper_of limits

  -- the calls are accepted

  rules : kit_rules s l w ≡ accepted
  rules = (kit-passes s l w ok).1 kit

  counted : count_rule L ≡ accepted
  unfolding count_rule
  counted = refuse-accepted 4 L (in_range 1 most-blocks L G.some G.few)

  sized : (i o : List ℕ) → length i ≡ info_length s L → length o ≡ red_length s L → frame_lengths s L i o ≡ accepted
  unfolding frame_lengths
  sized i o hi ho = then_accepted (length-accepted 4 (length i) (info_length s L) hi) (length-accepted 5 (length o) (red_length s L) ho)

  pub encode-made : (i o : List ℕ) → Bits i → length i ≡ info_length s L → length o ≡ red_length s L
      → encode_call m t M col L self parity w i o (kit_work s) ≡ record { verdict = accepted; red = redundancy s l w L i }
  unfolding encode_call encode_verdict
  encode-made i o hb hi ho =
      ap (λ (v : Verdict). encoded_by v o (redundancy s l w L i))
      (then_accepted G.design (then_accepted counted (then_accepted (lengths_accepted s self parity w G.fits)
      (then_accepted (sized i o hi ho) (then_accepted (length-accepted 6 (kit_work s) (kit_work s) refl) (accepted_content s l w i rules (bits-accepted 0 i hb)))))))

  pub decode_admits : (k : ℕ) → k ≤ most-rounds → (i o : List ℕ) → length i ≡ info_length s L → length o ≡ red_length s L → Bits i → Bits o
      → decode_verdict m t M col L k self parity i o (decoder_work s L) ≡ accepted
  unfolding decode_verdict rounds_rule list_lengths frame_bits kit_rules
  decode_admits k hk i o hi ho bi bo =
      then_accepted G.design (then_accepted counted (then_accepted (refuse-accepted 5 k (le-ltb most-rounds k hk))
      (then_accepted
      (then_accepted (length-accepted 1 (length self) (2 * order s) G.fits.self_length) (length-accepted 2 (length parity) (2 * order s) G.fits.parity_length))
      (then_accepted (sized i o hi ho) (then_accepted (length-accepted 6 (decoder_work s L) (decoder_work s L) refl)
      (then_accepted (then_first (list_rule s l) _ rules) (then_accepted (bits-accepted 0 i bi) (bits-accepted (length i) o bo))))))))

  -- the frame that the encoder leaves

  pub made-rows : (i a : ℕ) → i < groups L → a < M → in_code s frame (row_sites s l L i a) ≡ true
  made-rows = rows_in_code s l L ok kit.self kit.parity w kit.right_inverse kit.left_inverse info G.bits

  pub made-columns : (i a : ℕ) → i < groups L → a < M → in_code (column_code s) frame (column_sites s L i a) ≡ true
  made-columns = columns_in_code s l L ok kit.self kit.parity w kit.right_inverse kit.left_inverse info G.bits

  pub made-length : length made ≡ red_length s L
  made-length = redundancy-length s l L ok kit.self kit.parity w info

  pub made_bits : Bits made
  made_bits = redundancy-bits s l L ok kit.self kit.parity w kit.right_inverse kit.left_inverse info G.bits

  pub frame_itself : Received frame frame
  frame_itself = record { info_length = refl; red_length = refl; binary = bit_at-bits frame G.bits made_bits }

  pub sound : (w : Word) → In w (words s l L) → Sound frame w
  sound =
      each_word s L l ok kit.self kit.parity (Sound frame)
      (λ i a hi ha. record { coded = made-rows i a hi ha; apart = far s (row_sites s l L i a) (row_sites-length s L l ok kit.self kit.parity i a) (apart_of limits) })
      (λ i a hi ha.
      record { coded = made-columns i a hi ha; apart = far (column_code s) (column_sites s L i a) (column_sites-length s L l ok kit.self kit.parity i a) (columns-apart limits) })
    where
      far : (c : Params) (v : List Site) → length v ≡ word_length s → CodeDistance c (word_length s) → CodeDistance c (length v)
      far c v e = subst (CodeDistance c) (sym e)

  pub covered : Covers frame (words s l L)
  covered = (
    λ k h. info_covered s L l ok kit.self kit.parity k (subst (λ (z : ℕ). k < z) G.info-fits h),
    λ k h. red_covered s L l ok kit.self kit.parity k (subst (λ (z : ℕ). k < z) made-length h),
  )

  -- the four parts

  only_choice : (other : List ℕ) → length other ≡ length made → Bits other → other ≢ made → 0 < outside s l L (frame_of info other)
  unfolding outside
  only_choice other long hb ne = go (dec_lt 0 (outside_each x (words s l L)))
    where
      x : Frame
      x = frame_of info other

      go : Dec (0 < outside_each x (words s l L)) → 0 < outside_each x (words s l L)
      go (yes h) = h
      go (no h) =
          let all : (v : Word) → In v (words s l L) → in_code v.code x v.sites ≡ true = each_inside x (words s l L) (omega arith) in
          absurd (ne (redundancy-only s l L ok kit.self kit.parity w kit.right_inverse kit.left_inverse info G.bits other long hb
          (λ i a hi ha. all (row_at s l L i a) (row_among-words s L l ok kit.self kit.parity i a hi ha))
          (λ i a hi ha. all (column_at s L i a) (column-among-words s L l ok kit.self kit.parity i a hi ha))))

  reaches : (info₂ old₂ : List ℕ) → length info₂ ≡ length info → Bits info₂ → length old₂ ≡ length old → (c : ℕ) → SameBut (M * M) c info info₂ → (k : ℕ)
      → (let i : ℕ = k / (2 * order s) in (c + 1 ≢ 2 * i) → (c + 1 ≢ 2 * i + 1) → (c + 1 ≢ 2 * i + 2)
      → get_or made k 0 ≡ get_or (encode_call m t M col L self parity w info₂ old₂ (kit_work s)).red k 0)
  reaches info₂ old₂ li hb lo c same k d₀ d₁ d₂ =
      reach s l L ok kit.self kit.parity w info info₂ c same k d₀ d₁ d₂
      ∙ sym (ap (λ (z : Encoded). get_or z.red k 0) (encode-made info₂ old₂ hb (li ∙ G.info-fits) (lo ∙ G.old_fits)))

  restored : (k : ℕ) (received : Frame) → Received frame received
      → ((v : Word) → In v (words s l L) → FewWrong frame received v) → (run_each (words s l L) (rounds_allowed k) received).frame ≡ frame
  restored k received like few = go k
    where
      go : (k : ℕ) → (run_each (words s l L) (rounds_allowed k) received).frame ≡ frame
      go zero = run_each_restore frame frame_itself (words s l L) sound covered (default_rounds - 1) received like few
      go (suc k) = run_each_restore frame frame_itself (words s l L) sound covered k received like few

  -- no word is ever stuck
  freed : (k : ℕ) (received : Frame) → Received frame received
      → ((v : Word) → In v (words s l L) → FewWrong frame received v) → last_stuck (words s l L) (rounds_allowed k) received ≡ 0
  freed k received like few =
      let (j, some) = rounds_allowed-some k in
      ap (λ (n : ℕ). last_stuck (words s l L) n received) some
      ∙ last_stuck_free frame frame_itself (words s l L) sound j received like few

  pub none-outside : outside_each frame (words s l L) ≡ 0
  none-outside = outside_each-none frame frame_itself (words s l L) sound

  pub made-restored : (received : Frame) → length received.info ≡ length info → length received.red ≡ length made
      → Bits received.info → Bits received.red → EachWord s l L (λ x. distance (read frame x.sites) (read received x.sites) ≤ t)
      → (k : ℕ) → k ≤ most-rounds → Restored received frame (decode K L k received)
  unfolding decode_call counts_of decoded outside
  made-restored received li lr hi hr few k hk =
      let d : Decoded = run_each (words s l L) (rounds_allowed k) received in
      let like : Received frame received = record { info_length = li; red_length = lr; binary = bit_at-bits received hi hr } in
      let near = each_word s L l ok kit.self kit.parity (FewWrong frame received) few.rows few.columns in
      let same : d.frame ≡ frame = restored k received like near in
      let none : outside_each d.frame (words s l L) ≡ 0 = ap (λ (x : Frame). outside_each x (words s l L)) same ∙ none-outside in
      let free = freed k received like near in (
        d.rounds,
        ap (λ (v : Verdict). corrected_by v received d.frame (counts_of s l L k received))
            (decode_admits k hk received.info received.red (li ∙ G.info-fits) (lr ∙ made-length) hi hr)
            ∙ (λ i. record { verdict = accepted; frame = same i; counts = record { rounds = d.rounds; turned = line_errors received (same i); outside = none i; stuck = free i } }),
      )

  pub demand3 : Demand3 K L info old
  demand3 =
      record {
        made = made;
        encodes = encode-made info old G.bits G.info-fits G.old_fits;
        all_in_code = record { rows = made-rows; columns = made-columns };
        only_choice = λ other like. only_choice other like.0 like.1;
        reach_odd = λ info₂ old₂ like lo i same k d.
            reaches info₂ old₂ like.0 like.1 lo (2 * i) same k (λ e. omega (arith, e)) (λ e. d (omega (arith, e))) (λ e. omega (arith, e));
        reach_even = λ info₂ old₂ like lo i same k d₁ d₂.
            reaches info₂ old₂ like.0 like.1 lo (2 * i + 1) same k (λ e. d₂ (omega (arith, e))) (λ e. omega (arith, e)) (λ e. d₁ (omega (arith, e)));
        restores = λ received a b. made-restored received a.0 b.0 a.1 b.1;
      }
