-- What is promised of original staircase frames, whole: for any design that rules 1, 2 and 19 let through, any allowed number of blocks, any information
-- and whatever the old parity held, over what the encoder's call and the decoder's call leave.
--   encode-made          the encoder accepts any information, and leaves the encoding of the definition
--   decode_admits        the decoder accepts any bits
--   made-restored        a copy with at most t wrong bits a word
--   original_demand      the theorem
-- Assumes nothing.
use mathlib.Core.Path.{◌≡◌, refl, sym, ap, ◌∙◌, subst}
use mathlib.Core.Logic.{◌≢◌}
use mathlib.Core.List.{List}
use Prim.Native.Nat.{ℕ, ◌-◌, ◌*◌, ◌/◌, ◌^◌, ◌≤◌, ◌<◌}
use native.Mathlib.Nat.{add-zero, zero-lt-suc}
use native.Mathlib.Decide.{dec_lt}
use native.Mathlib.Omega.{arith}
use lib.ListN.{length, get_or}
use borrow.Author.Tests.{le-ltb}
use Rattle.bch.specs.Polynomial.{Bits}
use Rattle.bch.specs.Code.{distance}
use Rattle.staircase.specs.Design.{Params, params, most-blocks, most-rounds}
use Rattle.staircase.specs.Frame.{Frame, Site, Word, bit_at, read, outside_each}
use Rattle.staircase.specs.Decoder.{Decoded, run_each, rounds_allowed}
use Rattle.staircase.specs.Outcomes.{last_stuck}
use Rattle.staircase.specs.LineErrors.{line_errors}
use Rattle.staircase.specs.Rules.{Verdict, count_rule, rounds_rule, info_length}
use Rattle.staircase.specs.Rules.Verdict.{accepted}
use Rattle.original.specs.Systematic.{Systematic, whole, encode_each}
use Rattle.original.specs.Frame.{row_of, rows, row_sites, row_words, buffer_of, encoded}
use Rattle.original.specs.Rules.{Original, original_work}
use Rattle.original.specs.Steps.{cleared}
use Rattle.original.specs.Calls.{original_encode_verdict, Written, written_by, original_encode_call, original_decode_verdict, original_decoded, original_counts, corrected_buffer_by, original_decode_call}
use Rattle.original.specs.Demand.{SameInfo, OriginalGiven, RestoredBuffer, OriginalDemand}
use Rattle.staircase.proofs.Rules.{then_accepted, refuse-accepted, in_range, length-accepted, bits-accepted}
use Rattle.staircase.proofs.Member.{In, map_in}
use Rattle.staircase.proofs.Flip.{Received, bit_at-bits}
use Rattle.staircase.proofs.Outside.{each_inside}
use Rattle.staircase.proofs.Correction.{Sound, FewWrong, Covers, outside_each-none, run_each_restore}
use Rattle.staircase.proofs.Freed.{last_stuck_free}
use Rattle.staircase.proofs.Decoded.{rounds_allowed-some}
use Rattle.original.proofs.Rows.{each_row, rows-sound, rows_cover}
use Rattle.original.proofs.Buffer.{cleared-length, cleared-bits, encoded-length, encoded-frame, encoded-bits, encoded-info, encoded_in_code, encoded-only, encoded-reach}
use Rattle.original.proofs.Rules.{original_limits, degree_some, degree_of, distance_of, bits-info_bits}

-- the encoder's call
pub encode-made : (m t M col L : ℕ) (l : List ℕ) → OriginalGiven m t M col L l
    → original_encode_call m t M col L l ≡ record { verdict = accepted; buffer = encoded (params m t M col) L l }
unfolding original_encode_call original_encode_verdict count_rule
encode-made m t M col L l G =
    ap (λ (v : Verdict). written_by v l (encoded (params m t M col) L l))
    (then_accepted G.design (then_accepted (refuse-accepted 4 L (in_range 1 most-blocks L G.some G.few))
    (then_accepted (length-accepted 4 (length l) (info_length (params m t M col) L) G.fits) (bits-info_bits (params m t M col) l G.bits))))

module _ (m t M col L : ℕ) (l : List ℕ) (G : OriginalGiven m t M col L l) where
  abbrev s : Params
  s = params m t M col

  abbrev made : List ℕ
  made = encoded (params m t M col) L l

  d : Original m t M col
  d = original_limits m t M col G.design

  rpos : 0 < m * t
  rpos = degree_some d

  thin : m * t < M
  thin = d.thin

  deg : s.g / 2 ^ s.r ≡ 1
  deg = degree_of d

  pub decode_admits : (k : ℕ) → k ≤ most-rounds → (received : List ℕ) → length received ≡ info_length s L → Bits received
      → original_decode_verdict m t M col L k received (original_work s L) ≡ accepted
  unfolding original_decode_verdict count_rule rounds_rule
  decode_admits k hk received long bits =
      then_accepted G.design (then_accepted (refuse-accepted 4 L (in_range 1 most-blocks L G.some G.few))
      (then_accepted (refuse-accepted 5 k (le-ltb most-rounds k hk))
      (then_accepted (length-accepted 4 (length received) (info_length s L) long)
      (then_accepted (length-accepted 6 (original_work s L) (original_work s L) refl) (bits-accepted 0 received bits)))))

  made-long : length made ≡ info_length s L
  made-long = encoded-length s rpos thin deg L l G.fits ∙ G.fits

  made_bits : Bits made
  made_bits = encoded-bits s rpos thin deg L l G.fits G.bits

  -- ---- the only choice

  only-choice : (other : List ℕ) → length other ≡ length made → Bits other → SameInfo s other l → other ≢ made → 0 < outside_each (buffer_of other) (row_words s L)
  only-choice other long bits same ne = go (dec_lt 0 (outside_each (buffer_of other) (row_words s L)))
    where
      go : Dec (0 < outside_each (buffer_of other) (row_words s L)) → 0 < outside_each (buffer_of other) (row_words s L)
      go (yes h) = h
      go (no h) =
          absurd (ne (encoded-only s rpos thin deg L l G.fits G.bits other (long ∙ made-long ∙ sym G.fits) bits same
          (each_inside (buffer_of other) (row_words s L) (omega (arith, h)))))

  -- ---- copies with at most t wrong bits a word

  clean-long : length (cleared s l) ≡ info_length s L
  clean-long = cleared-length s l ∙ G.fits

  clean-bits : (y : Site) → bit_at (buffer_of (cleared s l)) y < 2
  clean-bits = bit_at-bits (buffer_of (cleared s l)) (cleared-bits s l G.bits) (λ k. zero-lt-suc 1)

  sent : encode_each (buffer_of (cleared s l)) (rows s L) ≡ buffer_of made
  sent = encoded-frame s rpos thin deg L l G.fits G.bits

  sound : (w : Word) → In w (row_words s L) → Sound (buffer_of made) w
  sound w i = subst (λ (f : Frame). Sound f w) sent (rows-sound s rpos thin deg L (buffer_of (cleared s l)) clean-long refl clean-bits (distance_of d) w i)

  covered : Covers (buffer_of made) (row_words s L)
  covered = subst (λ (f : Frame). Covers f (row_words s L)) sent (rows_cover s rpos thin deg L (buffer_of (cleared s l)) clean-long refl clean-bits (distance_of d))

  itself : Received (buffer_of made) (buffer_of made)
  itself = record { info_length = refl; red_length = refl; binary = bit_at-bits (buffer_of made) made_bits (λ k. zero-lt-suc 1) }

  few_wrong : (received : List ℕ)
      → ((b a : ℕ) → b < L → a < M → distance (read (buffer_of made) (row_sites s b a)) (read (buffer_of received) (row_sites s b a)) ≤ t)
      → (w : Word) → In w (row_words s L) → FewWrong (buffer_of made) (buffer_of received) w
  unfolding row_words row_of
  few_wrong received few w i =
      let (v, iv, e) = map_in whole (rows s L) w i in
      subst (FewWrong (buffer_of made) (buffer_of received)) (sym e)
      (each_row s rpos thin deg L (λ (v : Systematic). FewWrong (buffer_of made) (buffer_of received) (whole v)) few v iv)

  pub made-restored : (received : List ℕ) → length received ≡ length made → Bits received
      → ((b a : ℕ) → b < L → a < M → distance (read (buffer_of made) (row_sites s b a)) (read (buffer_of received) (row_sites s b a)) ≤ t)
      → (k : ℕ) → k ≤ most-rounds → RestoredBuffer received made (original_decode_call m t M col L k received (original_work s L))
  unfolding original_decode_call original_counts original_decoded line_errors distance
  made-restored received long bits few k hk =
      let ws : List Word = row_words s L in
      let like : Received (buffer_of made) (buffer_of received) =
      record { info_length = long; red_length = refl; binary = bit_at-bits (buffer_of received) bits (λ k. zero-lt-suc 1) } in
      let near = few_wrong received few in
      let (j, some) = rounds_allowed-some k in
      let r : Decoded = run_each ws (rounds_allowed k) (buffer_of received) in
      let same : r.frame ≡ buffer_of made =
      ap (λ (n : ℕ). (run_each ws n (buffer_of received)).frame) some ∙ run_each_restore (buffer_of made) itself ws sound covered j (buffer_of received) like near in
      let none : outside_each r.frame ws ≡ 0 = ap (λ (f : Frame). outside_each f ws) same ∙ outside_each-none (buffer_of made) itself ws sound in
      let free : last_stuck ws (rounds_allowed k) (buffer_of received) ≡ 0 =
      ap (λ (n : ℕ). last_stuck ws n (buffer_of received)) some ∙ last_stuck_free (buffer_of made) itself ws sound j (buffer_of received) like near in
      let turned : line_errors (buffer_of received) r.frame ≡ distance received made =
      ap (line_errors (buffer_of received)) same ∙ add-zero (distance received made) in (
        r.rounds,
        ap (λ (v : Verdict). corrected_buffer_by v received r.frame.info (original_counts s L k received))
            (decode_admits k hk received (long ∙ made-long) bits)
            ∙ (λ i. record {
              verdict = accepted;
              buffer = (same i).info;
              counts = record { rounds = r.rounds; turned = turned i; outside = none i; stuck = free i };
            }),
      )

  pub original_demand : OriginalDemand m t M col L l
  original_demand =
      record {
        made = made;
        encodes = encode-made m t M col L l G;
        keeps = encoded-info s rpos thin deg L l G.fits;
        all_in_code = encoded_in_code s rpos thin deg L l G.fits G.bits;
        only_choice = λ other like. only-choice other like.0 like.1;
        reach = λ l₂ G₂ c same k h.
            encoded-reach s rpos thin deg L l G.fits G.bits l₂ (G₂.fits ∙ sym G.fits) c same k h
            ∙ sym (ap (λ (z : Written). get_or z.buffer k 0) (encode-made m t M col L l₂ G₂));
        restores = λ received like. made-restored received like.0 like.1;
      }
