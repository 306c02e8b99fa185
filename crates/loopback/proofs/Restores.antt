-- Demand 3's last part, of the loopback.
--   loopback_restores   where no word has more than t wrong bits, the loopback leaves the frame, counts the wrong bits, no word outside and none stuck
-- Assumes nothing.
use mathlib.Core.Path.{◌≡◌, refl, sym, ap, ◌∙◌}
use mathlib.Core.List.{List}
use Prim.Native.Nat.{ℕ, ◌-◌, ◌≤◌}
use native.Mathlib.Omega.{arith}
use Rattle.bch.specs.Code.{distance}
use Rattle.staircase.specs.Design.{Params, most-rounds}
use Rattle.staircase.specs.Frame.{Frame, frame_of, read}
use Rattle.staircase.specs.System.{redundancy}
use Rattle.staircase.specs.Rules.{kit_work, kept_work, decoder_work}
use Rattle.staircase.specs.Calls.{Encoded, encode_call}
use Rattle.staircase.specs.Demand3.{Kit, sizes, lists, Given, EachWord, Restored}
use Rattle.staircase.proofs.Demand3.{encode-made, made_bits, made-restored}
use Rattle.loopback.specs.Link.{turned, loopback_work, loopback_call}
use Rattle.loopback.proofs.TwoCalls.{turned-length, turned-bits, numbers-accepted, loopback_decoded}

front-work : (s : Params) (L : ℕ) → loopback_work s L - kept_work s L ≡ kit_work s
unfolding loopback_work
front-work s L = omega arith

module _ (K : Kit) (L : ℕ) (info old : List ℕ) (G : Given K L info old) where
  abbrev pub frame : Frame
  frame = frame_of info (redundancy (sizes K) (lists K) K.inverse L info)

  pub loopback_restores : (info_errors red_errors : List ℕ)
      → EachWord (sizes K) (lists K) L (λ x. distance (read frame x.sites) (read (frame_of (turned info_errors info) (turned red_errors frame.red)) x.sites) ≤ K.t)
      → (k : ℕ) → k ≤ most-rounds
      → Restored (frame_of (turned info_errors info) (turned red_errors frame.red)) frame
      (loopback_call K.m K.t K.M K.col L k K.self K.parity K.inverse info_errors red_errors info old (loopback_work (sizes K) L))
  loopback_restores info_errors red_errors few k hk =
      let made : List ℕ = redundancy (sizes K) (lists K) K.inverse L info in
      let e = ap (encode_call K.m K.t K.M K.col L K.self K.parity K.inverse info old) (front-work (sizes K) L)
      ∙ encode-made K L info old G info old G.bits G.info-fits G.old_fits in
      let r = made-restored K L info old G (frame_of (turned info_errors info) (turned red_errors made)) (turned-length info_errors info) (turned-length red_errors made)
      (turned-bits info_errors info G.bits) (turned-bits red_errors made (made_bits K L info old G)) few k hk in (
        r.0,
        sym (loopback_decoded K.m K.t K.M K.col L k K.self K.parity K.inverse info_errors red_errors info old (loopback_work (sizes K) L)
            (numbers-accepted K L info old G k hk) (ap (λ (x : Encoded). x.verdict) e) _ made (decoder_work (sizes K) L) (sym (ap (λ (x : Encoded). x.red) e)) refl refl)
            ∙ r.1,
      )
