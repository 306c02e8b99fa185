-- The places of rules 4, 6 and 10 that the loopback has: those of the encoder.
--   loopback_places   the call
-- Assumes nothing.
use mathlib.Core.Path.{refl, subst⁻¹}
use mathlib.Core.List.{List, [], ◌∷◌}
use Prim.Native.Nat.{ℕ}
use native.Mathlib.Omega.{arith}
use lib.ListN.{length}
use Rattle.staircase.specs.Design.{Params, params}
use Rattle.staircase.specs.Rules.{interleavers}
use Rattle.staircase.specs.Places.{OfBlocks, Places}
use Rattle.staircase.proofs.Decoded.{corrected_by-verdict}
use Rattle.staircase.proofs.Places.{places-both, places-design, places-rounds, places-slice, places-kit_lengths, places-frame_lengths, places_count, places_content}
use Rattle.loopback.specs.Link.{number_rules, loopback_work, loopback_verdict, loopback_call}

pub loopback_places : (m t M col L k : ℕ) (self parity w info_errors red_errors info red : List ℕ) (work : ℕ)
    → Places (1 ∷ 2 ∷ 3 ∷ 4 ∷ 5 ∷ 6 ∷ []) (OfBlocks L) (length info)
    (loopback_call m t M col L k self parity w info_errors red_errors info red work).verdict
unfolding loopback_call loopback_verdict number_rules
loopback_places m t M col L k self parity w info_errors red_errors info red work =
    let own : List ℕ = 1 ∷ 2 ∷ 3 ∷ 4 ∷ 5 ∷ 6 ∷ [] in
    let s : Params = params m t M col in
    let n : ℕ = length info in
    subst⁻¹ (Places own (OfBlocks L) n) (corrected_by-verdict (loopback_verdict m t M col L k self parity w info red work) _ _ _)
    (places-both own (OfBlocks L) n _ _
    (places-both own (OfBlocks L) n _ _ (places-design own (OfBlocks L) n m t M col)
    (places-both own (OfBlocks L) n _ _ (places_count own L n) (places-rounds own (OfBlocks L) n k)))
    (places-both own (OfBlocks L) n _ _ (places-kit_lengths own (OfBlocks L) n refl refl refl s self parity w)
    (places-both own (OfBlocks L) n _ _ (places-frame_lengths own (OfBlocks L) n refl refl s L info red)
    (places-both own (OfBlocks L) n _ _ (places-slice own (OfBlocks L) n 6 work (loopback_work s L) refl)
    (places_content own (OfBlocks L) n s (interleavers s self parity) w info (omega arith))))))
