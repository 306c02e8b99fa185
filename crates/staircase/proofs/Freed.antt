-- Where no word of a received frame has more than t wrong bits, no word is ever stuck: as words are corrected the frame comes nearer to the sent one.
--   outcome_free       such a word is clean or is corrected
--   stuck_each_free     no word of a round is stuck
--   last_stuck_free     nor of the last round made
-- Assumes nothing.
use mathlib.Core.Path.{◌≡◌, refl, sym, ap, ap₂, ◌∙◌}
use mathlib.Core.Bool.{Bool, true, false, true≢false}
use mathlib.Core.Logic.{inl, inr}
use mathlib.Core.List.{List, [], ◌∷◌}
use Prim.Native.Nat.{ℕ, zero, suc, ◌+◌}
use native.Mathlib.Nat.{le_trans, suc-ne-zero}
use native.Mathlib.Decide.{ℕ_discrete}
use lib.ListN.{length}
use Rattle.bch.specs.Code.{is_codeword}
use Rattle.staircase.specs.Frame.{Frame, Site, Word, read, in_code}
use Rattle.staircase.specs.Decoder.{correction, flip_all, round_of}
use Rattle.staircase.specs.Outcomes.{corrected_bits, outcome, stuck_of, stuck_each, last_stuck}
use Rattle.staircase.proofs.Member.{In}
use Rattle.staircase.proofs.Flip.{Received, flip_all_received}
use Rattle.staircase.proofs.Correction.{Sound, FewWrong, nearer_distance, correct-word, correct_nearer, round_of_near}
use Rattle.staircase.proofs.Outcomes.{outcome-clean, outcome_other, last_stuck-idle, last_stuck_last, last_stuck-more}

module _ (f : Frame) (ff : Received f f) where
  -- a word that stays is the sent one, a codeword
  outcome_free : (a : Frame) → Received f a → (v : Word) → Sound f v → FewWrong f a v → stuck_of (outcome v.code a v.sites) ≡ 0
  unfolding flip_all
  outcome_free a g v ok few = go (in_code v.code a v.sites) refl
    where
      some : (c : List Site) → correction v.code a v.sites ≡ c → in_code v.code a v.sites ≡ false → stuck_of (corrected_bits (length c)) ≡ 0
      some [] e z =
          let same : read a v.sites ≡ read f v.sites =
          ap (λ (c : List Site). read (flip_all c a) v.sites) (sym e) ∙ correct-word f ff a g v ok few in
          absurd (true≢false (sym ok.coded ∙ ap (is_codeword v.code.g v.code.r) (sym same) ∙ z))
      some (x ∷ c) e z = refl

      go : (z : Bool) → in_code v.code a v.sites ≡ z → stuck_of (outcome v.code a v.sites) ≡ 0
      go true e = ap stuck_of (outcome-clean v.code a v.sites e)
      go false e = ap stuck_of (outcome_other v.code a v.sites e) ∙ some (correction v.code a v.sites) refl e

  stuck_each_free : (ws : List Word) → ((w : Word) → In w ws → Sound f w) → (a : Frame) → Received f a → ((w : Word) → In w ws → FewWrong f a w)
      → stuck_each a ws ≡ 0
  unfolding stuck_each
  stuck_each_free [] ok a g few = refl
  stuck_each_free (v ∷ ws) ok a g few =
      let b : Frame = flip_all (correction v.code a v.sites) a in
      ap₂ (λ (x y : ℕ). x + y) (outcome_free a g v (ok v (inl refl)) (few v (inl refl)))
      (stuck_each_free ws (λ w i. ok w (inr i)) b (flip_all_received (correction v.code a v.sites) f a g)
      (λ w i. le_trans (nearer_distance f a b (correct_nearer f ff a g v (ok v (inl refl)) (few v (inl refl))) w.sites) (few w (inr i))))

  pub last_stuck_free : (ws : List Word) → ((w : Word) → In w ws → Sound f w) → (k : ℕ) (a : Frame) → Received f a
      → ((w : Word) → In w ws → FewWrong f a w) → last_stuck ws (suc k) a ≡ 0
  last_stuck_free ws ok zero a g few = last_stuck_last ws a ∙ stuck_each_free ws ok a g few
  last_stuck_free ws ok (suc k) a g few =
      let h = round_of_near f ff ws ok a g few in
      go (ℕ_discrete (round_of ws a).flips 0) (last_stuck_free ws ok k (round_of ws a).frame h.0 h.1)
    where
      go : Dec ((round_of ws a).flips ≡ 0) → last_stuck ws (suc k) (round_of ws a).frame ≡ 0 → last_stuck ws (suc (suc k)) a ≡ 0
      go (yes e) r = last_stuck-idle ws (suc k) a e ∙ stuck_each_free ws ok a g few
      go (no d) r = last_stuck-more ws (suc k) a d (suc-ne-zero k) ∙ r
