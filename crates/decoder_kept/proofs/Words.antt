-- The kept numbers of any words whatever, while one of them is corrected.
--   added_one, added_none            a number that has got a power, and a number that is not there
--   number_is                        the number of a word is its remainder
--   zero-clean, marked_stuck         a word that is passed over
--   other_outcome                    a word that is not clean, by its correction
--   word_marked                      a word that cannot be corrected is marked
--   word-settled                     a word that is corrected has the number 0, which is written last
-- Assumes nothing.
use mathlib.Core.Path.{◌≡◌, refl, sym, ap, ap₂, ◌∙◌, subst}
use mathlib.Core.Bool.{Bool, false, cond}
use mathlib.Core.Logic.{◌≢◌}
use mathlib.Core.List.{List, [], ◌∷◌}
use Prim.Native.Nat.{ℕ, ◌+◌, ◌%◌, ◌≤◌, ◌<◌}
use native.Mathlib.Nat.{mod-lt, mod-eq_of_lt}
use native.Mathlib.Decide.{ℕ_discrete}
use native.Mathlib.Omega.{arith}
use lib.Dec.{leb}
use lib.ListN.{length}
use borrow.Author.Tests.{lt-leb, le-leb, eq-eqb, ne_eqb}
use Rattle.bch.specs.Polynomial.{◌⊕◌, remainder}
use Rattle.bch.specs.Code.{is_codeword}
use Rattle.bch.specs.Powers.{power_mod}
use Rattle.bch.proofs.Sum.{⊕-below, ⊕-zero-right}
use Rattle.staircase.specs.Design.{Params}
use Rattle.staircase.specs.Frame.{Frame, Site, Word, read}
use Rattle.staircase.specs.Decoder.{correction, flip_all}
use Rattle.staircase.specs.Outcomes.{corrected_bits, outcome}
use Rattle.staircase.specs.Outcomes.Outcome.{clean, stuck}
use Rattle.staircase.specs.Kept.{Holds, Keeps, KeepsBut}
use Rattle.staircase.specs.Layout.{Place, powers_at, met_at}
use Rattle.staircase.proofs.Lawful.{met_here, met_away, power-here, power_away}
use Rattle.staircase.proofs.Member.{In}
use Rattle.staircase.proofs.Flip.{Sent, Within, Received}
use Rattle.staircase.proofs.Idle.{correction-none}
use Rattle.staircase.proofs.Outcomes.{outcome-clean, outcome_other}
use Rattle.staircase.proofs.Kept.{stuck_keeps, corrected-keeps}
use Rattle.decoder_kept.specs.Numbers.{kept_at, number_at, marked_at, OnlyAt}
use Rattle.decoder_kept.specs.Words.{kept_of, AddedAt}
use Rattle.decoder_kept.proofs.Numbers.{only-behind}

-- ---- a number added to

module _ (s : Params) (n : ℕ) (c : Place) (b : List ℕ) where
  pub added_one : {a : List ℕ} {k x : ℕ} → k < n → k ≡ c.word → x ≡ power_mod s.g s.r c.exponent → x < 2147483648
      → OnlyAt b a k (number_at b k ⊕ x) → AddedAt s n (c ∷ []) b a
  added_one {a} {k} {x} hk ek ex hx O =
      record { long = O.long; numbers = λ w hw. (go w (ℕ_discrete w k)).0; marks = λ w hw. (go w (ℕ_discrete w k)).1; behind = only-behind n hk O }
    where
      small : number_at b k ⊕ x < 2147483648
      small = ⊕-below 31 (number_at b k) x (mod-lt (kept_at b k) (omega arith)) hx

      go : (w : ℕ) → Dec (w ≡ k) → (number_at a w ≡ number_at b w ⊕ powers_at s (c ∷ []) w) × (marked_at a w ≡ cond (met_at (c ∷ []) w) false (marked_at b w))
      go w (yes e) =
          let here : kept_at a w ≡ number_at b k ⊕ x = ap (kept_at a) e ∙ O.here in
          let met = met_here c w (sym ek ∙ sym e) in (
            ap (λ (z : ℕ). z % 2147483648) here ∙ mod-eq_of_lt small ∙ ap₂ ◌⊕◌ (ap (number_at b) (sym e)) (ex ∙ sym (power-here s c w (sym ek ∙ sym e))),
            ap (leb 2147483648) here ∙ lt-leb 2147483648 (number_at b k ⊕ x) small ∙ sym (ap (λ (z : Bool). cond z false (marked_at b w)) met),
          )
      go w (no e) =
          let other : c.word ≢ w = λ z. e (sym z ∙ sym ek) in
          let q = O.others w e in (
            ap (λ (z : ℕ). z % 2147483648) q ∙ sym (ap (λ (z : ℕ). number_at b w ⊕ z) (power_away s c w other) ∙ ⊕-zero-right (number_at b w)),
            ap (leb 2147483648) q ∙ sym (ap (λ (z : Bool). cond z false (marked_at b w)) (met_away c w other)),
          )

  pub added_none : n ≤ c.word → AddedAt s n (c ∷ []) b b
  added_none h =
      record {
        long = refl;
        numbers = λ w hw. sym (ap (λ (z : ℕ). number_at b w ⊕ z) (power_away s c w (other w hw)) ∙ ⊕-zero-right (number_at b w));
        marks = λ w hw. sym (ap (λ (z : Bool). cond z false (marked_at b w)) (met_away c w (other w hw)));
        behind = refl;
      }
    where
      other : (w : ℕ) → w < n → c.word ≢ w
      other w hw e = let z : ⊥ = omega (arith, h, hw, e) in z

-- ---- a word

-- the number and the mark of a word, from its four bytes
module _ {s : Params} {w : List Site} {f : Frame} (b : List ℕ) (u : ℕ) {x : ℕ}
    (H : Holds (record { code = s; sites = w }) (number_at b u) (marked_at b u) f) (e : x ≡ kept_at b u) where
  pub number_is : x % 2147483648 ≡ remainder s.g s.r (read f w)
  number_is = ap (λ (z : ℕ). z % 2147483648) e ∙ H.number

  -- the frame stays
  stays : correction s f w ≡ [] → f ≡ flip_all (correction s f w) f
  unfolding flip_all
  stays r = ap (λ (y : List Site). flip_all y f) (sym r)

  pub zero-clean : x % 2147483648 ≡ 0 → (f ≡ flip_all (correction s f w) f) × (clean ≡ outcome s f w)
  unfolding is_codeword
  zero-clean z =
      let code = eq-eqb (remainder s.g s.r (read f w)) 0 (sym number_is ∙ z) in
      (stays (correction-none s f w code), sym (outcome-clean s f w code))

  pub other_outcome : x % 2147483648 ≢ 0 → {k : ℕ} → k ≡ length (correction s f w) → corrected_bits k ≡ outcome s f w
  unfolding is_codeword
  other_outcome d q = ap corrected_bits q ∙ sym (outcome_other s f w (ne_eqb _ 0 (λ z. d (number_is ∙ z))))

  pub marked_stuck : x % 2147483648 ≢ 0 → 2147483648 ≤ x → (f ≡ flip_all (correction s f w) f) × (stuck ≡ outcome s f w)
  marked_stuck d z =
      let r : correction s f w ≡ [] = H.mark (ap (leb 2147483648) (sym e) ∙ le-leb 2147483648 x z) in
      (stays r, other_outcome d (ap length (sym r)))

module _ (W : ℕ → Word) (N : ℕ) (f : Frame) (u : ℕ) where
  pub word_marked : {b b' : List ℕ} → correction (W u).code f (W u).sites ≡ [] → Keeps W N f (kept_of b) → OnlyAt b b' u (number_at b u + 2147483648)
      → Keeps W N f (kept_of b')
  word_marked {b} {b'} none K O =
      let m = mod-lt (kept_at b u) {m = 2147483648} (omega arith) in
      let here : number_at b' u ≡ number_at b u = ap (λ (n : ℕ). n % 2147483648) O.here ∙ omega (arith, m) in
      stuck_keeps W N f u none (kept_of b) (kept_of b') K here
      (λ w hw d. let o = O.others w d in (ap (λ (n : ℕ). n % 2147483648) o, ap (leb 2147483648) o))

  pub word-settled : {b b' : List ℕ} (f' : Frame) → Received f f → (u < N → (y : Site) → Sent y → In y (W u).sites → Within y f)
      → correction (W u).code f (W u).sites ≢ [] → f' ≡ flip_all (correction (W u).code f (W u).sites) f
      → KeepsBut W N u f' (kept_of b) → OnlyAt b b' u 0 → Keeps W N f' (kept_of b')
  word-settled {b} {b'} f' g within some q K O =
      corrected-keeps W N f f' u g within some q (kept_of b')
      (λ w hw e. subst (λ (v : ℕ). Holds (W w) (v % 2147483648) (leb 2147483648 v) f') (sym (O.others w e)) (K w hw e))
      (ap (λ (v : ℕ). v % 2147483648) O.here) (ap (leb 2147483648) O.here)
