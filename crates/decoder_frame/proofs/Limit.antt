-- Rounds over some words, one after the other, up to a limit.
--   round_each, stuck-each   a round over words of one code, and its stuck verdicts
--   after                    rounds that others precede
--   rounds_start             before the first round
--   rounds-more              after a round that flips bits
--   rounds-idle              after one that flips none
--   rounds-end               after the last that is allowed
--   Last, last_start, last_more, last_idle, last-end   the stuck verdicts of the last round made, likewise
--   allowed_itself           a number of rounds that is not 0
-- Assumes nothing.
use mathlib.Core.Path.{◌≡◌, refl, sym, ap, ap₂, ◌∙◌}
use mathlib.Core.Logic.{◌≢◌}
use mathlib.Core.List.{List}
use Prim.Native.Nat.{ℕ, zero, suc, ◌+◌, ◌-◌, ◌≤◌, ◌<◌}
use native.Mathlib.Nat.{sub-zero, zero-add}
use native.Mathlib.Omega.{arith}
use Rattle.staircase.specs.Design.{Params}
use Rattle.staircase.specs.Frame.{Frame, Site, Word, plain}
use Rattle.staircase.specs.Decoder.{Progress, correct_words, round_of, round, Decoded, run_each, rounds_allowed}
use Rattle.staircase.specs.Outcomes.{stuck_each, stuck_among, last_stuck}
use Rattle.staircase.proofs.Rounds.{run_each-idle, run_each-more}
use Rattle.staircase.proofs.Outcomes.{last_stuck-idle, last_stuck_last, last_stuck-more}

pub round_each : (s : Params) (ws : List (List Site)) (f : Frame) → round s ws f ≡ round_of (plain s ws) f
unfolding round correct_words round_of
round_each s ws f = refl

pub stuck-each : (s : Params) (ws : List (List Site)) (f : Frame) → stuck_among s f ws ≡ stuck_each f (plain s ws)
unfolding stuck_among
stuck-each s ws f = refl

-- k rounds with n flips before them
abbrev pub after : ℕ → ℕ → Decoded → Decoded
after k n r = record { frame = r.frame; rounds = k + r.rounds; flips = n + r.flips }

module _ (ws : List Word) where
  pub rounds_start : (K : ℕ) (f : Frame) → run_each ws K f ≡ after 0 0 (run_each ws (K - 0) f)
  rounds_start K f =
      let r : Decoded = run_each ws K f in
      ap₂ (λ (a b : ℕ). record { frame = r.frame; rounds = a; flips = b }) (sym (zero-add r.rounds)) (sym (zero-add r.flips))
      ∙ ap (λ (n : ℕ). after 0 0 (run_each ws n f)) (sym (sub-zero K))

  module _ (D : Decoded) (K k n : ℕ) (g : Frame) (h : D ≡ after k n (run_each ws (K - k) g)) where
    left : k < K → K - k ≡ suc (K - (k + 1))
    left l = omega arith

    pub rounds-more : k < K → (x : Progress) → x ≡ round_of ws g → x.flips ≢ 0 → D ≡ after (k + 1) (n + x.flips) (run_each ws (K - (k + 1)) x.frame)
    rounds-more l x e d =
        let y : Progress = round_of ws g in
        let j : ℕ = K - (k + 1) in
        let r : Decoded = run_each ws j y.frame in
        let a : k + (1 + r.rounds) ≡ k + 1 + r.rounds = omega arith in
        let b : n + (y.flips + r.flips) ≡ n + y.flips + r.flips = omega arith in
        h ∙ ap (λ (m : ℕ). after k n (run_each ws m g)) (left l)
        ∙ ap (after k n) (run_each-more ws j g (λ z. d (ap (λ (w : Progress). w.flips) e ∙ z)))
        ∙ ap₂ (λ (p q : ℕ). record { frame = r.frame; rounds = p; flips = q }) a b
        ∙ ap (λ (z : Progress). after (k + 1) (n + z.flips) (run_each ws j z.frame)) (sym e)

    pub rounds-idle : k < K → (x : Progress) → x ≡ round_of ws g → x.flips ≡ 0 → record { frame = x.frame; rounds = k + 1; flips = n + x.flips } ≡ D
    rounds-idle l x e z =
        let q : (round_of ws g).flips ≡ 0 = ap (λ (w : Progress). w.flips) (sym e) ∙ z in
        ap₂ (λ (a : Frame) (b : ℕ). record { frame = a; rounds = k + 1; flips = n + b }) (ap (λ (w : Progress). w.frame) e) z
        ∙ sym (h ∙ ap (λ (m : ℕ). after k n (run_each ws m g)) (left l) ∙ ap (after k n) (run_each-idle ws (K - (k + 1)) g q))

    pub rounds-end : k ≡ K → record { frame = g; rounds = K; flips = n } ≡ D
    unfolding run_each
    rounds-end e =
        let z : K - k ≡ 0 = omega arith in
        let a : K ≡ k + 0 = omega arith in
        let b : n ≡ n + 0 = omega arith in
        ap₂ (λ (p q : ℕ). record { frame = g; rounds = p; flips = q }) a b ∙ sym (h ∙ ap (λ (m : ℕ). after k n (run_each ws m g)) z)

  -- after k rounds: n is the number for the rounds that are left, or, where none is, that of the last round
  abbrev pub Last : ℕ → ℕ → ℕ → ℕ → Frame → Type 0
  Last n K k last g = (k < K → n ≡ last_stuck ws (K - k) g) × (k ≡ K → n ≡ last)

  pub last_start : (K last : ℕ) (f : Frame) → 1 ≤ K → Last (last_stuck ws K f) K 0 last f
  last_start K last f some = (λ l. ap (λ (j : ℕ). last_stuck ws j f) (sym (sub-zero K)), λ e. absurd (omega (arith, some, e)))

  module _ (n K k old : ℕ) (g : Frame) (h : Last n K k old g) (l : k < K) (x : Progress) (e : x ≡ round_of ws g) (m : ℕ) (told : m ≡ stuck_each g ws) where
    pub last_idle : x.flips ≡ 0 → m ≡ n
    last_idle z =
        let q : (round_of ws g).flips ≡ 0 = ap (λ (w : Progress). w.flips) (sym e) ∙ z in
        let s : K - k ≡ suc (K - (k + 1)) = omega arith in
        told ∙ sym (h.0 l ∙ ap (λ (j : ℕ). last_stuck ws j g) s ∙ last_stuck-idle ws (K - (k + 1)) g q)

    pub last_more : x.flips ≢ 0 → Last n K (k + 1) m x.frame
    last_more d =
        let some : (round_of ws g).flips ≢ 0 = λ z. d (ap (λ (w : Progress). w.flips) e ∙ z) in (
          λ more.
              let s : K - k ≡ suc (K - (k + 1)) = omega arith in
              let left : K - (k + 1) ≢ 0 = λ z. omega (arith, more, z) in
              h.0 l ∙ ap (λ (j : ℕ). last_stuck ws j g) s ∙ last_stuck-more ws (K - (k + 1)) g some left
              ∙ ap (λ (w : Progress). last_stuck ws (K - (k + 1)) w.frame) (sym e),
          λ end.
              let s : K - k ≡ 1 = omega (arith, end) in
              h.0 l ∙ ap (λ (j : ℕ). last_stuck ws j g) s ∙ last_stuck_last ws g ∙ sym told,
        )

-- "0 now stands for 12", and any other number for itself
pub allowed_itself : (k : ℕ) → k ≢ 0 → k ≡ rounds_allowed k
allowed_itself zero d = absurd (d refl)
allowed_itself (suc k) d = refl
