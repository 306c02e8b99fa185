-- Bits, and the lines of a number and bits, as the code has them.
--   bits-done .. bits-all               `bit_run`: the bits from i on
--   step-of, answer-stuck, answer-past  a walk, by the answer to it
--   stops_first, goes_on                items one after the other, by the answers to each
--   lines_wrong, lines_step             lines one after the other, likewise
--   part_space, part-bits               `bits_part`
--   line-number, line-bits, line-end    `bits_line`
-- Assumes nothing.
use Prim.Native.Nat.{ℕ, suc, ◌+◌, ◌-◌, ◌≤◌, ◌<◌}
use mathlib.Core.Path.{◌≡◌, refl, sym, ap, ◌∙◌}
use mathlib.Core.List.{List, [], ◌∷◌, ◌++◌}
use native.Mathlib.Omega.{arith}
use lib.ListN.{length, get_or, get_or-eq_default}
use Rattle.text_formats.specs.Format.{Item, byte, bit, dec}
use Rattle.text_formats.specs.Items.{lits, Walk, stuck, past, prep, walk, onward, values, bits, lines_from, bits_line}
use Rattle.text_items.specs.Answers.{step_of, step_walk}
use Rattle.text_items.specs.declared.Broken.{Broken}
use Rattle.std.specs.Prelude.{Result, Ok, Err}
use Rattle.text_formats.proofs.Walking.{bit-none, get_d_any, walk-append, walk-bit}
use Rattle.text_formats.proofs.Lines.{lines-first}

pub step-prep : (ws : List ℕ) (w : Walk) → step_of (prep ws w) ≡ step_of w
step-prep ws (stuck q) = refl
step-prep ws (past us q) = refl

bits-suc : (n i : ℕ) → i < n → bits (n - i) ≡ bit ∷ bits (n - (i + 1))
bits-suc n i h = let e : n - i ≡ suc (n - (i + 1)) = omega arith in ap bits e

module _ (s : List ℕ) (n i q : ℕ) where
  pub bits-done : n ≤ i → walk (bits (n - i)) s q ≡ past [] q
  unfolding walk
  bits-done h = let e : n - i ≡ 0 = omega arith in ap (λ (k : ℕ). walk (bits k) s q) e

  module _ (h : i < n) where
    pub bits-end : length s ≤ q → walk (bits (n - i)) s q ≡ stuck q
    bits-end l =
        let f = get_or-eq_default s 256 {n = q} l in
        rw (bits-suc n i h) (bit-none (bits (n - (i + 1))) s q (λ e. omega arith) (λ e. omega arith))

    pub bits-low : q < length s → get_or s q 0 < 48 → walk (bits (n - i)) s q ≡ stuck q
    bits-low l k =
        let f = get_d_any s q 256 0 l in
        rw (bits-suc n i h) (bit-none (bits (n - (i + 1))) s q (λ e. omega arith) (λ e. omega arith))

    pub bits-high : q < length s → 49 < get_or s q 0 → walk (bits (n - i)) s q ≡ stuck q
    bits-high l k =
        let f = get_d_any s q 256 0 l in
        rw (bits-suc n i h) (bit-none (bits (n - (i + 1))) s q (λ e. omega arith) (λ e. omega arith))

    pub bits-step : q < length s → 48 ≤ get_or s q 0 → get_or s q 0 ≤ 49 → step_of (walk (bits (n - i)) s q) ≡ step_of (walk (bits (n - (i + 1))) s (q + 1))
    bits-step l a b =
        ap (λ (is : List Item). step_of (walk is s q)) (bits-suc n i h) ∙ ap step_of (walk-bit (bits (n - (i + 1))) s q l a b)
        ∙ step-prep ((get_or s q 0 - 48) ∷ []) (walk (bits (n - (i + 1))) s (q + 1))

pub bits-all : (s : List ℕ) (n q : ℕ) → step_of (walk (bits n) s q) ≡ step_of (walk (bits (n - 0)) s q)
bits-all s n q = let e : n ≡ n - 0 = omega arith in ap (λ (k : ℕ). step_of (walk (bits k) s q)) e

-- A walk, by the answer to it.
pub step-of : (x : Result ℕ Broken) (w : Walk) → step_walk x ≡ w → x ≡ step_of w
step-of (Ok q) w e = ap step_of e
step-of (Err b) w e = ap step_of e

pub answer_stuck : (w : Walk) (x : Result ℕ Broken) (q : Broken) → x ≡ step_of w → x ≡ Err q → w ≡ stuck q.place
answer_stuck (stuck k) x q e f = let z : ◌≡◌ {A = Broken} (record { place = k }) q = cc in ap (λ (b : Broken). stuck b.place) z
answer_stuck (past ws k) x q e f = let z : ◌≡◌ {A = ℕ} 0 1 = cc in absurd (omega arith)

pub answer_past : (w : Walk) (x : Result ℕ Broken) (q : ℕ) → x ≡ step_of w → x ≡ Ok q → w ≡ past (values w) q
answer_past (stuck k) x q e f = let z : ◌≡◌ {A = ℕ} 0 1 = cc in absurd (omega arith)
answer_past (past ws k) x q e f = let z : k ≡ q = cc in ap (λ (i : ℕ). past ws i) z

-- Items one after the other, by the answers to each.
module _ (is js : List Item) (s : List ℕ) (at : ℕ) (x : Result ℕ Broken) (e : x ≡ step_of (walk is s at)) where
  from_first : (w : Walk) → walk is s at ≡ w → step_of (onward w (λ i. walk js s i)) ≡ step_of (walk (is ++ js) s at)
  from_first w f = sym (ap step_of (walk-append is js s at ∙ ap (λ (u : Walk). onward u (λ i. walk js s i)) f))

  pub stops_first : (q : Broken) → x ≡ Err q → Err q ≡ step_of (walk (is ++ js) s at)
  stops_first q f = from_first (stuck q.place) (answer_stuck (walk is s at) x q e f)

  pub goes_on : (i : ℕ) → x ≡ Ok i → (y : Result ℕ Broken) → y ≡ step_of (walk js s i) → y ≡ step_of (walk (is ++ js) s at)
  goes_on i f y g =
      let vs : List ℕ = values (walk is s at) in
      g ∙ sym (step-prep vs (walk js s i)) ∙ from_first (past vs i) (answer_past (walk is s at) x i e f)

-- Lines one after the other: of N lines i are read, and the next has the number p.
module _ (line : ℕ → List Item) (p N i : ℕ) (s : List ℕ) (q : ℕ) (h : i < N) (x : Result ℕ Broken) (e : x ≡ step_of (walk (line p) s q)) where
  abbrev After : List Item
  After = lines_from line (p + 1) (N - (i + 1))

  joined : step_of (walk (line p ++ After) s q) ≡ step_of (walk (lines_from line p (N - i)) s q)
  joined = ap (λ (is : List Item). step_of (walk is s q)) (sym (lines-first line p N i h))

  pub lines_wrong : (k : Broken) → x ≡ Err k → Err k ≡ step_of (walk (lines_from line p (N - i)) s q)
  lines_wrong k f = stops_first (line p) After s q x e k f ∙ joined

  pub lines_step : (k : ℕ) → x ≡ Ok k → step_of (walk (lines_from line p (N - i)) s q) ≡ step_of (walk (lines_from line (p + 1) (N - (i + 1))) s k)
  lines_step k f = sym (goes_on (line p) After s q x e k f (step_of (walk After s k)) refl ∙ joined)

-- A space and bits.
module _ (n : ℕ) (s : List ℕ) (at : ℕ) (x : Result ℕ Broken) (e : step_walk x ≡ walk (byte 32 ∷ []) s at) where
  pub part_space : (q : Broken) → x ≡ Err q → Err q ≡ step_of (walk (byte 32 ∷ bits n) s at)
  part_space q f = stops_first (byte 32 ∷ []) (bits n) s at x (step-of x _ e) q f

  pub part-bits : (i : ℕ) → x ≡ Ok i → (y : Result ℕ Broken) → y ≡ step_of (walk (bits n) s i) → y ≡ step_of (walk (byte 32 ∷ bits n) s at)
  part-bits i f y g = goes_on (byte 32 ∷ []) (bits n) s at x (step-of x _ e) i f y g

-- The line of a number and bits.
module _ (n p : ℕ) (s : List ℕ) (at : ℕ) (x : Result ℕ Broken) (ex : step_walk x ≡ walk (lits (dec p)) s at) where
  abbrev Rest : List Item
  Rest = (byte 32 ∷ bits n) ++ (byte 10 ∷ [])

  pub line-number : (q : Broken) → x ≡ Err q → Err q ≡ step_of (walk (bits_line n p) s at)
  unfolding bits_line
  line-number q f = stops_first (lits (dec p)) Rest s at x (step-of x _ ex) q f

  module _ (i : ℕ) (fx : x ≡ Ok i) (y : Result ℕ Broken) (ey : y ≡ step_of (walk (byte 32 ∷ bits n) s i)) where
    behind-number : (z : Result ℕ Broken) → z ≡ step_of (walk Rest s i) → z ≡ step_of (walk (bits_line n p) s at)
    unfolding bits_line
    behind-number z e = goes_on (lits (dec p)) Rest s at x (step-of x _ ex) i fx z e

    pub line-bits : (q : Broken) → y ≡ Err q → Err q ≡ step_of (walk (bits_line n p) s at)
    line-bits q f = behind-number (Err q) (stops_first (byte 32 ∷ bits n) (byte 10 ∷ []) s i y ey q f)

    pub line-end : (e : ℕ) → y ≡ Ok e → (z : Result ℕ Broken) → step_walk z ≡ walk (byte 10 ∷ []) s e → z ≡ step_of (walk (bits_line n p) s at)
    line-end e f z g = behind-number z (goes_on (byte 32 ∷ bits n) (byte 10 ∷ []) s i y ey e f z (step-of z _ g))
