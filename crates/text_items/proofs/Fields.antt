-- Numbers and fixed bytes at a position, as the code has them.
--   walk_none, walk-num            a number, by the answer of `number`
--   then-bad, then-stop, then-got  `number_then`
--   walk-stops .. field-goes       items one after another, by the answer to the first ones
--   lit_done, lit_stop, lit_next   `literal`
--   written-front                  `number_is`: the digits in an array
-- Assumes nothing.
use Prim.Native.Nat.{ℕ, zero, suc, ◌+◌, ◌≤◌, ◌<◌}
use mathlib.Core.Path.{◌≡◌, refl, sym, ap, ◌∙◌}
use mathlib.Core.List.{List, [], ◌∷◌, ◌++◌}
use native.Mathlib.Omega.{arith}
use lib.ListN.{length, get_or, take, drop, drop_of_length-le}
use lib.Seq.{drop-cons, sets, sets-eq, take_at}
use native.Mathlib.Numerals.{add-one}
use Rattle.text_formats.specs.Format.{Item, byte, num, item, dec, num_len, num_piece, value}
use Rattle.text_formats.specs.Items.{lits, stuck, past, prep, stride, walk}
use Rattle.text_items.specs.Answers.{num_at, num_of, step_walk, field_walk}
use Rattle.std.specs.Prelude.{Option, Some, None, Result, Ok, Err, ok_or}
use Rattle.text_items.specs.declared.Broken.{Broken}
use Rattle.text_lines.proofs.Decimal.{dec-short}
use Rattle.text_formats.proofs.Walking.{walk-append, prep_nil}

module _ (is : List Item) (s : List ℕ) (at : ℕ) where
  pub walk_none : num_at s at ≡ None → walk (num ∷ is) s at ≡ stuck at
  unfolding walk item num_at
  walk_none e = go (num_len (drop at s)) e
    where
      go : (n : ℕ) → num_of n (drop at s) at ≡ None → stride (num_piece n (drop at s)) at (λ q. walk is s q) ≡ stuck at
      go zero f = refl
      go (suc n) f = let z : ◌≡◌ {A = ℕ} 0 1 = cc in absurd (omega arith)

  pub walk-num : (v q : ℕ) → num_at s at ≡ Some (v, q) → walk (num ∷ is) s at ≡ prep (v ∷ []) (walk is s q)
  unfolding walk item num_at
  walk-num v q e = go (num_len (drop at s)) e
    where
      go : (n : ℕ) → num_of n (drop at s) at ≡ Some (v, q) → stride (num_piece n (drop at s)) at (λ r. walk is s r) ≡ prep (v ∷ []) (walk is s q)
      go zero f = let z : ◌≡◌ {A = ℕ} 0 1 = cc in absurd (omega arith)
      go (suc n) f =
          let p : ◌≡◌ {A = ℕ × ℕ} (value (suc n) (drop at s), at + suc n) (v, q) = cc in
          let a : value (suc n) (drop at s) ≡ v = ap (λ (r : ℕ × ℕ). r.0) p in
          let b : at + suc n ≡ q = ap (λ (r : ℕ × ℕ). r.1) p in
          cc

-- A number and a byte.
module _ (s : List ℕ) (at b : ℕ) (x : Option (ℕ × ℕ)) (e : x ≡ num_at s at) where
  pub then_bad : (r : Result (ℕ × ℕ) Broken) → r ≡ ok_or x (record { place = at }) → x ≡ None → field_walk r ≡ walk (num ∷ byte b ∷ []) s at
  then_bad r g f = ap field_walk (g ∙ ap (λ (o : Option (ℕ × ℕ)). ok_or o (record { place = at })) f) ∙ sym (walk_none (byte b ∷ []) s at (sym e ∙ f))

  module _ (v q : ℕ) (f : x ≡ Some (v, q)) (y : Result ℕ Broken) (ey : step_walk y ≡ walk (byte b ∷ []) s q) where
    pub then_stop : (k : Broken) → y ≡ Err k → stuck k.place ≡ walk (num ∷ byte b ∷ []) s at
    then_stop k g = rw (walk-num (byte b ∷ []) s at v q (sym e ∙ f), ← ey, g)

    pub then_got : (k : ℕ) → y ≡ Ok k → past (v ∷ []) k ≡ walk (num ∷ byte b ∷ []) s at
    then_got k g = rw (walk-num (byte b ∷ []) s at v q (sym e ∙ f), ← ey, g)

-- Items one after another, by the answer to the first ones: fixed bytes, or a number and a byte.
module _ (is js : List Item) (s : List ℕ) (at : ℕ) where
  module _ (x : Result ℕ Broken) (e : step_walk x ≡ walk is s at) where
    pub walk_stops : (q : Broken) → x ≡ Err q → walk (is ++ js) s at ≡ stuck q.place
    walk_stops q f = rw (walk-append is js s at, ← e, f)

    pub walk_goes : (q : ℕ) → x ≡ Ok q → walk (is ++ js) s at ≡ walk js s q
    walk_goes q f = rw (walk-append is js s at, ← e, f) (prep_nil (walk js s q))

  module _ (x : Result (ℕ × ℕ) Broken) (e : field_walk x ≡ walk is s at) where
    pub field_stops : (q : Broken) → x ≡ Err q → walk (is ++ js) s at ≡ stuck q.place
    field_stops q f = rw (walk-append is js s at, ← e, f)

    pub field_goes : (v q : ℕ) → x ≡ Ok (v, q) → walk (is ++ js) s at ≡ prep (v ∷ []) (walk js s q)
    field_goes v q f = rw (walk-append is js s at, ← e, f)

-- Fixed bytes, i of which are passed.
module _ (pat s : List ℕ) (i q : ℕ) where
  pub lit_done : length pat ≤ i → walk (lits (drop i pat)) s q ≡ past [] q
  unfolding walk
  lit_done h = rw (drop_of_length-le pat {i = i} h)

  module _ (h : i < length pat) (x : Result ℕ Broken) (e : step_walk x ≡ walk (byte (get_or pat i 0) ∷ []) s q) where
    pub lit_stop : (k : Broken) → x ≡ Err k → stuck k.place ≡ walk (lits (drop i pat)) s q
    lit_stop k f = rw (drop-cons pat i 0 h) (sym (walk_stops (byte (get_or pat i 0) ∷ []) (lits (drop (suc i) pat)) s q x e k f))

    pub lit_next : (k : ℕ) → x ≡ Ok k → walk (lits (drop i pat)) s q ≡ walk (lits (drop (i + 1) pat)) s k
    lit_next k f = rw (drop-cons pat i 0 h, add-one i) (walk_goes (byte (get_or pat i 0) ∷ []) (lits (drop (suc i) pat)) s q x e k f)

-- The digits of a number, written at the start of a buffer.
pub written-front : (l l' : List ℕ) (n v : ℕ) → n ≡ 0 + length (dec v) → l' ≡ sets l 0 (dec v) → 20 ≤ length l → take n l' ≡ dec v
written-front l l' n v e f h = rw (f, sets-eq (dec v) l 0 (omega (arith, dec-short v))) (take_at (dec v) _ n (omega arith))
