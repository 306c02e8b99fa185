-- Laws of `walk`.
--   prep_nil, prep-prep            values before a walk
--   walk-append                    lists of items one after the other
--   walk-byte .. this-byte         a fixed byte at a position
--   bit-none, walk-bit             a bit at a position
--   get_d_any, get_d_there, head_at  a byte of a text by its position
-- Assumes nothing.
use Prim.Native.Nat.{ℕ, zero, suc, ◌+◌, ◌-◌, ◌≤◌, ◌<◌}
use mathlib.Core.Path.{◌≡◌, refl, sym, ap, ◌∙◌}
use mathlib.Core.List.{List, [], ◌∷◌, ◌++◌, append_assoc}
use native.Mathlib.Omega.{arith}
use native.Mathlib.Nat.{add-zero, not-suc-le-zero, le_of_suc-le-suc}
use native.Mathlib.Decide.{dec_lt}
use borrow.Author.Tests.{eq-eqb, ne_eqb}
use lib.ListN.{length, get_or, drop, get_or-eq_default}
use lib.Seq.{get_or-drop}
use Rattle.text_formats.specs.Format.{Item, byte, bit, Piece, none, got, item}
use Rattle.text_formats.specs.Items.{Walk, stuck, past, prep, stride, walk, onward}

-- Within the list the default plays no part.
pub get_d_any : (s : List ℕ) (i d e : ℕ) → i < length s → get_or s i d ≡ get_or s i e
get_d_any [] i d e h = absurd (not-suc-le-zero h)
get_d_any (x ∷ s) zero d e h = refl
get_d_any (x ∷ s) (suc i) d e h = get_d_any s i d e (le_of_suc-le-suc h)

-- What is a byte is within.
pub get_d_there : (s : List ℕ) (i : ℕ) → get_or s i 256 < 256 → i < length s
get_d_there s i h = go (dec_lt i (length s))
  where
    go : Dec (i < length s) → i < length s
    go (yes l) = l
    go (no l) = let e = get_or-eq_default s 256 {n = i} (omega arith) in absurd (omega arith)

pub prep_nil : (w : Walk) → prep [] w ≡ w
prep_nil (stuck q) = refl
prep_nil (past us q) = refl

pub prep-prep : (ws us : List ℕ) (w : Walk) → prep ws (prep us w) ≡ prep (ws ++ us) w
prep-prep ws us (stuck q) = refl
prep-prep ws us (past vs q) = ap (λ (l : List ℕ). past l q) (sym (append_assoc ws us vs))

prep-onward : (ws : List ℕ) (w : Walk) (k : ℕ → Walk) → prep ws (onward w k) ≡ onward (prep ws w) k
prep-onward ws (stuck q) k = refl
prep-onward ws (past us q) k = prep-prep ws us (k q)

pub walk-append : (is js : List Item) (s : List ℕ) (at : ℕ) → walk (is ++ js) s at ≡ onward (walk is s at) (λ q. walk js s q)
unfolding walk
walk-append [] js s at = sym (prep_nil (walk js s at))
walk-append (i ∷ is) js s at = go (item i (drop at s)) (λ n. walk-append is js s n)
  where
    go : (x : Piece) → ((q : ℕ) → walk (is ++ js) s q ≡ onward (walk is s q) (λ r. walk js s r))
        → stride x at (λ q. walk (is ++ js) s q) ≡ onward (stride x at (λ q. walk is s q)) (λ q. walk js s q)
    go none ih = refl
    go (got ws n) ih = ap (prep ws) (ih (at + n)) ∙ prep-onward ws (walk is s (at + n)) (λ q. walk js s q)

pub head_at : (s : List ℕ) (at : ℕ) → get_or (drop at s) 0 256 ≡ get_or s at 256
head_at s at = get_or-drop at s 0 256 ∙ ap (λ (j : ℕ). get_or s j 256) (add-zero at)

pub walk-byte : (b : ℕ) (is : List Item) (s : List ℕ) (at : ℕ) → get_or s at 256 ≡ b → walk (byte b ∷ is) s at ≡ walk is s (at + 1)
unfolding walk item
walk-byte b is s at e = rw (head_at s at, e, eq-eqb b b refl) (prep_nil (walk is s (at + 1)))

pub walk-not : (b : ℕ) (is : List Item) (s : List ℕ) (at : ℕ) → (get_or s at 256 ≡ b → ⊥) → walk (byte b ∷ is) s at ≡ stuck at
unfolding walk item
walk-not b is s at e = rw (head_at s at, ne_eqb (get_or s at 256) b e)

-- The same as code meets it: past the end of the text, and by the byte that is there.
pub walk_end : (b : ℕ) (is : List Item) (s : List ℕ) (at : ℕ) → b < 256 → length s ≤ at → walk (byte b ∷ is) s at ≡ stuck at
walk_end b is s at h l = walk-not b is s at (λ e. let f = get_or-eq_default s 256 {n = at} l in omega arith)

module _ (b : ℕ) (is : List Item) (s : List ℕ) (at : ℕ) (l : at < length s) where
  pub walk_this : get_or s at 0 ≡ b → walk (byte b ∷ is) s at ≡ walk is s (at + 1)
  walk_this e = walk-byte b is s at (get_d_any s at 256 0 l ∙ e)

  pub walk_other : (get_or s at 0 ≡ b → ⊥) → walk (byte b ∷ is) s at ≡ stuck at
  walk_other e = walk-not b is s at (λ f. e (get_d_any s at 0 256 l ∙ f))

pub this_byte : (b : ℕ) (s : List ℕ) (at : ℕ) → at < length s → get_or s at 0 ≡ b → walk (byte b ∷ []) s at ≡ past [] (at + 1)
unfolding walk
this_byte b s at l e = walk_this b [] s at l e

pub bit-none : (is : List Item) (s : List ℕ) (at : ℕ) → (get_or s at 256 ≡ 48 → ⊥) → (get_or s at 256 ≡ 49 → ⊥) → walk (bit ∷ is) s at ≡ stuck at
unfolding walk item
bit-none is s at a b = rw (head_at s at, ne_eqb (get_or s at 256) 48 a, ne_eqb (get_or s at 256) 49 b)

bit-zero : (is : List Item) (s : List ℕ) (at : ℕ) → get_or s at 256 ≡ 48 → walk (bit ∷ is) s at ≡ prep (0 ∷ []) (walk is s (at + 1))
unfolding walk item
bit-zero is s at a = rw (head_at s at, a)

bit_one : (is : List Item) (s : List ℕ) (at : ℕ) → get_or s at 256 ≡ 49 → walk (bit ∷ is) s at ≡ prep (1 ∷ []) (walk is s (at + 1))
unfolding walk item
bit_one is s at a = rw (head_at s at, a)

pub walk-bit : (is : List Item) (s : List ℕ) (at : ℕ) → at < length s → 48 ≤ get_or s at 0 → get_or s at 0 ≤ 49
    → walk (bit ∷ is) s at ≡ prep ((get_or s at 0 - 48) ∷ []) (walk is s (at + 1))
walk-bit is s at l a b = go (dec_lt 48 (get_or s at 0))
  where
    e : get_or s at 256 ≡ get_or s at 0
    e = get_d_any s at 256 0 l

    go : Dec (48 < get_or s at 0) → walk (bit ∷ is) s at ≡ prep ((get_or s at 0 - 48) ∷ []) (walk is s (at + 1))
    go (yes h) =
        let z : 1 ≡ get_or s at 0 - 48 = omega arith in
        bit_one is s at (omega (arith, e)) ∙ ap (λ (v : ℕ). prep (v ∷ []) (walk is s (at + 1))) z
    go (no h) =
        let z : 0 ≡ get_or s at 0 - 48 = omega arith in
        bit-zero is s at (omega (arith, e)) ∙ ap (λ (v : ℕ). prep (v ∷ []) (walk is s (at + 1))) z
