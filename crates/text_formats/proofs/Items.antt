-- What `item` finds at the front of a text.
--   Sound, item-sound           what is found shows the item
--   Guard, item-complete        an item that is shown is found, if no digit follows a number
--   item-none, item_local       what is found depends on no byte past the next
--   first_byte, dec-long        the first byte of a text; a number has at least one digit
-- Assumes nothing.
use Prim.Native.Nat.{ℕ, zero, suc, ◌+◌, ◌/◌, ◌%◌, ◌≤◌, ◌<◌}
use mathlib.Core.Path.{◌≡◌, refl, sym, ap, ◌∙◌}
use mathlib.Core.Bool.{Bool, true, false, cond}
use mathlib.Core.List.{List, [], ◌∷◌, ◌++◌}
use native.Mathlib.Omega.{arith}
use borrow.Author.Tests.{eq-eqb, eqb-true, eqb-false}
use lib.ListN.{length, get_or, take, drop, get_or-append, length-append}
use native.Mathlib.Decide.{dec_lt}
use lib.Seq.{get_or-take, length-take-le}
use lib.Dec.{eqb}
use Rattle.text_formats.specs.Format.{digits_of, dec, is_digit, more, value, num_len, num_piece, Item, byte, num, bit, Shows, none, got, item}
use Rattle.text_formats.proofs.Digits.{digits_one, digits_more, dec_one, digit-true, more-most, more-front, len_none, Spelled, spelled, found}

pub record Sound (i : Item) (ws : List ℕ) (n : ℕ) (s : List ℕ) : Type 0 where
  pub within : n ≤ length s
  pub shows : Shows i ws (take n s)

-- The item of a clear format: a fixed byte is a byte.
abbrev pub Ok : Item → Type 0
Ok (byte b) = b < 256
Ok num = Unit {0}
Ok bit = Unit {0}

num-sound : (s ws : List ℕ) (n : ℕ) → num_piece (num_len s) s ≡ got ws n → Sound num ws n s
unfolding num_len
num-sound [] ws n e = let z : ◌≡◌ {A = ℕ} 0 1 = cc in absurd (omega arith)
num-sound (c ∷ t) ws n e = go (is_digit c) refl e
  where
    done : (m : ℕ) → Spelled (suc m) (c ∷ t) → num_piece (suc m) (c ∷ t) ≡ got ws n → Sound num ws n (c ∷ t)
    done m h f =
        let a : suc m ≡ n = cc in
        let b : ws ≡ value (suc m) (c ∷ t) ∷ [] = cc in
        record { within = omega (arith, h.within); shows = (value (suc m) (c ∷ t), h.small, b, ap (λ (k : ℕ). take k (c ∷ t)) (sym a) ∙ h.spelled) }

    pick : is_digit c ≡ true → (b : Bool) → eqb c 48 ≡ b → num_piece (cond b 1 (suc (more 3 t))) (c ∷ t) ≡ got ws n → Sound num ws n (c ∷ t)
    pick d true z f =
        let q : c ≡ 48 = eqb-true c 48 z in
        let w : value 1 (c ∷ t) ≡ 0 = omega arith in
        done 0 (record { within = omega arith; small = omega arith; spelled = rw (w, dec_one 0 (omega arith)) (ap (λ (k : ℕ). k ∷ []) q) }) f
    pick d false z f =
        let q = digit-true c d in
        let k : (c ≡ 48 → ⊥) = eqb-false c 48 z in
        done (more 3 t) (spelled (more 3 t) c t (omega arith) q.1 (more-front 3 t) (more-most 3 t)) f

    go : (b : Bool) → is_digit c ≡ b → num_piece (cond b (cond (eqb c 48) 1 (suc (more 3 t))) 0) (c ∷ t) ≡ got ws n → Sound num ws n (c ∷ t)
    go true d f = pick d (eqb c 48) refl f
    go false d f = let z : ◌≡◌ {A = ℕ} 0 1 = cc in absurd (omega arith)

-- The first byte is there where it is below 256.
pub first_byte : (s : List ℕ) (b : ℕ) → b < 256 → get_or s 0 256 ≡ b → s ≡ b ∷ drop 1 s
first_byte [] b h e = absurd (omega arith)
first_byte (c ∷ t) b h e = ap (λ (k : ℕ). k ∷ t) e

pub item-sound : (i : Item) (s ws : List ℕ) (n : ℕ) → Ok i → item i s ≡ got ws n → Sound i ws n s
unfolding item
item-sound (byte b) s ws n h e = go (eqb (get_or s 0 256) b) refl e
  where
    go : (q : Bool) → eqb (get_or s 0 256) b ≡ q → cond q (got [] 1) none ≡ got ws n → Sound (byte b) ws n s
    go true q f =
        let r : s ≡ b ∷ drop 1 s = first_byte s b h (eqb-true (get_or s 0 256) b q) in
        let a : 1 ≡ n = cc in
        let w : ws ≡ [] = cc in
        record { within = omega (arith, ap length r); shows = (w, ap (λ (k : ℕ). take k s) (sym a) ∙ ap (take 1) r) }
    go false q f = let z : ◌≡◌ {A = ℕ} 0 1 = cc in absurd (omega arith)
item-sound num s ws n h e = num-sound s ws n e
item-sound bit s ws n h e = go (eqb (get_or s 0 256) 48) refl e
  where
    is : (v : ℕ) → v < 2 → get_or s 0 256 ≡ 48 + v → got (v ∷ []) 1 ≡ got ws n → Sound bit ws n s
    is v l q f =
        let r : s ≡ (48 + v) ∷ drop 1 s = first_byte s (48 + v) (omega arith) q in
        let a : 1 ≡ n = cc in
        let w : ws ≡ v ∷ [] = cc in
        record { within = omega (arith, ap length r); shows = (v, l, w, ap (λ (k : ℕ). take k s) (sym a) ∙ ap (take 1) r) }

    go2 : (q : Bool) → eqb (get_or s 0 256) 49 ≡ q → cond q (got (1 ∷ []) 1) none ≡ got ws n → Sound bit ws n s
    go2 true q f = is 1 (omega arith) (eqb-true (get_or s 0 256) 49 q) f
    go2 false q f = let z : ◌≡◌ {A = ℕ} 0 1 = cc in absurd (omega arith)

    go : (q : Bool) → eqb (get_or s 0 256) 48 ≡ q → cond q (got (0 ∷ []) 1) (cond (eqb (get_or s 0 256) 49) (got (1 ∷ []) 1) none) ≡ got ws n → Sound bit ws n s
    go true q f = is 0 (omega arith) (eqb-true (get_or s 0 256) 48 q) f
    go false q f = go2 (eqb (get_or s 0 256) 49) refl f

-- What follows an item leaves it alone: no digit after a number.
abbrev pub Guard : Item → List ℕ → Type 0
Guard (byte b) t = Unit {0}
Guard num t = is_digit (get_or t 0 256) ≡ false
Guard bit t = Unit {0}

num-piece : (n v : ℕ) (s : List ℕ) → 0 < n → value n s ≡ v → num_piece n s ≡ got (v ∷ []) n
num-piece zero v s h e = absurd (omega arith)
num-piece (suc n) v s h e = rw e

pub dec-long : (v : ℕ) → 0 < length (dec v)
unfolding dec
dec-long v = go (dec_lt v 10)
  where
    go : Dec (v < 10) → 0 < length (digits_of 20 v)
    go (yes h) = rw (digits_one 19 v h) (omega arith)
    go (no h) = rw (digits_more 19 v (omega arith)) (omega (arith, length-append (digits_of 19 (v / 10)) ((48 + v % 10) ∷ [])))

pub item-complete : (i : Item) (ws p t : List ℕ) → Shows i ws p → Guard i t → item i (p ++ t) ≡ got ws (length p)
unfolding item
item-complete (byte b) ws p t h g = rw (h.0, h.1) (simp (eq-eqb b b refl))
item-complete num ws p t h g =
    let f = found h.0 t h.1 g in
    rw (h.2, h.3, f.counted) (num-piece (length (dec h.0)) h.0 (dec h.0 ++ t) (dec-long h.0) f.valued)
item-complete bit ws p t h g = rw (h.2, h.3) (go h.0 h.1)
  where
    go : (v : ℕ) → v < 2 → item bit ((48 + v) ∷ t) ≡ got (v ∷ []) 1
    go zero l = refl
    go (suc zero) l = refl
    go (suc (suc v)) l = absurd (omega arith)

-- What is found does not depend on the bytes after the next one.
more_local : (k n : ℕ) (s r : List ℕ) → more k s ≡ n → n < length s → more k (take (suc n) s ++ r) ≡ n
unfolding more
more_local zero n s r e h = e
more_local (suc k) n [] r e h = absurd (omega arith)
more_local (suc k) n (c ∷ t) r e h = go (is_digit c) refl n e h (more_local k (more k t) t r refl)
  where
    go : (b : Bool) → is_digit c ≡ b → (m : ℕ) → cond b (suc (more k t)) 0 ≡ m → m < suc (length t)
        → (more k t < length t → more k (take (suc (more k t)) t ++ r) ≡ more k t) → cond b (suc (more k (take m t ++ r))) 0 ≡ m
    go true d m f l ih = rw (← f) (ap suc (ih (omega arith)))
    go false d m f l ih = f

-- The bytes up to the n-th are those of s.
at_local : (m n : ℕ) (s r : List ℕ) → m ≤ n → n < length s → get_or (take (suc n) s ++ r) m 256 ≡ get_or s m 256
at_local m n s r l h =
    get_or-append (take (suc n) s) r 256 m (omega (arith, length-take-le (suc n) s h)) ∙ get_or-take (suc n) s m 256 (omega arith)

value_local : (n : ℕ) (s r : List ℕ) → n < length s → value n (take (suc n) s ++ r) ≡ value n s
value_local n s r h = go n (omega arith)
  where
    go : (m : ℕ) → m ≤ n → value m (take (suc n) s ++ r) ≡ value m s
    go zero l = refl
    go (suc m) l = rw (go m (omega arith), at_local m n s r (omega arith) h)

none-digit : (c : ℕ) (t : List ℕ) → num_piece (num_len (c ∷ t)) (c ∷ t) ≡ none → is_digit c ≡ false
unfolding num_len
none-digit c t e = go (is_digit c) (eqb c 48) e
  where
    go : (b z : Bool) → num_piece (cond b (cond z 1 (suc (more 3 t))) 0) (c ∷ t) ≡ none → b ≡ false
    go false z f = refl
    go true true f = let z : ◌≡◌ {A = ℕ} 0 1 = cc in absurd (omega arith)
    go true false f = let z : ◌≡◌ {A = ℕ} 0 1 = cc in absurd (omega arith)

len_local : (c n : ℕ) (t r : List ℕ) → num_len (c ∷ t) ≡ n → n < suc (length t) → num_len (c ∷ (take n t ++ r)) ≡ n
unfolding num_len
len_local c n t r e h = go (is_digit c) (eqb c 48) n e h
  where
    go : (b z : Bool) (m : ℕ) → cond b (cond z 1 (suc (more 3 t))) 0 ≡ m → m < suc (length t) → cond b (cond z 1 (suc (more 3 (take m t ++ r)))) 0 ≡ m
    go false z m f l = f
    go true true m f l = f
    go true false m f l = rw (← f) (ap suc (more_local 3 (more 3 t) t r refl (omega arith)))

piece_inv : (k n : ℕ) (s ws : List ℕ) → num_piece k s ≡ got ws n → (k ≡ n) × (0 < n) × (ws ≡ value n s ∷ [])
piece_inv zero n s ws e = let z : ◌≡◌ {A = ℕ} 0 1 = cc in absurd (omega arith)
piece_inv (suc k) n s ws e =
    let a : suc k ≡ n = cc in
    let w : ws ≡ value (suc k) s ∷ [] = cc in
    (a, omega arith, w ∙ ap (λ (m : ℕ). value m s ∷ []) a)

pub item-none : (i : Item) (s r : List ℕ) → item i s ≡ none → 0 < length s → item i (take 1 s ++ r) ≡ none
unfolding item
item-none i [] r e h = absurd (omega arith)
item-none (byte b) (c ∷ t) r e h = e
item-none bit (c ∷ t) r e h = e
item-none num (c ∷ t) r e h = rw (len_none (c ∷ r) (none-digit c t e))

pub item_local : (i : Item) (s ws r : List ℕ) (n : ℕ) → item i s ≡ got ws n → n < length s → item i (take (suc n) s ++ r) ≡ got ws n
unfolding item
item_local i [] ws r n e h = absurd (omega arith)
item_local (byte b) (c ∷ t) ws r n e h = e
item_local bit (c ∷ t) ws r n e h = e
item_local num (c ∷ t) ws r n e h =
    let k = piece_inv (num_len (c ∷ t)) n (c ∷ t) ws e in
    rw (len_local c n t r k.0 h, k.2) (num-piece n (value n (c ∷ t)) (c ∷ (take n t ++ r)) k.1 (value_local n (c ∷ t) r h))
