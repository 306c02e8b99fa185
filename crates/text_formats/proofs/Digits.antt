-- Decimal numbers: what `num_len` and `value` find at the front of a text is `dec` of the value, and the other way round.
--   digit-is, digit-true                the bytes that are digits
--   digits_one, digits_more             the digits of a number: the last one, and those before it
--   digits_enough, digits-length        a number below 10 ^ k has at most k digits; to ask for more finds no more
--   dec_one, dec-digits                 the same of `dec`
--   Digits, digits_are, digits_lead     each of them is a digit, and the first of a number above 0 is not 0
--   more-stop .. more-all               how many digits stand at the front of a text
--   len_none, len_zero, len_more        the length of the number there
--   Spelled, spelled                    the digits found are those of their value
--   Found, found                        the digits of a number are found, and have its value
-- Assumes nothing.
use Prim.Native.Nat.{ℕ, zero, suc, ◌+◌, ◌-◌, ◌*◌, ◌/◌, ◌%◌, ◌^◌, ◌≤◌, ◌<◌}
use mathlib.Core.Path.{◌≡◌, refl, sym, ap, ◌∙◌}
use mathlib.Core.Bool.{Bool, true, false, cond}
use mathlib.Core.List.{List, [], ◌∷◌, ◌++◌}
use native.Mathlib.Omega.{arith}
use native.Mathlib.Nat.{pow-le-pow_right, not-suc-le-zero, le_of_suc-le-suc}
use native.Mathlib.Numerals.{add-one}
use native.Mathlib.Decide.{dec_lt}
use borrow.Author.Tests.{lt-ltb, le-ltb, le-leb, leb-true, ne_eqb}
use lib.ListN.{length, get_or, take, drop, length-append}
use lib.Seq.{take-suc, append_snoc, get_or-append_seam}
use lib.Dec.{leb}
use Rattle.text_formats.specs.Format.{digits_of, dec, is_digit, more, value, num_len}
use Rattle.text_formats.proofs.Walking.{get_d_there}

-- ---- one byte

pub digit-is : (c : ℕ) → 48 ≤ c → c ≤ 57 → is_digit c ≡ true
unfolding is_digit
digit-is c l h = simp (le-leb 48 c l, le-leb c 57 h)

pub digit-true : (c : ℕ) → is_digit c ≡ true → (48 ≤ c) × (c ≤ 57)
unfolding is_digit
digit-true c e = go (leb 48 c) refl e
  where
    go : (b : Bool) → leb 48 c ≡ b → cond b (leb c 57) false ≡ true → (48 ≤ c) × (c ≤ 57)
    go true a h = (leb-true 48 c a, leb-true c 57 h)
    go false a h = let z : ◌≡◌ {A = ℕ} 0 1 = cc in omega arith

-- ---- the digits of a number

pub digits_one : (k v : ℕ) → v < 10 → digits_of (suc k) v ≡ (48 + v) ∷ []
unfolding digits_of
digits_one k v h = simp (lt-ltb v 10 h)

pub digits_more : (k v : ℕ) → 10 ≤ v → digits_of (suc k) v ≡ digits_of k (v / 10) ++ ((48 + v % 10) ∷ [])
unfolding digits_of
digits_more k v h = simp (le-ltb v 10 h)

pub digits_enough : (j k v : ℕ) → v < 10 ^ suc j → v < 10 ^ suc k → digits_of (suc j) v ≡ digits_of (suc k) v
digits_enough zero k v g h = digits_one 0 v (omega arith) ∙ sym (digits_one k v (omega arith))
digits_enough (suc j) zero v g h = digits_one (suc j) v (omega arith) ∙ sym (digits_one 0 v (omega arith))
digits_enough (suc j) (suc k) v g h = go (dec_lt v 10) (digits_enough j k (v / 10) (omega arith) (omega arith))
  where
    go : Dec (v < 10) → digits_of (suc j) (v / 10) ≡ digits_of (suc k) (v / 10) → digits_of (suc (suc j)) v ≡ digits_of (suc (suc k)) v
    go (yes l) e = digits_one (suc j) v l ∙ sym (digits_one (suc k) v l)
    go (no l) e = rw (digits_more (suc j) v (omega arith), digits_more (suc k) v (omega arith), e)

pub digits-length : (k v : ℕ) → length (digits_of k v) ≤ k
unfolding digits_of
digits-length zero v = omega arith
digits-length (suc k) v = go (dec_lt v 10) (digits-length k (v / 10))
  where
    go : Dec (v < 10) → length (digits_of k (v / 10)) ≤ k → length (digits_of (suc k) v) ≤ suc k
    go (yes l) f = rw (digits_one k v l) (omega arith)
    go (no l) f = rw (digits_more k v (omega arith)) (omega (arith, f, length-append (digits_of k (v / 10)) ((48 + v % 10) ∷ [])))

pub dec_one : (v : ℕ) → v < 10 → dec v ≡ (48 + v) ∷ []
unfolding dec
dec_one v h = digits_one 19 v h

pub dec-digits : (k v : ℕ) → v < 10000 → v < 10 ^ suc k → dec v ≡ digits_of (suc k) v
unfolding dec
dec-digits k v h l = digits_enough 19 k v (omega arith) l

-- All of these bytes are digits.
abbrev pub Digits : List ℕ → Type 0
Digits [] = Unit {0}
Digits (c ∷ l) = (48 ≤ c) × (c ≤ 57) × Digits l

digits_snoc : (l : List ℕ) (c : ℕ) → Digits l → 48 ≤ c → c ≤ 57 → Digits (l ++ (c ∷ []))
digits_snoc [] c d a b = (a, b, tt)
digits_snoc (x ∷ l) c d a b = (d.0, d.1, digits_snoc l c d.2 a b)

pub digits_are : (k v : ℕ) → Digits (digits_of k v)
unfolding digits_of
digits_are zero v = tt
digits_are (suc k) v = go (dec_lt v 10) (digits_are k (v / 10))
  where
    go : Dec (v < 10) → Digits (digits_of k (v / 10)) → Digits (digits_of (suc k) v)
    go (yes l) d = rw (digits_one k v l) (omega arith, omega arith, tt)
    go (no l) d = rw (digits_more k v (omega arith)) (digits_snoc (digits_of k (v / 10)) (48 + v % 10) d (omega arith) (omega arith))

abbrev Leads : ℕ → ℕ → Type 0
Leads k v = (c : ℕ) × (l : List ℕ) × (48 < c) × (digits_of (suc k) v ≡ c ∷ l)

digits_lead : (k v : ℕ) → 0 < v → v < 10 ^ suc k → Leads k v
digits_lead zero v p h = (48 + v, [], omega arith, digits_one 0 v (omega arith))
digits_lead (suc k) v p h = go (dec_lt v 10) (digits_lead k (v / 10))
  where
    go : Dec (v < 10) → (0 < v / 10 → v / 10 < 10 ^ suc k → Leads k (v / 10)) → Leads (suc k) v
    go (yes l) f = (48 + v, [], omega arith, digits_one (suc k) v l)
    go (no l) f =
        let (c, ds, a, e) = f (omega arith) (omega arith) in
        (c, ds ++ ((48 + v % 10) ∷ []), a, digits_more (suc k) v (omega arith) ∙ ap (λ (z : List ℕ). z ++ ((48 + v % 10) ∷ [])) e)

-- ---- the number at the front of a text

pub more-stop : (k : ℕ) (l : List ℕ) → is_digit (get_or l 0 256) ≡ false → more k l ≡ 0
unfolding more
more-stop zero l e = refl
more-stop (suc k) [] e = refl
more-stop (suc k) (c ∷ t) e = simp e

pub more-digit : (k : ℕ) (l : List ℕ) → 48 ≤ get_or l 0 256 → get_or l 0 256 ≤ 57 → more (suc k) l ≡ suc (more k (drop 1 l))
unfolding more
more-digit k [] a b = absurd (omega arith)
more-digit k (c ∷ t) a b = simp (digit-is c a b)

pub more-most : (k : ℕ) (l : List ℕ) → more k l ≤ k
unfolding more
more-most zero l = omega arith
more-most (suc k) [] = omega arith
more-most (suc k) (c ∷ t) = go (is_digit c) (more-most k t)
  where
    go : (b : Bool) → more k t ≤ k → cond b (suc (more k t)) 0 ≤ suc k
    go true h = omega arith
    go false h = omega arith

-- The first n bytes are digits.
abbrev pub Front : ℕ → List ℕ → Type 0
Front n l = (i : ℕ) → i < n → (48 ≤ get_or l i 256) × (get_or l i 256 ≤ 57)

front_cons : (n c : ℕ) (t : List ℕ) → 48 ≤ c → c ≤ 57 → Front n t → Front (suc n) (c ∷ t)
front_cons n c t a b f zero h = (a, b)
front_cons n c t a b f (suc i) h = f i (le_of_suc-le-suc h)

pub more-front : (k : ℕ) (l : List ℕ) → Front (more k l) l
unfolding more
more-front zero l i h = absurd (not-suc-le-zero h)
more-front (suc k) [] i h = absurd (not-suc-le-zero h)
more-front (suc k) (c ∷ t) i h = go (is_digit c) refl (more-front k t) h
  where
    go : (b : Bool) → is_digit c ≡ b → Front (more k t) t → i < cond b (suc (more k t)) 0 → (48 ≤ get_or (c ∷ t) i 256) × (get_or (c ∷ t) i 256 ≤ 57)
    go true e f l = front_cons (more k t) c t (digit-true c e).0 (digit-true c e).1 f i l
    go false e f l = absurd (not-suc-le-zero l)

pub more-all : (k : ℕ) (l t : List ℕ) → Digits l → length l ≤ k → is_digit (get_or t 0 256) ≡ false → more k (l ++ t) ≡ length l
more-all k [] t d h e = more-stop k t e
more-all zero (c ∷ l) t d h e = absurd (omega arith)
more-all (suc k) (c ∷ l) t d h e = more-digit k (c ∷ l ++ t) d.0 d.1 ∙ ap suc (more-all k l t d.2 (omega arith) e)

pub len_none : (l : List ℕ) → is_digit (get_or l 0 256) ≡ false → num_len l ≡ 0
unfolding num_len
len_none [] e = refl
len_none (c ∷ t) e = simp e

pub len_zero : (l : List ℕ) → get_or l 0 256 ≡ 48 → num_len l ≡ 1
unfolding num_len is_digit
len_zero [] e = absurd (omega arith)
len_zero (c ∷ t) e = rw e

pub len_more : (l : List ℕ) → 48 < get_or l 0 256 → get_or l 0 256 ≤ 57 → num_len l ≡ suc (more 3 (drop 1 l))
unfolding num_len
len_more [] a b = absurd (omega arith)
len_more (c ∷ t) a b = simp (digit-is c (omega arith) b, ne_eqb c 48 (λ e. omega arith))

-- ---- the digits found are those of their value

pub record Spelled (n : ℕ) (s : List ℕ) : Type 0 where
  pub within : n ≤ length s
  pub small : value n s < 10000
  pub spelled : take n s ≡ dec (value n s)

-- The first n digits, and the first of all is not 0.
record Run (n : ℕ) (s : List ℕ) : Type 0 where
  room : n ≤ length s
  above : 0 < value n s
  below : value n s < 10 ^ n
  same : take n s ≡ digits_of n (value n s)

run : (m : ℕ) (s : List ℕ) → Front (suc m) s → 48 < get_or s 0 256 → Run (suc m) s
run zero s f p =
    let (a, b) = f 0 (omega arith) in
    let l = get_d_there s 0 (omega arith) in
    let v : ℕ = value 1 s in
    let z : get_or s 0 256 ≡ 48 + v = omega arith in
    record {
      room = l;
      above = omega arith;
      below = omega arith;
      same = take-suc s 0 256 l ∙ ap (λ (c : ℕ). c ∷ []) z ∙ sym (digits_one 0 v (omega arith));
    }
run (suc m) s f p =
    let R = run m s (λ i l. f i (omega arith)) p in
    let (a, b) = f (suc m) (omega arith) in
    let l = get_d_there s (suc m) (omega arith) in
    let u : ℕ = value (suc m) s in
    let c : ℕ = get_or s (suc m) 256 in
    let v : ℕ = u * 10 + (c - 48) in
    let big : 10 ≤ v = omega (arith, R.above) in
    let front : u ≡ v / 10 = omega arith in
    let last : c ≡ 48 + v % 10 = omega arith in
    record {
      room = l;
      above = omega (arith, R.above);
      below = omega (arith, R.below);
      same =
          take-suc s (suc m) 256 l ∙ ap (λ (x : List ℕ). x ++ (c ∷ [])) (R.same ∙ ap (digits_of (suc m)) front) ∙ ap (λ (x : ℕ). digits_of (suc m) (v / 10) ++ (x ∷ [])) last
          ∙ sym (digits_more (suc m) v big);
    }

pub spelled : (m c : ℕ) (t : List ℕ) → 48 < c → c ≤ 57 → Front m t → m ≤ 3 → Spelled (suc m) (c ∷ t)
spelled m c t l h f k =
    let R = run m (c ∷ t) (front_cons m c t (omega arith) h f) l in
    let n : suc m ≤ 4 = omega arith in
    let e : 10 ^ suc m ≤ 10 ^ 4 = pow-le-pow_right (omega arith) n in
    let s : value (suc m) (c ∷ t) < 10000 = omega (arith, R.below) in
    record { within = R.room; small = s; spelled = R.same ∙ sym (dec-digits m (value (suc m) (c ∷ t)) s R.below) }

-- ---- the digits of a number are found

value_snoc : (ds : List ℕ) (c v : ℕ) (t : List ℕ) → value (length ds) (ds ++ (c ∷ t)) ≡ v
    → value (length (ds ++ (c ∷ []))) (ds ++ (c ∷ []) ++ t) ≡ v * 10 + (c - 48)
value_snoc ds c v t e = rw (append_snoc ds c t, length-append ds (c ∷ []), add-one (length ds), e, get_or-append_seam ds c t 256)

value-digits : (k v : ℕ) (t : List ℕ) → v < 10 ^ k → value (length (digits_of k v)) (digits_of k v ++ t) ≡ v
unfolding digits_of
value-digits zero v t h = omega arith
value-digits (suc k) v t h = go (dec_lt v 10) (value-digits k (v / 10) ((48 + v % 10) ∷ t) (omega arith))
  where
    go : Dec (v < 10) → value (length (digits_of k (v / 10))) (digits_of k (v / 10) ++ ((48 + v % 10) ∷ t)) ≡ v / 10
        → value (length (digits_of (suc k) v)) (digits_of (suc k) v ++ t) ≡ v
    go (yes l) e = rw (digits_one k v l) (omega arith)
    go (no l) e =
        let z : v / 10 * 10 + (48 + v % 10 - 48) ≡ v = omega arith in
        rw (digits_more k v (omega arith)) (value_snoc (digits_of k (v / 10)) (48 + v % 10) (v / 10) t e ∙ z)

pub record Found (v : ℕ) (t : List ℕ) : Type 0 where
  pub counted : num_len (dec v ++ t) ≡ length (dec v)
  pub valued : value (length (dec v)) (dec v ++ t) ≡ v

pub found : (v : ℕ) (t : List ℕ) → v < 10000 → is_digit (get_or t 0 256) ≡ false → Found v t
found v t h e = record { counted = go (dec_lt v 1); valued = rw four (value-digits 4 v t h) }
  where
    four : dec v ≡ digits_of 4 v
    four = dec-digits 3 v h h

    go : Dec (v < 1) → num_len (dec v ++ t) ≡ length (dec v)
    go (yes k) = rw (dec_one v (omega arith)) (len_zero ((48 + v) ∷ t) (omega arith))
    go (no k) =
        let (c, l, a, f) = digits_lead 3 v (omega arith) h in
        let d : Digits (c ∷ l) = rw f at (digits_are 4 v) in
        let n : length (c ∷ l) ≤ 4 = rw f at (digits-length 4 v) in
        rw (four, f) (len_more (c ∷ l ++ t) a d.1 ∙ ap suc (more-all 3 l t d.2 (omega arith) e))
