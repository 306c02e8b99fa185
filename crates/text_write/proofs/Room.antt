-- A text where there is room for it, and where there is not.
--   no_fit, last_fits                  `has_room`
--   puts-room .. after_none            what is left, and what is answered
--   told-room, told-put, told-kept     the same, by what the test of the room told
--   puts-length, after-counts          the buffer stays as long, and what is answered counts bytes of it
-- Assumes nothing.
use Prim.Native.Nat.{ℕ, ◌+◌, ◌-◌, ◌≤◌, ◌<◌}
use mathlib.Core.Path.{◌≡◌, sym, ap, ◌∙◌}
use mathlib.Core.List.{List}
use mathlib.Core.Bool.{Bool, true, false}
use native.Mathlib.Omega.{arith}
use native.Mathlib.Decide.{dec_lt}
use borrow.Author.Tests.{le-leb, lt-leb, leb-true, leb-false}
use lib.Dec.{leb}
use lib.ListN.{length, take}
use lib.Seq.{sets, length-sets, length-take-le}
use Rattle.text_write.specs.Room.{puts, after}

-- Three parts behind a position: no room for them, and room exactly if there is room for the last behind the others.
pub no_fit : (len n : ℕ) → len < n → false ≡ leb n len
no_fit len n h = sym (lt-leb n len h)

pub last_fits : (len at a b c : ℕ) → at ≤ len → a ≤ len - at → b ≤ len - at - a → leb c (len - at - a - b) ≡ leb (at + (a + (b + c))) len
last_fits len at a b c f g h = go (dec_lt (len - at - a - b) c)
  where
    go : Dec (len - at - a - b < c) → leb c (len - at - a - b) ≡ leb (at + (a + (b + c))) len
    go (yes l) = lt-leb c (len - at - a - b) l ∙ sym (lt-leb (at + (a + (b + c))) len (omega arith))
    go (no l) = le-leb c (len - at - a - b) (omega arith) ∙ sym (le-leb (at + (a + (b + c))) len (omega arith))

pub puts-room : (o : List ℕ) (at : ℕ) (t : List ℕ) → at + length t ≤ length o → puts o at t ≡ sets o at t
unfolding puts
puts-room o at t h = rw (le-leb (at + length t) (length o) h)

pub puts_none : (o : List ℕ) (at : ℕ) (t : List ℕ) → length o < at + length t → puts o at t ≡ o
unfolding puts
puts_none o at t h = rw (lt-leb (at + length t) (length o) h)

pub after-room : (o : List ℕ) (at : ℕ) (t : List ℕ) → at + length t ≤ length o → after o at t ≡ at + length t
unfolding after
after-room o at t h = rw (le-leb (at + length t) (length o) h)

pub after_none : (o : List ℕ) (at : ℕ) (t : List ℕ) → length o < at + length t → after o at t ≡ at
unfolding after
after_none o at t h = rw (lt-leb (at + length t) (length o) h)

-- A test of the room for n bytes told that there is room, or that there is none: what is then answered and left, of a text of n bytes.
pub told-room : (o : List ℕ) (at n : ℕ) {b : Bool} → b ≡ leb (at + n) (length o) → b ≡ true → at + n ≤ length o
told-room o at n e h = leb-true (at + n) (length o) (sym e ∙ h)

pub told-put : (o : List ℕ) (at : ℕ) (t : List ℕ) {n : ℕ} {b : Bool} {o₁ : List ℕ} {r : ℕ} → b ≡ leb (at + n) (length o) → b ≡ true → length t ≡ n
    → (r ≡ at + length t) × (o₁ ≡ sets o at t) → (r ≡ after o at t) × (o₁ ≡ puts o at t)
told-put o at t {n} e h l p =
    let room : at + length t ≤ length o = omega (arith, told-room o at n e h, l) in
    (p.0 ∙ sym (after-room o at t room), p.1 ∙ sym (puts-room o at t room))

pub told-kept : (o : List ℕ) (at : ℕ) (t : List ℕ) {n : ℕ} {b : Bool} → b ≡ leb (at + n) (length o) → b ≡ false → length t ≡ n
    → (at ≡ after o at t) × (o ≡ puts o at t)
told-kept o at t {n} e h l =
    let none : length o < at + length t = omega (arith, leb-false (at + n) (length o) (sym e ∙ h), l) in
    (sym (after_none o at t none), sym (puts_none o at t none))

-- ---- for a caller who lends on what is written, `&out[..r]`

pub puts-length : (o : List ℕ) (at : ℕ) (t : List ℕ) → length (puts o at t) ≡ length o
puts-length o at t = go (dec_lt (length o) (at + length t))
  where
    go : Dec (length o < at + length t) → length (puts o at t) ≡ length o
    go (yes h) = ap length (puts_none o at t h)
    go (no h) = ap length (puts-room o at t (omega arith)) ∙ length-sets o at t

pub after-counts : (o : List ℕ) (at : ℕ) (t : List ℕ) {r : ℕ} {l : List ℕ} → r ≡ after o at t → l ≡ puts o at t → at ≤ length o
    → (r ≤ length l) × (r ≡ length (take r l))
after-counts o at t {r} {l} e f h =
    let within : r ≤ length l = omega (arith, e, ap length f, puts-length o at t, low (dec_lt (length o) (at + length t))) in
    (within, sym (length-take-le r l within))
  where
    low : Dec (length o < at + length t) → after o at t ≤ length o
    low (yes k) = omega (arith, after_none o at t k)
    low (no k) = omega (arith, after-room o at t (omega arith))
