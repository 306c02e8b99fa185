-- A part of k bytes from place a on, lent and come back as ys.
--   back_length                             the length of the whole
--   back_before, back_within, back_after    its bytes
--   zeros-length, zeros-byte                a part that was made 0
-- Assumes nothing.
use mathlib.Core.Path.{◌≡◌, sym, ap, ◌∙◌}
use mathlib.Core.List.{List, ◌++◌}
use Prim.Native.Nat.{ℕ, ◌+◌, ◌-◌, ◌≤◌, ◌<◌}
use native.Mathlib.Omega.{arith}
use lib.ListN.{length, get_or, take, drop, replicate, get_or-append, length-append, length-drop, length-replicate}
use lib.Seq.{length-take-le, get_or-take, get_or-drop, get_or-append-add}
use Rattle.bch.proofs.Store.{zeros-at}

-- the whole
abbrev pub back : List ℕ → List ℕ → ℕ → ℕ → List ℕ
back l ys a k = take a l ++ (ys ++ drop k (drop a l))

module _ (l ys : List ℕ) (a k : ℕ) (room : a + k ≤ length l) (part : length ys ≡ k) where
  front : length (take a l) ≡ a
  front = length-take-le a l (omega (arith, room))

  pub back_length : length (back l ys a k) ≡ length l
  back_length =
      omega (
        arith,
        room,
        front,
        part,
        length-append (take a l) (ys ++ drop k (drop a l)),
        length-append ys (drop k (drop a l)),
        length-drop k (drop a l),
        length-drop a l,
      )

  pub back_before : (q : ℕ) → q < a → get_or (back l ys a k) q 0 ≡ get_or l q 0
  back_before q h = get_or-append (take a l) (ys ++ drop k (drop a l)) 0 q (omega (arith, front, h)) ∙ get_or-take a l q 0 h

  pub back_within : (s : ℕ) → s < k → get_or (back l ys a k) (a + s) 0 ≡ get_or ys s 0
  back_within s h =
      ap (λ (z : ℕ). get_or (back l ys a k) (z + s) 0) (sym front)
      ∙ get_or-append-add (take a l) (ys ++ drop k (drop a l)) s 0
      ∙ get_or-append ys (drop k (drop a l)) 0 s (omega (arith, part, h))

  pub back_after : (q : ℕ) → a + k ≤ q → get_or (back l ys a k) q 0 ≡ get_or l q 0
  back_after q h =
      let s : ℕ = q - (a + k) in
      let e : q ≡ length (take a l) + (length ys + s) = omega (arith, front, part, h) in
      ap (λ (z : ℕ). get_or (back l ys a k) z 0) e
      ∙ get_or-append-add (take a l) (ys ++ drop k (drop a l)) (length ys + s) 0
      ∙ get_or-append-add ys (drop k (drop a l)) s 0
      ∙ get_or-drop k (drop a l) s 0 ∙ get_or-drop a l (k + s) 0
      ∙ ap (λ (z : ℕ). get_or l z 0) (omega (arith, h))

module _ (l ys : List ℕ) (a k : ℕ) (room : a + k ≤ length l) (zero : ys ≡ replicate (length (take k (drop a l))) 0) where
  pub zeros-length : length ys ≡ k
  zeros-length =
      ap length zero ∙ length-replicate {A = ℕ} (length (take k (drop a l))) 0 ∙ length-take-le k (drop a l) (omega (arith, room, length-drop a l))

  pub zeros-byte : (q : ℕ) → get_or ys q 0 ≡ 0
  zeros-byte q = ap (λ (z : List ℕ). get_or z q 0) zero ∙ zeros-at (length (take k (drop a l))) q
