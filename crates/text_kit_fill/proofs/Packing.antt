-- Packing bits into bytes.
--   gather_none, gather_step    `gather`: the bits from k on are gathered
--   pack-none, pack-more        `pack_row`: b bytes are packed
--   length-pack                 the number of bytes
-- Assumes nothing.
use Prim.Native.Nat.{ℕ, zero, suc, ◌+◌, ◌-◌, ◌*◌, ◌%◌, ◌≤◌, ◌<◌, ◌^◌, min}
use mathlib.Core.Path.{◌≡◌, refl, sym, ap, ap₂, ◌∙◌}
use mathlib.Core.List.{List, [], ◌∷◌, ◌++◌}
use native.Mathlib.Omega.{arith}
use native.Mathlib.Numerals.{add-one}
use native.Mathlib.Nat.{zero-min, min-zero, suc-min-suc, suc-sub-suc, sub-zero, zero-sub}
use lib.ListN.{length, set, take, drop, get_or, length-drop, drop_of_length-le}
use lib.Seq.{sets, drop-cons, drop-drop, length-take-le, get_or-take, get_or-drop, take-nil}
use Rattle.text_lines.proofs.Storing.{sets-append}
use Rattle.text_kit_fill.specs.Bytes.{lows}
use Rattle.text.proofs.Bytes.{length-pack}
use Rattle.text.specs.KitReader.{binary, pack}

-- at most eight bits make a byte
binary-small : (k : ℕ) (l : List ℕ) → length l ≤ k → binary (lows l) < 2 ^ k
unfolding binary lows
binary-small k [] h = lib.Pow.pow_pos k
binary-small zero (c ∷ l) h = absurd (omega arith)
binary-small (suc k) (c ∷ l) h = let i = binary-small k l (omega arith) in omega arith

module _ (s : List ℕ) (at c : ℕ) (small : c ≤ 8) (room : at + c ≤ length s) where
  part_length : length (take c (drop at s)) ≡ c
  part_length = length-take-le c (drop at s) (omega (arith, length-drop at s))

  pub gather_byte : (k : ℕ) → binary (lows (drop k (take c (drop at s)))) < 256
  gather_byte k = binary-small 8 (drop k (take c (drop at s))) (omega (arith, length-drop k (take c (drop at s)), part_length))

  pub gather_none : 0 ≡ binary (lows (drop c (take c (drop at s))))
  unfolding binary lows
  gather_none = rw (drop_of_length-le (take c (drop at s)) {i = c} (omega (arith, part_length)))

  pub gather_more : (k : ℕ) → k < c → binary (lows (drop (suc k) (take c (drop at s)))) * 2 + get_or s (at + k) 0 % 2 ≡ binary (lows (drop k (take c (drop at s))))
  unfolding binary lows
  gather_more k h =
      let e : get_or (take c (drop at s)) k 0 ≡ get_or s (at + k) 0 = get_or-take c (drop at s) k 0 h ∙ get_or-drop at s k 0 in
      rw (drop-cons (take c (drop at s)) k 0 (omega (arith, part_length)), e) (omega arith)

  pub gather_step : (k v b : ℕ) → 0 < k → k ≤ c → v ≡ binary (lows (drop k (take c (drop at s)))) → b ≡ get_or s (at + (k - 1)) 0 % 2
      → (v * 2 + b < 256) × (v * 2 + b ≡ binary (lows (drop (k - 1) (take c (drop at s)))))
  gather_step k v b p h e f =
      let j : ℕ = k - 1 in
      let z : suc j ≡ k = omega arith in
      let g : v ≡ binary (lows (drop (suc j) (take c (drop at s)))) = e ∙ ap (λ (i : ℕ). binary (lows (drop i (take c (drop at s))))) (sym z) in
      let i : v * 2 + b ≡ binary (lows (drop j (take c (drop at s)))) = ap₂ (λ (x y : ℕ). x * 2 + y) g f ∙ gather_more j (omega arith) in
      (omega (arith, gather_byte j), i)

-- one byte more
pack_snoc : (b : ℕ) (vs : List ℕ) → pack (suc b) vs ≡ pack b vs ++ (binary (take 8 (drop (b * 8) vs)) ∷ [])
unfolding pack
pack_snoc zero vs = refl
pack_snoc (suc b) vs =
    let e : 8 + b * 8 ≡ suc b * 8 = omega arith in
    ap (λ (l : List ℕ). binary (take 8 vs) ∷ l)
    (pack_snoc b (drop 8 vs) ∙ ap (λ (l : List ℕ). pack b (drop 8 vs) ++ (binary (take 8 l) ∷ [])) (drop-drop (b * 8) 8 vs ∙ ap (λ (k : ℕ). drop k vs) e))

lows-take : (n : ℕ) (l : List ℕ) → take n (lows l) ≡ lows (take n l)
unfolding lows
lows-take zero l = refl
lows-take (suc n) [] = refl
lows-take (suc n) (x ∷ l) = ap (λ (t : List ℕ). (x % 2) ∷ t) (lows-take n l)

lows-drop : (n : ℕ) (l : List ℕ) → drop n (lows l) ≡ lows (drop n l)
unfolding lows
lows-drop zero l = refl
lows-drop (suc n) [] = refl
lows-drop (suc n) (x ∷ l) = lows-drop n l

-- a part of a part
drop-take : (k n : ℕ) (l : List ℕ) → drop k (take n l) ≡ take (n - k) (drop k l)
drop-take zero n l = ap (λ (i : ℕ). take i l) (sym (sub-zero n))
drop-take (suc k) zero l = ap (λ (i : ℕ). take i (drop (suc k) l)) (sym (zero-sub (suc k)))
drop-take (suc k) (suc n) [] = sym (take-nil (suc n - suc k))
drop-take (suc k) (suc n) (x ∷ l) = drop-take k n l ∙ ap (λ (i : ℕ). take i (drop k l)) (sym (suc-sub-suc n k))

take_min : (m p : ℕ) (l : List ℕ) → take m (take p l) ≡ take (min p m) l
take_min zero p l = ap (λ (i : ℕ). take i l) (sym (min-zero p))
take_min (suc m) zero l = ap (λ (i : ℕ). take i l) (sym (zero-min (suc m)))
take_min (suc m) (suc p) [] = sym (take-nil (min (suc p) (suc m)))
take_min (suc m) (suc p) (x ∷ l) = ap (λ (t : List ℕ). x ∷ t) (take_min m p l) ∙ ap (λ (i : ℕ). take i (x ∷ l)) (sym (suc-min-suc p m))

part-part : (m k n : ℕ) (l : List ℕ) → take m (drop k (take n l)) ≡ take (min (n - k) m) (drop k l)
part-part m k n l = ap (take m) (drop-take k n l) ∙ take_min m (n - k) (drop k l)

module _ (s : List ℕ) (at n : ℕ) (o : List ℕ) (from b c v : ℕ) (ec : c ≡ min (n - b * 8) 8) (ev : v ≡ binary (lows (take c (drop (at + b * 8) s)))) (room : at + b * 8 + c ≤ length s) where
  byte-is : v ≡ binary (take 8 (drop (b * 8) (lows (take n (drop at s)))))
  byte-is =
      ev ∙ ap (λ (i : ℕ). binary (lows (take i (drop (at + b * 8) s)))) ec
      ∙ ap (λ (l : List ℕ). binary (lows (take (min (n - b * 8) 8) l))) (sym (drop-drop (b * 8) at s))
      ∙ ap (λ (l : List ℕ). binary (lows l)) (sym (part-part 8 (b * 8) n (drop at s)))
      ∙ ap binary (sym (lows-take 8 (drop (b * 8) (take n (drop at s)))))
      ∙ ap (λ (l : List ℕ). binary (take 8 l)) (sym (lows-drop (b * 8) (take n (drop at s))))

  small : v < 256
  small = rw ev (binary-small 8 (take c (drop (at + b * 8) s)) (omega (arith, length-take-le c (drop (at + b * 8) s) (omega (arith, length-drop (at + b * 8) s)))))

  pub pack-more : set (sets o from (pack b (lows (take n (drop at s))))) (from + b) (v % 256) ≡ sets o from (pack (b + 1) (lows (take n (drop at s))))
  pack-more =
      let w : List ℕ = lows (take n (drop at s)) in
      let e : v % 256 ≡ binary (take 8 (drop (b * 8) w)) = mod-small small ∙ byte-is in
      ap (λ (k : ℕ). set (sets o from (pack b w)) (from + k) (v % 256)) (sym (length-pack b w))
      ∙ sym (sets-append (pack b w) ((v % 256) ∷ []) o from)
      ∙ ap (λ (k : ℕ). sets o from (pack b w ++ (k ∷ []))) e
      ∙ ap (sets o from) (sym (pack_snoc b w))
      ∙ ap (λ (k : ℕ). sets o from (pack k w)) (sym (add-one b))
    where
      mod-small : v < 256 → v % 256 ≡ v
      mod-small h = omega arith

pub pack-none : (o : List ℕ) (from : ℕ) (w : List ℕ) → o ≡ sets o from (pack 0 w)
unfolding pack
pack-none o from w = refl
