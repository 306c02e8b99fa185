-- Lines put together from their parts, and their lengths.
--   bits-length .. counts-length   the length of each line
--   put_snoc                       bytes and the byte behind them
--   put-part, last_part            a part and what follows; the last part
--   block-put .. counts-put        the parts of each line, one put behind another, are the line
-- Assumes nothing.
use Prim.Native.Nat.{ℕ, ◌+◌}
use mathlib.Core.Path.{◌≡◌, refl, ap}
use mathlib.Core.List.{List, [], ◌∷◌, ◌++◌}
use native.Mathlib.Omega.{arith}
use lib.ListN.{length, length-append}
use lib.Seq.{sets, append_snoc}
use Rattle.text_formats.specs.Format.{dec}
use Rattle.text_lines.specs.Written.{chars}
use Rattle.text.specs.FrameText.{bits_text, group_line_text}
use Rattle.text.specs.Programs.{refusal_text, refusal_names, counts_text, count_names}
use Rattle.text_lines.proofs.Chars.{length-chars, block-line, group-line}
use Rattle.text_lines.proofs.Storing.{put_then}

-- ---- the lengths

pub snoc_length : (xs : List ℕ) (b : ℕ) → length (xs ++ (b ∷ [])) ≡ length xs + 1
snoc_length xs b = length-append xs (b ∷ [])

-- A part, the byte behind it, and what follows.
part_length : (xs : List ℕ) (b : ℕ) (ys : List ℕ) → length (xs ++ (b ∷ ys)) ≡ length xs + 1 + length ys
part_length xs b ys = omega (arith, length-append xs (b ∷ ys))

pub bits-length : (p : ℕ) (vs : List ℕ) → length (bits_text p vs) ≡ length (dec p) + 2 + length vs
bits-length p vs =
    omega (arith, ap length (block-line p vs), part_length (dec p) 32 (chars vs ++ (10 ∷ [])), snoc_length (chars vs) 10, length-chars vs)

pub group-length : (p : ℕ) (ys ps : List ℕ) → length (group_line_text p ys ps) ≡ length (dec p) + 3 + (length ys + length ps)
group-length p ys ps =
    let first = part_length (dec p) 32 (chars ys ++ (32 ∷ (chars ps ++ (10 ∷ [])))) in
    let second = part_length (chars ys) 32 (chars ps ++ (10 ∷ [])) in
    omega (arith, ap length (group-line p ys ps), first, second, snoc_length (chars ps) 10, length-chars ys, length-chars ps)

pub refusal_length : (rule place : ℕ) → length (refusal_text rule place) ≡ 16 + (length (dec rule) + length (dec place))
unfolding refusal_text
refusal_length rule place = omega (arith, part_length (dec rule) 32 (dec place ++ (10 ∷ [])), snoc_length (dec place) 10)

pub counts-length : (rounds turned outside : ℕ) → length (counts_text rounds turned outside) ≡ 25 +
    (length (dec rounds) + (length (dec turned) + length (dec outside)))
unfolding counts_text
counts-length rounds turned outside =
    let first = part_length (dec rounds) 32 (dec turned ++ (32 ∷ (dec outside ++ (10 ∷ [])))) in
    let second = part_length (dec turned) 32 (dec outside ++ (10 ∷ [])) in
    omega (arith, first, second, snoc_length (dec outside) 10)

-- ---- the parts

-- Each is n bytes with one byte behind them.
pub put_snoc : (o xs : List ℕ) (b at n : ℕ) {o₁ o₂ : List ℕ} {i r : ℕ} → length xs ≡ n → (i ≡ at + n) × (o₁ ≡ sets o at xs)
    → (r ≡ i + 1) × (o₂ ≡ sets o₁ i (b ∷ [])) → (r ≡ at + (n + 1)) × (o₂ ≡ sets o at (xs ++ (b ∷ [])))
put_snoc o xs b at n {o₁} {o₂} {i} {r} e p q =
    let p' : i ≡ at + length xs = omega (arith, p.0, e) in
    (omega (arith, p.0, q.0), (put_then o xs (b ∷ []) at (p', p.1) q).1)

-- A part, and what follows.
pub put-part : (o xs : List ℕ) (b at n : ℕ) (ys : List ℕ) {o₁ o₂ : List ℕ} {i r : ℕ} → length xs ≡ n
    → (i ≡ at + (n + 1)) × (o₁ ≡ sets o at (xs ++ (b ∷ []))) → (r ≡ i + length ys) × (o₂ ≡ sets o₁ i ys)
    → (r ≡ at + length (xs ++ (b ∷ ys))) × (o₂ ≡ sets o at (xs ++ (b ∷ ys)))
put-part o xs b at n ys {o₁} {o₂} {i} {r} e p q =
    let p' : i ≡ at + length (xs ++ (b ∷ [])) = omega (arith, p.0, e, snoc_length xs b) in
    rw (← append_snoc xs b ys) (put_then o (xs ++ (b ∷ [])) ys at (p', p.1) q)

-- A part with nothing behind it.
pub last_part : (xs : List ℕ) (b i n : ℕ) {r : ℕ} → length xs ≡ n → r ≡ i + (n + 1) → r ≡ i + length (xs ++ (b ∷ []))
last_part xs b i n e p = omega (arith, p, e, snoc_length xs b)

pub block-put : (o : List ℕ) (at p : ℕ) (vs : List ℕ) {o₁ o₂ : List ℕ} {i r : ℕ}
    → (i ≡ at + (length (dec p) + 1)) × (o₁ ≡ sets o at (dec p ++ (32 ∷ [])))
    → (r ≡ i + (length vs + 1)) × (o₂ ≡ sets o₁ i (chars vs ++ (10 ∷ [])))
    → (r ≡ at + length (bits_text p vs)) × (o₂ ≡ sets o at (bits_text p vs))
block-put o at p vs {o₁} {o₂} {i} {r} a b =
    rw (block-line p vs)
    (put-part o (dec p) 32 at (length (dec p)) (chars vs ++ (10 ∷ [])) refl a (last_part (chars vs) 10 i (length vs) (length-chars vs) b.0, b.1))

pub group-put : (o : List ℕ) (at p : ℕ) (ys ps : List ℕ) {o₁ o₂ o₃ : List ℕ} {i j r : ℕ}
    → (i ≡ at + (length (dec p) + 1)) × (o₁ ≡ sets o at (dec p ++ (32 ∷ [])))
    → (j ≡ i + (length ys + 1)) × (o₂ ≡ sets o₁ i (chars ys ++ (32 ∷ [])))
    → (r ≡ j + (length ps + 1)) × (o₃ ≡ sets o₂ j (chars ps ++ (10 ∷ [])))
    → (r ≡ at + length (group_line_text p ys ps)) × (o₃ ≡ sets o at (group_line_text p ys ps))
group-put o at p ys ps {o₁} {o₂} {o₃} {i} {j} {r} a b c =
    rw (group-line p ys ps)
    (put-part o (dec p) 32 at (length (dec p)) (chars ys ++ (32 ∷ (chars ps ++ (10 ∷ [])))) refl a
    (put-part o₁ (chars ys) 32 i (length ys) (chars ps ++ (10 ∷ [])) (length-chars ys) b (last_part (chars ps) 10 j (length ps) (length-chars ps) c.0, c.1)))

-- Two numbers behind a line of names, and three.
pub refusal_put : (o : List ℕ) (at rule place : ℕ) {o₁ o₂ o₃ : List ℕ} {i j r : ℕ}
    → (i ≡ at + length refusal_names) × (o₁ ≡ sets o at refusal_names)
    → (j ≡ i + (length (dec rule) + 1)) × (o₂ ≡ sets o₁ i (dec rule ++ (32 ∷ [])))
    → (r ≡ j + (length (dec place) + 1)) × (o₃ ≡ sets o₂ j (dec place ++ (10 ∷ [])))
    → (r ≡ at + length (refusal_text rule place)) × (o₃ ≡ sets o at (refusal_text rule place))
unfolding refusal_text
refusal_put o at rule place {o₁} {o₂} {o₃} {i} {j} {r} a b c =
    put_then o refusal_names (dec rule ++ (32 ∷ (dec place ++ (10 ∷ [])))) at a
    (put-part o₁ (dec rule) 32 i (length (dec rule)) (dec place ++ (10 ∷ [])) refl b (last_part (dec place) 10 j (length (dec place)) refl c.0, c.1))

pub counts-put : (o : List ℕ) (at rounds turned outside : ℕ) {o₁ o₂ o₃ o₄ : List ℕ} {i j k r : ℕ}
    → (i ≡ at + length count_names) × (o₁ ≡ sets o at count_names)
    → (j ≡ i + (length (dec rounds) + 1)) × (o₂ ≡ sets o₁ i (dec rounds ++ (32 ∷ [])))
    → (k ≡ j + (length (dec turned) + 1)) × (o₃ ≡ sets o₂ j (dec turned ++ (32 ∷ [])))
    → (r ≡ k + (length (dec outside) + 1)) × (o₄ ≡ sets o₃ k (dec outside ++ (10 ∷ [])))
    → (r ≡ at + length (counts_text rounds turned outside)) × (o₄ ≡ sets o at (counts_text rounds turned outside))
unfolding counts_text
counts-put o at rounds turned outside {o₁} {o₂} {o₃} {o₄} {i} {j} {k} {r} a b c d =
    put_then o count_names (dec rounds ++ (32 ∷ (dec turned ++ (32 ∷ (dec outside ++ (10 ∷ [])))))) at a
    (put-part o₁ (dec rounds) 32 i (length (dec rounds)) (dec turned ++ (32 ∷ (dec outside ++ (10 ∷ [])))) refl b
    (put-part o₂ (dec turned) 32 j (length (dec turned)) (dec outside ++ (10 ∷ [])) refl c (last_part (dec outside) 10 k (length (dec outside)) refl d.0, d.1)))
