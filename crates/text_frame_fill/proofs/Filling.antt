-- The bits of a judged text, as the code writes them: what is written so far are the values of what is read so far.
--   byte_there                        a fixed byte of a walk that passes is there
--   bit_there, bit_next, bits-all     bits one after the other
--   line_there .. line-filled         the line of a block: its number, its bits, a line feed
--   half_lent, half_filled            a part of a slice with the values of a walk
--   group_there .. both-filled        the line of a group, with the two halves of a slice
--   none_filled, all-filled           lines of one width: before the first and after the last
--   next-given .. next-filled         and the next, into its part of the slice
--   row_passes, row_filled            the lines of blocks
--   group_next                        the lines of groups
-- Assumes nothing.
use Prim.Native.Nat.{ℕ, suc, ◌+◌, ◌-◌, ◌*◌, ◌≤◌, ◌<◌}
use mathlib.Core.Path.{◌≡◌, refl, sym, ap, ap₂, subst, ◌∙◌}
use mathlib.Core.List.{List, [], ◌∷◌, ◌++◌, append_assoc, append-nil}
use mathlib.Core.Logic.{◌⊎◌, inl, inr}
use native.Mathlib.Omega.{arith}
use native.Mathlib.Decide.{dec_lt}
use native.Mathlib.Nat.{zero-mul, add-sub_cancel_left}
use native.Mathlib.Numerals.{add-one}
use borrow.Rule.Slice.PartMut.{put_mid, mid_len, same_len_mid}
use lib.ListN.{length, get_or, set, take, drop, length-append, length-drop}
use lib.Seq.{length-take-le, take_all, take_at, take-suc-set}
use Rattle.text_formats.specs.Format.{Item, byte, bit, dec}
use Rattle.text_formats.specs.Items.{lits, bits, lines_from, bits_line, bits_lines, Walk, stuck, past, prep, walk, onward, values, Passes}
use Rattle.text_formats.proofs.Walking.{prep_nil, prep-prep, walk-append, walk_end, walk_this, walk_other, walk-bit}
use Rattle.text_items.specs.Answers.{step_walk}
use Rattle.text_items.specs.declared.Broken.{Broken}
use Rattle.std.specs.Prelude.{Result, Ok, Err, IsOk}
use Rattle.text_items.proofs.Lines.{bits-end, bits-low, bits-high}
use Rattle.text_formats.proofs.Spelling.{tidy_bits, tidy_bits_line}
use Rattle.text_formats.proofs.Takes.{passed_length, part_takes, line_takes}
use Rattle.text_formats.proofs.Lines.{lines-first, lines-whole, lines_end}
use Rattle.staircase.proofs.Bounds.{stretch-end}
use Rattle.staircase.proofs.Fill.{front_last}
use Rattle.text.specs.FrameText.{group_line, group_lines}
use Rattle.text.proofs.GroupLine.{group_takes, tidy_group_line}

-- ---- walks that pass

stuck-not : (w : Walk) (q : ℕ) → w ≡ stuck q → Passes w → ⊥
stuck-not (stuck r) q e p = p
stuck-not (past ws r) q e p = let z : ◌≡◌ {A = ℕ} 0 1 = cc in omega arith

rest-passes : (w v : Walk) (ws : List ℕ) → w ≡ prep ws v → Passes w → Passes v
rest-passes w (stuck q) ws e p = stuck-not w q e p
rest-passes w (past us q) ws e p = tt

onward-first : (w : Walk) (k : ℕ → Walk) → Passes (onward w k) → Passes w
onward-first (stuck q) k p = p
onward-first (past ws q) k p = tt

first_passes : (is js : List Item) (s : List ℕ) (at : ℕ) → Passes (walk (is ++ js) s at) → Passes (walk is s at)
first_passes is js s at p = onward-first (walk is s at) (λ q. walk js s q) (subst Passes (walk-append is js s at) p)

then_walk : (is js : List Item) (s : List ℕ) (at : ℕ) (ys : List ℕ) (q : ℕ) → past ys q ≡ walk is s at → walk (is ++ js) s at ≡ prep ys (walk js s q)
then_walk is js s at ys q e = walk-append is js s at ∙ ap (λ (w : Walk). onward w (λ r. walk js s r)) (sym e)

then_passes : (is js : List Item) (s : List ℕ) (at : ℕ) (ys : List ℕ) (q : ℕ) → past ys q ≡ walk is s at
    → Passes (walk (is ++ js) s at) → Passes (walk js s q)
then_passes is js s at ys q e p = rest-passes (walk (is ++ js) s at) (walk js s q) ys (then_walk is js s at ys q e) p

-- ---- a fixed byte

pub byte_there : (b : ℕ) (is : List Item) (s : List ℕ) (at : ℕ) → b < 256 → Passes (walk (byte b ∷ is) s at)
    → (at < length s) × (walk (byte b ∷ is) s at ≡ walk is s (at + 1))
byte_there b is s at h p = go (dec_lt at (length s))
  where
    there : at < length s → get_or s at 0 ≡ b ⊎ (get_or s at 0 ≡ b → ⊥) → walk (byte b ∷ is) s at ≡ walk is s (at + 1)
    there l (inl e) = walk_this b is s at l e
    there l (inr n) = absurd (stuck-not (walk (byte b ∷ is) s at) at (walk_other b is s at l n) p)

    same : (x y : ℕ) → Dec (x < y) → Dec (y < x) → x ≡ y ⊎ (x ≡ y → ⊥)
    same x y (yes k) d = inr (λ e. omega arith)
    same x y (no k) (yes l) = inr (λ e. omega arith)
    same x y (no k) (no l) = inl (omega arith)

    go : Dec (at < length s) → (at < length s) × (walk (byte b ∷ is) s at ≡ walk is s (at + 1))
    go (yes l) = (l, there l (same (get_or s at 0) b (dec_lt (get_or s at 0) b) (dec_lt b (get_or s at 0))))
    go (no l) = absurd (stuck-not (walk (byte b ∷ is) s at) at (walk_end b is s at h (omega arith)) p)

-- ---- bits: k of n are written, and w is the walk of all

bits-suc : (n k : ℕ) → k < n → bits (n - k) ≡ bit ∷ bits (n - (k + 1))
bits-suc n k h = let e : n - k ≡ suc (n - (k + 1)) = omega arith in ap bits e

pub record Bit (s : List ℕ) (q : ℕ) : Type 0 where
  pub within : q < length s
  pub low : 48 ≤ get_or s q 0
  pub high : get_or s q 0 ≤ 49

module _ (s : List ℕ) (n k q : ℕ) (out : List ℕ) (w : Walk) (e : w ≡ prep (take k out) (walk (bits (n - k)) s q)) where
  pub bit_there : k < n → Passes w → Bit s q
  bit_there h p = go (dec_lt q (length s))
    where
      here : Passes (walk (bits (n - k)) s q)
      here = rest-passes w (walk (bits (n - k)) s q) (take k out) e p

      go3 : q < length s → 48 ≤ get_or s q 0 → Dec (49 < get_or s q 0) → Bit s q
      go3 l a (yes b) = absurd (stuck-not (walk (bits (n - k)) s q) q (bits-high s n k q h l b) here)
      go3 l a (no b) = record { within = l; low = a; high = omega arith }

      go2 : q < length s → Dec (get_or s q 0 < 48) → Bit s q
      go2 l (yes a) = absurd (stuck-not (walk (bits (n - k)) s q) q (bits-low s n k q h l a) here)
      go2 l (no a) = go3 l (omega arith) (dec_lt 49 (get_or s q 0))

      go : Dec (q < length s) → Bit s q
      go (yes l) = go2 l (dec_lt (get_or s q 0) 48)
      go (no l) = absurd (stuck-not (walk (bits (n - k)) s q) q (bits-end s n k q h (omega arith)) here)

  pub bit_next : k < n → length out ≡ n → Bit s q
      → w ≡ prep (take (k + 1) (set out k (get_or s q 0 - 48))) (walk (bits (n - (k + 1))) s (q + 1))
  bit_next h l b =
      let v : ℕ = get_or s q 0 - 48 in
      let W : Walk = walk (bits (n - (k + 1))) s (q + 1) in
      e ∙ ap (λ (is : List Item). prep (take k out) (walk is s q)) (bits-suc n k h)
      ∙ ap (prep (take k out)) (walk-bit (bits (n - (k + 1))) s q b.within b.low b.high)
      ∙ prep-prep (take k out) (v ∷ []) W
      ∙ ap (λ (z : List ℕ). prep z W) (sym (taken k))
    where
      taken : (j : ℕ) → take (k + 1) (set out k (get_or s q 0 - 48)) ≡ take k out ++ ((get_or s q 0 - 48) ∷ [])
      taken j = rw (add-one k) (take-suc-set out k (get_or s q 0 - 48) (omega arith))

  pub bits-all : n ≤ k → length out ≡ n → past out q ≡ w
  unfolding walk
  bits-all h l =
      let z : n - k ≡ 0 = omega arith in
      sym (e ∙ ap (λ (j : ℕ). prep (take k out) (walk (bits j) s q)) z ∙ ap (λ (y : List ℕ). past y q) (append-nil (take k out) ∙ take_all k out (omega arith)))

pub bits_none : (s : List ℕ) (n q : ℕ) (out : List ℕ) → walk (bits n) s q ≡ prep (take 0 out) (walk (bits (n - 0)) s q)
bits_none s n q out = let e : n ≡ n - 0 = omega arith in ap (λ (k : ℕ). walk (bits k) s q) e ∙ sym (prep_nil (walk (bits (n - 0)) s q))

-- ---- a line: its number, and then parts

-- the digits of p are there, and the walk goes on behind them
module _ (p : ℕ) (is : List Item) (s : List ℕ) (at : ℕ) (ok : Passes (walk (lits (dec p) ++ is) s at)) (x : Result ℕ Broken) (e : step_walk x ≡ walk (lits (dec p)) s at) where
  number_there : IsOk x
  number_there = go x refl
    where
      go : (y : Result ℕ Broken) → x ≡ y → IsOk y
      go (Ok i) f = refl
      go (Err b) f = absurd (stuck-not (walk (lits (dec p)) s at) b.place (sym e ∙ ap step_walk f) (first_passes (lits (dec p)) is s at ok))

  number-walk : (i : ℕ) → x ≡ Ok i → walk (lits (dec p) ++ is) s at ≡ walk is s i
  number-walk i f = then_walk (lits (dec p)) is s at [] i (sym (ap step_walk f) ∙ e) ∙ prep_nil (walk is s i)

-- a line feed closes the line
feed_walk : (is : List Item) (s : List ℕ) (at : ℕ) (ys : List ℕ) (q : ℕ) → Passes (walk (is ++ (byte 10 ∷ [])) s at) → past ys q ≡ walk is s at
    → (q < length s) × (past ys (q + 1) ≡ walk (is ++ (byte 10 ∷ [])) s at)
unfolding walk
feed_walk is s at ys q ok e =
    let b = byte_there 10 [] s q (omega arith) (then_passes is (byte 10 ∷ []) s at ys q e ok) in
    (b.0, sym (then_walk is (byte 10 ∷ []) s at ys q e ∙ ap (prep ys) b.1 ∙ ap (λ (z : List ℕ). past z (q + 1)) (append-nil ys)))

abbrev Part : ℕ → List Item
Part n = byte 32 ∷ bits n

-- the line of a block
module _ (n p : ℕ) (s : List ℕ) (at : ℕ) (ok : Passes (walk (bits_line n p) s at)) (x : Result ℕ Broken) (e : step_walk x ≡ walk (lits (dec p)) s at) where
  pub line_there : IsOk x
  unfolding bits_line
  line_there = number_there p (Part n ++ (byte 10 ∷ [])) s at ok x e

  module _ (i : ℕ) (f : x ≡ Ok i) where
    behind : Passes (walk (Part n ++ (byte 10 ∷ [])) s i)
    unfolding bits_line
    behind = subst Passes (number-walk p (Part n ++ (byte 10 ∷ [])) s at ok x e i f) ok

    pub line-part : Passes (walk (byte 32 ∷ bits n) s i)
    line-part = first_passes (Part n) (byte 10 ∷ []) s i behind

    pub line-filled : (ys : List ℕ) (q : ℕ) → past ys q ≡ walk (byte 32 ∷ bits n) s i → (q < length s) × (past ys (q + 1) ≡ walk (bits_line n p) s at)
    unfolding bits_line
    line-filled ys q g =
        let (l, h) = feed_walk (Part n) s i ys q behind g in
        (l, h ∙ sym (number-walk p (Part n ++ (byte 10 ∷ [])) s at ok x e i f))

-- the line of a group
module _ (n p : ℕ) (s : List ℕ) (at : ℕ) (ok : Passes (walk (group_line n p) s at)) (x : Result ℕ Broken) (e : step_walk x ≡ walk (lits (dec p)) s at) where
  abbrev Second : List Item
  Second = Part n ++ (byte 10 ∷ [])

  pub group_there : IsOk x
  unfolding group_line
  group_there = number_there p (Part n ++ Second) s at ok x e

  module _ (i : ℕ) (f : x ≡ Ok i) where
    first : Passes (walk (Part n ++ Second) s i)
    unfolding group_line
    first = subst Passes (number-walk p (Part n ++ Second) s at ok x e i f) ok

    pub group-own : Passes (walk (byte 32 ∷ bits n) s i)
    group-own = first_passes (Part n) Second s i first

    module _ (ys : List ℕ) (j : ℕ) (g : past ys j ≡ walk (byte 32 ∷ bits n) s i) where
      second : Passes (walk Second s j)
      second = then_passes (Part n) Second s i ys j g first

      group-parity : Passes (walk (byte 32 ∷ bits n) s j)
      group-parity = first_passes (Part n) (byte 10 ∷ []) s j second

      group-filled : (zs : List ℕ) (q : ℕ) → past zs q ≡ walk (byte 32 ∷ bits n) s j → (q < length s) × (past (ys ++ zs) (q + 1) ≡ walk (group_line n p) s at)
      unfolding group_line
      group-filled zs q h =
          let (l, k) = feed_walk (Part n) s j zs q second h in
          (l, ap (prep ys) k ∙ sym (number-walk p (Part n ++ Second) s at ok x e i f ∙ then_walk (Part n) Second s i ys j g))

-- ---- a part of a slice

part_length : (out : List ℕ) (a k : ℕ) → a + k ≤ length out → length (take (a + k - a) (drop a out)) ≡ k
part_length out a k h = mid_len a (a + k) out h ∙ add-sub_cancel_left a k

-- the values of a walk, written from a place on
module _ (s : List ℕ) (at n from : ℕ) (out : List ℕ) (h : from + n ≤ length out) where
  abbrev W : Walk
  W = walk (byte 32 ∷ bits n) s at

  lent : length (take (from + n - from) (drop from out)) ≡ n
  lent = part_length out from n h

  pub half_lent : Passes (walk (byte 32 ∷ bits n) s at) → Passes (walk (byte 32 ∷ bits (length (take (from + n - from) (drop from out)))) s at)
  half_lent p = subst (λ (k : ℕ). Passes (walk (byte 32 ∷ bits k) s at)) (sym lent) p

  pub half_filled : (ys : List ℕ) (q : ℕ) → past ys q ≡ walk (byte 32 ∷ bits (length (take (from + n - from) (drop from out)))) s at
      → (past (values (walk (byte 32 ∷ bits n) s at)) q ≡ walk (byte 32 ∷ bits n) s at)
      × (put_mid from (from + n - from) out ys ≡ take from out ++ (values (walk (byte 32 ∷ bits n) s at) ++ drop n (drop from out)))
  half_filled ys q g =
      let w : past ys q ≡ W = g ∙ ap (λ (k : ℕ). walk (byte 32 ∷ bits k) s at) lent in
      let v : ys ≡ values W = ap values w in (
        ap (λ (z : List ℕ). past z q) (sym v) ∙ w,
        ap₂ (λ (z : List ℕ) (k : ℕ). take from out ++ (z ++ drop k (drop from out))) v (add-sub_cancel_left from n),
      )

-- both halves of a slice
halves : (n : ℕ) (out mid end ys zs : List ℕ) → length out ≡ 2 * n → length ys ≡ n
    → mid ≡ take 0 out ++ (ys ++ drop n (drop 0 out)) → end ≡ take n mid ++ (zs ++ drop n (drop n mid)) → end ≡ ys ++ zs
halves n out mid end ys zs l a d e =
    e ∙ ap (λ (m : List ℕ). take n m ++ (zs ++ drop n (drop n m))) d ∙ front_last ys (drop n out) zs n n a (omega (arith, length-drop n out))

module _ (n p : ℕ) (s : List ℕ) (at : ℕ) (ok : Passes (walk (group_line n p) s at)) (x : Result ℕ Broken) (e : step_walk x ≡ walk (lits (dec p)) s at) (i : ℕ)
    (f : x ≡ Ok i) (j : ℕ) (g : past (values (walk (byte 32 ∷ bits n) s i)) j ≡ walk (byte 32 ∷ bits n) s i) where
  abbrev own : List ℕ
  own = values (walk (byte 32 ∷ bits n) s i)

  abbrev parity : List ℕ
  parity = values (walk (byte 32 ∷ bits n) s j)

  own-length : length own ≡ n
  own-length = passed_length (Part n) s i own j (omega arith, tidy_bits n) g ∙ part_takes n

  pub parity_there : Passes (walk (byte 32 ∷ bits n) s j)
  parity_there = group-parity n p s at ok x e i f own j g

  module _ (q : ℕ) (h : past (values (walk (byte 32 ∷ bits n) s j)) q ≡ walk (byte 32 ∷ bits n) s j) where
    pub feed_there : q < length s
    feed_there = (group-filled n p s at ok x e i f own j g parity q h).0

    pub both-filled : (out mid end : List ℕ) → length out ≡ 2 * n → mid ≡ take 0 out ++ (values (walk (byte 32 ∷ bits n) s i) ++ drop n (drop 0 out))
        → end ≡ take n mid ++ (values (walk (byte 32 ∷ bits n) s j) ++ drop n (drop n mid)) → past end (q + 1) ≡ walk (group_line n p) s at
    both-filled out mid end l a b =
        ap (λ (z : List ℕ). past z (q + 1)) (halves n out mid end own parity l own-length a b)
        ∙ (group-filled n p s at ok x e i f own j g parity q h).1

-- ---- lines, of W values each: i of N are written, and w is the walk of all

pub none_filled : (line : ℕ → List Item) (N W : ℕ) (s : List ℕ) (q : ℕ) (out : List ℕ)
    → walk (lines_from line 1 N) s q ≡ prep (take (0 * W) out) (walk (lines_from line 1 (N - 0)) s q)
none_filled line N W s q out =
    let w : Walk = walk (lines_from line 1 (N - 0)) s q in
    lines-whole line 1 N s q ∙ sym (ap (λ (k : ℕ). prep (take k out) w) (zero-mul W) ∙ prep_nil w)

module _ (line : ℕ → List Item) (W N i : ℕ) (s : List ℕ) (q : ℕ) (out : List ℕ) (w : Walk) (l : length out ≡ N * W)
    (e : w ≡ prep (take (i * W) out) (walk (lines_from line (i + 1) (N - i)) s q)) where
  pub all-filled : N ≤ i → i ≤ N → past out q ≡ w
  all-filled h g =
      let k : i ≡ N = omega arith in
      let t : take (i * W) out ≡ out = ap (λ (j : ℕ). take (j * W) out) k ∙ take_all (N * W) out (omega arith) in
      sym (e ∙ ap (prep (take (i * W) out)) (lines_end line (i + 1) N i s q h) ∙ ap (λ (y : List ℕ). past y q) (append-nil (take (i * W) out) ∙ t))

  module _ (h : i < N) where
    abbrev others : List Item
    others = lines_from line (i + 1 + 1) (N - (i + 1))

    here : w ≡ prep (take (i * W) out) (walk (line (i + 1) ++ others) s q)
    here = e ∙ ap (λ (z : List Item). prep (take (i * W) out) (walk z s q)) (lines-first line (i + 1) N i h)

    fits : i * W + W ≤ length out
    fits = omega (arith, stretch-end i N W h)

    pub next_given : length (take (i * W + W - i * W) (drop (i * W) out)) ≡ W
    next_given = part_length out (i * W) W fits

    pub next_passes : Passes w → Passes (walk (line (i + 1)) s q)
    next_passes p = first_passes (line (i + 1)) others s q (rest-passes w (walk (line (i + 1) ++ others) s q) (take (i * W) out) here p)

    pub next_filled : (ys : List ℕ) (k : ℕ) → length ys ≡ W → past ys k ≡ walk (line (i + 1)) s q
        → (length (put_mid (i * W) (i * W + W - i * W) out ys) ≡ N * W)
        × (w ≡ prep (take ((i + 1) * W) (put_mid (i * W) (i * W + W - i * W) out ys)) (walk (lines_from line (i + 1 + 1) (N - (i + 1))) s k))
    next_filled ys k m g = (
      same_len_mid (i * W) (i * W + W - i * W) out ys (m ∙ sym next_given) ∙ l,
      here ∙ ap (prep (take (i * W) out)) (then_walk (line (i + 1)) others s q ys k g) ∙ prep-prep (take (i * W) out) ys (walk others s k)
          ∙ ap (λ (z : List ℕ). prep z (walk others s k)) (sym taken),
    )
      where
        n : length (take (i * W) out ++ ys) ≡ (i + 1) * W
        n = omega (arith, length-append (take (i * W) out) ys, length-take-le (i * W) out (omega (arith, fits)), m)

        taken : take ((i + 1) * W) (put_mid (i * W) (i * W + W - i * W) out ys) ≡ take (i * W) out ++ ys
        taken = rw (← append_assoc) (take_at (take (i * W) out ++ ys) _ ((i + 1) * W) n)

-- ---- the lines of blocks: a line has as many bits as the part of the slice

module _ (area N i : ℕ) (s : List ℕ) (q : ℕ) (out : List ℕ) (w : Walk) (h : i < N) (l : length out ≡ N * area)
    (e : w ≡ prep (take (i * area) out) (walk (bits_lines area (i + 1) (N - i)) s q)) where
  given : length (take (i * area + area - i * area) (drop (i * area) out)) ≡ area
  given = next_given (bits_line area) area N i s q out w l e h

  pub row_passes : Passes w → Passes (walk (bits_line (length (take (i * area + area - i * area) (drop (i * area) out))) (i + 1)) s q)
  row_passes p =
      subst (λ (k : ℕ). Passes (walk (bits_line k (i + 1)) s q)) (sym given) (next_passes (bits_line area) area N i s q out w l e h p)

  pub row_filled : i < 9999 → (ys : List ℕ) (k : ℕ) → past ys k ≡ walk (bits_line (length (take (i * area + area - i * area) (drop (i * area) out))) (i + 1)) s q
      → (length (put_mid (i * area) (i * area + area - i * area) out ys) ≡ N * area)
      × (w ≡ prep (take ((i + 1) * area) (put_mid (i * area) (i * area + area - i * area) out ys)) (walk (bits_lines area (i + 1 + 1) (N - (i + 1))) s k))
  row_filled b ys k g =
      let f : past ys k ≡ walk (bits_line area (i + 1)) s q = g ∙ ap (λ (j : ℕ). walk (bits_line j (i + 1)) s q) given in
      let m : length ys ≡ area = passed_length (bits_line area (i + 1)) s q ys k (tidy_bits_line area (i + 1) (omega arith)) f ∙ line_takes area (i + 1) in
      next_filled (bits_line area) area N i s q out w l e h ys k m f

-- ---- the lines of groups

module _ (n N i : ℕ) (s : List ℕ) (q : ℕ) (out : List ℕ) (w : Walk) (h : i < N) (l : length out ≡ N * (2 * n))
    (e : w ≡ prep (take (i * (2 * n)) out) (walk (group_lines n (i + 1) (N - i)) s q)) where
  pub group_next : i < 9999 → (ys : List ℕ) (k : ℕ) → past ys k ≡ walk (group_line n (i + 1)) s q
      → (length (put_mid (i * (2 * n)) (i * (2 * n) + 2 * n - i * (2 * n)) out ys) ≡ N * (2 * n))
      × (w ≡ prep (take ((i + 1) * (2 * n)) (put_mid (i * (2 * n)) (i * (2 * n) + 2 * n - i * (2 * n)) out ys)) (walk (group_lines n (i + 1 + 1) (N - (i + 1))) s k))
  group_next b ys k g =
      let m : length ys ≡ 2 * n = passed_length (group_line n (i + 1)) s q ys k (tidy_group_line n (i + 1) (omega arith)) g ∙ group_takes n (i + 1) in
      next_filled (group_line n) (2 * n) N i s q out w l e h ys k m g
