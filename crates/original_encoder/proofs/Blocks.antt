-- The parity of a buffer, written block after block.
--   split-block         the row and the column of a byte of a block
--   rows-cleared, cleared-zero   the buffer with its parity zeroed
--   rows_named          rows written, by other names
--   remainders_long     as many remainders as rows
--   Done                the rows of the first b blocks are codewords, the information is as it was, and the blocks behind are untouched
--   done_next, done_all              one block more, all blocks
-- Assumes nothing.
use mathlib.Core.Path.{◌≡◌, sym, ap, ap₂, ◌∙◌, subst}
use mathlib.Core.Bool.{Bool, true, cond}
use mathlib.Core.Logic.{inl, inr}
use mathlib.Core.List.{List, ◌++◌, map-append}
use Prim.Native.Nat.{ℕ, ◌+◌, ◌-◌, ◌*◌, ◌/◌, ◌%◌, ◌^◌, ◌≤◌, ◌<◌}
use native.Mathlib.Nat.{mod-lt, div-add-mod', div-lt_iff_lt-mul, mul_assoc, add-mul, zero-lt-suc, zero-div}
use native.Mathlib.Decide.{dec_lt}
use native.Mathlib.Omega.{arith}
use lib.Arith.{digits_lt, digits_mod}
use lib.ListN.{length, get_or, replicate, get_or-eq_default}
use lib.Seq.{ext_get_or}
use borrow.Author.Tests.{lt-ltb, le-ltb}
use Rattle.bch.specs.Polynomial.{Bits, remainder}
use Rattle.bch.specs.Code.{is_codeword, parity}
use Rattle.bch.proofs.Systematic.{parity-length, parity_makes}
use Rattle.bch.proofs.PowerSum.{parity-at}
use Rattle.bch.proofs.Bch.{zero_codeword}
use Rattle.staircase.specs.Lists.{tabulate}
use Rattle.staircase.specs.Design.{Params}
use Rattle.staircase.specs.Frame.{Site, Word, bit_at, read, in_code}
use Rattle.staircase.specs.Frame.Site.{in_info}
use Rattle.original.specs.Systematic.{Systematic, whole}
use Rattle.original.specs.Frame.{row_of, rows, row_sites, row_words, buffer_of, encoded}
use Rattle.original.specs.Steps.{cleared}
use Rattle.original.specs.Demand.{SameInfo}
use Rattle.staircase.proofs.Tabulate.{tabulate-length, tabulate-at, tabulate-map, tabulate-same}
use Rattle.staircase.proofs.Member.{In, map_in}
use Rattle.staircase.proofs.Flip.{read_same, bit_at-bits}
use Rattle.original.proofs.Encoder.{read-binary}
use Rattle.original.proofs.Rows.{Own, column-of, own_site, each_row}
use Rattle.original.proofs.Buffer.{column-mod, cleared-length, cleared_at, encoded-only}
use Rattle.words_blocks.proofs.Sums.{zeros_are}
use Rattle.original_encoder.specs.Written.{row_remainders, digit, RowsAt}

-- ---- a byte of a block

module _ (M : ℕ) (pos : 0 < M) where
  pub split-block : (b k : ℕ) → b * (M * M) ≤ k → k < b * (M * M) + M * M
      → (a : ℕ) × (j : ℕ) × (a < M) × (j < M) × (k ≡ b * (M * M) + a * M + j) × (k % M ≡ j)
  split-block b k low high =
      let q : ℕ = k - b * (M * M) in
      let a : ℕ = q / M in
      let j : ℕ = q % M in
      let ha : a < M = (div-lt_iff_lt-mul pos).1 (let h : q < M * M = omega (arith, low, high) in h) in
      let hj : j < M = mod-lt q pos in
      let e : a * M + j ≡ q = div-add-mod' q M in
      let is : k ≡ b * (M * M) + a * M + j = omega (arith, e, low) in
      let flat : b * (M * M) + a * M + j ≡ (b * M + a) * M + j =
      ap (λ (z : ℕ). z + j) (ap (λ (z : ℕ). z + a * M) (sym (mul_assoc b M M)) ∙ sym (add-mul (b * M) a M)) in
      (a, j, ha, hj, is, ap (λ (z : ℕ). z % M) (is ∙ flat) ∙ digits_mod (b * M + a) hj)

-- ---- the parity zeroed

pub rows-cleared : (s : Params) → 0 < s.M → s.r ≤ s.M → (n : ℕ) (l new : List ℕ) → n * s.M ≡ length l → RowsAt n s.M s.r 0 (λ a. 0) l new → new ≡ cleared s l
rows-cleared s pos fits n l new long R =
    ext_get_or 0 new (cleared s l) (R.long ∙ sym (cleared-length s l)) (λ k h. at k (omega (arith, h, R.long)) (dec_lt (k % s.M) (s.M - s.r)))
  where
    place : (k : ℕ) → k ≡ 0 + k / s.M * s.M + k % s.M
    place k = let e : k / s.M * s.M + k % s.M ≡ k = div-add-mod' k s.M in omega (arith, e)

    row : (k : ℕ) → k < length l → k / s.M < n
    row k h = (div-lt_iff_lt-mul pos).1 (omega (arith, h, long))

    at : (k : ℕ) → k < length l → Dec (k % s.M < s.M - s.r) → get_or new k 0 ≡ get_or (cleared s l) k 0
    at k h (yes c) =
        ap (λ (i : ℕ). get_or new i 0) (place k) ∙ R.info (k / s.M) (k % s.M) (row k h) c ∙ ap (λ (i : ℕ). get_or l i 0) (sym (place k))
        ∙ sym (cleared_at s l k h ∙ ap (λ (b : Bool). cond b (get_or l k 0) 0) (lt-ltb (k % s.M) (s.M - s.r) c))
    at k h (no c) =
        let m : k % s.M < s.M = mod-lt k pos in
        let i : ℕ = k % s.M - (s.M - s.r) in
        let e : k ≡ 0 + k / s.M * s.M + (s.M - s.r) + i = omega (arith, place k, c) in
        ap (λ (i : ℕ). get_or new i 0) e ∙ R.digits (k / s.M) i (row k h) (omega (arith, m, c, fits))
        ∙ ap (λ (z : ℕ). z % 2) (zero-div (2 ^ (s.r - 1 - i)))
        ∙ sym (cleared_at s l k h ∙ ap (λ (b : Bool). cond b (get_or l k 0) 0) (le-ltb (k % s.M) (s.M - s.r) (omega (arith, c))))

pub cleared-zero : (s : Params) (l : List ℕ) (k : ℕ) → s.M - s.r ≤ k % s.M → get_or (cleared s l) k 0 ≡ 0
cleared-zero s l k h = go (dec_lt k (length l))
  where
    go : Dec (k < length l) → get_or (cleared s l) k 0 ≡ 0
    go (yes m) = cleared_at s l k m ∙ ap (λ (b : Bool). cond b (get_or l k 0) 0) (le-ltb (k % s.M) (s.M - s.r) h)
    go (no m) = get_or-eq_default (cleared s l) 0 {n = k} (omega (arith, m, cleared-length s l))

-- the same by other names of the sizes and of the numbers
pub rows_named : {n n' r r' at at' : ℕ} {x x' : ℕ → ℕ} {old new : List ℕ} → n ≡ n' → r ≡ r' → at ≡ at' → x ≡ x' → RowsAt n n r at x old new → RowsAt n' n' r' at' x' old new
rows_named {n} {n'} {r} {r'} {at} {at'} {x} {x'} {old} {new} en er ea ex R =
    subst (λ (z : ℕ). RowsAt z z r' at' x' old new) en (subst (λ (z : ℕ). RowsAt n n z at' x' old new) er
    (subst (λ (z : ℕ). RowsAt n n r z x' old new) ea (subst (λ (z : ℕ → ℕ). RowsAt n n r at z old new) ex R)))

pub remainders_long : (s : Params) (l : List ℕ) (b : ℕ) → length (row_remainders s l b) ≡ s.M
unfolding row_remainders
remainders_long s l b = tabulate-length s.M (λ a. remainder s.g s.r (read (buffer_of l) (row_sites s b a)))

-- ---- block after block

-- of a buffer that was c
pub record Done (s : Params) (c : List ℕ) (b : ℕ) (cur : List ℕ) : Type 0 where
  pub same_length : length cur ≡ length c
  pub binary : Bits cur
  pub info : SameInfo s cur c
  pub rest : (k : ℕ) → b * (s.M * s.M) ≤ k → get_or cur k 0 ≡ get_or c k 0
  pub coded : (d a : ℕ) → d < b → a < s.M → in_code s (buffer_of cur) (row_sites s d a) ≡ true

module _ (s : Params) (rpos : 0 < s.r) (thin : s.r < s.M) (deg : s.g / 2 ^ s.r ≡ 1) (L : ℕ) (c : List ℕ) (long : length c ≡ L * (s.M * s.M)) (bits : Bits c)
    (zeros : (k : ℕ) → s.M - s.r ≤ k % s.M → get_or c k 0 ≡ 0) where
  abbrev area : ℕ
  area = s.M * s.M

  Mpos : 0 < s.M
  Mpos = omega (arith, thin)

  module _ (b : ℕ) (hb : b < L) (cur new : List ℕ) (D : Done s c b cur)
      (R : RowsAt s.M s.M s.r (b * (s.M * s.M)) (λ a. get_or (row_remainders s cur b) a 0) cur new) where
    -- each byte
    byte : (k : ℕ) (F : ℕ → Type 0) → F (get_or cur k 0) → ((x : ℕ) → x < 2 → s.M - s.r ≤ k % s.M → b * area ≤ k → k < b * area + area → F x) → F (get_or new k 0)
    byte k F old fresh = go (dec_lt k (b * area)) (dec_lt k (b * area + area))
      where
        inside : b * area ≤ k → k < b * area + area → F (get_or new k 0)
        inside low high = let (a, j, ha, hj, is, col) = split-block s.M Mpos b k low high in row a j ha hj is col (dec_lt j (s.M - s.r))
          where
            row : (a j : ℕ) → a < s.M → j < s.M → k ≡ b * area + a * s.M + j → k % s.M ≡ j → Dec (j < s.M - s.r) → F (get_or new k 0)
            row a j ha hj is col (yes h) =
                subst F (sym (ap (λ (i : ℕ). get_or new i 0) is ∙ R.info a j ha h ∙ ap (λ (i : ℕ). get_or cur i 0) (sym is))) old
            row a j ha hj is col (no h) =
                let i : ℕ = j - (s.M - s.r) in
                let p : k ≡ b * area + a * s.M + (s.M - s.r) + i = omega (arith, is, h) in
                let x : ℕ = digit s.r (get_or (row_remainders s cur b) a 0) i in
                subst F (sym (ap (λ (i : ℕ). get_or new i 0) p ∙ R.digits a i ha (omega (arith, hj, h, thin))))
                (fresh x (mod-lt _ (zero-lt-suc 1)) (omega (arith, col, h)) low high)

        go : Dec (k < b * area) → Dec (k < b * area + area) → F (get_or new k 0)
        go (yes h) d = subst F (sym (R.before k h)) old
        go (no l) (yes h) = inside (omega (arith, l)) h
        go (no l) (no h) = subst F (sym (R.behind k (omega (arith, h)))) old

    new_bits : Bits new
    new_bits k = byte k (λ x. x < 2) (D.binary k) (λ x h col low high. h)

    new_info : SameInfo s new c
    new_info k h = byte k (λ x. x ≡ get_or c k 0) (D.info k h) (λ x hx col low high. absurd (omega (arith, col, h)))

    new_rest : (k : ℕ) → (b + 1) * area ≤ k → get_or new k 0 ≡ get_or c k 0
    new_rest k h =
        let e : (b + 1) * area ≡ b * area + area = add-mul b 1 area ∙ omega arith in
        R.behind k (omega (arith, h, e)) ∙ D.rest k (omega (arith, h, e))

    -- the rows of earlier blocks have no bit of this one
    below : (d i j : ℕ) → d < b → i < s.M → j < s.M → d * area + (i * s.M + j) < b * area
    below d i j hd hi hj = digits_lt hd (digits_lt hi hj)

    -- the information of a row of this block or an earlier one
    own_same : (d a : ℕ) → d ≤ b → a < s.M → (y : Site) → In y (row_of s d a).info → bit_at (buffer_of new) y ≡ bit_at (buffer_of cur) y
    own_same d a hd ha y i = go (own_site s rpos thin deg d a y i)
      where
        go : Own s rpos thin deg d a y → bit_at (buffer_of new) y ≡ bit_at (buffer_of cur) y
        go (inl e) = ap (bit_at (buffer_of new)) e ∙ sym (ap (bit_at (buffer_of cur)) e)
        go (inr (inl (p, j, e, hj, q))) =
            ap (bit_at (buffer_of new)) q ∙ R.before (p * area + (j * s.M + a)) (below p j a (omega (arith, e, hd)) hj ha) ∙ sym (ap (bit_at (buffer_of cur)) q)
        go (inr (inr (j, hj, q))) = ap (bit_at (buffer_of new)) q ∙ beside (dec_lt d b) ∙ sym (ap (bit_at (buffer_of cur)) q)
          where
            beside : Dec (d < b) → get_or new (d * area + (a * s.M + (0 + j))) 0 ≡ get_or cur (d * area + (a * s.M + (0 + j))) 0
            beside (yes h) = R.before (d * area + (a * s.M + (0 + j))) (below d a (0 + j) h ha (omega (arith, hj)))
            beside (no h) =
                let e : d ≡ b = omega (arith, h, hd) in
                let p : d * area + (a * s.M + (0 + j)) ≡ b * area + a * s.M + j = ap (λ (z : ℕ). z * area + (a * s.M + (0 + j))) e ∙ omega arith in
                ap (λ (i : ℕ). get_or new i 0) p ∙ R.info a j ha hj ∙ sym (ap (λ (i : ℕ). get_or cur i 0) p)

    end_read : (l : List ℕ) (d a : ℕ) → read (buffer_of l) (row_of s d a).end ≡ tabulate s.r (λ j. get_or l (d * area + (a * s.M + (s.M - s.r + j))) 0)
    unfolding row_of
    end_read l d a = tabulate-map (bit_at (buffer_of l)) s.r (λ j. in_info (d * area + (a * s.M + (s.M - s.r + j))))

    row_read : (l : List ℕ) (d a : ℕ) → read (buffer_of l) (row_sites s d a) ≡ read (buffer_of l) (row_of s d a).info ++ read (buffer_of l) (row_of s d a).end
    row_read l d a = map-append (bit_at (buffer_of l)) (row_of s d a).info (row_of s d a).end

    earlier_coded : (d a : ℕ) → d < b → a < s.M → in_code s (buffer_of new) (row_sites s d a) ≡ true
    earlier_coded d a hd ha =
        ap (is_codeword s.g s.r)
        (row_read new d a
        ∙ ap₂ (λ (u v : List ℕ). u ++ v)
        (read_same (row_of s d a).info (buffer_of new) (buffer_of cur) (own_same d a (omega (arith, hd)) ha))
        (end_read new d a
        ∙ tabulate-same s.r (λ j. get_or new (d * area + (a * s.M + (s.M - s.r + j))) 0) (λ j. get_or cur (d * area + (a * s.M + (s.M - s.r + j))) 0)
        (λ j h. R.before (d * area + (a * s.M + (s.M - s.r + j))) (below d a (s.M - s.r + j) hd ha (omega (arith, h, thin))))
        ∙ sym (end_read cur d a))
        ∙ sym (row_read cur d a))
        ∙ D.coded d a hd ha

    module _ (a : ℕ) (ha : a < s.M) where
      abbrev u : List ℕ
      u = read (buffer_of cur) (row_of s b a).info

      -- before the block its parity is 0
      end-zero : read (buffer_of cur) (row_of s b a).end ≡ replicate s.r 0
      end-zero =
          end_read cur b a
          ∙ tabulate-same s.r (λ j. get_or cur (b * area + (a * s.M + (s.M - s.r + j))) 0) (λ j. 0)
          (λ j h.
          let k : ℕ = b * area + (a * s.M + (s.M - s.r + j)) in
          let col : k % s.M ≡ s.M - s.r + j = sym (column-mod s k) ∙ column-of s rpos thin deg b a (s.M - s.r + j) ha (omega (arith, h, thin)) in
          D.rest k (omega arith) ∙ zeros k (omega (arith, col)))
          ∙ sym (zeros_are s.r)

      row-remainder : get_or (row_remainders s cur b) a 0 ≡ remainder s.g s.r (u ++ replicate s.r 0)
      unfolding row_remainders
      row-remainder =
          tabulate-at s.M (λ a. remainder s.g s.r (read (buffer_of cur) (row_sites s b a))) 0 a ha
          ∙ ap (remainder s.g s.r) (row_read cur b a ∙ ap (λ (v : List ℕ). u ++ v) end-zero)

      end-parity : read (buffer_of new) (row_of s b a).end ≡ parity s.g s.r u
      end-parity =
          end_read new b a
          ∙ ext_get_or 0 (tabulate s.r e) (parity s.g s.r u) (tabulate-length s.r e ∙ sym (parity-length s.g s.r u))
          (λ j h. each j (subst (λ (n : ℕ). j < n) (tabulate-length s.r e) h))
        where
          e : ℕ → ℕ
          e j = get_or new (b * area + (a * s.M + (s.M - s.r + j))) 0

          each : (j : ℕ) → j < s.r → get_or (tabulate s.r e) j 0 ≡ get_or (parity s.g s.r u) j 0
          each j h =
              tabulate-at s.r e 0 j h
              ∙ ap (λ (i : ℕ). get_or new i 0) (let p : b * area + (a * s.M + (s.M - s.r + j)) ≡ b * area + a * s.M + (s.M - s.r) + j = omega arith in p)
              ∙ R.digits a j ha h ∙ ap (λ (x : ℕ). digit s.r x j) row-remainder
              ∙ sym (parity-at s.g s.r u j h)

      row_coded : in_code s (buffer_of new) (row_sites s b a) ≡ true
      row_coded =
          ap (is_codeword s.g s.r)
          (row_read new b a
          ∙ ap₂ (λ (u v : List ℕ). u ++ v) (read_same (row_of s b a).info (buffer_of new) (buffer_of cur) (own_same b a (omega arith) ha)) end-parity)
          ∙ zero_codeword s.g s.r (u ++ parity s.g s.r u)
          (parity_makes s.g s.r rpos deg u
          (read-binary (buffer_of cur) (bit_at-bits (buffer_of cur) D.binary (λ k. zero-lt-suc 1)) (row_of s b a).info))

    pub done_next : Done s c (b + 1) new
    done_next =
        record {
          same_length = R.long ∙ D.same_length;
          binary = new_bits;
          info = new_info;
          rest = new_rest;
          coded = λ d a hd ha. coded d a hd ha (dec_lt d b);
        }
      where
        coded : (d a : ℕ) → d < b + 1 → a < s.M → Dec (d < b) → in_code s (buffer_of new) (row_sites s d a) ≡ true
        coded d a hd ha (yes h) = earlier_coded d a h ha
        coded d a hd ha (no h) =
            let e : b ≡ d = omega (arith, hd, h) in
            subst (λ (z : ℕ). in_code s (buffer_of new) (row_sites s z a) ≡ true) e (row_coded a ha)

  pub done_all : (cur : List ℕ) → Done s c L cur → cur ≡ encoded s L c
  unfolding row_words row_of
  done_all cur D =
      encoded-only s rpos thin deg L c long (λ k h. bits k) cur D.same_length D.binary D.info
      (λ w i.
      let (v, iv, e) = map_in whole (rows s L) w i in
      subst (λ (w : Word). in_code w.code (buffer_of cur) w.sites ≡ true) (sym e)
      (each_row s rpos thin deg L (λ (v : Systematic). in_code (whole v).code (buffer_of cur) (whole v).sites ≡ true) (λ d a hd ha. D.coded d a hd ha) v iv))
