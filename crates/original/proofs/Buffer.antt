-- The buffer of an original staircase frame whose old parity is whatever it is: its encoding is that of the buffer with its parity zeroed, and the
-- theorems of proofs/Rows.antt hold of it.
--   column-mod                                  the column of a byte
--   cleared-length, cleared-info, cleared-bits  the buffer with its parity zeroed
--   encoded_old, encoded-cleared                old parity plays no part
--   encoded-length, encoded-bits, encoded-info  the encoding's length, that it is of bits, and that it keeps the information
--   encoded_in_code, encoded-only, encoded-reach, encoded-restored   the theorems
-- Assumes nothing.
use mathlib.Core.Path.{◌≡◌, refl, sym, ap, ◌∙◌, subst}
use mathlib.Core.Bool.{Bool, true, false, cond}
use mathlib.Core.List.{List, [], ◌∷◌}
use Prim.Native.Nat.{ℕ, ◌-◌, ◌*◌, ◌/◌, ◌%◌, ◌^◌, ◌<◌}
use native.Mathlib.Nat.{mod-mod_of_dvd, dvd-mul_right, zero-lt-suc, suc-ne-zero}
use native.Mathlib.Decide.{dec_lt}
use native.Mathlib.Omega.{arith}
use lib.ListN.{length, get_or, get_or-eq_default}
use lib.Seq.{ext_get_or}
use borrow.Author.Tests.{lt-ltb, le-ltb}
use Rattle.bch.specs.Polynomial.{Bits}
use Rattle.staircase.specs.Design.{Params}
use Rattle.staircase.specs.Frame.{Frame, Site, Word, bit_at, in_code}
use Rattle.staircase.specs.Frame.Site.{unsent, in_info, in_red}
use Rattle.original.specs.Systematic.{Systematic, whole, encode_each}
use Rattle.original.specs.Frame.{row_of, rows, row_sites, row_words, buffer_of, encoded}
use Rattle.original.specs.Rules.{in_information}
use Rattle.original.specs.Steps.{cleared}
use Rattle.original.specs.Demand.{InfoBits, SameInfo, SameInfoBefore}
use Rattle.staircase.proofs.Tabulate.{tabulate-length, tabulate-at}
use Rattle.staircase.proofs.Member.{In, in_map}
use Rattle.staircase.proofs.Flip.{bit_at-bits}
use Rattle.original.proofs.Encoder.{Alike, encode_old, encode_each_alike, encode_each-binary, later_other}
use Rattle.original.proofs.Rows.{corner, each_row, rows-after, row_among, rows_fresh, among-rows, in_end, rows_in_code, parity-only, rows-reach}

pub column-mod : (s : Params) (k : ℕ) → k % (s.M * s.M) % s.M ≡ k % s.M
column-mod s k = mod-mod_of_dvd s.M k (dvd-mul_right s.M s.M)

module _ (s : Params) (l : List ℕ) where
  pub cleared-length : length (cleared s l) ≡ length l
  unfolding cleared
  cleared-length = tabulate-length (length l) (λ k. cond (in_information s k) (get_or l k 0) 0)

  pub cleared_at : (k : ℕ) → k < length l → get_or (cleared s l) k 0 ≡ cond (in_information s k) (get_or l k 0) 0
  unfolding cleared
  cleared_at k h = tabulate-at (length l) (λ k. cond (in_information s k) (get_or l k 0) 0) 0 k h

  pub cleared-info : (k : ℕ) → k % s.M < s.M - s.r → get_or (cleared s l) k 0 ≡ get_or l k 0
  cleared-info k c = go (dec_lt k (length l))
    where
      go : Dec (k < length l) → get_or (cleared s l) k 0 ≡ get_or l k 0
      go (yes h) = cleared_at k h ∙ ap (λ (b : Bool). cond b (get_or l k 0) 0) (lt-ltb (k % s.M) (s.M - s.r) c)
      go (no h) =
          get_or-eq_default (cleared s l) 0 {n = k} (omega (arith, h, cleared-length)) ∙ sym (get_or-eq_default l 0 {n = k} (omega (arith, h)))

  pub cleared-bits : InfoBits s l → Bits (cleared s l)
  cleared-bits h k = go (dec_lt k (length l)) (dec_lt (k % s.M) (s.M - s.r))
    where
      go : Dec (k < length l) → Dec (k % s.M < s.M - s.r) → get_or (cleared s l) k 0 < 2
      go (no o) c = subst (λ (n : ℕ). n < 2) (sym (get_or-eq_default (cleared s l) 0 {n = k} (omega (arith, o, cleared-length)))) (zero-lt-suc 1)
      go (yes i) (yes c) = subst (λ (n : ℕ). n < 2) (sym (cleared-info k c)) (h k c)
      go (yes i) (no c) =
          subst (λ (n : ℕ). n < 2) (sym (cleared_at k i ∙ ap (λ (b : Bool). cond b (get_or l k 0) 0) (le-ltb (k % s.M) (s.M - s.r) (omega (arith, c))))) (zero-lt-suc 1)

module _ (s : Params) (rpos : 0 < s.r) (thin : s.r < s.M) (deg : s.g / 2 ^ s.r ≡ 1) (L : ℕ) where
  -- a byte that is no parity site
  off_parity : (k : ℕ) → k < L * (s.M * s.M) → ((w : Systematic) → In w (rows s L) → ¬ In (in_info k) w.end) → k % s.M < s.M - s.r
  off_parity k hk n = go (dec_lt (k % s.M) (s.M - s.r))
    where
      go : Dec (k % s.M < s.M - s.r) → k % s.M < s.M - s.r
      go (yes c) = c
      go (no c) =
          absurd (n (row_of s (k / (s.M * s.M)) (k % (s.M * s.M) / s.M)) (among-rows s rpos thin deg L k hk)
          (in_end s rpos thin deg L k hk (omega (arith, c, column-mod s k))))

  frame-info : (f g : Frame) → ((y : Site) → bit_at f y ≡ bit_at g y) → length f.info ≡ length g.info → f.info ≡ g.info
  frame-info f g h e = ext_get_or 0 f.info g.info e (λ k l. h (in_info k))

  -- ---- old parity plays no part

  module _ (l : List ℕ) (long : length l ≡ L * (s.M * s.M)) where
    encoded_alike : Alike (buffer_of l) (encode_each (buffer_of l) (rows s L))
    encoded_alike = encode_each_alike (rows s L) (buffer_of l) (rows_fresh s rpos thin deg L (buffer_of l) long)

    pub encoded-length : length (encoded s L l) ≡ length l
    unfolding encoded
    encoded-length = encoded_alike.info_same

    pub encoded_old : (v : List ℕ) → length v ≡ length l → SameInfo s l v → encoded s L l ≡ encoded s L v
    unfolding encoded
    encoded_old v lv same =
        let long' : length v ≡ L * (s.M * s.M) = lv ∙ long in
        let p = encode_each_alike (rows s L) (buffer_of v) (rows_fresh s rpos thin deg L (buffer_of v) long') in
        frame-info (encode_each (buffer_of l) (rows s L)) (encode_each (buffer_of v) (rows s L))
        (encode_old (rows s L) (rows-after s rpos thin deg L) (buffer_of l) (buffer_of v) (rows_fresh s rpos thin deg L (buffer_of l) long)
        (rows_fresh s rpos thin deg L (buffer_of v) long') off)
        (encoded_alike.info_same ∙ sym lv ∙ sym p.info_same)
      where
        info : (k : ℕ) → ((w : Systematic) → In w (rows s L) → ¬ In (in_info k) w.end) → Dec (k < L * (s.M * s.M)) → get_or l k 0 ≡ get_or v k 0
        info k n (yes h) = same k (off_parity k h n)
        info k n (no h) = get_or-eq_default l 0 {n = k} (omega (arith, h, long)) ∙ sym (get_or-eq_default v 0 {n = k} (omega (arith, h, long, lv)))

        off : (y : Site) → ((w : Systematic) → In w (rows s L) → ¬ In y w.end) → bit_at (buffer_of l) y ≡ bit_at (buffer_of v) y
        off unsent n = refl
        off (in_info k) n = info k n (dec_lt k (L * (s.M * s.M)))
        off (in_red k) n = refl

    pub encoded-cleared : encoded s L l ≡ encoded s L (cleared s l)
    encoded-cleared = encoded_old (cleared s l) (cleared-length s l) (λ k c. sym (cleared-info s l k c))

    -- "the encoder writes only their last r columns"
    pub encoded-info : SameInfo s (encoded s L l) l
    unfolding encoded
    encoded-info k c =
        later_other (rows s L) (buffer_of l) (rows_fresh s rpos thin deg L (buffer_of l) long) (in_info k)
        (each_row s rpos thin deg L (λ w. ¬ In (in_info k) w.end) (λ b a hb ha i. let z = (corner s rpos thin deg b a ha (in_info k) i).in_column in omega (arith, z, c, column-mod s k)))

  -- ---- the theorems, where the information is bits

  module _ (l : List ℕ) (long : length l ≡ L * (s.M * s.M)) (bits : InfoBits s l) where
    abbrev clean : Frame
    clean = buffer_of (cleared s l)

    clean-bits : (y : Site) → bit_at clean y < 2
    clean-bits = bit_at-bits clean (cleared-bits s l bits) (λ k. zero-lt-suc 1)

    clean-long : length (cleared s l) ≡ L * (s.M * s.M)
    clean-long = cleared-length s l ∙ long

    clean-red : (encode_each clean (rows s L)).red ≡ []
    clean-red = none (encode_each clean (rows s L)).red (encode_each_alike (rows s L) clean (rows_fresh s rpos thin deg L clean clean-long)).red_same
      where
        none : (v : List ℕ) → length v ≡ 0 → v ≡ []
        none [] e = refl
        none (x ∷ v) e = absurd (suc-ne-zero (length v) e)

    -- the frame that is sent
    pub encoded-frame : encode_each (buffer_of (cleared s l)) (rows s L) ≡ buffer_of (encoded s L l)
    unfolding encoded
    encoded-frame = λ i. record { info = sym (encoded-cleared l long) i; red = clean-red i }

    pub encoded-bits : Bits (encoded s L l)
    encoded-bits k =
        subst (λ (f : Frame). get_or f.info k 0 < 2) encoded-frame
        (encode_each-binary (rows s L) clean (rows_fresh s rpos thin deg L clean clean-long) clean-bits (in_info k))

    pub encoded_in_code : (b a : ℕ) → b < L → a < s.M → in_code s (buffer_of (encoded s L l)) (row_sites s b a) ≡ true
    unfolding row_of
    encoded_in_code b a hb ha =
        ap (λ (f : Frame). in_code s f (row_sites s b a)) (sym encoded-frame)
        ∙ rows_in_code s rpos thin deg L clean clean-long refl clean-bits (row_of s b a) (row_among s rpos thin deg L b a hb ha)

    -- "The parity is the only one that makes every row a codeword"
    pub encoded-only : (v : List ℕ) → length v ≡ length l → Bits v → SameInfo s v l
        → ((w : Word) → In w (row_words s L) → in_code w.code (buffer_of v) w.sites ≡ true) → v ≡ encoded s L l
    unfolding row_words
    encoded-only v lv hv same code =
        ap (λ (f : Frame). f.info)
        (parity-only s rpos thin deg L clean clean-long refl clean-bits (buffer_of v) (lv ∙ long) refl (bit_at-bits (buffer_of v) hv (λ k. zero-lt-suc 1))
        (λ k h c. let e : k % s.M < s.M - s.r = omega (arith, c, column-mod s k) in same k e ∙ sym (cleared-info s l k e))
        (λ w i. code (whole w) (in_map whole (rows s L) w i))
        ∙ encoded-frame)

    -- "a changed block may alter its own and every later parity, never an earlier one": blocks before block c + 1
    pub encoded-reach : (v : List ℕ) → length v ≡ length l → (c : ℕ)
        → SameInfoBefore s c l v
        → (k : ℕ) → k < c * (s.M * s.M) → get_or (encoded s L l) k 0 ≡ get_or (encoded s L v) k 0
    unfolding encoded
    encoded-reach v lv c same k h =
        ap (λ (z : List ℕ). get_or z k 0) (encoded-cleared l long)
        ∙ rows-reach s rpos thin deg L clean clean-long refl clean-bits (buffer_of (cleared s v)) (cleared-length s v ∙ lv ∙ long) c
        (λ j hj. agree j hj (dec_lt j (length l))) k h
        ∙ sym (ap (λ (z : List ℕ). get_or z k 0) (encoded-cleared v (lv ∙ long)))
      where
        at : (j : ℕ) → j < c * (s.M * s.M) → Dec (j % s.M < s.M - s.r) → cond (in_information s j) (get_or l j 0) 0 ≡ cond (in_information s j) (get_or v j 0) 0
        at j hj (yes i) = ap (λ (n : ℕ). cond (in_information s j) n 0) (same j hj i)
        at j hj (no i) =
            let e : in_information s j ≡ false = le-ltb (j % s.M) (s.M - s.r) (omega (arith, i)) in
            ap (λ (b : Bool). cond b (get_or l j 0) 0) e ∙ sym (ap (λ (b : Bool). cond b (get_or v j 0) 0) e)

        agree : (j : ℕ) → j < c * (s.M * s.M) → Dec (j < length l) → get_or (cleared s l) j 0 ≡ get_or (cleared s v) j 0
        agree j hj (yes i) = cleared_at s l j i ∙ at j hj (dec_lt (j % s.M) (s.M - s.r)) ∙ sym (cleared_at s v j (omega (arith, i, lv)))
        agree j hj (no i) =
            get_or-eq_default (cleared s l) 0 {n = j} (omega (arith, i, cleared-length s l))
            ∙ sym (get_or-eq_default (cleared s v) 0 {n = j} (omega (arith, i, lv, cleared-length s v)))
