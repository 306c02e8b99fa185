-- Original staircase frames of bits: the parity is the only one that makes every row a codeword, and a changed block alters its own and later parity
-- only.
--   rows_in_code, parity-only, rows-reach       every row a codeword, by no other parity; what a changed block alters
--   rows-sound, rows_cover                      what correcting such a frame asks of it
--   row_distance                                the code of a design
-- Assumes nothing.
use mathlib.Core.Path.{◌≡◌, refl, sym, ap, ◌∙◌, subst}
use mathlib.Core.Bool.{true}
use mathlib.Core.Logic.{◌≢◌, ◌⊎◌, inl, inr}
use mathlib.Core.List.{List, [], ◌∷◌, ◌++◌}
use Prim.Native.Nat.{ℕ, zero, suc, ◌+◌, ◌-◌, ◌*◌, ◌/◌, ◌%◌, ◌^◌, ◌≤◌, ◌<◌}
use native.Mathlib.Nat.{mul-le-mul_right, mod-lt, div-add-mod', mul-pos, zero-lt-suc, div-lt_iff_lt-mul}
use native.Mathlib.Decide.{dec_lt}
use native.Mathlib.Omega.{arith}
use lib.Arith.{digits_lt, digits_div, digits_mod}
use lib.ListN.{length, get_or, get_or-eq_default}
use lib.Seq.{ext_get_or}
use Rattle.bch.proofs.Bch.{degree, bch_bound}
use Rattle.staircase.specs.Lists.{tabulate, concat}
use Rattle.staircase.specs.Design.{Params, params}
use Rattle.staircase.specs.Frame.{Frame, Site, Word, bit_at, in_code}
use Rattle.staircase.specs.Frame.Site.{unsent, in_info, in_red}
use Rattle.original.specs.Systematic.{Systematic, whole, encode_each}
use Rattle.original.specs.Frame.{block_site, row_of, rows, row_words}
use Rattle.staircase.proofs.Tabulate.{tabulate-length}
use Rattle.staircase.proofs.Member.{In, in_left, in_right, in_cases, in_tabulate, in_concat, in_map, tabulate_in, concat_in, map_in}
use Rattle.staircase.proofs.Flip.{Within}
use Rattle.staircase.proofs.Occurrences.{Single}
use Rattle.staircase.proofs.Correction.{CodeDistance, Sound, Covers}
use Rattle.original.proofs.Crossing.{row-length}
use Rattle.original.proofs.Encoder.{Fresh, After, Alike, encode_in_code, encode-only, encode-reach, encode_each_alike}

-- ---- the order of words in lists of lists

-- no parity site of v in w
abbrev pub Clear : Systematic → Systematic → Type 0
Clear w v = (y : Site) → In y v.end → ¬ In y (w.info ++ w.end)

after-append : (u v : List Systematic) → After u → After v → ((x z : Systematic) → In x u → In z v → Clear x z) → After (u ++ v)
after-append [] v p q h = q
after-append (x ∷ u) v p q h = (λ z i. go z (in_cases z u v i), after-append u v p.1 q (λ a b i j. h a b (inr i) j))
  where
    go : (z : Systematic) → In z u ⊎ In z v → Clear x z
    go z (inl i) = p.0 z i
    go z (inr i) = h x z (inl refl) i

pub after-tabulate : (n : ℕ) (f : ℕ → Systematic) → ((i j : ℕ) → i < j → j < n → Clear (f i) (f j)) → After (tabulate n f)
unfolding tabulate
after-tabulate zero f h = tt
after-tabulate (suc n) f h = (
  λ z i. let t = tabulate_in n (λ k. f (suc k)) z i in subst (λ (v : Systematic). Clear (f zero) v) (sym t.2) (h zero (suc t.0) (zero-lt-suc t.0) (let l = t.1 in omega (arith, l))),
  after-tabulate n (λ k. f (suc k)) (λ i j l k. h (suc i) (suc j) (omega (arith, l)) (omega (arith, k))),
)

after-concat : (n : ℕ) (F : ℕ → List Systematic) → ((b : ℕ) → b < n → After (F b))
    → ((b c : ℕ) → b < c → c < n → (x z : Systematic) → In x (F b) → In z (F c) → Clear x z) → After (concat n F)
unfolding concat
after-concat zero F own cross = tt
after-concat (suc n) F own cross =
    after-append (F zero) (concat n (λ k. F (suc k))) (own zero (zero-lt-suc n))
    (after-concat n (λ k. F (suc k)) (λ b l. own (suc b) (omega (arith, l))) (λ b c l k. cross (suc b) (suc c) (omega (arith, l)) (omega (arith, k))))
    (λ x z i j. let t = concat_in n (λ k. F (suc k)) z j in cross zero (suc t.0) (zero-lt-suc t.0) (let l = t.1 in omega (arith, l)) x z i t.2)

module _ (s : Params) (rpos : 0 < s.r) (thin : s.r < s.M) (deg : s.g / 2 ^ s.r ≡ 1) where
  abbrev pub area : ℕ
  area = s.M * s.M

  -- a bit of block b + 1
  abbrev pub spot : ℕ → ℕ → ℕ → Site
  spot b i j = in_info (b * area + (i * s.M + j))

  abbrev pub index : Site → ℕ
  index unsent = 0
  index (in_info k) = k
  index (in_red k) = 0

  abbrev pub block : Site → ℕ
  block y = index y / area

  abbrev pub row : Site → ℕ
  row y = index y % area / s.M

  abbrev pub column : Site → ℕ
  column y = index y % area % s.M

  block_of : (b i j : ℕ) → i < s.M → j < s.M → block (spot b i j) ≡ b
  block_of b i j hi hj = digits_div b (digits_lt hi hj)

  row-of : (b i j : ℕ) → i < s.M → j < s.M → row (spot b i j) ≡ i
  row-of b i j hi hj = ap (λ (z : ℕ). z / s.M) (digits_mod b (digits_lt hi hj)) ∙ digits_div i hj

  pub column-of : (b i j : ℕ) → i < s.M → j < s.M → column (spot b i j) ≡ j
  column-of b i j hi hj = ap (λ (z : ℕ). z % s.M) (digits_mod b (digits_lt hi hj)) ∙ digits_mod i hj

  -- where the sites of a word are: unsent, in the block before, in its own block
  abbrev pub Above : ℕ → ℕ → Site → Type 0
  Above b a y = (c : ℕ) × (j : ℕ) × (b ≡ suc c) × (j < s.M) × (y ≡ spot c j a)

  abbrev pub Beside : ℕ → ℕ → ℕ → ℕ → Site → Type 0
  Beside b a from n y = (j : ℕ) × (j < n) × (y ≡ spot b a (from + j))

  abbrev pub Own : ℕ → ℕ → Site → Type 0
  Own b a y = (y ≡ unsent) ⊎ (Above b a y ⊎ Beside b a 0 (s.M - s.r) y)

  above_site : (b a : ℕ) (j : ℕ) → j < s.M → (y : Site) → y ≡ block_site s b (j * s.M + a) → Own b a y
  above_site zero a j h y e = inl e
  above_site (suc c) a j h y e = inr (inl (c, j, refl, h, e))

  pub own_site : (b a : ℕ) (y : Site) → In y (row_of s b a).info → Own b a y
  unfolding row_of
  own_site b a y i = go (in_cases y (tabulate s.M (λ j. block_site s b (j * s.M + a))) (tabulate (s.M - s.r) (λ j. block_site s (suc b) (a * s.M + j))) i)
    where
      go : In y (tabulate s.M (λ j. block_site s b (j * s.M + a))) ⊎ In y (tabulate (s.M - s.r) (λ j. block_site s (suc b) (a * s.M + j))) → Own b a y
      go (inl k) = let t = tabulate_in s.M (λ j. block_site s b (j * s.M + a)) y k in above_site b a t.0 t.1 y t.2
      go (inr k) =
          let t = tabulate_in (s.M - s.r) (λ j. block_site s (suc b) (a * s.M + j)) y k in
          inr (inr (t.0, t.1, t.2 ∙ ap (λ (z : ℕ). in_info (b * area + (a * s.M + z))) (omega arith)))

  end_site : (b a : ℕ) (y : Site) → In y (row_of s b a).end → Beside b a (s.M - s.r) s.r y
  unfolding row_of
  end_site b a y i = let t = tabulate_in s.r (λ j. block_site s (suc b) (a * s.M + (s.M - s.r + j))) y i in (t.0, t.1, t.2)

  -- the coordinates of a parity site
  pub record Corner (b a : ℕ) (y : Site) : Type 0 where
    pub sent : y ≢ unsent
    pub in_block : block y ≡ b
    pub in_row : row y ≡ a
    pub in_column : s.M - s.r ≤ column y

  not-unsent : (k : ℕ) → in_info k ≢ unsent
  not-unsent k e = subst told e tt
    where
      told : Site → Type 0
      told unsent = ⊥
      told (in_info k) = Unit {0}
      told (in_red k) = Unit {0}

  pub corner : (b a : ℕ) → a < s.M → (y : Site) → In y (row_of s b a).end → Corner b a y
  corner b a ha y i =
      let (j, hj, e) = end_site b a y i in
      let col : s.M - s.r + j < s.M = omega (arith, hj, thin) in
      record {
        sent = λ q. not-unsent (b * area + (a * s.M + (s.M - s.r + j))) (sym e ∙ q);
        in_block = ap block e ∙ block_of b a (s.M - s.r + j) ha col;
        in_row = ap row e ∙ row-of b a (s.M - s.r + j) ha col;
        in_column = let q : column y ≡ s.M - s.r + j = ap column e ∙ column-of b a (s.M - s.r + j) ha col in omega (arith, q);
      }

  -- a site of a word is at no corner of another word of the same or a later block
  own_clear : (b a : ℕ) → a < s.M → (y : Site) → In y (row_of s b a).info → (c e : ℕ) → b ≤ c → Corner c e y → ⊥
  own_clear b a ha y i c e l k = go (own_site b a y i)
    where
      go : Own b a y → ⊥
      go (inl q) = k.sent q
      go (inr (inl (d, j, eb, hj, q))) = let z : block y ≡ d = ap block q ∙ block_of d j a hj ha in omega (arith, z, k.in_block, eb, l)
      go (inr (inr (j, hj, q))) =
          let col : 0 + j < s.M = omega (arith, hj) in
          let z : column y ≡ 0 + j = ap column q ∙ column-of b a (0 + j) ha col in
          omega (arith, z, k.in_column, hj)

  pub clear : (b a c e : ℕ) → a < s.M → e < s.M → b ≤ c → (b ≡ c → a ≢ e) → Clear (row_of s b a) (row_of s c e)
  clear b a c e ha he l d y i w =
      let k = corner c e he y i in
      go k (in_cases y (row_of s b a).info (row_of s b a).end w)
    where
      go : Corner c e y → In y (row_of s b a).info ⊎ In y (row_of s b a).end → ⊥
      go k (inl o) = own_clear b a ha y o c e l k
      go k (inr o) = let m = corner b a ha y o in d (sym m.in_block ∙ k.in_block) (sym m.in_row ∙ k.in_row)

  pub rows-after : (L : ℕ) → After (rows s L)
  unfolding rows
  rows-after L =
      after-concat L (λ b. tabulate s.M (row_of s b))
      (λ b hb. after-tabulate s.M (row_of s b) (λ i j l h. clear b i b j (omega (arith, l, h)) h (omega arith) (λ q e. omega (arith, l, e))))
      (λ b c l hc x z i j.
      let p = tabulate_in s.M (row_of s b) x i in
      let q = tabulate_in s.M (row_of s c) z j in
      subst (λ (v : Systematic). Clear v z) (sym p.2) (subst (λ (v : Systematic). Clear (row_of s b p.0) v) (sym q.2)
      (clear b p.0 c q.0 p.1 q.1 (omega (arith, l)) (λ e. absurd (omega (arith, l, e))))))

  -- each word
  pub each_row : (L : ℕ) (F : Systematic → Type 0) → ((b a : ℕ) → b < L → a < s.M → F (row_of s b a)) → (w : Systematic) → In w (rows s L) → F w
  unfolding rows
  each_row L F h w i =
      let p = concat_in L (λ b. tabulate s.M (row_of s b)) w i in
      let q = tabulate_in s.M (row_of s p.0) w p.2 in
      subst F (sym q.2) (h p.0 q.0 p.1 q.1)

  single_tabulate : (n : ℕ) (f : ℕ → Site) → ((j k : ℕ) → j < n → k < n → f j ≡ f k → j ≡ k) → Single (tabulate n f)
  unfolding tabulate
  single_tabulate zero f h = tt
  single_tabulate (suc n) f h = (
    λ i. let t = tabulate_in n (λ k. f (suc k)) (f zero) i in let z = h zero (suc t.0) (zero-lt-suc n) (let l = t.1 in omega (arith, l)) t.2 in omega (arith, z),
    single_tabulate n (λ k. f (suc k)) (λ j k l m e. let z = h (suc j) (suc k) (omega (arith, l)) (omega (arith, m)) e in omega (arith, z)),
  )

  end_single : (b a : ℕ) → a < s.M → Single (row_of s b a).end
  unfolding row_of
  end_single b a ha =
      single_tabulate s.r (λ j. block_site s (suc b) (a * s.M + (s.M - s.r + j)))
      (λ j k hj hk e.
      let p = column-of b a (s.M - s.r + j) ha (omega (arith, hj, thin)) in
      let q = column-of b a (s.M - s.r + k) ha (omega (arith, hk, thin)) in
      let z : column (spot b a (s.M - s.r + j)) ≡ column (spot b a (s.M - s.r + k)) = ap column e in
      omega (arith, sym p ∙ z ∙ q))

  end-length : (b a : ℕ) → length (row_of s b a).end ≡ s.r
  unfolding row_of
  end-length b a = tabulate-length s.r (λ j. block_site s (suc b) (a * s.M + (s.M - s.r + j)))

  code_is : (b a : ℕ) → (row_of s b a).code ≡ s
  unfolding row_of
  code_is b a = refl

  spot_below : (L b i j : ℕ) → b < L → i < s.M → j < s.M → b * area + (i * s.M + j) < L * area
  spot_below L b i j hb hi hj = digits_lt hb (digits_lt hi hj)

  module _ (L : ℕ) (f : Frame) (long : length f.info ≡ L * area) where
    pub rows_fresh : (w : Systematic) → In w (rows s L) → Fresh f w
    rows_fresh =
        each_row L (Fresh f) (λ b a hb ha. record {
          positive = subst (λ (p : Params). 0 < p.r) (sym (code_is b a)) rpos;
          degree = subst (λ (p : Params). p.g / 2 ^ p.r ≡ 1) (sym (code_is b a)) deg;
          long = end-length b a ∙ ap (λ (p : Params). p.r) (sym (code_is b a));
          single = end_single b a ha;
          within = λ y i. within b a hb ha y (end_site b a y i);
          apart = λ y i o. own_clear b a ha y o b a (omega arith) (corner b a ha y i);
        })
      where
        within : (b a : ℕ) → b < L → a < s.M → (y : Site) → Beside b a (s.M - s.r) s.r y → Within y f
        within b a hb ha y (j, hj, e) =
            subst (λ (z : Site). Within z f) (sym e) (let l = spot_below L b a (s.M - s.r + j) hb ha (omega (arith, hj, thin)) in omega (arith, l, long))

  in_rows : (L b : ℕ) → b < L → (w : Systematic) → In w (tabulate s.M (row_of s b)) → In w (rows s L)
  unfolding rows
  in_rows L b hb w i = in_concat w L (λ b. tabulate s.M (row_of s b)) b hb i

  pub row_among : (L b a : ℕ) → b < L → a < s.M → In (row_of s b a) (rows s L)
  row_among L b a hb ha = in_rows L b hb (row_of s b a) (in_tabulate s.M (row_of s b) a ha)

  -- the rows of one block
  pub block_fresh : (L b : ℕ) (f : Frame) → length f.info ≡ L * (s.M * s.M) → b < L → (w : Systematic) → In w (tabulate s.M (row_of s b)) → Fresh f w
  block_fresh L b f long hb w i = rows_fresh L f long w (in_rows L b hb w i)

  -- ---- each byte of the buffer is a bit of its block's row

  Mpos : 0 < s.M
  Mpos = omega (arith, thin)

  area_pos : 0 < area
  area_pos = mul-pos Mpos Mpos

  module _ (L k : ℕ) (hk : k < L * area) where
    pub the_block : k / (s.M * s.M) < L
    the_block = (div-lt_iff_lt-mul area_pos).1 hk

    pub the_row : k % (s.M * s.M) / s.M < s.M
    the_row = (div-lt_iff_lt-mul Mpos).1 (mod-lt k area_pos)

    pub the_column : k % (s.M * s.M) % s.M < s.M
    the_column = mod-lt (k % area) Mpos

    pub the_spot : in_info k ≡ in_info (k / (s.M * s.M) * (s.M * s.M) + (k % (s.M * s.M) / s.M * s.M + k % (s.M * s.M) % s.M))
    the_spot = ap in_info (sym (ap (λ (z : ℕ). k / area * area + z) (div-add-mod' (k % area) s.M) ∙ div-add-mod' k area))

    pub among-rows : In (row_of s (k / (s.M * s.M)) (k % (s.M * s.M) / s.M)) (rows s L)
    unfolding rows
    among-rows =
        in_concat (row_of s (k / area) (k % area / s.M)) L (λ b. tabulate s.M (row_of s b)) (k / area) the_block
        (in_tabulate s.M (row_of s (k / area)) (k % area / s.M) the_row)

    pub in_end : s.M - s.r ≤ k % (s.M * s.M) % s.M → In (in_info k) (row_of s (k / (s.M * s.M)) (k % (s.M * s.M) / s.M)).end
    unfolding row_of
    in_end l =
        let b : ℕ = k / area in
        let a : ℕ = k % area / s.M in
        let c : ℕ = k % area % s.M in
        let j : ℕ = c - (s.M - s.r) in
        let e : c ≡ s.M - s.r + j = omega (arith, l) in
        subst (λ (y : Site). In y (tabulate s.r (λ j. block_site s (suc b) (a * s.M + (s.M - s.r + j)))))
        (sym (the_spot ∙ ap (spot b a) e))
        (in_tabulate s.r (λ j. block_site s (suc b) (a * s.M + (s.M - s.r + j))) j (let h : c < s.M = the_column in omega (arith, l, h, thin)))

    in_own : k % area % s.M < s.M - s.r → In (in_info k) (row_of s (k / area) (k % area / s.M)).info
    unfolding row_of
    in_own l =
        let b : ℕ = k / area in
        let a : ℕ = k % area / s.M in
        let c : ℕ = k % area % s.M in
        in_right (in_info k) (tabulate s.M (λ j. block_site s b (j * s.M + a))) (tabulate (s.M - s.r) (λ j. block_site s (suc b) (a * s.M + j)))
        (subst (λ (y : Site). In y (tabulate (s.M - s.r) (λ j. block_site s (suc b) (a * s.M + j)))) (sym the_spot)
        (in_tabulate (s.M - s.r) (λ j. block_site s (suc b) (a * s.M + j)) c l))

    in_row : In (in_info k) ((row_of s (k / area) (k % area / s.M)).info ++ (row_of s (k / area) (k % area / s.M)).end)
    in_row = go (dec_lt (k % area % s.M) (s.M - s.r))
      where
        v : Systematic
        v = row_of s (k / area) (k % area / s.M)

        go : Dec (k % area % s.M < s.M - s.r) → In (in_info k) (v.info ++ v.end)
        go (yes l) = in_left (in_info k) v.info v.end (in_own l)
        go (no l) = in_right (in_info k) v.info v.end (in_end (omega (arith, l)))

  -- ---- the theorems

  module _ (L : ℕ) (f : Frame) (long : length f.info ≡ L * area) (none : f.red ≡ []) (bits : (y : Site) → bit_at f y < 2) where
    abbrev made : Frame
    made = encode_each f (rows s L)

    -- every row is a codeword
    pub rows_in_code : (w : Systematic) → In w (rows s L) → in_code w.code (encode_each f (rows s L)) (w.info ++ w.end) ≡ true
    rows_in_code = encode_in_code (rows s L) (rows-after L) f (rows_fresh L f long) bits

    made_alike : Alike f made
    made_alike = encode_each_alike (rows s L) f (rows_fresh L f long)

    -- "The parity is the only one that makes every row a codeword"
    pub parity-only : (g : Frame) → length g.info ≡ L * area → g.red ≡ [] → ((y : Site) → bit_at g y < 2)
        → ((k : ℕ) → k < L * area → k % area % s.M < s.M - s.r → get_or g.info k 0 ≡ get_or f.info k 0)
        → ((w : Systematic) → In w (rows s L) → in_code w.code g (w.info ++ w.end) ≡ true) → g ≡ encode_each f (rows s L)
    parity-only g lg ng hg same code =
        let each : (y : Site) → bit_at g y ≡ bit_at made y = encode-only (rows s L) (rows-after L) f (rows_fresh L f long) g hg off code in
        let info-same : g.info ≡ made.info = ext_get_or 0 g.info made.info (lg ∙ sym long ∙ sym made_alike.info_same) (λ k h. each (in_info k)) in
        let red-same : g.red ≡ made.red =
        ext_get_or 0 g.red made.red (ap length ng ∙ sym (ap length none) ∙ sym made_alike.red_same) (λ k h. each (in_red k)) in
        λ i. record { info = info-same i; red = red-same i }
      where
        inside : (k : ℕ) → k < L * area → ((w : Systematic) → In w (rows s L) → ¬ In (in_info k) w.end) → Dec (k % area % s.M < s.M - s.r) → get_or g.info k 0 ≡ get_or f.info k 0
        inside k hk n (yes l) = same k hk l
        inside k hk n (no l) = absurd (n (row_of s (k / area) (k % area / s.M)) (among-rows L k hk) (in_end L k hk (omega (arith, l))))

        info : (k : ℕ) → ((w : Systematic) → In w (rows s L) → ¬ In (in_info k) w.end) → Dec (k < L * area) → get_or g.info k 0 ≡ get_or f.info k 0
        info k n (yes hk) = inside k hk n (dec_lt (k % area % s.M) (s.M - s.r))
        info k n (no hk) = get_or-eq_default g.info 0 {n = k} (omega (arith, hk, lg)) ∙ sym (get_or-eq_default f.info 0 {n = k} (omega (arith, hk, long)))

        off : (y : Site) → ((w : Systematic) → In w (rows s L) → ¬ In y w.end) → bit_at g y ≡ bit_at f y
        off unsent n = refl
        off (in_info k) n = info k n (dec_lt k (L * area))
        off (in_red k) n = ap (λ (l : List ℕ). get_or l k 0) (ng ∙ sym none)

    -- "a changed block may alter its own and every later parity, never an earlier one": blocks before block c + 1
    pub rows-reach : (g : Frame) → length g.info ≡ L * area → (c : ℕ) → ((k : ℕ) → k < c * area → get_or f.info k 0 ≡ get_or g.info k 0)
        → (k : ℕ) → k < c * area → get_or (encode_each f (rows s L)).info k 0 ≡ get_or (encode_each g (rows s L)).info k 0
    rows-reach g lg c same k hk =
        encode-reach S (rows s L) f g (rows_fresh L f long) (rows_fresh L g lg)
        (each_row L (λ w. (y : Site) → In y w.end → S y → (z : Site) → In z w.info → S z) (λ b a hb ha y i h z o. closed b a ha y (end_site b a y i) h z (own_site b a z o)))
        agree (in_info k) hk
      where
        S : Site → Type 0
        S unsent = Unit {0}
        S (in_info j) = j < c * area
        S (in_red j) = ⊥

        agree : (y : Site) → S y → bit_at f y ≡ bit_at g y
        agree unsent h = refl
        agree (in_info j) h = same j h
        agree (in_red j) h = absurd h

        below : (b i j : ℕ) → b < c → i < s.M → j < s.M → b * area + (i * s.M + j) < c * area
        below b i j hb hi hj = digits_lt hb (digits_lt hi hj)

        block-below : (b x : ℕ) → b * area + x < c * area → b < c
        block-below b x h = go (dec_lt b c)
          where
            go : Dec (b < c) → b < c
            go (yes l) = l
            go (no l) = absurd (let p : c * area ≤ b * area = mul-le-mul_right area (omega (arith, l)) in omega (arith, h, p))

        closed : (b a : ℕ) → a < s.M → (y : Site) → Beside b a (s.M - s.r) s.r y → S y → (z : Site) → Own b a z → S z
        closed b a ha y (j, hj, e) h z (inl q) = subst S (sym q) tt
        closed b a ha y (j, hj, e) h z (inr (inl (d, i, eb, hi, q))) =
            let hb : b < c = block-below b (a * s.M + (s.M - s.r + j)) (subst S e h) in
            subst S (sym q) (below d i a (omega (arith, hb, eb)) hi ha)
        closed b a ha y (j, hj, e) h z (inr (inr (i, hi, q))) =
            let hb : b < c = block-below b (a * s.M + (s.M - s.r + j)) (subst S e h) in
            subst S (sym q) (below b a (0 + i) hb ha (omega (arith, hi)))

    -- copies with at most t wrong bits a word are recovered
    module _ (distant : CodeDistance s (2 * s.M)) where
      pub rows-sound : (w : Word) → In w (row_words s L) → Sound (encode_each f (rows s L)) w
      unfolding row_words
      rows-sound w i =
          let (v, iv, e) = map_in whole (rows s L) w i in
          subst (Sound made) (sym e) (record {
            coded = rows_in_code v iv;
            apart = each_row L (λ v. CodeDistance v.code (length (v.info ++ v.end)))
                (λ b a hb ha. subst (λ (p : Params). CodeDistance p (length ((row_of s b a).info ++ (row_of s b a).end))) (sym (code_is b a))
                (subst (CodeDistance s) (sym (row-length s (omega (arith, thin)) b a)) distant)) v iv;
          })

      pub rows_cover : Covers (encode_each f (rows s L)) (row_words s L)
      unfolding row_words
      rows_cover = (
        λ k h. let hk : k < L * area = omega (arith, h, made_alike.info_same, long) in
            let v : Systematic = row_of s (k / area) (k % area / s.M) in
            (whole v, in_map whole (rows s L) v (among-rows L k hk), in_row L k hk),
        λ k h. absurd (let z = ap length none in omega (arith, h, made_alike.red_same, z)),
      )

-- "Rule 2 reads 2M for n": the code of a design that rules 1, 2 and 19 let through
pub row_distance : (m t M col : ℕ) → 4 ≤ m → m ≤ 10 → 1 ≤ t → t ≤ 3 → m * t < M → 2 * M ≤ 2 ^ m - 1 → CodeDistance (params m t M col) (2 * M)
row_distance m t M col a b c d thin l u v lu lv hu hv =
    bch_bound m t (record { m-low = a; m-high = b; t-low = c; t-high = d; fits = omega (arith, thin, l) }) u v hu hv (lu ∙ sym lv) (subst (λ (z : ℕ). z ≤ 2 ^ m - 1) (sym lu) l)
