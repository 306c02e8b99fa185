-- The writer of kit text: what is written reads back to the same kit, and a text that is read and written again is the same bytes.
--   written-accepted       it is accepted, with the kit's design
--   written-self, written-parity, written-inverse   and shows the kit's lists and inverse
--   written-reads          the reader leaves the kit that was written
--   Writes, write-accepted what the writer's rules ask for, where they accept
--   write_then_read        the writer's call, and then the reader's
--   design-accepted, shown_lengths, shown_spare   what an accepted text shows: an allowed design, lists and inverse of its lengths, spare bits of 0
--   read_writes            the writer leaves the text that was read
-- Assumes nothing.
use Prim.Native.Nat.{ℕ, zero, suc, ◌+◌, ◌*◌, ◌/◌, ◌%◌, ◌^◌, ◌≤◌, ◌<◌, zero-le, suc-le-suc}
use mathlib.Core.Path.{◌≡◌, refl, sym, ap, ap₂, ◌∙◌, subst}
use mathlib.Core.List.{List, [], ◌∷◌, ◌++◌, append-nil}
use native.Mathlib.Omega.{arith}
use native.Mathlib.Decide.{dec_lt, ℕ_discrete}
use native.Mathlib.Nat.{mod-lt, div-add-mod', div-lt_iff_lt-mul, pow-succ', div-div-eq-div-mul}
use lib.Pow.{pow_pos}
use lib.ListN.{length, get_or, take, drop, get_or-eq_default, length-take}
use lib.Seq.{ext_get_or}
use Rattle.text_formats.specs.Format.{byte, end, dec, Renders}
use Rattle.text_formats.specs.Items.{lits, bits, spell, Fit, lines_from, bits_line, bits_lines, seq}
use Rattle.text_formats.proofs.Bare.{AllBits, bits-take, bits-drop}
use Rattle.text_formats.proofs.Parts.{fit_append}
use Rattle.text_formats.proofs.Scan.{scan-complete}
use Rattle.text_formats.proofs.Spelling.{seq_renders, spell-lits, fit-lits}
use Rattle.text.specs.Rules.{values_of, kept}
use Rattle.staircase.specs.Lists.{tabulate, concat}
use Rattle.staircase.specs.Design.{params, order}
use Rattle.staircase.specs.System.{inverse_entry, row_bytes}
use Rattle.staircase.specs.Rules.{Verdict, ◌then◌, design_rules, length_rule, list_lengths, kit_lengths, interleavers, entries, list_rule, spare_row, spare_rule}
use Rattle.staircase.specs.Rules.Verdict.{accepted}
use Rattle.staircase.specs.Demand2.{Permutes, FitsOrder}
use Rattle.staircase.proofs.System.{order-positive}
use Rattle.staircase.proofs.BchCode.{proper_of}
use Rattle.staircase.proofs.Tabulate.{tabulate-length, tabulate-at, concat-at}
use Rattle.staircase.proofs.Rules.{then_first, then_rest, then_accepted, refuse_first-false, refuse_first-accepted, length-accepted, lengths_fit, design_limits, lists_permute, spare-zero, zero-spare}
use Rattle.text.proofs.Bytes.{entry-at, halves, packs-length, pack_rows-length}
use Rattle.text.specs.KitText.{head_bytes, list_names, row_names, pair_line, pair_lines, pair_tail, kit_body, kit_format, kit_values, kit_bytes}
use Rattle.text.specs.KitReader.{firsts, seconds, packs, binary, pack_rows, head_number, kit_params, head_rule, body_rule, body_scan, scan_kit, self_of, parity_of, inverse_of, KitRead, read_kit_call}
use Rattle.text.specs.KitWriter.{write_verdict, write_call, HoldsBytes, WrittenReads}
use Rattle.text.proofs.KitCounting.{pairs_count, self-shown, parity-shown, inverse_shown}
use Rattle.text.proofs.KitTexts.{clear_kit, head_found, kit-rest}
use Rattle.text.proofs.KitJudged.{small, Found, shown, order_found, body_found}
use Rattle.text.proofs.KitTold.{Told, kit-told}
use Rattle.text.proofs.KitValues.{packs-at, rows-bits, pack-at, rows_at, entry-bit, entry-wide, inverse-of}
use Rattle.text.proofs.KitPromises.{kit-accepted, kit-read, kit_renders}

-- ---- the values of a kit

abbrev pair_values : ℕ → (ℕ → ℕ) → (ℕ → ℕ) → List ℕ
pair_values k f g = concat k (λ i. f i ∷ g i ∷ [])

pairs_fit : (k p : ℕ) (f g : ℕ → ℕ) → ((i : ℕ) → f i < 10000) → ((i : ℕ) → g i < 10000) → Fit (pair_lines p k) (pair_values k f g)
unfolding lines_from pair_line concat
pairs_fit zero p f g hf hg = tt
pairs_fit (suc k) p f g hf hg =
    (fit_append (lits (dec p) ++ pair_tail) (pair_lines (suc p) k) (f zero ∷ g zero ∷ []) (pair_values k (λ i. f (suc i)) (λ i. g (suc i)))
    (fit_append (lits (dec p)) pair_tail [] (f zero ∷ g zero ∷ []) (fit-lits (dec p)) (hf zero, (hg zero, tt))).0
    (pairs_fit k (suc p) (λ i. f (suc i)) (λ i. g (suc i)) (λ i. hf (suc i)) (λ i. hg (suc i)))).0

firsts_are : (k : ℕ) (f g : ℕ → ℕ) → firsts (pair_values k f g) ≡ tabulate k f
unfolding concat firsts tabulate
firsts_are zero f g = refl
firsts_are (suc k) f g = ap (λ (l : List ℕ). f zero ∷ l) (firsts_are k (λ i. f (suc i)) (λ i. g (suc i)))

seconds_are : (k : ℕ) (f g : ℕ → ℕ) → seconds (pair_values k f g) ≡ tabulate k g
unfolding concat seconds tabulate
seconds_are zero f g = refl
seconds_are (suc k) f g = ap (λ (l : List ℕ). g zero ∷ l) (seconds_are k (λ i. f (suc i)) (λ i. g (suc i)))

tabulate-fit : (n : ℕ) (f : ℕ → ℕ) → ((j : ℕ) → f j < 2) → Fit (bits n) (tabulate n f)
unfolding tabulate
tabulate-fit zero f h = tt
tabulate-fit (suc n) f h = (h zero, tabulate-fit n (λ j. f (suc j)) (λ j. h (suc j)))

rows_fit : (n k p : ℕ) (w : ℕ → ℕ → ℕ) → ((i j : ℕ) → w i j < 2) → Fit (bits_lines n p k) (concat k (λ i. tabulate n (w i)))
unfolding lines_from bits_line concat
rows_fit n zero p w h = tt
rows_fit n (suc k) p w h =
    let row : List ℕ = tabulate n (w zero) in
    let tail = (fit_append (byte 32 ∷ bits n) (byte 10 ∷ []) row [] (tabulate-fit n (w zero) (h zero)) tt).0 in
    let line : Fit (bits_line n p) row =
    subst (λ (l : List ℕ). Fit (bits_line n p) l) (append-nil row)
    (fit_append (lits (dec p)) ((byte 32 ∷ bits n) ++ (byte 10 ∷ [])) [] (row ++ []) (fit-lits (dec p)) tail).0 in
    (fit_append (bits_line n p) (bits_lines n (suc p) k) row (concat k (λ i. tabulate n (w (suc i)))) line
    (rows_fit n k (suc p) (λ i. w (suc i)) (λ i. h (suc i)))).0

-- ---- the text of a kit

module _ (n : ℕ) (f g : ℕ → ℕ) (w : ℕ → ℕ → ℕ) (hf : (i : ℕ) → f i < 10000) (hg : (i : ℕ) → g i < 10000) (hw : (i j : ℕ) → w i j < 2) where
  abbrev ps : List ℕ
  ps = pair_values n f g

  abbrev rs : List ℕ
  rs = concat n (λ i. tabulate n (w i))

  value-at : (i j : ℕ) → i < n → j < n → get_or rs (i * n + j) 0 ≡ w i j
  value-at i j hi hj = concat-at n n (λ k. tabulate n (w k)) (λ k. tabulate-length n (w k)) i j hi hj ∙ tabulate-at n (w i) 0 j hj

  kit-fits : Fit (kit_body n) (ps ++ rs)
  unfolding kit_body
  kit-fits =
      let c = fit_append (lits row_names) (bits_lines n 0 n) [] rs (fit-lits row_names) (rows_fit n n 0 w hw) in
      let b = fit_append (pair_lines 0 n) (lits row_names ++ bits_lines n 0 n) ps rs (pairs_fit n 0 f g hf hg) c.0 in
      (fit_append (lits list_names) (pair_lines 0 n ++ (lits row_names ++ bits_lines n 0 n)) [] (ps ++ rs) (fit-lits list_names) b.0).0

-- ---- bytes by their digits

digit_next : (x k : ℕ) → x / 2 ^ suc k % 2 ≡ x / 2 / 2 ^ k % 2
digit_next x k = ap (λ (z : ℕ). x / z % 2) (pow-succ' 2 k) ∙ ap (λ (z : ℕ). z % 2) (sym (div-div-eq-div-mul x 2 (2 ^ k)))

digits_same : (k x y : ℕ) → x < 2 ^ k → y < 2 ^ k → ((r : ℕ) → r < k → x / 2 ^ r % 2 ≡ y / 2 ^ r % 2) → x ≡ y
digits_same zero x y hx hy h = omega arith
digits_same (suc k) x y hx hy h =
    let low : x / 1 % 2 ≡ y / 1 % 2 = h zero (suc-le-suc zero-le) in
    let high : x / 2 ≡ y / 2 =
    digits_same k (x / 2) (y / 2) (omega arith) (omega arith) (λ r l. sym (digit_next x r) ∙ h (suc r) (suc-le-suc l) ∙ digit_next y r) in
    omega (arith, low, high)

binary-below : (k : ℕ) (l : List ℕ) → AllBits l → length l ≤ k → binary l < 2 ^ k
unfolding binary
binary-below k [] a h = pow_pos k
binary-below zero (v ∷ l) a h = absurd (omega arith)
binary-below (suc k) (v ∷ l) a h = omega (arith, a zero, binary-below k l (λ j. a (suc j)) (omega arith))

-- ---- what the reader packs

packs_back : (n : ℕ) (l : List ℕ) → ((k : ℕ) → get_or l k 0 < 256) → length l ≡ 2 * n → packs (tabulate n (λ p. get_or (entries n l) p 0)) ≡ l
packs_back n l bytes long = ext_get_or 0 (packs vs) l (packs-length vs ∙ ap (λ (z : ℕ). 2 * z) (tabulate-length n f) ∙ sym long)
    (λ k h. at k (subst (λ (z : ℕ). k < z) (packs-length vs ∙ ap (λ (z : ℕ). 2 * z) (tabulate-length n f)) h) (ℕ_discrete (k % 2) 0))
  where
    f : ℕ → ℕ
    f p = get_or (entries n l) p 0

    vs : List ℕ
    vs = tabulate n f

    value : (p : ℕ) → p < n → get_or vs p 0 ≡ get_or l (2 * p) 0 + 256 * get_or l (2 * p + 1) 0
    value p h = tabulate-at n f 0 p h ∙ sym (entry-at n l p h)

    at : (k : ℕ) → k < 2 * n → Dec (k % 2 ≡ 0) → get_or (packs vs) k 0 ≡ get_or l k 0
    at k h (yes e) =
        let p : ℕ = k / 2 in
        let z : 2 * p ≡ k = omega arith in
        let hp : p < n = omega arith in
        ap (λ (y : ℕ). get_or (packs vs) y 0) (sym z) ∙ (packs-at vs p).0 ∙ ap (λ (y : ℕ). y % 256) (value p hp)
        ∙ omega (arith, bytes (2 * p)) ∙ ap (λ (y : ℕ). get_or l y 0) z
    at k h (no d) =
        let p : ℕ = k / 2 in
        let z : 2 * p + 1 ≡ k = omega arith in
        let hp : p < n = omega arith in
        ap (λ (y : ℕ). get_or (packs vs) y 0) (sym z) ∙ (packs-at vs p).1 ∙ ap (λ (y : ℕ). y / 256 % 256) (value p hp)
        ∙ omega (arith, bytes (2 * p), bytes (2 * p + 1)) ∙ ap (λ (y : ℕ). get_or l y 0) z

spare-none : (n : ℕ) (vs : List ℕ) → AllBits vs → (i j : ℕ) → i < n → n ≤ j → j < 8 * row_bytes n → inverse_entry (pack_rows n n vs) n i j ≡ 0
spare-none n vs a i j h lo l =
    entry-wide n vs a i j h l
    ∙ get_or-eq_default (take n (drop (i * n) vs)) 0 (omega (arith, length-take n (drop (i * n) vs), lo))

digit-entry : (u : List ℕ) (n i b r : ℕ) → r < 8 → get_or u (i * row_bytes n + b) 0 / 2 ^ r % 2 ≡ inverse_entry u n i (8 * b + r)
unfolding inverse_entry
digit-entry u n i b r hr =
    let x : b ≡ (8 * b + r) / 8 = omega arith in
    let y : r ≡ (8 * b + r) % 8 = omega arith in
    ap₂ (λ (p q : ℕ). get_or u (i * row_bytes n + p) 0 / 2 ^ q % 2) x y

-- packed rows with the entries of w, whose spare bits are 0, are w
rows_back : (n : ℕ) (vs w : List ℕ) → 0 < n → AllBits vs → ((k : ℕ) → get_or w k 0 < 256) → length w ≡ n * row_bytes n
    → ((i j : ℕ) → i < n → j < n → get_or vs (i * n + j) 0 ≡ inverse_entry w n i j) → ((i j : ℕ) → i < n → n ≤ j → j < 8 * row_bytes n → inverse_entry w n i j ≡ 0)
    → pack_rows n n vs ≡ w
rows_back n vs w pos a bytes long same spare =
    ext_get_or 0 (pack_rows n n vs) w (pack_rows-length n n vs ∙ sym long) (λ k h. at k (subst (λ (z : ℕ). k < z) (pack_rows-length n n vs) h))
  where
    entry : (i j : ℕ) → i < n → j < 8 * row_bytes n → inverse_entry (pack_rows n n vs) n i j ≡ inverse_entry w n i j
    entry i j hi hj = go (dec_lt j n)
      where
        go : Dec (j < n) → inverse_entry (pack_rows n n vs) n i j ≡ inverse_entry w n i j
        go (yes l) = inverse-of n vs a i j hi l ∙ same i j hi l
        go (no l) = spare-none n vs a i j hi (omega arith) hj ∙ sym (spare i j hi (omega arith) hj)

    at : (k : ℕ) → k < n * row_bytes n → get_or (pack_rows n n vs) k 0 ≡ get_or w k 0
    at k h =
        let rb : ℕ = row_bytes n in
        let rpos : 0 < rb = omega arith in
        let i : ℕ = k / rb in
        let b : ℕ = k % rb in
        let hi : i < n = (div-lt_iff_lt-mul rpos).1 h in
        let hb : b < rb = mod-lt k rpos in
        let e : i * rb + b ≡ k = div-add-mod' k rb in
        ap (λ (z : ℕ). get_or (pack_rows n n vs) z 0) (sym e)
        ∙ digits_same 8 (get_or (pack_rows n n vs) (i * rb + b) 0) (get_or w (i * rb + b) 0)
        (subst (λ (z : ℕ). z < 256) (sym (rows_at n n vs i b hi hb ∙ pack-at rb (take n (drop (i * n) vs)) b hb))
        (binary-below 8 (take 8 (drop (8 * b) (take n (drop (i * n) vs))))
        (bits-take 8 (drop (8 * b) (take n (drop (i * n) vs)))
        (bits-drop (8 * b) (take n (drop (i * n) vs)) (bits-take n (drop (i * n) vs) (bits-drop (i * n) vs a))))
        (omega (arith, length-take 8 (drop (8 * b) (take n (drop (i * n) vs)))))))
        (bytes (i * rb + b))
        (λ r hr. digit-entry (pack_rows n n vs) n i b r hr ∙ entry i (8 * b + r) hi (omega arith) ∙ sym (digit-entry w n i b r hr))
        ∙ ap (λ (z : ℕ). get_or w z 0) e

-- ---- what is written reads back to the same kit

read_kit_same : (r : KitRead) {self parity w : List ℕ} → r.verdict ≡ accepted → r.self ≡ self → r.parity ≡ parity → r.inverse ≡ w
    → r ≡ record { verdict = accepted; self = self; parity = parity; inverse = w }
read_kit_same r a b c e = λ i. record { verdict = a i; self = b i; parity = c i; inverse = e i }

module _ (m t M : ℕ) (self parity w : List ℕ) (d : design_rules m t M 0 ≡ accepted)
    (fits : FitsOrder (order (params m t M 0)) self parity w)
    (self_bytes : (k : ℕ) → get_or self k 0 < 256) (parity_bytes : (k : ℕ) → get_or parity k 0 < 256) (inverse_bytes : (k : ℕ) → get_or w k 0 < 256)
    (lists : list_rule (params m t M 0) (interleavers (params m t M 0) self parity) ≡ accepted) (spare : spare_rule (params m t M 0) w ≡ accepted) where
  abbrev n : ℕ
  n = M * (m * t)

  abbrev f : ℕ → ℕ
  f p = get_or (entries n self) p 0

  abbrev g : ℕ → ℕ
  g p = get_or (entries n parity) p 0

  abbrev vs : List ℕ
  vs = pair_values n f g ++ concat n (λ i. tabulate n (inverse_entry w n i))

  abbrev text : List ℕ
  text = kit_bytes m t M self parity w

  n_small : n ≤ 4096
  n_small = (design_limits m t M 0 d).order-high

  entry-small : (l : List ℕ) → Permutes n (λ p. get_or (entries n l) p 0) → (p : ℕ) → get_or (entries n l) p 0 < 10000
  unfolding entries
  entry-small l P p = go (dec_lt p n)
    where
      go : Dec (p < n) → get_or (entries n l) p 0 < 10000
      go (yes h) = omega (arith, P.below p h, n_small)
      go (no h) =
          let z = get_or-eq_default (entries n l) 0 {n = p} (omega (arith, tabulate-length n (λ q. get_or l (2 * q) 0 + 256 * get_or l (2 * q + 1) 0), h)) in
          omega (arith, z)

  small-self : (p : ℕ) → f p < 10000
  small-self = entry-small self (lists_permute (params m t M 0) (interleavers (params m t M 0) self parity) lists).0

  small-parity : (p : ℕ) → g p < 10000
  small-parity = entry-small parity (lists_permute (params m t M 0) (interleavers (params m t M 0) self parity) lists).1

  spelled : Fit (kit_body n) vs × (text ≡ head_bytes m t M ++ spell (kit_body n) vs)
  unfolding kit_bytes kit_values
  spelled = (kit-fits n f g (inverse_entry w n) small-self small-parity (entry-bit w n), refl)

  renders : Renders (kit_format m t M) 0 vs text
  unfolding kit_format
  renders =
      let hb : List ℕ = head_bytes m t M in
      let body : List ℕ = spell (kit_body n) vs in
      let inner = seq_renders (kit_body n) (end 0) 0 vs [] [] spelled.0 (refl, refl, refl) in
      let whole = seq_renders (lits hb) (seq (kit_body n) (end 0)) 0 [] (vs ++ []) (body ++ []) (fit-lits hb) inner in
      let same : spell (lits hb) [] ++ (body ++ []) ≡ text = ap₂ (λ (x y : List ℕ). x ++ y) (spell-lits hb) (append-nil body) ∙ sym spelled.1 in
      subst (λ (x : List ℕ). Renders (kit_format m t M) 0 x text) (append-nil vs) (subst (λ (x : List ℕ). Renders (kit_format m t M) 0 (vs ++ []) x) same whole)

  pub written-accepted : scan_kit (kit_bytes m t M self parity w) ≡ accepted
  written-accepted = (kit-accepted text).1 (m, t, M, d, (0, vs, renders))

  found : Found text
  found =
      let q = small m t M d in
      record {
        m = m;
        t = t;
        M = M;
        q = 0 + length (head_bytes m t M);
        lines = head_found m t M text (spell (kit_body n) vs) q.hm q.ht q.h_m
            spelled.1;
      }

  pub written-design : (head_number (kit_bytes m t M self parity w) 0 ≡ m) × (head_number (kit_bytes m t M self parity w) 1 ≡ t) ×
      (head_number (kit_bytes m t M self parity w) 2 ≡ M)
  unfolding found
  written-design = let S = shown text found in (S.first, S.second, S.third)

  values_are : values_of (body_scan text) ≡ vs
  unfolding values_of found
  values_are =
      ap values_of
      (body_found text found ∙ sym (kit-rest text m t M found.q found.lines)
      ∙ scan-complete (kit_format m t M) 0 vs text (clear_kit m t M (small m t M d)) renders)

  count : length (pair_values n f g) ≡ 2 * n
  count = pairs_count n 0 (pair_values n f g) (pairs_fit n 0 f g small-self small-parity)

  pub written-self : self_of (kit_bytes m t M self parity w) ≡ self
  unfolding found
  written-self =
      self-shown text n (pair_values n f g) (concat n (λ i. tabulate n (inverse_entry w n i))) (order_found text found) values_are count
      ∙ ap packs (firsts_are n f g) ∙ packs_back n self self_bytes fits.self_length

  pub written-parity : parity_of (kit_bytes m t M self parity w) ≡ parity
  unfolding found
  written-parity =
      parity-shown text n (pair_values n f g) (concat n (λ i. tabulate n (inverse_entry w n i))) (order_found text found) values_are count
      ∙ ap packs (seconds_are n f g) ∙ packs_back n parity parity_bytes fits.parity_length

  pub written-inverse : inverse_of (kit_bytes m t M self parity w) ≡ w
  unfolding spare_rule found
  written-inverse =
      inverse_shown text n (pair_values n f g) (concat n (λ i. tabulate n (inverse_entry w n i))) (order_found text found) values_are count
      ∙ rows_back n (concat n (λ i. tabulate n (inverse_entry w n i))) w (order-positive (params m t M 0) (proper_of (design_limits m t M 0 d)))
      (rows-bits n n 0 (concat n (λ i. tabulate n (inverse_entry w n i))) (rows_fit n n 0 (inverse_entry w n) (entry-bit w n)))
      inverse_bytes fits.inverse_length (value-at n f g (inverse_entry w n) small-self small-parity (entry-bit w n))
      (λ i j hi. spare-zero w n i (refuse_first-false 8 0 n (spare_row w n) spare i hi) j)

  -- "what is written reads back to the same kit"
  pub written-reads : (own₂ parity₂ w₂ : List ℕ) → length own₂ ≡ 2 * order (params m t M 0) → length parity₂ ≡ 2 * order (params m t M 0)
      → length w₂ ≡ order (params m t M 0) * row_bytes (order (params m t M 0))
      → read_kit_call (kit_bytes m t M self parity w) own₂ parity₂ w₂ ≡ record { verdict = accepted; self = self; parity = parity; inverse = w }
  unfolding found
  written-reads own₂ parity₂ w₂ a b c =
      let o : order (kit_params text) ≡ n = order_found text found in
      let r =
      kit-read text own₂ parity₂ w₂ (a ∙ ap (λ (z : ℕ). 2 * z) (sym o)) (b ∙ ap (λ (z : ℕ). 2 * z) (sym o))
      (c ∙ ap (λ (z : ℕ). z * row_bytes z) (sym o)) written-accepted in
      read_kit_same (read_kit_call text own₂ parity₂ w₂) r.0 (r.1 ∙ written-self) (r.2 ∙ written-parity) (r.3 ∙ written-inverse)

-- ---- the writer's call, and then the reader's

-- what the rules of the writer ask for
pub record Writes (m t M : ℕ) (self parity w : List ℕ) : Type 0 where
  pub design : design_rules m t M 0 ≡ accepted
  pub fits : FitsOrder (order (params m t M 0)) self parity w
  pub lists : list_rule (params m t M 0) (interleavers (params m t M 0) self parity) ≡ accepted
  pub spare : spare_rule (params m t M 0) w ≡ accepted

module _ (m t M : ℕ) (self parity w text : List ℕ) (ok : (write_call m t M self parity w text).verdict ≡ accepted) where
  pub write_accepted : Writes m t M self parity w
  unfolding write_call write_verdict
  write_accepted =
      let s = params m t M 0 in
      let v8 : Verdict = spare_rule s w in
      let v7 : Verdict = list_rule s (interleavers s self parity) in
      let long : Verdict = length_rule 7 (length text) (length (kit_bytes m t M self parity w)) in
      let fit : Verdict = kit_lengths s self parity w in
      let rest : (fit then long then v7 then v8) ≡ accepted = then_rest (design_rules m t M 0) (fit then long then v7 then v8) ok in
      let contents : (v7 then v8) ≡ accepted = then_rest long (v7 then v8) (then_rest fit (long then v7 then v8) rest) in
      record {
        design = then_first (design_rules m t M 0) (fit then long then v7 then v8) ok;
        fits = lengths_fit s self parity w (then_first fit (long then v7 then v8) rest);
        lists = then_first v7 v8 contents;
        spare = then_rest v7 v8 contents;
      }

  written_is : (write_call m t M self parity w text).text ≡ kit_bytes m t M self parity w
  unfolding write_call kept
  written_is = ap (λ (v : Verdict). kept v (kit_bytes m t M self parity w) text) ok

  -- "what is written reads back to the same kit", of a kit of bytes
  pub write_then_read : HoldsBytes self → HoldsBytes parity → HoldsBytes w → WrittenReads m t M self parity w text
  write_then_read self_bytes parity_bytes inverse_bytes =
      let W = write_accepted in
      let fits = W.fits in
      let design = written-design m t M self parity w W.design fits self_bytes parity_bytes inverse_bytes W.lists W.spare in
      record {
        scans = ap scan_kit written_is ∙ written-accepted m t M self parity w W.design fits self_bytes parity_bytes inverse_bytes W.lists W.spare;
        first = ap (λ (x : List ℕ). head_number x 0) written_is ∙ design.0;
        second = ap (λ (x : List ℕ). head_number x 1) written_is ∙ design.1;
        third = ap (λ (x : List ℕ). head_number x 2) written_is ∙ design.2;
        reads = λ self₂ parity₂ w₂ a b c.
            ap (λ (x : List ℕ). read_kit_call x self₂ parity₂ w₂) written_is
            ∙ written-reads m t M self parity w W.design fits self_bytes parity_bytes inverse_bytes W.lists W.spare self₂ parity₂ w₂
            (a ∙ fits.self_length) (b ∙ fits.parity_length) (c ∙ fits.inverse_length);
      }

-- ---- a text that is read and written again

pub design-accepted : (s : List ℕ) → scan_kit s ≡ accepted → design_rules (head_number s 0) (head_number s 1) (head_number s 2) 0 ≡ accepted
unfolding scan_kit
design-accepted s e =
    then_first (design_rules (head_number s 0) (head_number s 1) (head_number s 2) 0) (body_rule s)
    (then_rest (head_rule s) (design_rules (head_number s 0) (head_number s 1) (head_number s 2) 0 then body_rule s) e)

-- what the reader leaves has the lengths of its design, and spare bits of 0
module _ (s : List ℕ) (e : scan_kit s ≡ accepted) where
  T : Told s (order (kit_params s))
  T = kit-told s e

  abbrev size : ℕ
  size = order (kit_params s)

  pairs : length T.ps ≡ 2 * size
  pairs = pairs_count size 0 T.ps T.pairs_fit

  pub shown_lengths : kit_lengths (kit_params s) (self_of s) (parity_of s) (inverse_of s) ≡ accepted
  unfolding kit_lengths list_lengths
  shown_lengths =
      then_accepted
      (then_accepted
      (length-accepted 1 (length (self_of s)) (2 * size)
      (ap length (self-shown s size T.ps T.rs refl T.values_are pairs) ∙ packs-length (firsts T.ps) ∙ ap (λ (z : ℕ). 2 * z) (halves size T.ps pairs).0))
      (length-accepted 2 (length (parity_of s)) (2 * size)
      (ap length (parity-shown s size T.ps T.rs refl T.values_are pairs) ∙ packs-length (seconds T.ps) ∙ ap (λ (z : ℕ). 2 * z) (halves size T.ps pairs).1)))
      (length-accepted 3 (length (inverse_of s)) (size * row_bytes size)
      (ap length (inverse_shown s size T.ps T.rs refl T.values_are pairs) ∙ pack_rows-length size size T.rs))

  pub shown_spare : spare_rule (kit_params s) (inverse_of s) ≡ accepted
  unfolding spare_rule
  shown_spare =
      let bits : AllBits T.rs = rows-bits size size 0 T.rs T.rows_fit in
      refuse_first-accepted 8 0 size (spare_row (inverse_of s) size) (λ i hi. zero-spare (inverse_of s) size i (λ j lo hj.
      ap (λ (x : List ℕ). inverse_entry x size i j) (inverse_shown s size T.ps T.rs refl T.values_are pairs) ∙ spare-none size T.rs bits i j hi lo hj))

-- "a kit text whose lists are permutations, read and written again, is the same bytes"
pub read_writes : (s buffer : List ℕ) → scan_kit s ≡ accepted → length buffer ≡ length s
    → list_rule (kit_params s) (interleavers (kit_params s) (self_of s) (parity_of s)) ≡ accepted
    → write_call (head_number s 0) (head_number s 1) (head_number s 2) (self_of s) (parity_of s) (inverse_of s) buffer ≡ record { verdict = accepted; text = s }
unfolding write_call write_verdict kept
read_writes s buffer e long lists =
    λ i. record {
      verdict = v i;
      text =
          (ap (λ (x : Verdict). kept x (kit_bytes (head_number s 0) (head_number s 1) (head_number s 2) (self_of s) (parity_of s) (inverse_of s)) buffer) v
          ∙ sym (kit_renders s e)) i;
    }
  where
    v : write_verdict (head_number s 0) (head_number s 1) (head_number s 2) (self_of s) (parity_of s) (inverse_of s) buffer ≡ accepted
    v =
        then_accepted (design-accepted s e)
        (then_accepted (shown_lengths s e)
        (then_accepted
        (length-accepted 7 (length buffer)
        (length (kit_bytes (head_number s 0) (head_number s 1) (head_number s 2) (self_of s) (parity_of s) (inverse_of s))) (long ∙ ap length (kit_renders s e)))
        (then_accepted lists (shown_spare s e))))
