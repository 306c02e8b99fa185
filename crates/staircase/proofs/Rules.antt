-- Laws of the rules of the table: what an accepted rule says, and when a rule accepts.
--   then_first, then_rest, then_accepted            one rule after another
--   refuse-false, refuse-accepted                   a rule by its test
--   refuse_first-false, refuse_first-accepted, refuse_first-refused   a rule by its first place
--   refuse_first-at, refuse_first-past                where that place was found, and where none was
--   out_of_range-false, inRange                       a range
--   size_limits, design_limits                      rule 1; rules 1 to 3
--   number_in, count_limits                         rule 4
--   length_equal, length-accepted                   rule 6, for one slice
--   list-lengths, lengths_fit, lengths_accepted, frame-lengths   for lists, a kit's slices, a frame's buffers
--   entries-permute, permute-entries, lists-permute, permute-lists rule 7
--   spare-zero, zero-spare                          rule 8
--   product-identity, identity-product              rule 9
--   bytes_bits, bits-accepted, frame-bits           rule 10
-- Assumes nothing.
use mathlib.Core.Path.{◌≡◌, refl, sym, ap, ap₂, ◌∙◌}
use mathlib.Core.Bool.{Bool, true, false, not, ◌||◌, true≢false}
use mathlib.Core.Logic.{◌≢◌}
use mathlib.Core.List.{List}
use Prim.Native.Nat.{ℕ, ◌+◌, ◌-◌, ◌*◌, ◌/◌, ◌%◌, ◌^◌, ◌≤◌, ◌<◌}
use native.Mathlib.Nat.{mod-lt, div-lt_iff_lt-mul}
use native.Mathlib.Decide.{dec_lt}
use native.Mathlib.Omega.{arith}
use lib.Arith.{digits_lt, digits_div, digits_mod}
use lib.Dec.{ltb, leb, eqb}
use lib.ListN.{length, get_or, get_or-eq_default}
use borrow.Author.Tests.{lt-ltb, le-ltb, ltb-false, leb-false, lt-leb, eqb-true, eqb-false, eq-eqb, ne_eqb, not-false}
use Rattle.bch.specs.Polynomial.{Bits}
use Rattle.staircase.specs.Lists.{first_where}
use Rattle.staircase.specs.Design.{Params, Interleavers, params, word_length, order, Limits, least_m, most-m, most-t, most-M, most-col, most-order, most-blocks}
use Rattle.staircase.specs.System.{inverse_entry, row_bytes, product, identity}
use Rattle.staircase.specs.Rules.{Verdict, ◌then◌, refuse, refuse_first, out_of_range, size_rule, long_rule, large_rule, design_rules, count_rule, length_rule, list_lengths, kit_lengths, info_length, red_length, frame_lengths, bad_entry, list_rule, spare_row, wrong_entry, bit_rule, frame_bits, content_rules, kit_rules, inverse_rule, spare_rule}
use Rattle.staircase.specs.Rules.Verdict.{accepted, refused}
use Rattle.staircase.specs.Demand2.{Permutes, FitsOrder}
use Rattle.staircase.proofs.Search.{first_where-none, first_where-before, first_where-is}

-- ---- one rule after another

pub then_first : (u v : Verdict) → (u then v) ≡ accepted → u ≡ accepted
then_first accepted v e = refl
then_first (refused n p) v e = e

pub then_rest : (u v : Verdict) → (u then v) ≡ accepted → v ≡ accepted
then_rest accepted v e = e
then_rest (refused n p) v e = cc

pub then_accepted : {u v : Verdict} → u ≡ accepted → v ≡ accepted → (u then v) ≡ accepted
then_accepted {u} {v} e d = ap (λ (z : Verdict). z then v) e ∙ d

pub refuse-false : (z : Bool) (n p : ℕ) → refuse z n p ≡ accepted → z ≡ false
refuse-false true n p e = cc
refuse-false false n p e = refl

pub refuse-accepted : {z : Bool} (n p : ℕ) → z ≡ false → refuse z n p ≡ accepted
refuse-accepted {z} n p e = ap (λ (y : Bool). refuse y n p) e

-- ---- the first place

none_before : (n : ℕ) (f : ℕ → Bool) → ltb (first_where n f) n ≡ false → (k : ℕ) → k < n → f k ≡ false
none_before n f e k l = first_where-before n f k (omega (arith, ltb-false (first_where n f) n e))

none_found : (n : ℕ) (f : ℕ → Bool) → ((k : ℕ) → k < n → f k ≡ false) → ltb (first_where n f) n ≡ false
none_found n f h = le-ltb (first_where n f) n (omega (arith, first_where-none n f h))

pub refuse_first-false : (rule base n : ℕ) (f : ℕ → Bool) → refuse_first rule base n f ≡ accepted → (k : ℕ) → k < n → f k ≡ false
unfolding refuse_first
refuse_first-false rule base n f e = none_before n f (refuse-false (ltb (first_where n f) n) rule (base + first_where n f) e)

pub refuse_first-accepted : (rule base n : ℕ) (f : ℕ → Bool) → ((k : ℕ) → k < n → f k ≡ false) → refuse_first rule base n f ≡ accepted
unfolding refuse_first
refuse_first-accepted rule base n f h = refuse-accepted rule (base + first_where n f) (none_found n f h)

pub refuse_first-refused : (rule base n : ℕ) (f : ℕ → Bool) (i : ℕ) → i < n → ((k : ℕ) → k < i → f k ≡ false) → f i ≡ true
    → refused rule (base + i) ≡ refuse_first rule base n f
unfolding refuse_first
refuse_first-refused rule base n f i l h e = rw (first_where-is n f i l e h, lt-ltb i n l)

module _ (rule base n : ℕ) (f : ℕ → Bool) (x : ℕ) (e : x ≡ first_where n f) where
  pub refuse_first-at : x < n → refused rule (base + x) ≡ refuse_first rule base n f
  unfolding refuse_first
  refuse_first-at h = sym (ap (λ (z : ℕ). refuse (ltb z n) rule (base + z)) (sym e) ∙ ap (λ (b : Bool). refuse b rule (base + x)) (lt-ltb x n h))

  pub refuse_first-past : n ≤ x → accepted ≡ refuse_first rule base n f
  unfolding refuse_first
  refuse_first-past h = sym (ap (λ (z : ℕ). refuse (ltb z n) rule (base + z)) (sym e) ∙ ap (λ (b : Bool). refuse b rule (base + x)) (le-ltb x n h))

-- ---- a range

or-false : (y z : Bool) → (y || z) ≡ false → (y ≡ false) × (z ≡ false)
or-false true z e = absurd (true≢false e)
or-false false z e = (refl, e)

or-both : {y z : Bool} → y ≡ false → z ≡ false → (y || z) ≡ false
or-both {y} {z} e d = ap (λ (x : Bool). x || z) e ∙ d

pub out_of_range-false : (low high x : ℕ) → out_of_range low high x ≡ false → (low ≤ x) × (x ≤ high)
out_of_range-false low high x e = let p = or-false (ltb x low) (ltb high x) e in (ltb-false x low p.0, ltb-false high x p.1)

pub in_range : (low high x : ℕ) → low ≤ x → x ≤ high → out_of_range low high x ≡ false
in_range low high x a b = or-both (le-ltb x low a) (le-ltb high x b)

-- ---- rules 1 to 3

pub size_limits : (m t M col : ℕ) → size_rule m t M col ≡ accepted → (least_m ≤ m) × (m ≤ most-m) × (1 ≤ t) × (t ≤ most-t) × (1 ≤ M) × (M ≤ most-M)
    × (col ≤ most-col)
unfolding size_rule
size_limits m t M col e =
    let rm : Verdict = refuse (out_of_range least_m most-m m) 1 1 in
    let rt : Verdict = refuse (out_of_range 1 most-t t) 1 2 in
    let r_m : Verdict = refuse (out_of_range 1 most-M M) 1 3 in
    let rc : Verdict = refuse (ltb most-col col) 1 4 in
    let t_m : (rt then r_m then rc) ≡ accepted = then_rest rm (rt then r_m then rc) e in
    let Mc : (r_m then rc) ≡ accepted = then_rest rt (r_m then rc) t_m in
    let a = out_of_range-false least_m most-m m (refuse-false (out_of_range least_m most-m m) 1 1 (then_first rm (rt then r_m then rc) e)) in
    let b = out_of_range-false 1 most-t t (refuse-false (out_of_range 1 most-t t) 1 2 (then_first rt (r_m then rc) t_m)) in
    let c = out_of_range-false 1 most-M M (refuse-false (out_of_range 1 most-M M) 1 3 (then_first r_m rc Mc)) in
    (a.0, a.1, b.0, b.1, c.0, c.1, ltb-false most-col col (refuse-false (ltb most-col col) 1 4 (then_rest r_m rc Mc)))

pub design_limits : (m t M col : ℕ) → design_rules m t M col ≡ accepted → Limits m t M col
unfolding design_rules long_rule large_rule
design_limits m t M col e =
    let n : ℕ = word_length (params m t M col) in
    let k : ℕ = order (params m t M col) in
    let rn : Verdict = refuse (ltb (2 ^ m - 1) n) 2 n in
    let rk : Verdict = refuse (ltb most-order k) 3 k in
    let (a, b, c, d, f, g, h) = size_limits m t M col (then_first (size_rule m t M col) (rn then rk) e) in
    let rest : (rn then rk) ≡ accepted = then_rest (size_rule m t M col) (rn then rk) e in
    record {
      m-low = a;
      m-high = b;
      t-low = c;
      t-high = d;
      M-low = f;
      M-high = g;
      col-high = h;
      n_high = ltb-false (2 ^ m - 1) n (refuse-false (ltb (2 ^ m - 1) n) 2 n (then_first rn rk rest));
      order-high = ltb-false most-order k (refuse-false (ltb most-order k) 3 k (then_rest rn rk rest));
    }

-- ---- rule 4

pub number_in : (high k : ℕ) → refuse (out_of_range 1 high k) 4 k ≡ accepted → (1 ≤ k) × (k ≤ high)
number_in high k e = out_of_range-false 1 high k (refuse-false (out_of_range 1 high k) 4 k e)

pub count_limits : (L : ℕ) → count_rule L ≡ accepted → (1 ≤ L) × (L ≤ most-blocks)
unfolding count_rule
count_limits L e = number_in most-blocks L e

-- ---- rule 6

pub length_equal : (p a b : ℕ) → length_rule p a b ≡ accepted → a ≡ b
length_equal p a b e = eqb-true a b (not-false (eqb a b) (refuse-false (not (eqb a b)) 6 p e))

pub length-accepted : (p a b : ℕ) → a ≡ b → length_rule p a b ≡ accepted
length-accepted p a b e = refuse-accepted 6 p (ap not (eq-eqb a b e))

pub list-lengths : (s : Params) (self parity : List ℕ) → list_lengths s self parity ≡ accepted → (length self ≡ 2 * order s) × (length parity ≡ 2 * order s)
unfolding list_lengths
list-lengths s self parity e =
    let a : Verdict = length_rule 1 (length self) (2 * order s) in
    let b : Verdict = length_rule 2 (length parity) (2 * order s) in
    (length_equal 1 (length self) (2 * order s) (then_first a b e), length_equal 2 (length parity) (2 * order s) (then_rest a b e))

pub lengths_fit : (s : Params) (self parity w : List ℕ) → kit_lengths s self parity w ≡ accepted → FitsOrder (order s) self parity w
unfolding kit_lengths
lengths_fit s self parity w e =
    let a : Verdict = list_lengths s self parity in
    let b : Verdict = length_rule 3 (length w) (order s * row_bytes (order s)) in
    let lists = list-lengths s self parity (then_first a b e) in
    record {
      self_length = lists.0;
      parity_length = lists.1;
      inverse_length = length_equal 3 (length w) (order s * row_bytes (order s)) (then_rest a b e);
    }

pub lengths_accepted : (s : Params) (self parity w : List ℕ) → FitsOrder (order s) self parity w → kit_lengths s self parity w ≡ accepted
unfolding kit_lengths list_lengths
lengths_accepted s self parity w k =
    then_accepted
    (then_accepted (length-accepted 1 (length self) (2 * order s) k.self_length) (length-accepted 2 (length parity) (2 * order s) k.parity_length))
    (length-accepted 3 (length w) (order s * row_bytes (order s)) k.inverse_length)

pub frame-lengths : (s : Params) (L : ℕ) (info red : List ℕ) → frame_lengths s L info red ≡ accepted → (length info ≡ info_length s L) × (length red ≡ red_length s L)
unfolding frame_lengths
frame-lengths s L info red e =
    let a : Verdict = length_rule 4 (length info) (info_length s L) in
    let b : Verdict = length_rule 5 (length red) (red_length s L) in
    (length_equal 4 (length info) (info_length s L) (then_first a b e), length_equal 5 (length red) (red_length s L) (then_rest a b e))

-- ---- rule 7

module _ (n : ℕ) (l : List ℕ) where
  entry_good : (p : ℕ) → bad_entry n l p ≡ false → (get_or l p 0 < n) × ((q : ℕ) → q < p → get_or l q 0 ≢ get_or l p 0)
  unfolding bad_entry
  entry_good p e =
      let f : ℕ → Bool = λ q. eqb (get_or l q 0) (get_or l p 0) in
      let b = or-false (leb n (get_or l p 0)) (ltb (first_where p f) p) e in
      (leb-false n (get_or l p 0) b.0, λ q h. eqb-false (get_or l q 0) (get_or l p 0) (none_before p f b.1 q h))

  good_entry : (p : ℕ) → get_or l p 0 < n → ((q : ℕ) → q < p → get_or l q 0 ≢ get_or l p 0) → bad_entry n l p ≡ false
  unfolding bad_entry
  good_entry p h d =
      or-both (lt-leb n (get_or l p 0) h) (none_found p (λ q. eqb (get_or l q 0) (get_or l p 0)) (λ q m. ne_eqb (get_or l q 0) (get_or l p 0) (d q m)))

  pub entries_permute : ((p : ℕ) → p < n → bad_entry n l p ≡ false) → Permutes n (λ p. get_or l p 0)
  entries_permute h = record { below = λ k m. (entry_good k (h k m)).0; once = λ j k hj hk e. go j k hj hk e (dec_lt j k) (dec_lt k j) }
    where
      go : (j k : ℕ) → j < n → k < n → get_or l j 0 ≡ get_or l k 0 → Dec (j < k) → Dec (k < j) → j ≡ k
      go j k hj hk e (yes a) b = absurd ((entry_good k (h k hk)).1 j a e)
      go j k hj hk e (no a) (yes b) = absurd ((entry_good j (h j hj)).1 k b (sym e))
      go j k hj hk e (no a) (no b) = omega arith

  pub permute_entries : Permutes n (λ p. get_or l p 0) → (p : ℕ) → p < n → bad_entry n l p ≡ false
  permute_entries P p h = good_entry p (P.below p h) (λ q m e. omega (arith, P.once q p (omega arith) h e, m))

pub lists_permute : (s : Params) (l : Interleavers) → list_rule s l ≡ accepted → Permutes (order s) (λ p. get_or l.self p 0) × Permutes (order s) (λ p. get_or l.parity p 0)
unfolding list_rule
lists_permute s l e =
    let n : ℕ = order s in
    let u : Verdict = refuse_first 7 0 n (bad_entry n l.self) in
    let v : Verdict = refuse_first 7 n n (bad_entry n l.parity) in (
      entries_permute n l.self (refuse_first-false 7 0 n (bad_entry n l.self) (then_first u v e)),
      entries_permute n l.parity (refuse_first-false 7 n n (bad_entry n l.parity) (then_rest u v e)),
    )

pub permute_lists : (s : Params) (l : Interleavers) → Permutes (order s) (λ p. get_or l.self p 0) → Permutes (order s) (λ p. get_or l.parity p 0)
    → list_rule s l ≡ accepted
unfolding list_rule
permute_lists s l ps pp =
    let n : ℕ = order s in
    then_accepted (refuse_first-accepted 7 0 n (bad_entry n l.self) (permute_entries n l.self ps))
    (refuse_first-accepted 7 n n (bad_entry n l.parity) (permute_entries n l.parity pp))

-- ---- rule 8

module _ (w : List ℕ) (n : ℕ) where
  bit-not_one : (i j : ℕ) → eqb (inverse_entry w n i j) 1 ≡ false → inverse_entry w n i j ≡ 0
  unfolding inverse_entry
  bit-not_one i j e = let d = eqb-false (inverse_entry w n i j) 1 e in omega (arith, d)

  pub spare-zero : (i : ℕ) → spare_row w n i ≡ false → (j : ℕ) → n ≤ j → j < 8 * row_bytes n → inverse_entry w n i j ≡ 0
  unfolding spare_row
  spare-zero i e j h k =
      let c : ℕ = j - n in
      let d : n + c ≡ j = omega arith in
      ap (inverse_entry w n i) (sym d)
      ∙ bit-not_one i (n + c) (none_before (8 * row_bytes n - n) (λ j. eqb (inverse_entry w n i (n + j)) 1) e c (omega arith))

  pub zero-spare : (i : ℕ) → ((j : ℕ) → n ≤ j → j < 8 * row_bytes n → inverse_entry w n i j ≡ 0) → spare_row w n i ≡ false
  unfolding spare_row
  zero-spare i h =
      none_found (8 * row_bytes n - n) (λ j. eqb (inverse_entry w n i (n + j)) 1)
      (λ j m. let z = h (n + j) (omega arith) (omega arith) in ne_eqb (inverse_entry w n i (n + j)) 1 (λ e. omega (arith, z, e)))

-- ---- rule 9

module _ (n : ℕ) (a b : ℕ → ℕ → ℕ) where
  pub product-identity : ((e : ℕ) → e < n * n → wrong_entry n a b e ≡ false) → (i j : ℕ) → i < n → j < n → product n a b i j ≡ identity i j
  unfolding wrong_entry
  product-identity h i j hi hj =
      let e : ℕ = i * n + j in
      let z : product n a b (e / n) (e % n) ≡ identity (e / n) (e % n) =
      eqb-true (product n a b (e / n) (e % n)) (identity (e / n) (e % n))
      (not-false (eqb (product n a b (e / n) (e % n)) (identity (e / n) (e % n))) (h e (digits_lt {q = i} {m = n} {r = j} {c = n} hi hj))) in
      sym (ap₂ (λ (x y : ℕ). product n a b x y) (digits_div i hj) (digits_mod i hj)) ∙ z ∙ ap₂ (λ (x y : ℕ). identity x y) (digits_div i hj) (digits_mod i hj)

  pub identity-product : 0 < n → ((i j : ℕ) → i < n → j < n → product n a b i j ≡ identity i j) → (e : ℕ) → e < n * n → wrong_entry n a b e ≡ false
  unfolding wrong_entry
  identity-product pos h e m =
      ap not (eq-eqb (product n a b (e / n) (e % n)) (identity (e / n) (e % n)) (h (e / n) (e % n) ((div-lt_iff_lt-mul pos).1 m) (mod-lt e pos)))

-- ---- rule 10

pub bytes_bits : (base : ℕ) (bytes : List ℕ) → bit_rule base bytes ≡ accepted → Bits bytes
unfolding bit_rule
bytes_bits base bytes e k = go (dec_lt k (length bytes))
  where
    go : Dec (k < length bytes) → get_or bytes k 0 < 2
    go (yes h) = omega (arith, ltb-false 1 (get_or bytes k 0) (refuse_first-false 10 base (length bytes) (λ j. ltb 1 (get_or bytes j 0)) e k h))
    go (no h) = let z : get_or bytes k 0 ≡ 0 = get_or-eq_default bytes 0 (omega arith) in omega arith

pub bits-accepted : (base : ℕ) (b : List ℕ) → Bits b → bit_rule base b ≡ accepted
unfolding bit_rule
bits-accepted base b h = refuse_first-accepted 10 base (length b) (λ k. ltb 1 (get_or b k 0)) (λ k l. le-ltb 1 (get_or b k 0) (omega (arith, h k)))

pub frame-bits : (info red : List ℕ) → frame_bits info red ≡ accepted → Bits info × Bits red
unfolding frame_bits
frame-bits info red e =
    let a : Verdict = bit_rule 0 info in
    let b : Verdict = bit_rule (length info) red in
    (bytes_bits 0 info (then_first a b e), bytes_bits (length info) red (then_rest a b e))

-- ---- rules 7 to 10 of a kit and its information

pub content_accepted : (s : Params) (l : Interleavers) (w info : List ℕ) → content_rules s l w info ≡ accepted → (kit_rules s l w ≡ accepted) × (bit_rule 0 info ≡ accepted)
unfolding content_rules kit_rules
content_accepted s l w info e =
    let after-spare : Verdict = bit_rule 0 info then inverse_rule s l w in
    let f : (spare_rule s w then after-spare) ≡ accepted = then_rest (list_rule s l) (spare_rule s w then after-spare) e in
    let g : after-spare ≡ accepted = then_rest (spare_rule s w) after-spare f in (
      then_accepted (then_first (list_rule s l) (spare_rule s w then after-spare) e)
          (then_accepted (then_first (spare_rule s w) after-spare f) (then_rest (bit_rule 0 info) (inverse_rule s l w) g)),
      then_first (bit_rule 0 info) (inverse_rule s l w) g,
    )

pub accepted_content : (s : Params) (l : Interleavers) (w info : List ℕ) → kit_rules s l w ≡ accepted → bit_rule 0 info ≡ accepted → content_rules s l w info ≡ accepted
unfolding content_rules kit_rules
accepted_content s l w info e b =
    let f : (spare_rule s w then inverse_rule s l w) ≡ accepted = then_rest (list_rule s l) (spare_rule s w then inverse_rule s l w) e in
    then_accepted (then_first (list_rule s l) (spare_rule s w then inverse_rule s l w) e)
    (then_accepted (then_first (spare_rule s w) (inverse_rule s l w) f) (then_accepted b (then_rest (spare_rule s w) (inverse_rule s l w) f)))
