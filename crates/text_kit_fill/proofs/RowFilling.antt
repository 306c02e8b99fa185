-- Filling the inverse from the values of its lines.
--   Run                            what follows the number in a row's line
--   Parts, row_there .. row_packed   `fill_row`: where the bits of a row's line stand
--   pack_rows-more, put-row         one row more
--   Packed, packed_start .. packed_all   the state of the filling after p lines
-- Assumes nothing.
use Prim.Native.Nat.{ℕ, zero, suc, ◌+◌, ◌-◌, ◌*◌, ◌%◌, ◌≤◌, ◌<◌}
use mathlib.Core.Path.{◌≡◌, refl, sym, ap, ap₂, ◌∙◌}
use mathlib.Core.List.{List, [], ◌∷◌, ◌++◌, append_assoc, append-nil}
use native.Mathlib.Omega.{arith}
use native.Mathlib.Numerals.{add-one}
use lib.ListN.{length, take, drop, length-append, length-drop}
use lib.Seq.{sets, take_all, drop-drop, take-append-le, drop-append-le}
use Rattle.text_formats.specs.Format.{Item, byte, dec}
use Rattle.text_formats.specs.Items.{lits, Walk, stuck, past, prep, walk, onward, spell, Fit, bits, bits_line, bits_lines, values, Passes}
use Rattle.text_formats.proofs.Spelling.{tidy_append, tidy_bits, tidy_oks, tidy_bits_line, walk-sound}
use Rattle.text_formats.proofs.Takes.{passed_length, line_takes}
use Rattle.text_formats.proofs.Walking.{walk-append, prep_nil, prep-prep}
use Rattle.text_formats.proofs.Lines.{lines-whole, lines_end, lines-walk}
use Rattle.text_items.specs.declared.Broken.{Broken}
use Rattle.std.specs.Prelude.{Result, Ok, Err, IsOk}
use Rattle.text_items.specs.Answers.{step_of, step_walk}
use Rattle.staircase.specs.System.{row_bytes}
use Rattle.staircase.proofs.Bounds.{stretch-end}
use Rattle.staircase.proofs.Fill.{front-all, front-sets}
use Rattle.text_kit_fill.specs.Bytes.{lows}
use Rattle.text.proofs.Bytes.{pack_rows-length, length-pack}
use Rattle.text.specs.KitReader.{pack, pack_rows}
use Rattle.text_items.proofs.Lines.{answer_past}

-- ---- the bits of a line

-- what follows the number in a row's line
abbrev pub Run : ℕ → List Item
Run n = byte 32 ∷ (bits n ++ (byte 10 ∷ []))

-- The bits of a run are the last bits of its characters.
run_lows : (n : ℕ) (ws t : List ℕ) → Fit (bits n ++ (byte 10 ∷ [])) ws
    → (lows (take n (spell (bits n ++ (byte 10 ∷ [])) ws ++ t)) ≡ ws) × (length (spell (bits n ++ (byte 10 ∷ [])) ws) ≡ n + 1)
unfolding lows
run_lows zero [] t h = (refl, refl)
run_lows zero (v ∷ ws) t h = absurd h
run_lows (suc n) [] t h = absurd h
run_lows (suc n) (v ∷ ws) t h =
    let (a, b) = run_lows n ws t h.1 in
    let e : (48 + v % 2) % 2 ≡ v = even v h.0 in
    (ap (λ (k : ℕ). k ∷ lows (take n (spell (bits n ++ (byte 10 ∷ [])) ws ++ t))) e ∙ ap (λ (l : List ℕ). v ∷ l) a, omega arith)
  where
    even : (v : ℕ) → v < 2 → (48 + v % 2) % 2 ≡ v
    even v l = omega arith

-- i is the position of the space; then n bits and the line feed.
pub record Parts (n p : ℕ) (s : List ℕ) (at i : ℕ) : Type 0 where
  pub room : i + 1 + n + 1 ≤ length s
  pub line : walk (bits_line n p) s at ≡ past (lows (take n (drop (i + 1) s))) (i + 1 + n + 1)

module _ (n p : ℕ) (s : List ℕ) (at : ℕ) (x : Result ℕ Broken) (ex : step_walk x ≡ walk (lits (dec p)) s at) where
  pub row_there : Passes (walk (bits_line n p) s at) → IsOk x
  unfolding bits_line
  row_there h = go x refl
    where
      go : (y : Result ℕ Broken) → x ≡ y → IsOk y
      go (Ok i) f = refl
      go (Err b) f = let z : Passes (stuck b.place) = rw (walk-append (lits (dec p)) (Run n) s at, ← ex, f) at h in absurd z

  module _ (i : ℕ) (fx : x ≡ Ok i) where
    from_space : walk (bits_line n p) s at ≡ walk (Run n) s i
    unfolding bits_line
    from_space = rw (walk-append (lits (dec p)) (Run n) s at, ← ex, fx) (prep_nil (walk (Run n) s i))

    parts : (ws : List ℕ) (q : ℕ) → walk (Run n) s i ≡ past ws q → Parts n p s at i
    parts ws q e =
        let P = walk-sound (Run n) s i ws q (omega arith, tidy_oks (bits n ++ (byte 10 ∷ [])) (tidy_append (bits n) (byte 10 ∷ []) (tidy_bits n) (omega arith, tt))) e in
        let (a, b) = run_lows n ws (drop q s) P.fit in
        let z : drop (i + 1) s ≡ spell (bits n ++ (byte 10 ∷ [])) ws ++ drop q s = sym (drop-drop 1 i s) ∙ ap (drop 1) P.spelt in
        let m : q ≡ i + 1 + n + 1 = omega (arith, P.moves, b) in
        record {
          room = omega (arith, ap length P.spelt, length-drop i s, length-append (spell (bits n ++ (byte 10 ∷ [])) ws) (drop q s), b);
          line = from_space ∙ e ∙ ap (λ (k : ℕ). past ws k) m ∙ ap (λ (l : List ℕ). past l (i + 1 + n + 1)) (sym a ∙ ap (λ (l : List ℕ). lows (take n l)) (sym z));
        }

    pub row_parts : Passes (walk (bits_line n p) s at) → Parts n p s at i
    row_parts h = go (walk (Run n) s i) refl (rw from_space at h)
      where
        go : (w : Walk) → walk (Run n) s i ≡ w → Passes w → Parts n p s at i
        go (stuck q) e k = absurd k
        go (past ws q) e k = parts ws q e

    pub row_next : Passes (walk (bits_line n p) s at) → Ok (i + 1 + n + 1) ≡ step_of (walk (bits_line n p) s at)
    row_next h = sym (ap step_of (row_parts h).line)

    pub row_packed : Passes (walk (bits_line n p) s at) → (from : ℕ) (o o' : List ℕ) → o' ≡ sets o from (pack (row_bytes n) (lows (take n (drop (i + 1) s))))
        → o' ≡ sets o from (pack (row_bytes n) (values (walk (bits_line n p) s at)))
    row_packed h from o o' e = e ∙ sym (ap (λ (w : Walk). sets o from (pack (row_bytes n) (values w))) (row_parts h).line)

-- ---- one row more

rows-front : (n p : ℕ) (ws vs : List ℕ) → length ws ≡ suc p * n
    → pack_rows n (suc p) (drop n ws ++ vs) ≡ pack_rows n p (drop n ws) ++ pack (row_bytes n) vs
    → pack_rows n (suc (suc p)) (ws ++ vs) ≡ pack_rows n (suc p) ws ++ pack (row_bytes n) vs
unfolding pack_rows
rows-front n p ws vs e ih =
    let l : n ≤ length ws = omega arith in
    ap (λ (z : List ℕ). pack (row_bytes n) z ++ pack_rows n (suc p) (drop n (ws ++ vs))) (take-append-le n ws vs l)
    ∙ ap (λ (z : List ℕ). pack (row_bytes n) (take n ws) ++ pack_rows n (suc p) z) (drop-append-le n ws vs l)
    ∙ ap (λ (z : List ℕ). pack (row_bytes n) (take n ws) ++ z) ih
    ∙ sym (append_assoc (pack (row_bytes n) (take n ws)) (pack_rows n p (drop n ws)) (pack (row_bytes n) vs))

pack_rows-more : (n p : ℕ) (ws vs : List ℕ) → length ws ≡ p * n → length vs ≡ n → pack_rows n (suc p) (ws ++ vs) ≡ pack_rows n p ws ++ pack (row_bytes n) vs
unfolding pack_rows
pack_rows-more n zero [] vs e f = append-nil (pack (row_bytes n) (take n vs)) ∙ ap (pack (row_bytes n)) (take_all n vs (omega arith))
pack_rows-more n zero (w ∷ ws) vs e f = absurd (omega arith)
pack_rows-more n (suc p) ws vs e f = rows-front n p ws vs e (pack_rows-more n p (drop n ws) vs (omega (arith, length-drop n ws)) f)

put-row : (w₀ ws vs : List ℕ) (n p : ℕ) → length ws ≡ p * n → length vs ≡ n → p * row_bytes n + row_bytes n ≤ length w₀
    → sets (pack_rows n p ws ++ drop (p * row_bytes n) w₀) (p * row_bytes n) (pack (row_bytes n) vs) ≡ pack_rows n (p + 1) (ws ++ vs) ++ drop ((p + 1) * row_bytes n) w₀
put-row w₀ ws vs n p e f h =
    let b : ℕ = row_bytes n in
    let l : length (pack b vs) ≡ b = length-pack b vs in
    let z : p * b + length (pack b vs) ≡ (p + 1) * b = omega (arith, l) in
    front-sets (pack_rows n p ws) w₀ (p * b) (pack b vs) (pack_rows-length n p ws) (omega (arith, l, h))
    ∙ ap₂ (λ (x : List ℕ) (i : ℕ). x ++ drop i w₀) (sym (pack_rows-more n p ws vs e f) ∙ ap (λ (i : ℕ). pack_rows n i (ws ++ vs)) (sym (add-one p))) z

-- ---- the state of the filling

-- After p lines: ws are the values read, and start the inverse; what is left at q is the lines from p on.
pub record Packed (s : List ℕ) (at n : ℕ) (w₀ w : List ℕ) (q p : ℕ) : Type 0 where
  pub ws : List ℕ
  pub count : length ws ≡ p * n
  pub bytes : w ≡ pack_rows n p ws ++ drop (p * row_bytes n) w₀
  pub rest : walk (bits_lines n 0 n) s at ≡ prep ws (walk (bits_lines n p (n - p)) s q)

onward-passes : (us : List ℕ) (w : Walk) (k : ℕ → Walk) → Passes (prep us (onward w k)) → Passes w
onward-passes us (stuck q) k h = h
onward-passes us (past ws q) k h = tt

module _ (s : List ℕ) (at n : ℕ) (w₀ : List ℕ) where
  pub packed_start : Packed s at n w₀ w₀ at 0
  unfolding pack_rows
  packed_start =
      let z : 0 ≡ 0 * row_bytes n = omega arith in
      record {
        ws = [];
        count = omega arith;
        bytes = ap (λ (i : ℕ). drop i w₀) z;
        rest = lines-whole (bits_line n) 0 n s at ∙ sym (prep_nil (walk (bits_lines n 0 (n - 0)) s at));
      }

  module _ (small : n ≤ 4096) (hw : length w₀ ≡ n * row_bytes n) (w : List ℕ) (q p : ℕ) (F : Packed s at n w₀ w q p) where
    module _ (lt : p < n) where
      rest-is : walk (bits_lines n 0 n) s at ≡ prep F.ws (onward (walk (bits_line n p) s q) (λ r. walk (bits_lines n (p + 1) (n - (p + 1))) s r))
      rest-is = F.rest ∙ ap (prep F.ws) (lines-walk (bits_line n) p n p s q lt)

      pub packed-line : Passes (walk (bits_lines n 0 n) s at) → Passes (walk (bits_line n p) s q)
      packed-line h = onward-passes F.ws (walk (bits_line n p) s q) (λ r. walk (bits_lines n (p + 1) (n - (p + 1))) s r) (rw rest-is at h)

      pub packed_next : (r : ℕ) (w' : List ℕ) → Ok r ≡ step_of (walk (bits_line n p) s q)
          → w' ≡ sets w (p * row_bytes n) (pack (row_bytes n) (values (walk (bits_line n p) s q))) → Packed s at n w₀ w' r (p + 1)
      packed_next r w' e f =
          let vs : List ℕ = values (walk (bits_line n p) s q) in
          let v : walk (bits_line n p) s q ≡ past vs r = answer_past (walk (bits_line n p) s q) (Ok r) r e refl in
          let c : length vs ≡ n = passed_length (bits_line n p) s q vs r (tidy_bits_line n p (omega arith)) (sym v) ∙ line_takes n p in
          let next : ℕ → Walk = λ (k : ℕ). walk (bits_lines n (p + 1) (n - (p + 1))) s k in
          record {
            ws = F.ws ++ vs;
            count = omega (arith, length-append F.ws vs, F.count, c);
            bytes =
                f ∙ ap (λ (l : List ℕ). sets l (p * row_bytes n) (pack (row_bytes n) vs)) F.bytes
                ∙ put-row w₀ F.ws vs n p F.count c (omega (arith, stretch-end p n (row_bytes n) lt, hw));
            rest = rest-is ∙ ap (λ (k : Walk). prep F.ws (onward k next)) v ∙ prep-prep F.ws vs (next r);
          }

    module _ (done : n ≤ p) (within : p ≤ n) where
      whole : p ≡ n
      whole = omega arith

      all_read : walk (bits_lines n 0 n) s at ≡ past F.ws q
      all_read = rw (F.rest, lines_end (bits_line n) p n p s q done) (ap (λ (z : List ℕ). past z q) (append-nil F.ws))

      pub packed_all : w ≡ pack_rows n n (values (walk (bits_lines n 0 n) s at))
      packed_all =
          F.bytes
          ∙ ap (λ (i : ℕ). pack_rows n i F.ws ++ drop (i * row_bytes n) w₀) whole
          ∙ front-all (pack_rows n n F.ws) w₀ (n * row_bytes n) (omega arith)
          ∙ ap (pack_rows n n) (sym (ap values all_read))
