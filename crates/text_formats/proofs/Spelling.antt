-- Lists of items: what they render, when they are clear, and what the scan of a format makes of them.
--   seq_renders, Spelt, renders_seq   the texts of items and a format are what the items spell, and a text of the format
--   Tidy, clear_seq, tidy-..          lists of items that keep a format clear
--   prefix, continue, scan-seq        the scan of items and a format is the walk of the items, and then the scan of the format
--   scan-whole                        the scan from position 0 on
--   walk-spell                        a tidy list that is spelt is passed
--   Oks, tidy-oks, Passed, walk-sound what is passed is spelt
--   oks_bytes, spell-lits, fit-lits   the bytes that are spelt, as fixed bytes
-- Assumes nothing.
use Prim.Native.Nat.{ℕ, zero, suc, ◌+◌, ◌%◌, ◌<◌}
use mathlib.Core.Path.{◌≡◌, refl, sym, ap, ◌∙◌}
use mathlib.Core.Bool.{false}
use mathlib.Core.List.{List, [], ◌∷◌, ◌++◌, append_assoc}
use native.Mathlib.Omega.{arith}
use native.Mathlib.Nat.{add-zero, zero-add, add_assoc}
use lib.ListN.{length, take, drop, length-append, take-append-drop}
use lib.Seq.{drop-drop, drop-append_seam, length-take-le}
use Rattle.text_formats.specs.Format.{dec, is_digit, Item, byte, num, bit, Shows, Piece, none, got, item, Format, Renders, Scan, refused, read, after, step, scan, Clear}
use Rattle.text_formats.specs.Items.{lits, seq, Walk, stuck, past, prep, stride, walk, spell, Fit, bits, bits_line, moved, scan_at}
use Rattle.text_formats.proofs.Digits.{Digits, digits_are}
use Rattle.text_formats.proofs.Items.{Sound, Ok, Guard, item-sound, item-complete}

-- ---- rendering

-- the character of a bit
bit_char : (v : ℕ) → v < 2 → ◌≡◌ {A = List ℕ} ((48 + v % 2) ∷ []) ((48 + v) ∷ [])
bit_char v h = let e : 48 + v % 2 ≡ 48 + v = omega arith in ap (λ (c : ℕ). c ∷ []) e

pub seq_renders : (is : List Item) (F : Format) (L : ℕ) (ws us t : List ℕ) → Fit is ws → Renders F L us t → Renders (seq is F) L (ws ++ us) (spell is ws ++ t)
seq_renders [] F L [] us t h r = r
seq_renders [] F L (w ∷ ws) us t h r = absurd h
seq_renders (byte b ∷ is) F L ws us t h r = ([], b ∷ [], ws ++ us, spell is ws ++ t, (refl, refl), refl, refl, seq_renders is F L ws us t h r)
seq_renders (num ∷ is) F L [] us t h r = absurd h
seq_renders (num ∷ is) F L (v ∷ ws) us t h r =
    (v ∷ [], dec v, ws ++ us, spell is ws ++ t, (v, h.0, refl, refl), refl, append_assoc (dec v) (spell is ws) t, seq_renders is F L ws us t h.1 r)
seq_renders (bit ∷ is) F L [] us t h r = absurd h
seq_renders (bit ∷ is) F L (v ∷ ws) us t h r =
    (v ∷ [], (48 + v % 2) ∷ [], ws ++ us, spell is ws ++ t, (v, h.0, refl, bit_char v h.0), refl, refl, seq_renders is F L ws us t h.1 r)

abbrev pub Spelt : List Item → Format → ℕ → List ℕ → List ℕ → Type 0
Spelt is F L vs s = (ws : List ℕ) × (us : List ℕ) × (t : List ℕ) × Fit is ws × (vs ≡ ws ++ us) × (s ≡ spell is ws ++ t) × Renders F L us t

-- One item more.
pub spell-item : (i : Item) (is : List Item) (w p us : List ℕ) → Shows i w p → Fit is us → (spell (i ∷ is) (w ++ us) ≡ p ++ spell is us) × Fit (i ∷ is) (w ++ us)
spell-item (byte b) is w p us sh f = (rw (sh.0, sh.1), rw sh.0 f)
spell-item num is w p us sh f = (rw (sh.2, sh.3), rw sh.2 (sh.1, f))
spell-item bit is w p us sh f = (rw (sh.2, sh.3) (ap (λ (c : List ℕ). c ++ spell is us) (bit_char sh.0 sh.1)), rw sh.2 (sh.1, f))

spelt-item : (i : Item) (is : List Item) (F : Format) (L : ℕ) (vs s ws p us t : List ℕ)
    → Shows i ws p → vs ≡ ws ++ us → s ≡ p ++ t → Spelt is F L us t → Spelt (i ∷ is) F L vs s
spelt-item i is F L vs s ws p us t sh e f (ws', us', t', h, e', f', r') =
    let g = spell-item i is ws p ws' sh h in
    (ws ++ ws', us', t', g.1, rw (e, e') (sym (append_assoc ws ws' us')), rw (f, f', g.0) (sym (append_assoc p (spell is ws') t')), r')

pub renders_seq : (is : List Item) (F : Format) (L : ℕ) (vs s : List ℕ) → Renders (seq is F) L vs s → Spelt is F L vs s
renders_seq [] F L vs s r = ([], vs, s, tt, refl, refl, r)
renders_seq (i ∷ is) F L vs s (ws, p, us, t, sh, e, f, r) = spelt-item i is F L vs s ws p us t sh e f (renders_seq is F L us t r)

-- ---- clear lists: a number is followed by a byte that is no digit

abbrev pub Tidy : List Item → Type 0
Tidy [] = Unit {0}
Tidy (byte b ∷ is) = (b < 256) × Tidy is
Tidy (bit ∷ is) = Tidy is
Tidy (num ∷ []) = ⊥
Tidy (num ∷ byte b ∷ is) = (is_digit b ≡ false) × (b < 256) × Tidy is
Tidy (num ∷ num ∷ is) = ⊥
Tidy (num ∷ bit ∷ is) = ⊥

pub clear_seq : (is : List Item) (F : Format) → Tidy is → Clear F → Clear (seq is F)
clear_seq [] F h c = c
clear_seq (byte b ∷ is) F h c = (h.0, clear_seq is F h.1 c)
clear_seq (bit ∷ is) F h c = clear_seq is F h c
clear_seq (num ∷ []) F h c = absurd h
clear_seq (num ∷ byte b ∷ is) F h c = (h.0, (h.1, clear_seq is F h.2 c))
clear_seq (num ∷ num ∷ is) F h c = absurd h
clear_seq (num ∷ bit ∷ is) F h c = absurd h

pub tidy_append : (is js : List Item) → Tidy is → Tidy js → Tidy (is ++ js)
tidy_append [] js h k = k
tidy_append (byte b ∷ is) js h k = (h.0, tidy_append is js h.1 k)
tidy_append (bit ∷ is) js h k = tidy_append is js h k
tidy_append (num ∷ []) js h k = absurd h
tidy_append (num ∷ byte b ∷ is) js h k = (h.0, h.1, tidy_append is js h.2 k)
tidy_append (num ∷ num ∷ is) js h k = absurd h
tidy_append (num ∷ bit ∷ is) js h k = absurd h

pub tidy_bits : (n : ℕ) → Tidy (bits n)
tidy_bits zero = tt
tidy_bits (suc n) = tidy_bits n

tidy_digits : (l : List ℕ) → Digits l → Tidy (lits l)
tidy_digits [] d = tt
tidy_digits (c ∷ l) d = (omega arith, tidy_digits l d.2)

pub tidy_dec : (v : ℕ) → v < 10000 → Tidy (lits (dec v))
unfolding dec
tidy_dec v h = tidy_digits (dec v) (digits_are 20 v)

pub tidy_bits_line : (n p : ℕ) → p < 10000 → Tidy (bits_line n p)
unfolding bits_line
tidy_bits_line n p h =
    tidy_append (lits (dec p)) ((byte 32 ∷ bits n) ++ (byte 10 ∷ [])) (tidy_dec p h)
    (tidy_append (byte 32 ∷ bits n) (byte 10 ∷ []) (omega arith, tidy_bits n) (omega arith, tt))

-- ---- the scan over a list is the walk, and then the scan of what follows

abbrev pub prefix : List ℕ → Scan → Scan
prefix ws (refused k) = refused k
prefix ws (read l vs) = read l (ws ++ vs)

abbrev pub continue : Walk → (ℕ → Scan) → Scan
continue (stuck q) k = refused q
continue (past ws q) k = prefix ws (k q)

pub prefix_nil : (x : Scan) → prefix [] x ≡ x
prefix_nil (refused k) = refl
prefix_nil (read l vs) = refl

moved-after : (ws : List ℕ) (at n : ℕ) (x : Scan) → moved at (after ws n x) ≡ prefix ws (moved (at + n) x)
moved-after ws at n (refused k) = ap refused (sym (add_assoc at n k))
moved-after ws at n (read l vs) = refl

prefix_continue : (ws : List ℕ) (w : Walk) (k : ℕ → Scan) → prefix ws (continue w k) ≡ continue (prep ws w) k
prefix_continue ws (stuck q) k = refl
prefix_continue ws (past us q) k = go (k q)
  where
    go : (x : Scan) → prefix ws (prefix us x) ≡ prefix (ws ++ us) x
    go (refused r) = refl
    go (read l vs) = ap (λ (z : List ℕ). read l z) (sym (append_assoc ws us vs))

pub scan-seq : (is : List Item) (F : Format) (s : List ℕ) (at : ℕ) → scan_at (seq is F) s at ≡ continue (walk is s at) (λ q. scan_at F s q)
unfolding scan_at walk
scan-seq [] F s at = sym (prefix_nil (moved at (scan F (drop at s))))
scan-seq (i ∷ is) F s at = go (item i (drop at s)) (λ n. scan-seq is F s n)
  where
    go : (x : Piece) → ((q : ℕ) → moved q (scan (seq is F) (drop q s)) ≡ continue (walk is s q) (λ r. moved r (scan F (drop r s))))
        → moved at (step x (λ n. scan (seq is F) (drop n (drop at s)))) ≡ continue (stride x at (λ q. walk is s q)) (λ q. moved q (scan F (drop q s)))
    go none ih = ap refused (add-zero at)
    go (got ws n) ih =
        moved-after ws at n (scan (seq is F) (drop n (drop at s)))
        ∙ ap (λ (l : List ℕ). prefix ws (moved (at + n) (scan (seq is F) l))) (drop-drop n at s)
        ∙ ap (prefix ws) (ih (at + n))
        ∙ prefix_continue ws (walk is s (at + n)) (λ q. moved q (scan F (drop q s)))

pub scan-whole : (F : Format) (s : List ℕ) → scan_at F s 0 ≡ scan F s
unfolding scan_at
scan-whole F s = go (scan F s)
  where
    go : (x : Scan) → moved 0 x ≡ x
    go (refused k) = ap refused (zero-add k)
    go (read l vs) = refl

walk-item : (i : Item) (is : List Item) (w p rest s : List ℕ) (at : ℕ) → Shows i w p → Guard i rest → drop at s ≡ p ++ rest
    → walk (i ∷ is) s at ≡ prep w (walk is s (at + length p))
unfolding walk
walk-item i is w p rest s at sh g e = rw (e, item-complete i w p rest sh g)

drop-item : (p rest s : List ℕ) (at : ℕ) → drop at s ≡ p ++ rest → drop (at + length p) s ≡ rest
drop-item p rest s at e = sym (drop-drop (length p) at s) ∙ ap (λ (l : List ℕ). drop (length p) l) e ∙ drop-append_seam p rest

-- ---- a clear list that is spelt is passed, whatever follows it

pub walk-spell : (is : List Item) (ws t s : List ℕ) (at : ℕ) → Tidy is → Fit is ws → drop at s ≡ spell is ws ++ t → walk is s at ≡ past ws (at + length (spell is ws))
unfolding walk
walk-spell [] [] t s at h k e = ap (λ (n : ℕ). past [] n) (sym (add-zero at))
walk-spell [] (w ∷ ws) t s at h k e = absurd k
walk-spell (byte b ∷ is) ws t s at h k e =
    let z : at + 1 + length (spell is ws) ≡ at + suc (length (spell is ws)) = omega arith in
    walk-item (byte b) is [] (b ∷ []) (spell is ws ++ t) s at (refl, refl) tt e
    ∙ ap (prep []) (walk-spell is ws t s (at + 1) h.1 k (drop-item (b ∷ []) (spell is ws ++ t) s at e) ∙ ap (λ (n : ℕ). past ws n) z)
walk-spell (bit ∷ is) [] t s at h k e = absurd k
walk-spell (bit ∷ is) (v ∷ ws) t s at h k e =
    let z : at + 1 + length (spell is ws) ≡ at + suc (length (spell is ws)) = omega arith in
    walk-item bit is (v ∷ []) ((48 + v % 2) ∷ []) (spell is ws ++ t) s at (v, k.0, refl, bit_char v k.0) tt e
    ∙ ap (prep (v ∷ [])) (walk-spell is ws t s (at + 1) h k.1 (drop-item ((48 + v % 2) ∷ []) (spell is ws ++ t) s at e) ∙ ap (λ (n : ℕ). past ws n) z)
walk-spell (num ∷ []) ws t s at h k e = absurd h
walk-spell (num ∷ num ∷ is) ws t s at h k e = absurd h
walk-spell (num ∷ bit ∷ is) ws t s at h k e = absurd h
walk-spell (num ∷ byte b ∷ is) [] t s at h k e = absurd k
walk-spell (num ∷ byte b ∷ is) (v ∷ ws) t s at h k e =
    let f : drop at s ≡ dec v ++ (b ∷ spell is ws ++ t) = e ∙ append_assoc (dec v) (b ∷ spell is ws) t in
    let n : ℕ = length (dec v) in
    let z : at + n + suc (length (spell is ws)) ≡ at + length (dec v ++ (b ∷ spell is ws)) = omega (arith, length-append (dec v) (b ∷ spell is ws)) in
    walk-item num (byte b ∷ is) (v ∷ []) (dec v) (b ∷ spell is ws ++ t) s at (v, k.0, refl, refl) h.0 f
    ∙ ap (prep (v ∷ [])) (walk-spell (byte b ∷ is) ws t s (at + n) (h.1, h.2) k.1 (drop-item (dec v) (b ∷ spell is ws ++ t) s at f) ∙ ap (λ (m : ℕ). past ws m) z)

-- ---- what is passed is spelt

abbrev pub Oks : List Item → Type 0
Oks [] = Unit {0}
Oks (i ∷ is) = Ok i × Oks is

pub tidy_oks : (is : List Item) → Tidy is → Oks is
tidy_oks [] h = tt
tidy_oks (byte b ∷ is) h = (h.0, tidy_oks is h.1)
tidy_oks (bit ∷ is) h = (tt, tidy_oks is h)
tidy_oks (num ∷ []) h = absurd h
tidy_oks (num ∷ byte b ∷ is) h = (tt, (h.1, tidy_oks is h.2))
tidy_oks (num ∷ num ∷ is) h = absurd h
tidy_oks (num ∷ bit ∷ is) h = absurd h

-- What they spell is bytes.
tidy_bytes : (a b : List ℕ) → Tidy (lits a) → Tidy (lits b) → Tidy (lits (a ++ b))
tidy_bytes [] b h k = k
tidy_bytes (x ∷ a) b h k = (h.0, tidy_bytes a b h.1 k)

pub oks_bytes : (is : List Item) (ws : List ℕ) → Oks is → Fit is ws → Tidy (lits (spell is ws))
oks_bytes [] ws h f = tt
oks_bytes (byte b ∷ is) ws h f = (h.0, oks_bytes is ws h.1 f)
oks_bytes (num ∷ is) [] h f = absurd f
oks_bytes (num ∷ is) (w ∷ ws) h f = tidy_bytes (dec w) (spell is ws) (tidy_dec w f.0) (oks_bytes is ws h.1 f.1)
oks_bytes (bit ∷ is) [] h f = absurd f
oks_bytes (bit ∷ is) (w ∷ ws) h f = (omega arith, oks_bytes is ws h.1 f.1)

pub record Passed (is : List Item) (s : List ℕ) (at : ℕ) (ws : List ℕ) (q : ℕ) : Type 0 where
  pub fit : Fit is ws
  pub spelt : drop at s ≡ spell is ws ++ drop q s
  pub moves : q ≡ at + length (spell is ws)

prep-past : (w : List ℕ) (x : Walk) (ws : List ℕ) (q : ℕ) → prep w x ≡ past ws q → (us : List ℕ) × (x ≡ past us q) × (ws ≡ w ++ us)
prep-past w (stuck k) ws q e = let z : ◌≡◌ {A = ℕ} 0 1 = cc in absurd (omega arith)
prep-past w (past us k) ws q e = let z : k ≡ q = cc in (us, ap (λ (n : ℕ). past us n) z, cc)

stride-past : (x : Piece) (at : ℕ) (k : ℕ → Walk) (ws : List ℕ) (q : ℕ) → stride x at k ≡ past ws q
    → (w : List ℕ) × (n : ℕ) × (us : List ℕ) × (x ≡ got w n) × (k (at + n) ≡ past us q) × (ws ≡ w ++ us)
stride-past none at k ws q e = let z : ◌≡◌ {A = ℕ} 0 1 = cc in absurd (omega arith)
stride-past (got w n) at k ws q e = let r = prep-past w (k (at + n)) ws q e in (w, n, r.0, refl, r.1, r.2)

passed-item : (i : Item) (is : List Item) (s : List ℕ) (at : ℕ) (ws : List ℕ) (q : ℕ) (w : List ℕ) (n : ℕ) (us : List ℕ)
    → Sound i w n (drop at s) → Passed is s (at + n) us q → ws ≡ w ++ us → Passed (i ∷ is) s at ws q
passed-item i is s at ws q w n us k P e =
    let g = spell-item i is w (take n (drop at s)) us k.shows P.fit in
    let l : length (take n (drop at s)) ≡ n = length-take-le n (drop at s) k.within in
    record {
      fit = rw e g.1;
      spelt =
          rw (e, g.0, append_assoc)
          (sym (take-append-drop n (drop at s)) ∙ ap (λ (z : List ℕ). take n (drop at s) ++ z) (drop-drop n at s ∙ P.spelt));
      moves = rw (e, g.0, length-append, l) (P.moves ∙ add_assoc at n (length (spell is us)));
    }

pub walk-sound : (is : List Item) (s : List ℕ) (at : ℕ) (ws : List ℕ) (q : ℕ) → Oks is → walk is s at ≡ past ws q → Passed is s at ws q
unfolding walk
walk-sound [] s at ws q h e =
    let a : ws ≡ [] = cc in
    let b : q ≡ at = cc in
    record { fit = rw a tt; spelt = rw b; moves = rw b (sym (add-zero at)) }
walk-sound (i ∷ is) s at ws q h e =
    let (w, n, us, g, f, z) = stride-past (item i (drop at s)) at (λ r. walk is s r) ws q e in
    passed-item i is s at ws q w n us (item-sound i (drop at s) w n h.0 g) (walk-sound is s (at + n) us q h.1 f) z

-- Fixed bytes take no value and are spelt as they are.
pub spell-lits : (bs : List ℕ) → spell (lits bs) [] ≡ bs
spell-lits [] = refl
spell-lits (b ∷ bs) = ap (λ (l : List ℕ). b ∷ l) (spell-lits bs)

pub fit-lits : (bs : List ℕ) → Fit (lits bs) []
fit-lits [] = tt
fit-lits (b ∷ bs) = fit-lits bs
