-- The scan of a clear format accepts exactly its texts, with the values that they render, and refuses any other at the length of the longest
-- start that it shares with a text.
--   scan-complete, scan-sound    texts are accepted, and what is accepted is a text
--   scan-shared, scan_local      some text starts with the bytes before the place of a refusal; a refusal depends on no byte after its place
--   scan_longest                 so the place is the longest start that some text shares
--   longest_same                 sets of the same texts have the same longest start
--   dec_head                     a number starts with a digit
-- Assumes nothing.
use Prim.Native.Nat.{ℕ, suc, ◌+◌, ◌-◌, ◌≤◌, ◌<◌}
use mathlib.Core.Path.{◌≡◌, refl, sym, ap, ◌∙◌}
use mathlib.Core.Bool.{Bool, true, false, cond}
use mathlib.Core.List.{List, [], ◌∷◌, ◌++◌, append_assoc}
use mathlib.Core.Logic.{◌⊎◌, inl, inr}
use native.Mathlib.Omega.{arith}
use native.Mathlib.Decide.{dec_lt}
use borrow.Author.Tests.{eq-eqb, ne_eqb, eqb-true, eqb-false}
use lib.ListN.{length, get_or, take, drop, take-append-drop, length-drop, length-append}
use lib.Seq.{take-add, drop-append_seam, drop_at, length-take-le}
use lib.Dec.{eqb}
use Rattle.text_formats.specs.Format.{dec, is_digit, Item, byte, num, bit, Shows, Piece, none, got, item, Format, end, ◌▷◌, opt, fork, Renders, Text, Shares, Longest, Scan, refused, read, after, step, scan, Avoids, Begins, Clear}
use Rattle.text_formats.proofs.Digits.{Digits, digits_are}
use Rattle.text_formats.proofs.Items.{Ok, Guard, item-sound, item-complete, item-none, item_local, first_byte, dec-long}

-- A number starts with a digit.
pub dec_head : (v : ℕ) → v < 10000 → (d : ℕ) × (t : List ℕ) × (d < 10) × (dec v ≡ (48 + d) ∷ t)
unfolding dec
dec_head v h = go (dec v) (digits_are 20 v) (dec-long v)
  where
    go : (l : List ℕ) → Digits l → 0 < length l → (d : ℕ) × (t : List ℕ) × (d < 10) × (l ≡ (48 + d) ∷ t)
    go [] d n = absurd (omega arith)
    go (c ∷ t) d n = let z : c ≡ 48 + (c - 48) = omega arith in (c - 48, t, omega arith, ap (λ (k : ℕ). k ∷ t) z)

pub avoid : (p : ℕ → Bool) (F : Format) (L : ℕ) (vs s : List ℕ) → p 256 ≡ false → Avoids p F → Renders F L vs s → p (get_or s 0 256) ≡ false
avoid p (end l) L vs s z a r = rw r.2 z
avoid p (byte b ▷ F) L vs s z a (ws, q, us, t, sh, e, f, r) = rw (f, sh.1) a
avoid p (num ▷ F) L vs s z a (ws, q, us, t, sh, e, f, r) =
    let d = dec_head sh.0 sh.1 in
    rw (f, sh.3, d.3) (a d.0 d.2)
avoid p (bit ▷ F) L vs s z a (ws, q, us, t, sh, e, f, r) = rw (f, sh.3) (a sh.0 sh.1)
avoid p (opt l F) L vs s z a (inl r) = rw r.2 z
avoid p (opt l F) L vs s z a (inr r) = avoid p F L vs s z a r
avoid p (fork b F G) L vs s z a (inl r) = rw r.1 a.0
avoid p (fork b F G) L vs s z a (inr r) = avoid p G L vs s z a.1 r

clear_ok : (i : Item) (F : Format) → Clear (i ▷ F) → Ok i
clear_ok (byte b) F c = c.0
clear_ok num F c = tt
clear_ok bit F c = tt

clear_rest : (i : Item) (F : Format) → Clear (i ▷ F) → Clear F
clear_rest (byte b) F c = c.1
clear_rest num F c = c.1
clear_rest bit F c = c

no_digit : is_digit 256 ≡ false
unfolding is_digit
no_digit = refl

clear_guard : (i : Item) (F : Format) (L : ℕ) (us t : List ℕ) → Clear (i ▷ F) → Renders F L us t → Guard i t
clear_guard (byte b) F L us t c r = tt
clear_guard num F L us t c r = avoid is_digit F L us t no_digit c.0 r
clear_guard bit F L us t c r = tt

shows-long : (i : Item) (ws q : List ℕ) → Shows i ws q → 0 < length q
shows-long (byte b) ws q h = rw h.1 (omega arith)
shows-long num ws q h = rw h.3 (dec-long h.0)
shows-long bit ws q h = rw h.3 (omega arith)

begins : (F : Format) (L : ℕ) (vs : List ℕ) → Begins F → Renders F L vs [] → ⊥
begins (i ▷ F) L vs b (ws, q, us, t, sh, e, f, r) = omega (arith, shows-long i ws q sh, length-append q t, ap length f)
begins (fork b F G) L vs c (inl r) = let z : ◌≡◌ {A = ℕ} 0 1 = cc r.1 in omega arith
begins (fork b F G) L vs c (inr r) = begins G L vs c r
begins (end l) L vs b r = b
begins (opt l F) L vs b r = b

-- ---- the texts are accepted, with their values

pub scan-complete : (F : Format) (L : ℕ) (vs s : List ℕ) → Clear F → Renders F L vs s → scan F s ≡ read L vs
scan-complete (end l) L vs s c r = rw (r.0, r.1, r.2)
scan-complete (i ▷ F) L vs s c (ws, q, us, t, sh, e, f, r) =
    rw (e, f, item-complete i ws q t sh (clear_guard i F L us t c r), drop-append_seam q t, scan-complete F L us t (clear_rest i F c) r)
scan-complete (opt l F) L vs s c (inl r) = rw (r.0, r.1, r.2)
scan-complete (opt l F) L vs [] c (inr r) = absurd (begins F L vs c.0 r)
scan-complete (opt l F) L vs (x ∷ s) c (inr r) = scan-complete F L vs (x ∷ s) c.1 r
scan-complete (fork b F G) L vs s c (inl r) = rw (r.1, eq-eqb b b refl) (ap (after [] 1) (scan-complete F L vs r.0 c.2 r.2))
scan-complete (fork b F G) L vs s c (inr r) =
    rw (ne_eqb (get_or s 0 256) b (λ e. eqb-false b (get_or s 0 256) (avoid (eqb b) G L vs s (ne_eqb b 256 (λ h. omega (arith, c.0))) c.1 r) (sym e)))
    (scan-complete G L vs s c.3 r)

-- What a step and a fork found, taken apart.
abbrev ReadBy : Piece → (ℕ → Scan) → ℕ → List ℕ → Type 0
ReadBy x k L vs = (ws : List ℕ) × (n : ℕ) × (us : List ℕ) × (x ≡ got ws n) × (k n ≡ read L us) × (vs ≡ ws ++ us)

after_read : (ws : List ℕ) (n : ℕ) (x : Scan) (L : ℕ) (vs : List ℕ) → after ws n x ≡ read L vs → (us : List ℕ) × (x ≡ read L us) × (vs ≡ ws ++ us)
after_read ws n (refused k) L vs f = let z : ◌≡◌ {A = ℕ} 0 1 = cc in absurd (omega arith)
after_read ws n (read l us) L vs f = let a : l ≡ L = cc in (us, ap (λ (m : ℕ). read m us) a, cc)

step-read : (x : Piece) (k : ℕ → Scan) (L : ℕ) (vs : List ℕ) → step x k ≡ read L vs → ReadBy x k L vs
step-read none k L vs f = let z : ◌≡◌ {A = ℕ} 0 1 = cc in absurd (omega arith)
step-read (got ws n) k L vs f = let r = after_read ws n (k n) L vs f in (ws, n, r.0, refl, r.1, r.2)

abbrev StuckBy : Piece → (ℕ → Scan) → ℕ → Type 0
StuckBy x k q = ((x ≡ none) × (q ≡ 0)) ⊎ ((ws : List ℕ) × (n : ℕ) × (j : ℕ) × (x ≡ got ws n) × (k n ≡ refused j) × (q ≡ n + j))

after-refused : (ws : List ℕ) (n : ℕ) (x : Scan) (q : ℕ) → after ws n x ≡ refused q → (j : ℕ) × (x ≡ refused j) × (q ≡ n + j)
after-refused ws n (refused k) q f = (k, refl, cc)
after-refused ws n (read l us) q f = let z : ◌≡◌ {A = ℕ} 0 1 = cc in absurd (omega arith)

step-refused : (x : Piece) (k : ℕ → Scan) (q : ℕ) → step x k ≡ refused q → StuckBy x k q
step-refused none k q f = inl (refl, cc)
step-refused (got ws n) k q f = let r = after-refused ws n (k n) q f in inr (ws, n, r.0, refl, r.1, r.2)

fork_way : (q : Bool) (x y z : Scan) → cond q x y ≡ z → ((q ≡ true) × (x ≡ z)) ⊎ ((q ≡ false) × (y ≡ z))
fork_way true x y z e = inl (refl, e)
fork_way false x y z e = inr (refl, e)

abbrev ForkStuck : Bool → Scan → Scan → ℕ → Type 0
ForkStuck t x y q = ((j : ℕ) × (t ≡ true) × (x ≡ refused j) × (q ≡ 1 + j)) ⊎ ((t ≡ false) × (y ≡ refused q))

fork-refused : (t : Bool) (x y : Scan) (q : ℕ) → cond t (after [] 1 x) y ≡ refused q → ForkStuck t x y q
fork-refused true x y q e = let r = after-refused [] 1 x q e in inl (r.0, refl, r.1, r.2)
fork-refused false x y q e = inr (refl, e)

-- ---- what is accepted is a text: the values render to it

pub scan-sound : (F : Format) (L : ℕ) (vs s : List ℕ) → Clear F → scan F s ≡ read L vs → Renders F L vs s
scan-sound (end l) L vs [] c e = (cc, cc, refl)
scan-sound (end l) L vs (x ∷ s) c e = let z : ◌≡◌ {A = ℕ} 0 1 = cc in absurd (omega arith)
scan-sound (i ▷ F) L vs s c e =
    let (ws, n, us, g, h, w) = step-read (item i s) (λ n. scan F (drop n s)) L vs e in
    (ws, take n s, us, drop n s, (item-sound i s ws n (clear_ok i F c) g).shows, w, sym (take-append-drop n s), scan-sound F L us (drop n s) (clear_rest i F c) h)
scan-sound (opt l F) L vs [] c e = inl (cc, cc, refl)
scan-sound (opt l F) L vs (x ∷ s) c e = inr (scan-sound F L vs (x ∷ s) c.1 e)
scan-sound (fork b F G) L vs s c e =
    go (λ us. scan-sound F L us (drop 1 s) c.2) (scan-sound G L vs s c.3) (fork_way (eqb (get_or s 0 256) b) (after [] 1 (scan F (drop 1 s))) (scan G s) (read L vs) e)
  where
    go : ((us : List ℕ) → scan F (drop 1 s) ≡ read L us → Renders F L us (drop 1 s)) → (scan G s ≡ read L vs → Renders G L vs s)
        → ((eqb (get_or s 0 256) b ≡ true) × (after [] 1 (scan F (drop 1 s)) ≡ read L vs)) ⊎ ((eqb (get_or s 0 256) b ≡ false) × (scan G s ≡ read L vs))
        → Renders (fork b F G) L vs s
    go f g (inl h) =
        let r = after_read [] 1 (scan F (drop 1 s)) L vs h.1 in
        inl (drop 1 s, first_byte s b c.0 (eqb-true (get_or s 0 256) b h.0), rw r.2 (f r.0 r.1))
    go f g (inr h) = inr (g h.1)

-- Every format has a text.
pub some-text : (F : Format) → (u : List ℕ) × Text F u
some-text (end l) = ([], (l, [], (refl, refl, refl)))
some-text (byte b ▷ F) =
    let (u, x) = some-text F in
    let (L, vs, r) = x in
    (b ∷ u, (L, vs, ([], b ∷ [], vs, u, (refl, refl), refl, refl, r)))
some-text (num ▷ F) =
    let (u, x) = some-text F in
    let (L, vs, r) = x in
    (dec 0 ++ u, (L, 0 ∷ vs, (0 ∷ [], dec 0, vs, u, (0, omega arith, refl, refl), refl, refl, r)))
some-text (bit ▷ F) =
    let (u, x) = some-text F in
    let (L, vs, r) = x in
    (48 ∷ u, (L, 0 ∷ vs, (0 ∷ [], 48 ∷ [], vs, u, (0, omega arith, refl, refl), refl, refl, r)))
some-text (opt l F) = ([], (l, [], inl (refl, refl, refl)))
some-text (fork b F G) =
    let (u, x) = some-text G in
    let (L, vs, r) = x in
    (u, (L, vs, inr r))

at_start : (F : Format) (s : List ℕ) (q : ℕ) → q ≡ 0 → Shares (Text F) s q
at_start F s q e = rw e (omega arith, some-text F)

-- ---- the place is shared: some text starts with the bytes before the place of a refusal

pub scan-shared : (F : Format) (s : List ℕ) (q : ℕ) → Clear F → scan F s ≡ refused q → Shares (Text F) s q
scan-shared (end l) [] q c e = let z : ◌≡◌ {A = ℕ} 0 1 = cc in absurd (omega arith)
scan-shared (end l) (x ∷ s) q c e = at_start (end l) (x ∷ s) q cc
scan-shared (i ▷ F) s q c e = go (λ n j. scan-shared F (drop n s) j (clear_rest i F c)) (step-refused (item i s) (λ n. scan F (drop n s)) q e)
  where
    go : ((n j : ℕ) → scan F (drop n s) ≡ refused j → Shares (Text F) (drop n s) j) → StuckBy (item i s) (λ n. scan F (drop n s)) q → Shares (Text (i ▷ F)) s q
    go ih (inl h) = at_start (i ▷ F) s q h.1
    go ih (inr (ws, n, j, g, h, w)) =
        let k = item-sound i s ws n (clear_ok i F c) g in
        let (l, x) = ih n j h in
        let (u, y) = x in
        let (L, us, r) = y in
        (omega (arith, k.within, length-drop n s), (u, (L, ws ++ us, (ws, take n s, us, take j (drop n s) ++ u, k.shows, refl, rw (w, take-add n j s, append_assoc), r))))
scan-shared (opt l F) [] q c e = let z : ◌≡◌ {A = ℕ} 0 1 = cc in absurd (omega arith)
scan-shared (opt l F) (x ∷ s) q c e =
    let (h, y) = scan-shared F (x ∷ s) q c.1 e in
    let (u, z) = y in
    let (L, vs, r) = z in
    (h, (u, (L, vs, inr r)))
scan-shared (fork b F G) s q c e =
    go (λ j. scan-shared F (drop 1 s) j c.2) (scan-shared G s q c.3) (fork-refused (eqb (get_or s 0 256) b) (scan F (drop 1 s)) (scan G s) q e)
  where
    go : ((j : ℕ) → scan F (drop 1 s) ≡ refused j → Shares (Text F) (drop 1 s) j) → (scan G s ≡ refused q → Shares (Text G) s q)
        → ForkStuck (eqb (get_or s 0 256) b) (scan F (drop 1 s)) (scan G s) q → Shares (Text (fork b F G)) s q
    go f g (inl (j, t, d, w)) =
        let p : s ≡ b ∷ drop 1 s = first_byte s b c.0 (eqb-true (get_or s 0 256) b t) in
        let (l, x) = f j d in
        let (u, y) = x in
        let (L, vs, r) = y in
        (omega (arith, ap length p, length-drop 1 s), (u, (L, vs, inl (take j (drop 1 s) ++ u, rw (w, take-add 1 j s, ap (take 1) p), r))))
    go f g (inr h) =
        let (l, x) = g h.1 in
        let (u, y) = x in
        let (L, vs, r) = y in
        (l, (u, (L, vs, inr r)))

-- Of the first bytes of s and any others: what is dropped.
drop_local : (n j : ℕ) (s r : List ℕ) → n ≤ length s → drop n (take (suc (n + j)) s ++ r) ≡ take (suc j) (drop n s) ++ r
drop_local n j s r h =
    let e : suc (n + j) ≡ n + suc j = omega arith in
    rw (e, take-add n (suc j) s, append_assoc) (drop_at (take n s) (take (suc j) (drop n s) ++ r) n (length-take-le n s h))

split_local : (n j : ℕ) (s r : List ℕ) → take (suc (n + j)) s ++ r ≡ take (suc n) s ++ (take j (drop (suc n) s) ++ r)
split_local n j s r =
    let e : suc (n + j) ≡ suc n + j = omega arith in
    rw (e, take-add (suc n) j s, append_assoc)

-- ---- a refusal depends on no byte after its place

pub scan_local : (F : Format) (s : List ℕ) (q : ℕ) (r : List ℕ) → Clear F → scan F s ≡ refused q → q < length s → scan F (take (suc q) s ++ r) ≡ refused q
scan_local (end l) [] q r c e h = absurd (omega arith)
scan_local (end l) (x ∷ s) q r c e h = e
scan_local (i ▷ F) s q r c e h = go (λ n j. scan_local F (drop n s) j r (clear_rest i F c)) (step-refused (item i s) (λ n. scan F (drop n s)) q e)
  where
    go : ((n j : ℕ) → scan F (drop n s) ≡ refused j → j < length (drop n s) → scan F (take (suc j) (drop n s) ++ r) ≡ refused j)
        → StuckBy (item i s) (λ n. scan F (drop n s)) q → scan (i ▷ F) (take (suc q) s ++ r) ≡ refused q
    go ih (inl (g, w)) = rw (w, item-none i s r g (omega arith))
    go ih (inr (ws, n, j, g, d, w)) =
        let k = item-sound i s ws n (clear_ok i F c) g in
        let a : item i (take (suc (n + j)) s ++ r) ≡ got ws n =
        rw (split_local n j s r) (item_local i s ws (take j (drop (suc n) s) ++ r) n g (omega arith))
        in
        rw (w, a, drop_local n j s r k.within, ih n j d (omega (arith, length-drop n s)))
scan_local (opt l F) [] q r c e h = absurd (omega arith)
scan_local (opt l F) (x ∷ s) q r c e h = scan_local F (x ∷ s) q r c.1 e h
scan_local (fork b F G) [] q r c e h = absurd (omega arith)
scan_local (fork b F G) (x ∷ s) q r c e h =
    go (λ j. scan_local F s j r c.2) (scan_local G (x ∷ s) q r c.3) (fork-refused (eqb x b) (scan F s) (scan G (x ∷ s)) q e)
  where
    go : ((j : ℕ) → scan F s ≡ refused j → j < length s → scan F (take (suc j) s ++ r) ≡ refused j)
        → (scan G (x ∷ s) ≡ refused q → q < length (x ∷ s) → scan G (take (suc q) (x ∷ s) ++ r) ≡ refused q)
        → ForkStuck (eqb x b) (scan F s) (scan G (x ∷ s)) q → scan (fork b F G) (take (suc q) (x ∷ s) ++ r) ≡ refused q
    go f g (inl (j, t, d, w)) =
        let z : q ≡ suc j = omega arith in
        rw (t, z, f j d (omega arith)) (ap refused (omega arith))
    go f g (inr (t, d)) = rw t (g d h)

-- ---- the place of a refusal is the longest start that some text shares

pub scan_longest : (F : Format) (s : List ℕ) (q : ℕ) → Clear F → scan F s ≡ refused q → Longest (Text F) s q
scan_longest F s q c e = record { shared = scan-shared F s q c e; most = λ j h. go j h (dec_lt q j) }
  where
    go : (j : ℕ) → Shares (Text F) s j → Dec (q < j) → j ≤ q
    go j h (no k) = omega arith
    go j (l, x) (yes k) =
        let (u, y) = x in
        let (L, vs, r) = y in
        let o : ℕ = j - suc q in
        let w : j ≡ suc (q + o) = omega arith in
        let a : take j s ++ u ≡ take (suc q) s ++ (take o (drop (suc q) s) ++ u) = ap (λ (k : ℕ). take k s ++ u) w ∙ split_local q o s u in
        let b : scan F (take j s ++ u) ≡ refused q = rw a (scan_local F s q (take o (drop (suc q) s) ++ u) c e (omega arith)) in
        let d : scan F (take j s ++ u) ≡ read L vs = scan-complete F L vs (take j s ++ u) c r in
        let z : ◌≡◌ {A = ℕ} 0 1 = cc in
        absurd (omega arith)

-- The same texts have the same longest start.
pub longest_same : (T U : List ℕ → Type 0) → ((s : List ℕ) → T s → U s) → ((s : List ℕ) → U s → T s) → (s : List ℕ) (k : ℕ) → Longest T s k → Longest U s k
longest_same T U f g s k p =
    record {
      shared = let (l, x) = p.shared in let (u, y) = x in (l, (u, f (take k s ++ u) y));
      most = λ j h. let (l, x) = h in let (u, y) = x in p.most j (l, (u, g (take j s ++ u) y));
    }
