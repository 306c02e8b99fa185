-- The scans of block text and frame text, as the code goes through them: items that are read one after the other, a text that ends or goes on,
-- and a byte that decides how it goes on.
--   then_wrong, then_next         items before a format
--   end_there, end_over           the end of a text
--   front_wrong, front_on         the header and the first line, of either text
--   tail-there .. tail-next       block text after a line
--   group-number .. group-end     the line of a group
--   names-wrong .. groups-over    group text
--   frame-group .. frame-next     frame text after a line
-- Assumes nothing.
use Prim.Native.Nat.{ℕ, suc, ◌+◌, ◌-◌, ◌≤◌, ◌<◌}
use mathlib.Core.Path.{◌≡◌, refl, sym, ap, ◌∙◌}
use mathlib.Core.Bool.{Bool, true, false, cond}
use mathlib.Core.List.{List, [], ◌∷◌, ◌++◌}
use mathlib.Core.Logic.{◌⊎◌, inl, inr}
use native.Mathlib.Omega.{arith}
use native.Mathlib.Decide.{dec_lt}
use native.Mathlib.Nat.{add-zero}
use native.Mathlib.Numerals.{add-one}
use lib.Dec.{eqb}
use lib.ListN.{length, get_or, drop, drop_of_length-le}
use lib.Seq.{drop-cons, drop-drop}
use Rattle.text_formats.specs.Format.{Item, byte, none, got, item, dec, Format, end, opt, fork, Scan, refused, read, after, scan}
use Rattle.text_formats.specs.Items.{lits, seq, bits, bits_line, Walk, stuck, past, stride, walk, moved, scan_at, verdict}
use Rattle.text_formats.proofs.Walking.{head_at}
use Rattle.text_formats.proofs.Spelling.{prefix, continue, scan-seq, scan-whole}
use Rattle.text_items.specs.Answers.{step_of, step_walk}
use Rattle.text_items.specs.declared.Broken.{Broken}
use Rattle.std.specs.Prelude.{Result, Ok, Err}
use Rattle.text_items.proofs.Lines.{step-of, stops_first, goes_on}
use Rattle.staircase.specs.Frame.{groups}
use Rattle.text.specs.FrameText.{block_tail, group_names_tail, group_line, group_lines, group_tail, frame_tail, block_names}

-- ---- items before a format

continue_stop : (w : Walk) (k : ℕ → Scan) (x : Result ℕ Broken) (q : Broken) → x ≡ step_of w → x ≡ Err q → continue w k ≡ refused q.place
continue_stop (stuck r) k x q e f = let z : ◌≡◌ {A = Broken} (record { place = r }) q = cc in ap (λ (b : Broken). refused b.place) z
continue_stop (past ws r) k x q e f = let z : ◌≡◌ {A = ℕ} 0 1 = cc in absurd (omega arith)

verdict_prefix : (ws : List ℕ) (x : Scan) → verdict (prefix ws x) ≡ verdict x
verdict_prefix ws (refused k) = refl
verdict_prefix ws (read l vs) = refl

continue_on : (w : Walk) (k : ℕ → Scan) (x : Result ℕ Broken) (q : ℕ) → x ≡ step_of w → x ≡ Ok q → verdict (continue w k) ≡ verdict (k q)
continue_on (stuck r) k x q e f = let z : ◌≡◌ {A = ℕ} 0 1 = cc in absurd (omega arith)
continue_on (past ws r) k x q e f = let z : r ≡ q = cc in verdict_prefix ws (k r) ∙ ap (λ (y : ℕ). verdict (k y)) z

module _ (is : List Item) (F : Format) (s : List ℕ) (at : ℕ) (x : Result ℕ Broken) (e : x ≡ step_of (walk is s at)) where
  then_wrong : (q : Broken) → x ≡ Err q → scan_at (seq is F) s at ≡ refused q.place
  then_wrong q f = scan-seq is F s at ∙ continue_stop (walk is s at) (λ r. scan_at F s r) x q e f

  then_next : (k : ℕ) → x ≡ Ok k → verdict (scan_at (seq is F) s at) ≡ verdict (scan_at F s k)
  then_next k f = ap verdict (scan-seq is F s at) ∙ continue_on (walk is s at) (λ r. scan_at F s r) x k e f

-- ---- the end of a text

end_there : (l : ℕ) (s : List ℕ) (q : ℕ) → length s ≤ q → scan_at (end l) s q ≡ read l []
unfolding scan_at
end_there l s q h = rw (drop_of_length-le s {i = q} h)

end_over : (l : ℕ) (s : List ℕ) (q : ℕ) → q < length s → scan_at (end l) s q ≡ refused q
unfolding scan_at
end_over l s q h = rw (drop-cons s q 0 h) (ap refused (add-zero q))

-- ---- a header, the first line, and any format behind them

-- `block bits` and the line of block 1
abbrev pub Front : ℕ → List Item
Front area = lits block_names ++ bits_line area 1

module _ (area : ℕ) (F : Format) (s : List ℕ) (x : Result ℕ Broken) (e : x ≡ step_of (walk (Front area) s 0)) where
  pub front_wrong : (q : Broken) → x ≡ Err q → refused q.place ≡ verdict (scan (seq (Front area) F) s)
  front_wrong q f = sym (ap verdict (sym (scan-whole (seq (Front area) F) s) ∙ then_wrong (Front area) F s 0 x e q f))

  pub front_on : (k : ℕ) → x ≡ Ok k → (w : Scan) → w ≡ verdict (scan_at F s k) → w ≡ verdict (scan (seq (Front area) F) s)
  front_on k f w g = g ∙ sym (ap verdict (sym (scan-whole (seq (Front area) F) s)) ∙ then_next (Front area) F s 0 x e k f)

-- ---- block text after i lines

tail-suc : (area most i : ℕ) → i < most → block_tail area (most - i) i ≡ opt i (seq (bits_line area (i + 1)) (block_tail area (most - (i + 1)) (i + 1)))
unfolding block_tail
tail-suc area most i h =
    let e : most - i ≡ suc (most - (i + 1)) = omega arith in
    rw (e, add-one i)

tail-zero : (area most i : ℕ) → most ≤ i → block_tail area (most - i) i ≡ end i
unfolding block_tail
tail-zero area most i h = let e : most - i ≡ 0 = omega arith in rw e

opt-more : (l : ℕ) (F : Format) (s : List ℕ) (q : ℕ) → q < length s → scan_at (opt l F) s q ≡ scan_at F s q
unfolding scan_at
opt-more l F s q h = rw (drop-cons s q 0 h)

opt-end : (l : ℕ) (F : Format) (s : List ℕ) (q : ℕ) → length s ≤ q → scan_at (opt l F) s q ≡ read l []
unfolding scan_at
opt-end l F s q h = rw (drop_of_length-le s {i = q} h)

module _ (area most i : ℕ) (s : List ℕ) (q : ℕ) where
  abbrev Rest : Format
  Rest = block_tail area (most - (i + 1)) (i + 1)

  pub tail_there : length s ≤ q → scan_at (block_tail area (most - i) i) s q ≡ read i []
  tail_there l = go (dec_lt i most)
    where
      go : Dec (i < most) → scan_at (block_tail area (most - i) i) s q ≡ read i []
      go (yes k) = rw (tail-suc area most i k) (opt-end i (seq (bits_line area (i + 1)) Rest) s q l)
      go (no k) = rw (tail-zero area most i (omega arith)) (end_there i s q l)

  pub tail_over : q < length s → most ≤ i → scan_at (block_tail area (most - i) i) s q ≡ refused q
  tail_over l h = rw (tail-zero area most i h) (end_over i s q l)

  module _ (l : q < length s) (h : i < most) (x : Result ℕ Broken) (e : x ≡ step_of (walk (bits_line area (i + 1)) s q)) where
    tail-line : scan_at (block_tail area (most - i) i) s q ≡ scan_at (seq (bits_line area (i + 1)) Rest) s q
    tail-line = ap (λ (F : Format). scan_at F s q) (tail-suc area most i h) ∙ opt-more i (seq (bits_line area (i + 1)) Rest) s q l

    pub tail_wrong : (k : Broken) → x ≡ Err k → scan_at (block_tail area (most - i) i) s q ≡ refused k.place
    tail_wrong k f = tail-line ∙ then_wrong (bits_line area (i + 1)) Rest s q x e k f

    pub tail_next : (k : ℕ) → x ≡ Ok k
        → verdict (scan_at (block_tail area (most - i) i) s q) ≡ verdict (scan_at (block_tail area (most - (i + 1)) (i + 1)) s k)
    tail_next k f = ap verdict tail-line ∙ then_next (bits_line area (i + 1)) Rest s q x e k f

-- ---- the line of a group

module _ (n p : ℕ) (s : List ℕ) (at : ℕ) (x : Result ℕ Broken) (ex : step_walk x ≡ walk (lits (dec p)) s at) where
  abbrev Part : List Item
  Part = byte 32 ∷ bits n

  abbrev Feed : List Item
  Feed = byte 10 ∷ []

  pub group-number : (q : Broken) → x ≡ Err q → Err q ≡ step_of (walk (group_line n p) s at)
  unfolding group_line
  group-number q f = stops_first (lits (dec p)) (Part ++ (Part ++ Feed)) s at x (step-of x _ ex) q f

  module _ (i : ℕ) (fx : x ≡ Ok i) (y : Result ℕ Broken) (ey : y ≡ step_of (walk (byte 32 ∷ bits n) s i)) where
    behind-number : (z : Result ℕ Broken) → z ≡ step_of (walk (Part ++ (Part ++ Feed)) s i) → z ≡ step_of (walk (group_line n p) s at)
    unfolding group_line
    behind-number z e = goes_on (lits (dec p)) (Part ++ (Part ++ Feed)) s at x (step-of x _ ex) i fx z e

    pub group-self : (q : Broken) → y ≡ Err q → Err q ≡ step_of (walk (group_line n p) s at)
    group-self q f = behind-number (Err q) (stops_first Part (Part ++ Feed) s i y ey q f)

    module _ (j : ℕ) (fy : y ≡ Ok j) (z : Result ℕ Broken) (ez : z ≡ step_of (walk (byte 32 ∷ bits n) s j)) where
      behind-self : (v : Result ℕ Broken) → v ≡ step_of (walk (Part ++ Feed) s j) → v ≡ step_of (walk (group_line n p) s at)
      behind-self v e = behind-number v (goes_on Part (Part ++ Feed) s i y ey j fy v e)

      pub group-parity : (q : Broken) → z ≡ Err q → Err q ≡ step_of (walk (group_line n p) s at)
      group-parity q f = behind-self (Err q) (stops_first Part Feed s j z ez q f)

      pub group-end : (e : ℕ) → z ≡ Ok e → (v : Result ℕ Broken) → step_walk v ≡ walk (byte 10 ∷ []) s e → v ≡ step_of (walk (group_line n p) s at)
      group-end e f v ev = behind-self v (goes_on Part Feed s j z ez e f v (step-of v _ ev))

-- ---- the group text of L blocks, behind its first byte

module _ (n L : ℕ) (s : List ℕ) (at : ℕ) (x : Result ℕ Broken) (ex : step_walk x ≡ walk (lits group_names_tail) s at) where
  abbrev Lines : List Item
  Lines = group_lines n 1 (groups L)

  pub names_wrong : (q : Broken) → x ≡ Err q → refused q.place ≡ verdict (scan_at (group_tail n L) s at)
  unfolding group_tail
  names_wrong q f = sym (ap verdict (then_wrong (lits group_names_tail ++ Lines) (end L) s at x (f ∙ stops_first (lits group_names_tail) Lines s at x (step-of x _ ex) q f) q f))

  module _ (i : ℕ) (fx : x ≡ Ok i) (G : ℕ) (eg : G ≡ groups L) (y : Result ℕ Broken) (ey : y ≡ step_of (walk (group_lines n 1 G) s i)) where
    both : y ≡ step_of (walk (lits group_names_tail ++ Lines) s at)
    both = goes_on (lits group_names_tail) Lines s at x (step-of x _ ex) i fx y (ey ∙ ap (λ (k : ℕ). step_of (walk (group_lines n 1 k) s i)) eg)

    pub groups_wrong : (q : Broken) → y ≡ Err q → refused q.place ≡ verdict (scan_at (group_tail n L) s at)
    unfolding group_tail
    groups_wrong q f = sym (ap verdict (then_wrong (lits group_names_tail ++ Lines) (end L) s at y both q f))

    pub groups_there : (e : ℕ) → y ≡ Ok e → length s ≤ e → read L [] ≡ verdict (scan_at (group_tail n L) s at)
    unfolding group_tail
    groups_there e f l = sym (then_next (lits group_names_tail ++ Lines) (end L) s at y both e f ∙ ap verdict (end_there L s e l))

    pub groups_over : (e : ℕ) → y ≡ Ok e → e < length s → refused e ≡ verdict (scan_at (group_tail n L) s at)
    unfolding group_tail
    groups_over e f l = sym (then_next (lits group_names_tail ++ Lines) (end L) s at y both e f ∙ ap verdict (end_over L s e l))

-- ---- a byte that decides

byte_way : (b : ℕ) (s : List ℕ) (q : ℕ) (x : Result ℕ Broken) → step_walk x ≡ walk (byte b ∷ []) s q
    → ((eqb (get_or s q 256) b ≡ true) × (x ≡ Ok (q + 1))) ⊎ ((eqb (get_or s q 256) b ≡ false) × (x ≡ Err (record { place = q })))
unfolding walk item
byte_way b s q x e = go (eqb (get_or s q 256) b) refl (step-of x _ (e ∙ ap (λ (h : ℕ). stride (cond (eqb h b) (got [] 1) none) q (λ r. past [] r)) (head_at s q)))
  where
    go : (t : Bool) → eqb (get_or s q 256) b ≡ t → x ≡ step_of (stride (cond t (got [] 1) none) q (λ r. past [] r))
        → ((eqb (get_or s q 256) b ≡ true) × (x ≡ Ok (q + 1))) ⊎ ((eqb (get_or s q 256) b ≡ false) × (x ≡ Err (record { place = q })))
    go true h f = inl (h, f)
    go false h f = inr (h, f)

fork_at : (b : ℕ) (F G : Format) (s : List ℕ) (q : ℕ) → scan_at (fork b F G) s q ≡ cond (eqb (get_or s q 256) b) (scan_at F s (q + 1)) (scan_at G s q)
unfolding scan_at
fork_at b F G s q = rw (head_at s q) (go (eqb (get_or s q 256) b))
  where
    one : (x : Scan) → moved q (after [] 1 x) ≡ moved (q + 1) x
    one (refused k) = ap refused (regroup q k)
      where
        regroup : (a c : ℕ) → a + (1 + c) ≡ a + 1 + c
        regroup a c = omega arith
    one (read l vs) = refl

    go : (t : Bool) → moved q (cond t (after [] 1 (scan F (drop 1 (drop q s)))) (scan G (drop q s)))
        ≡ cond t (moved (q + 1) (scan F (drop (q + 1) s))) (moved q (scan G (drop q s)))
    go true = one (scan F (drop 1 (drop q s))) ∙ ap (λ (l : List ℕ). moved (q + 1) (scan F l)) (drop-drop 1 q s)
    go false = refl

module _ (b : ℕ) (F G : Format) (s : List ℕ) (q : ℕ) (x : Result ℕ Broken) (e : step_walk x ≡ walk (byte b ∷ []) s q) where
  fork_taken : (j : ℕ) → x ≡ Ok j → scan_at (fork b F G) s q ≡ scan_at F s j
  fork_taken j f = go (byte_way b s q x e)
    where
      go : ((eqb (get_or s q 256) b ≡ true) × (x ≡ Ok (q + 1))) ⊎ ((eqb (get_or s q 256) b ≡ false) × (x ≡ Err (record { place = q }))) → scan_at (fork b F G) s q ≡ scan_at F s j
      go (inl (h, g)) =
          let z : q + 1 ≡ j = cc in
          fork_at b F G s q ∙ ap (λ (t : Bool). cond t (scan_at F s (q + 1)) (scan_at G s q)) h ∙ ap (λ (k : ℕ). scan_at F s k) z
      go (inr (h, g)) = let z : ◌≡◌ {A = ℕ} 0 1 = cc in absurd (omega arith)

  fork-left : (k : Broken) → x ≡ Err k → scan_at (fork b F G) s q ≡ scan_at G s q
  fork-left k f = go (byte_way b s q x e)
    where
      go : ((eqb (get_or s q 256) b ≡ true) × (x ≡ Ok (q + 1))) ⊎ ((eqb (get_or s q 256) b ≡ false) × (x ≡ Err (record { place = q }))) → scan_at (fork b F G) s q ≡ scan_at G s q
      go (inl (h, g)) = let z : ◌≡◌ {A = ℕ} 0 1 = cc in absurd (omega arith)
      go (inr (h, g)) = fork_at b F G s q ∙ ap (λ (t : Bool). cond t (scan_at F s (q + 1)) (scan_at G s q)) h

-- ---- frame text after i lines

frame-suc : (area n most i : ℕ) → i < most
    → frame_tail area n (most - i) i ≡ fork 103 (group_tail n i) (seq (bits_line area (i + 1)) (frame_tail area n (most - (i + 1)) (i + 1)))
unfolding frame_tail
frame-suc area n most i h = let e : most - i ≡ suc (most - (i + 1)) = omega arith in rw (e, add-one i)

frame-zero : (area n most i : ℕ) → most ≤ i → frame_tail area n (most - i) i ≡ seq (byte 103 ∷ []) (group_tail n i)
unfolding frame_tail
frame-zero area n most i h = let e : most - i ≡ 0 = omega arith in rw e

module _ (area n most i : ℕ) (s : List ℕ) (q : ℕ) (g : Result ℕ Broken) (eg : step_walk g ≡ walk (byte 103 ∷ []) s q) where
  abbrev Rest' : Format
  Rest' = frame_tail area n (most - (i + 1)) (i + 1)

  pub frame-group : (j : ℕ) → g ≡ Ok j → verdict (scan_at (frame_tail area n (most - i) i) s q) ≡ verdict (scan_at (group_tail n i) s j)
  frame-group j f = go (dec_lt i most)
    where
      go : Dec (i < most) → verdict (scan_at (frame_tail area n (most - i) i) s q) ≡ verdict (scan_at (group_tail n i) s j)
      go (yes h) =
          ap (λ (F : Format). verdict (scan_at F s q)) (frame-suc area n most i h)
          ∙ ap verdict (fork_taken 103 (group_tail n i) (seq (bits_line area (i + 1)) Rest') s q g eg j f)
      go (no h) =
          ap (λ (F : Format). verdict (scan_at F s q)) (frame-zero area n most i (omega arith))
          ∙ then_next (byte 103 ∷ []) (group_tail n i) s q g (step-of g _ eg) j f

  pub frame-none : most ≤ i → (k : Broken) → g ≡ Err k → scan_at (frame_tail area n (most - i) i) s q ≡ refused k.place
  frame-none h k f =
      ap (λ (F : Format). scan_at F s q) (frame-zero area n most i h) ∙ then_wrong (byte 103 ∷ []) (group_tail n i) s q g (step-of g _ eg) k f

  module _ (h : i < most) (k₀ : Broken) (fg : g ≡ Err k₀) (x : Result ℕ Broken) (e : x ≡ step_of (walk (bits_line area (i + 1)) s q)) where
    frame-line : scan_at (frame_tail area n (most - i) i) s q ≡ scan_at (seq (bits_line area (i + 1)) Rest') s q
    frame-line =
        ap (λ (F : Format). scan_at F s q) (frame-suc area n most i h)
        ∙ fork-left 103 (group_tail n i) (seq (bits_line area (i + 1)) Rest') s q g eg k₀ fg

    pub frame-cut : (k : Broken) → x ≡ Err k → scan_at (frame_tail area n (most - i) i) s q ≡ refused k.place
    frame-cut k f = frame-line ∙ then_wrong (bits_line area (i + 1)) Rest' s q x e k f

    pub frame_next : (k : ℕ) → x ≡ Ok k
        → verdict (scan_at (frame_tail area n (most - i) i) s q) ≡ verdict (scan_at (frame_tail area n (most - (i + 1)) (i + 1)) s k)
    frame_next k f = ap verdict frame-line ∙ then_next (bits_line area (i + 1)) Rest' s q x e k f
