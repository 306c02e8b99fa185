-- The decoder under a window (document 02, U11).
--   words_from-among, among-words_from      the words of some lines are words of the frame; a word of the frame is in a line
--   window_words-whole, window-word, word-window   the words of a window: all where it has room for all groups; words of the frame; each word of it
--   run_each_limit, slide_limit            how many rounds are made
--   windowed-stays, window_stuck-stays, window_counts-stays   of a frame whose words are all in the code: one idle round at each position
--   run_each_near, slide_near              rounds over sound words, and the positions: their words are the sent ones, nothing moves away from the frame
--   windowed_least                        a window counts by the groups that stand in it
--   window_admitted, window_limits, window-verdict   a window that rule 18 admits: the rules are the decoder's
--   whole-rounds, whole-counts            a window that has room for all groups
--   windowed-whole, windowed_limit, windowed_restore   the theorems over the call
-- Assumes nothing.
use mathlib.Core.Path.{◌≡◌, refl, sym, ap, ap₂, ◌∙◌, subst, subst⁻¹}
use mathlib.Core.Bool.{true}
use mathlib.Core.Logic.{inr}
use mathlib.Core.List.{List}
use Prim.Native.Nat.{ℕ, zero, suc, ◌+◌, ◌-◌, ◌*◌, ◌/◌, ◌≤◌, ◌<◌, zero-le}
use native.Mathlib.Nat.{zero-add, le_trans}
use native.Mathlib.Decide.{ℕ_discrete, dec_lt}
use native.Mathlib.Omega.{arith}
use lib.Dec.{eqb}
use Rattle.bch.specs.Code.{distance}
use Rattle.staircase.specs.Lists.{tabulate}
use Rattle.staircase.specs.Design.{Params, Interleavers, params, most-rounds}
use Rattle.staircase.specs.Frame.{Frame, Word, frame_of, groups, words, read, in_code, outside_each, outside}
use Rattle.staircase.specs.System.{redundancy}
use Rattle.staircase.specs.LineErrors.{line_errors}
use Rattle.staircase.specs.Lines.{line_word, words_from}
use Rattle.staircase.specs.Decoder.{Progress, round_of, Decoded, run_each, rounds_allowed, decoded}
use Rattle.staircase.specs.Outcomes.{last_stuck}
use Rattle.staircase.specs.Rules.{Verdict, ◌then◌, out_of_range, design_rules, count_rule, rounds_rule, length_rule, list_lengths, frame_lengths, decoder_work, interleavers, list_rule, frame_bits}
use Rattle.staircase.specs.Rules.Verdict.{accepted, refused}
use Rattle.staircase.specs.Calls.{Encoded, Counts, counts_of, corrected_by, decode_verdict, decode_call}
use Rattle.staircase.specs.Demand3.{Kit, sizes, lists, encode, Given, EachWord, Like, Restored}
use Rattle.staircase.specs.Window.{most-window, window_rule, positions, window_groups, window_words, slide, slide_stuck, windowed, window_stuck, window_counts, window_verdict, window_call, decode_window}
use Rattle.staircase.proofs.Search.{cond_ind}
use Rattle.staircase.proofs.Tabulate.{concat-same}
use Rattle.staircase.proofs.Member.{In, in_concat, concat_in}
use Rattle.staircase.proofs.Flip.{Received, bit_at-bits}
use Rattle.staircase.proofs.Lines.{words_lines}
use Rattle.staircase.proofs.Rounds.{run_each-idle, run_each-more}
use Rattle.staircase.proofs.Correction.{Sound, FewWrong, Nearer, nearer_trans, nearer_distance, nearer_same, covers_same, correct_each_restore}
use Rattle.staircase.proofs.BchCode.{proper_of}
use Rattle.staircase.proofs.Sites.{each_word}
use Rattle.staircase.proofs.LineErrors.{line_errors-same}
use Rattle.staircase.proofs.Outside.{outside_each_inside}
use Rattle.staircase.proofs.Idle.{round_of-stays, run_each-stays}
use Rattle.staircase.proofs.Outcomes.{stuck_each-idle, last_stuck-idle}
use Rattle.staircase.proofs.Freed.{last_stuck_free}
use Rattle.staircase.proofs.Rules.{refuse-accepted, refuse-false, in_range, out_of_range-false, design_limits}
use Rattle.staircase.proofs.Decoded.{rounds_allowed-some}
use Rattle.staircase.proofs.Demand3.{encode-made, decode_admits, made-length, frame_itself, sound, covered, none-outside}

-- ---- the words of a window

module _ (s : Params) (l : Interleavers) (L : ℕ) where
  pub words_from-among : (k n : ℕ) → k + n ≤ 2 * groups L → (x : Word) → In x (words_from s l L k n) → In x (words s l L)
  words_from-among k n h x i =
      let q = concat_in n (λ i. tabulate s.M (line_word s l L (k + i))) x i in
      subst⁻¹ (λ (ws : List Word). In x ws) (words_lines s l L)
      (in_concat x (2 * groups L) (λ k. tabulate s.M (line_word s l L k)) (k + q.0) (omega (arith, q.1)) q.2)

  -- line k + i of the frame is line i of those from k on
  pub among-words_from : (x : Word) → In x (words s l L) → (j : ℕ) × (j < 2 * groups L) × ((k n : ℕ) → k ≤ j → j < k + n → In x (words_from s l L k n))
  among-words_from x i =
      let q = concat_in (2 * groups L) (λ k. tabulate s.M (line_word s l L k)) x (subst (λ (ws : List Word). In x ws) (words_lines s l L) i) in (
        q.0,
        q.1,
        λ k n low high.
            let e : k + (q.0 - k) ≡ q.0 = omega (arith, low) in
            in_concat x n (λ i. tabulate s.M (line_word s l L (k + i))) (q.0 - k) (omega (arith, low, high))
            (subst⁻¹ (λ (j : ℕ). In x (tabulate s.M (line_word s l L j))) e q.2),
      )

  module _ (v : ℕ) where
    pub window_words-whole : groups L ≤ v → window_words s l L v 0 ≡ words s l L
    window_words-whole h =
        let all : 2 * window_groups (groups L) v ≡ 2 * groups L = omega (arith, h) in
        ap (words_from s l L (2 * 0)) all
        ∙ concat-same (2 * groups L) (λ i. tabulate s.M (line_word s l L (2 * 0 + i))) (λ i. tabulate s.M (line_word s l L i))
        (λ i m. ap (λ (j : ℕ). tabulate s.M (line_word s l L j)) (zero-add i)) ∙ sym (words_lines s l L)

    window-word : (p : ℕ) → p < positions (groups L) v → (w : Word) → In w (window_words s l L v p) → In w (words s l L)
    window-word p h w i =
        words_from-among (2 * p) (2 * window_groups (groups L) v) (omega (arith, h)) w i

    word-window : 1 ≤ v → (w : Word) → In w (words s l L) → (p : ℕ) × (p < positions (groups L) v) × In w (window_words s l L v p)
    word-window low w i =
        let t = among-words_from w i in
        go t.0 t.1 t.2 (dec_lt (t.0 / 2) (positions (groups L) v))
      where
        n : ℕ
        n = 2 * window_groups (groups L) v

        go : (j : ℕ) → j < 2 * groups L → ((k n : ℕ) → k ≤ j → j < k + n → In w (words_from s l L k n))
            → Dec (j / 2 < positions (groups L) v) → (p : ℕ) × (p < positions (groups L) v) × In w (window_words s l L v p)
        go j h lines (yes d) = (j / 2, d, lines (2 * (j / 2)) n (omega arith) (omega (arith, h, low)))
        go j h lines (no d) =
            let p : ℕ = groups L - v in
            (p, omega arith, lines (2 * p) n (omega (arith, d)) (omega (arith, h, d)))

-- ---- how many rounds

pub run_each_limit : (ws : List Word) (k : ℕ) (f : Frame) → (run_each ws k f).rounds ≤ k
unfolding run_each
run_each_limit ws zero f = zero-le
run_each_limit ws (suc k) f = go (ℕ_discrete (round_of ws f).flips 0) (run_each_limit ws k (round_of ws f).frame)
  where
    go : Dec ((round_of ws f).flips ≡ 0) → (run_each ws k (round_of ws f).frame).rounds ≤ k → (run_each ws (suc k) f).rounds ≤ suc k
    go (yes e) h = let p : (run_each ws (suc k) f).rounds ≡ 1 = ap (λ (d : Decoded). d.rounds) (run_each-idle ws k f e) in omega (arith, p)
    go (no d) h =
        let p : (run_each ws (suc k) f).rounds ≡ 1 + (run_each ws k (round_of ws f).frame).rounds = ap (λ (d : Decoded). d.rounds) (run_each-more ws k f d) in
        omega (arith, p, h)

pub slide_limit : (window : ℕ → List Word) (n k : ℕ) (f : Frame) → (slide window n k f).rounds ≤ n * k
unfolding slide
slide_limit window zero k f = zero-le
slide_limit window (suc n) k f = omega (arith, slide_limit window n k f, run_each_limit (window n) k (slide window n k f).frame)

slide_one : (window : ℕ → List Word) (k : ℕ) (f : Frame) → slide window 1 k f ≡ run_each (window 0) k f
unfolding slide
slide_one window k f =
    let d : Decoded = run_each (window 0) k f in
    ap₂ (λ (a b : ℕ). record { frame = d.frame; rounds = a; flips = b }) (zero-add d.rounds) (zero-add d.flips)

-- ---- a frame whose words are all in the code

slide-stays : (window : ℕ → List Word) (n k : ℕ) (f : Frame) → ((p : ℕ) → p < n → (w : Word) → In w (window p) → in_code w.code f w.sites ≡ true)
    → slide window n (suc k) f ≡ record { frame = f; rounds = n; flips = 0 }
unfolding slide
slide-stays window zero k f h = refl
slide-stays window (suc n) k f h =
    let one : n + 1 ≡ suc n = omega arith in
    ap (λ (d : Decoded). next d (run_each (window n) (suc k) d.frame)) (slide-stays window n k f (λ p l. h p (omega (arith, l))))
    ∙ ap (next (record { frame = f; rounds = n; flips = 0 })) (run_each-stays f (window n) (h n (omega arith)) k)
    ∙ ap (λ (r : ℕ). record { frame = f; rounds = r; flips = 0 }) one
  where
    next : Decoded → Decoded → Decoded
    next before here = record { frame = here.frame; rounds = before.rounds + here.rounds; flips = before.flips + here.flips }

module _ (s : Params) (l : Interleavers) (L v k : ℕ) (f : Frame) (h : (w : Word) → In w (words s l L) → in_code w.code f w.sites ≡ true) where
  abbrev W : ℕ → List Word
  W = window_words s l L v

  each : (p : ℕ) → p < positions (groups L) v → (w : Word) → In w (W p) → in_code w.code f w.sites ≡ true
  each p m w i = h w (window-word s l L v p m w i)

  -- one idle round at each position
  pub windowed-stays : windowed s l L v k f ≡ record { frame = f; rounds = positions (groups L) v; flips = 0 }
  unfolding windowed
  windowed-stays =
      let (j, some) = rounds_allowed-some k in
      ap (λ (n : ℕ). slide W (positions (groups L) v) n f) some ∙ slide-stays W (positions (groups L) v) j f each

  pub window_stuck-stays : window_stuck s l L v k f ≡ 0
  unfolding window_stuck slide_stuck
  window_stuck-stays =
      let (j, some) = rounds_allowed-some k in
      let last : ℕ = groups L - v in
      let here = each last (omega arith) in
      let idle : (round_of (W last) f).flips ≡ 0 = ap (λ (x : Progress). x.flips) (round_of-stays f (W last) here) in
      ap (λ (n : ℕ). slide_stuck W last n f) some
      ∙ ap (λ (d : Decoded). last_stuck (W last) (suc j) d.frame) (slide-stays W last j f (λ p m. each p (omega (arith, m))))
      ∙ last_stuck-idle (W last) j f idle ∙ (stuck_each-idle (W last) f idle).0 ∙ outside_each_inside f (W last) here

  pub window_counts-stays : window_counts s l L v k f ≡ record { rounds = positions (groups L) v; turned = 0; outside = 0; stuck = 0 }
  unfolding window_counts outside
  window_counts-stays =
      let none : outside_each f (words s l L) ≡ 0 =
      outside_each_inside f (words s l L) h in
      ap₂ (λ (d : Decoded) (n : ℕ). record { rounds = d.rounds; turned = line_errors f d.frame; outside = outside_each d.frame (words s l L); stuck = n })
      windowed-stays window_stuck-stays
      ∙ ap₂ (λ (a b : ℕ). record { rounds = positions (groups L) v; turned = a; outside = b; stuck = 0 }) (line_errors-same f) none

-- ---- at most t wrong bits in each word

module _ (f : Frame) (ff : Received f f) where
  -- b is like f and no further from it than a, and its words of ws are f's
  pub record Near (a b : Frame) (ws : List Word) : Type 0 where
    pub like : Received f b
    pub nearer : Nearer f a b
    pub sent : (w : Word) → In w ws → read b w.sites ≡ read f w.sites

  module _ (ws : List Word) (ok : (w : Word) → In w ws → Sound f w) where
    abbrev Few : Frame → Type 0
    Few a = (w : Word) → In w ws → FewWrong f a w

    few_nearer : (a b : Frame) → Nearer f a b → Few a → Few b
    few_nearer a b p few w i = le_trans (nearer_distance f a b p w.sites) (few w i)

    round_near : (a : Frame) → Received f a → Few a → Near a (round_of ws a).frame ws
    unfolding round_of
    round_near a g few =
        let p = correct_each_restore f ff ws ok (record { frame = a; flips = 0 }) g few in
        record { like = p.0; nearer = p.1; sent = p.2 }

    near_then : (a b c : Frame) → Near a b ws → Near b c ws → Near a c ws
    near_then a b c p q = record { like = q.like; nearer = nearer_trans f a b c p.nearer q.nearer; sent = q.sent }

    -- rounds after the first, if there are any
    run_each-first : (F : Frame → Type 0) (k : ℕ) (a : Frame) → F (round_of ws a).frame → F (run_each ws k (round_of ws a).frame).frame
        → F (run_each ws (suc k) a).frame
    unfolding run_each
    run_each-first F k a idle more = cond_ind (λ (d : Decoded). F d.frame) (eqb (round_of ws a).flips 0) _ _ (λ e. idle) (λ e. more)

    run_each-kept : (k : ℕ) (a b : Frame) → Near a b ws → Few b → Near a (run_each ws k b).frame ws
    unfolding run_each
    run_each-kept zero a b h few = h
    run_each-kept (suc k) a b h few =
        let c : Frame = (round_of ws b).frame in
        let q : Near b c ws = round_near b h.like few in
        let r : Near a c ws = near_then a b c h q in
        run_each-first (λ (x : Frame). Near a x ws) k b r (run_each-kept k a c r (few_nearer b c q.nearer few))

    -- any number of rounds but none
    pub run_each_near : (k : ℕ) (a : Frame) → Received f a → ((w : Word) → In w ws → FewWrong f a w) → Near a (run_each ws (suc k) a).frame ws
    run_each_near k a g few =
        let b : Frame = (round_of ws a).frame in
        let h : Near a b ws = round_near a g few in
        run_each-first (λ (x : Frame). Near a x ws) k a h (run_each-kept k a b h (few_nearer a b h.nearer few))

  -- what n positions leave: the words of each window are the sent ones
  pub record Slid (a b : Frame) (window : ℕ → List Word) (n : ℕ) : Type 0 where
    pub like : Received f b
    pub nearer : Nearer f a b
    pub sent : (p : ℕ) → p < n → (w : Word) → In w (window p) → read b w.sites ≡ read f w.sites

  pub slide_near : (window : ℕ → List Word) (n k : ℕ) (a : Frame) → ((p : ℕ) → p < n → (w : Word) → In w (window p) → Sound f w) → Received f a
      → ((p : ℕ) → p < n → (w : Word) → In w (window p) → FewWrong f a w) → Slid a (slide window n (suc k) a).frame window n
  unfolding slide
  slide_near window zero k a ok g few = record { like = g; nearer = λ y. inr refl; sent = λ p h. absurd (omega (arith, h)) }
  slide_near window (suc n) k a ok g few =
      let b : Frame = (slide window n (suc k) a).frame in
      let c : Frame = (run_each (window n) (suc k) b).frame in
      let before : Slid a b window n = slide_near window n k a (λ p h. ok p (omega (arith, h))) g (λ p h. few p (omega (arith, h))) in
      let here : Near b c (window n) =
      run_each_near (window n) (ok n (omega arith)) k b before.like (λ w i. le_trans (nearer_distance f a b before.nearer w.sites) (few n (omega arith) w i)) in
      record { like = here.like; nearer = nearer_trans f a b c before.nearer here.nearer; sent = λ p h. each before here p h (ℕ_discrete p n) }
    where
      each : Slid a (slide window n (suc k) a).frame window n
          → Near (slide window n (suc k) a).frame (run_each (window n) (suc k) (slide window n (suc k) a).frame).frame (window n)
          → (p : ℕ) → p < suc n → Dec (p ≡ n) → (w : Word) → In w (window p)
          → read (run_each (window n) (suc k) (slide window n (suc k) a).frame).frame w.sites ≡ read f w.sites
      each before here p h (yes e) w i = here.sent w (subst (λ (q : ℕ). In w (window q)) e i)
      each before here p h (no d) w i =
          nearer_same f (slide window n (suc k) a).frame (run_each (window n) (suc k) (slide window n (suc k) a).frame).frame here.nearer w.sites
          (before.sent p (omega (arith, h, d)) w i)

-- ---- the call

-- a window counts by the groups that stand in it
pub windowed_least : (s : Params) (l : Interleavers) (L v k : ℕ) (f : Frame)
    → (windowed s l L (window_groups (groups L) v) k f ≡ windowed s l L v k f) × (window_stuck s l L (window_groups (groups L) v) k f ≡ window_stuck s l L v k f)
unfolding windowed window_stuck
windowed_least s l L v k f =
    let G : ℕ = groups L in
    let least : window_groups G (window_groups G v) ≡ window_groups G v = omega arith in
    let last : G - window_groups G v ≡ G - v = omega arith in (
      ap₂ (λ (n m : ℕ). slide (λ p. words_from s l L (2 * p) (2 * n)) (suc m) (rounds_allowed k) f) least last,
      ap₂ (λ (n m : ℕ). slide_stuck (λ p. words_from s l L (2 * p) (2 * n)) m (rounds_allowed k) f) least last,
    )

-- a window that rule 18 admits
pub window-verdict : (m t M col L k v : ℕ) (self parity info red : List ℕ) (work : ℕ) → window_rule v ≡ accepted
    → window_verdict m t M col L k v self parity info red work ≡ decode_verdict m t M col L k self parity info red work
unfolding window_verdict decode_verdict
window-verdict m t M col L k v self parity info red work e =
    let s : Params = params m t M col in
    let rest : Verdict = list_lengths s self parity then frame_lengths s L info red then length_rule 6 work (decoder_work s L)
    then list_rule s (interleavers s self parity) then frame_bits info red in
    ap (λ (x : Verdict). design_rules m t M col then count_rule L then rounds_rule k then x then rest) e

pub window_admitted : (v : ℕ) → 1 ≤ v → v ≤ most-window → window_rule v ≡ accepted
unfolding window_rule
window_admitted v low high = refuse-accepted 18 v (in_range 1 most-window v low high)

pub window_limits : (v : ℕ) → window_rule v ≡ accepted → (1 ≤ v) × (v ≤ most-window)
unfolding window_rule
window_limits v e = out_of_range-false 1 most-window v (refuse-false (out_of_range 1 most-window v) 18 v e)

module _ (s : Params) (l : Interleavers) (L v k : ℕ) (f : Frame) (h : groups L ≤ v) where
  abbrev K : ℕ
  K = rounds_allowed k

  pub whole-rounds : windowed s l L v k f ≡ decoded s l L k f
  unfolding windowed decoded
  whole-rounds =
      let one : positions (groups L) v ≡ 1 = omega (arith, h) in
      ap (λ (n : ℕ). slide (window_words s l L v) n K f) one ∙ slide_one (window_words s l L v) K f
      ∙ ap (λ (ws : List Word). run_each ws K f) (window_words-whole s l L v h)

  whole-stuck : window_stuck s l L v k f ≡ last_stuck (words s l L) (rounds_allowed k) f
  unfolding window_stuck slide_stuck slide
  whole-stuck =
      let none : groups L - v ≡ 0 = omega (arith, h) in
      ap (λ (n : ℕ). slide_stuck (window_words s l L v) n K f) none
      ∙ ap (λ (ws : List Word). last_stuck ws K f) (window_words-whole s l L v h)

  pub whole-counts : window_counts s l L v k f ≡ counts_of s l L k f
  unfolding window_counts counts_of
  whole-counts = λ i. record {
    rounds = (whole-rounds i).rounds;
    turned = line_errors f (whole-rounds i).frame;
    outside = outside s l L (whole-rounds i).frame;
    stuck = whole-stuck i;
  }

-- "If V is at least G, bits and counts are those of the whole-frame decoder": so is the verdict, for all arguments
pub windowed-whole : (m t M col L k v : ℕ) (self parity info red : List ℕ) (work : ℕ) → 1 ≤ v → v ≤ most-window → groups L ≤ v
    → window_call m t M col L k v self parity info red work ≡ decode_call m t M col L k self parity info red work
unfolding window_call decode_call
windowed-whole m t M col L k v self parity info red work low high h =
    let s : Params = params m t M col in
    let l : Interleavers = interleavers s self parity in
    let f : Frame = frame_of info red in
    let verdict = window-verdict m t M col L k v self parity info red work (window_admitted v low high) in
    λ i. corrected_by (verdict i) f (whole-rounds s l L v k f h i).frame (whole-counts s l L v k f h i)

-- "Rounds .. never exceed positions times the allowed number"
pub windowed_limit : (m t M col L k v : ℕ) (self parity info red : List ℕ) (work : ℕ)
    → (window_call m t M col L k v self parity info red work).counts.rounds ≤ positions (groups L) v * rounds_allowed k
unfolding window_call window_counts windowed
windowed_limit m t M col L k v self parity info red work =
    let s : Params = params m t M col in
    let l : Interleavers = interleavers s self parity in
    let f : Frame = frame_of info red in
    counted (window_verdict m t M col L k v self parity info red work) f (windowed s l L v k f).frame (window_counts s l L v k f)
    (slide_limit (window_words s l L v) (positions (groups L) v) (rounds_allowed k) f)
  where
    counted : (x : Verdict) (old new : Frame) (c : Counts) {n : ℕ} → c.rounds ≤ n → (corrected_by x old new c).counts.rounds ≤ n
    counted accepted old new c h = h
    counted (refused n p) old new c h = zero-le

-- ---- a frame that the encoder made

module _ (K : Kit) (L : ℕ) (info old : List ℕ) (G : Given K L info old) where
  abbrev s : Params
  s = sizes K

  abbrev l : Interleavers
  l = lists K

  abbrev made : List ℕ
  made = redundancy (sizes K) (lists K) K.inverse L info

  abbrev frame : Frame
  frame = frame_of info made

  abbrev all : List Word
  all = words s l L

  module _ (received : Frame) (like : Received frame received) (few : (w : Word) → In w all → FewWrong frame received w) (v : ℕ) (low : 1 ≤ v) where
    slid : (n k : ℕ) → n ≤ positions (groups L) v → Slid frame (frame_itself K L info old G) received (slide (window_words s l L v) n (suc k) received).frame (window_words s l L v) n
    slid n k h =
        slide_near frame (frame_itself K L info old G) (window_words s l L v) n k received
        (λ p q w i. sound K L info old G w (window-word s l L v p (omega (arith, h, q)) w i)) like
        (λ p q w i. few w (window-word s l L v p (omega (arith, h, q)) w i))

    window-frame : (k : ℕ) → (windowed s l L v k received).frame ≡ frame
    unfolding windowed
    window-frame k =
        let (j, some) = rounds_allowed-some k in
        let r = slid (positions (groups L) v) j (omega arith) in
        ap (λ (n : ℕ). (slide (window_words s l L v) (positions (groups L) v) n received).frame) some
        ∙ covers_same frame all (covered K L info old G) (slide (window_words s l L v) (positions (groups L) v) (suc j) received).frame r.like
        (λ w i. let p = word-window s l L v low w i in r.sent p.0 p.1 w p.2)

    window_free : (k : ℕ) → window_stuck s l L v k received ≡ 0
    unfolding window_stuck slide_stuck
    window_free k =
        let (j, some) = rounds_allowed-some k in
        let last : ℕ = groups L - v in
        let b : Frame = (slide (window_words s l L v) last (suc j) received).frame in
        let r = slid last j (omega arith) in
        ap (λ (n : ℕ). slide_stuck (window_words s l L v) last n received) some
        ∙ last_stuck_free frame (frame_itself K L info old G) (window_words s l L v last)
        (λ w i. sound K L info old G w (window-word s l L v last (omega arith) w i)) j b r.like
        (λ w i. le_trans (nearer_distance frame received b r.nearer w.sites) (few w (window-word s l L v last (omega arith) w i)))

  -- what the theorem says of a redundancy
  abbrev Restores : List ℕ → Type 0
  Restores red =
      (received : Frame) → Like info received.info → Like red received.red
      → EachWord s l L (λ x. distance (read (frame_of info red) x.sites) (read received x.sites) ≤ K.t)
      → (k v : ℕ) → k ≤ most-rounds → 1 ≤ v → v ≤ most-window → Restored received (frame_of info red) (decode_window K L k v received)

  made-window : Restores made
  unfolding window_call window_counts outside
  made-window received li lr few k v hk low high =
      let like : Received frame received = record { info_length = li.0; red_length = lr.0; binary = bit_at-bits received li.1 lr.1 } in
      let each = each_word s L l (proper_of (design_limits K.m K.t K.M K.col G.design)) G.passes.self G.passes.parity
      (FewWrong frame received) few.rows few.columns in
      let d : Decoded = windowed s l L v k received in
      let verdict = window-verdict K.m K.t K.M K.col L k v K.self K.parity received.info received.red (decoder_work s L) (window_admitted v low high)
      ∙ decode_admits K L info old G k hk received.info received.red (li.0 ∙ G.info-fits) (lr.0 ∙ made-length K L info old G) li.1 lr.1 in
      let same : d.frame ≡ frame = window-frame received like each v low k in
      let none : outside_each d.frame (words s l L) ≡ 0 = ap (λ (x : Frame). outside_each x (words s l L)) same ∙ none-outside K L info old G in
      let free = window_free received like each v low k in (
        d.rounds,
        ap (λ (x : Verdict). corrected_by x received d.frame (window_counts s l L v k received)) verdict
            ∙ (λ i. record { verdict = accepted; frame = same i; counts = record { rounds = d.rounds; turned = line_errors received (same i); outside = none i; stuck = free i } }),
      )

  -- "A copy with at most t wrong bits in each word comes back as sent for every V"
  pub windowed_restore : (received : Frame) → Like info received.info → Like (encode K L info old).red received.red
      → EachWord (sizes K) (lists K) L (λ x. distance (read (frame_of info (encode K L info old).red) x.sites) (read received x.sites) ≤ K.t)
      → (k v : ℕ) → k ≤ most-rounds → 1 ≤ v → v ≤ most-window → Restored received (frame_of info (encode K L info old).red) (decode_window K L k v received)
  windowed_restore = subst⁻¹ Restores (ap (λ (e : Encoded). e.red) (encode-made K L info old G info old G.bits G.info-fits G.old_fits)) made-window
