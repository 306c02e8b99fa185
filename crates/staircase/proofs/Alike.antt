-- Words that are checked and corrected alike, and the words of a frame as code reads them: a word of the mirrored code backwards, as one of the row code.
--   Alike, Alikes              of two words, of two lists of words, in every frame like a given one
--   correct_each_alike, run_each_alike, outside_each_alike, last_stuck_alike, slide_alike, slide_stuck_alike   what is left and counted
--   line_alike                 word a of line k in its code, and as it is read
--   words-alike, window-alike  all words of a frame, and those of a window
-- Assumes nothing.
use mathlib.Core.Path.{◌≡◌, refl, sym, ap, ap₂, ◌∙◌, subst}
use mathlib.Core.Bool.{Bool, true, false, not, cond}
use mathlib.Core.List.{List, [], ◌∷◌, ◌++◌, map-append}
use Prim.Native.Nat.{ℕ, zero, suc, ◌+◌, ◌-◌, ◌*◌, ◌%◌, ◌≤◌, ◌<◌, suc-le-suc}
use native.Mathlib.Omega.{arith}
use lib.Dec.{eqb}
use lib.ListN.{length, get_or}
use Rattle.bch.specs.Code.{is_codeword}
use Rattle.bch.specs.Mirror.{mirror, backwards}
use Rattle.bch.proofs.Mirror.{mirror_codeword}
use Rattle.staircase.specs.Lists.{tabulate, concat}
use Rattle.staircase.specs.Design.{Params, Interleavers, column_generator, column_code, mirrored, word_length, order}
use Rattle.staircase.specs.Frame.{Frame, Site, Word, word, plain, groups, words, bit_at, read, in_code, outside_each, outside_among, outside}
use Rattle.staircase.specs.Decoder.{correction, flip_all, Progress, correct_word, correct_each, round_of, Decoded, run_each}
use Rattle.staircase.specs.Outcomes.{corrected_bits, stuck_of, outcome, stuck_each, before_last, last_stuck}
use Rattle.staircase.specs.Outcomes.Outcome.{clean}
use Rattle.staircase.specs.Demand2.{Permutes}
use Rattle.staircase.specs.Lines.{even, line_sites, line_word, words_from, read_sites, read_from}
use Rattle.staircase.specs.Window.{window_groups, window_words, slide, slide_stuck}
use Rattle.staircase.proofs.Tabulate.{concat-same}
use Rattle.staircase.proofs.Flip.{Received, Distinct, read_length, read-bits}
use Rattle.staircase.proofs.Rounds.{correct_each_received, run_each_received}
use Rattle.staircase.proofs.Correction.{CodeDistance}
use Rattle.staircase.proofs.System.{Proper}
use Rattle.staircase.proofs.Mirrored.{backwards-map, mirrored-flips, mirrored-count}
use Rattle.staircase.proofs.Lines.{line_ind, line_row, line-column, word_row, word-column, words_lines, even-twice, odd_twice}
use Rattle.staircase.proofs.Turned.{turned_row, turned-column, read_straight, read_back, line-length, line_distinct}

pub record Alike (g : Frame) (v w : Word) : Type 0 where
  pub flips : (f : Frame) → Received g f → flip_all (correction v.code f v.sites) f ≡ flip_all (correction w.code f w.sites) f
  pub count : (f : Frame) → Received g f → length (correction v.code f v.sites) ≡ length (correction w.code f w.sites)
  pub coded : (f : Frame) → Received g f → in_code v.code f v.sites ≡ in_code w.code f w.sites

pub alike_same : (g : Frame) (v w : Word) → v ≡ w → Alike g v w
alike_same g v w e = subst (Alike g v) e (record { flips = λ f h. refl; count = λ f h. refl; coded = λ f h. refl })

pub data Alikes (g : Frame) : List Word → List Word → Type 0 where
  none : Alikes g [] []
  more : {v w : Word} {vs ws : List Word} → Alike g v w → Alikes g vs ws → Alikes g (v ∷ vs) (w ∷ ws)

-- ---- what they leave

module _ (g : Frame) where
  alikes_append : {u v x y : List Word} → Alikes g u v → Alikes g x y → Alikes g (u ++ x) (v ++ y)
  alikes_append none b = b
  alikes_append (more h a) b = more h (alikes_append a b)

  word_alike : (v w : Word) → Alike g v w → (x : Progress) → Received g x.frame → correct_word v.code x v.sites ≡ correct_word w.code x w.sites
  unfolding correct_word
  word_alike v w h x r =
      ap₂ (λ (f : Frame) (n : ℕ). record { frame = f; flips = x.flips + n }) (h.flips x.frame r) (h.count x.frame r)

  word_received : (v : Word) (x : Progress) → Received g x.frame → Received g (correct_word v.code x v.sites).frame
  unfolding correct_each
  word_received v x r = correct_each_received g x (v ∷ []) r

  pub correct_each_alike : {vs ws : List Word} → Alikes g vs ws → (x : Progress) → Received g x.frame → correct_each x vs ≡ correct_each x ws
  unfolding correct_each
  correct_each_alike none x r = refl
  correct_each_alike (more {v} {w} {vs} {ws} h a) x r =
      correct_each_alike a (correct_word v.code x v.sites) (word_received v x r)
      ∙ ap (λ (z : Progress). correct_each z ws) (word_alike v w h x r)

  pub round_of_alike : {vs ws : List Word} → Alikes g vs ws → (f : Frame) → Received g f → round_of vs f ≡ round_of ws f
  unfolding round_of
  round_of_alike a f r = correct_each_alike a (record { frame = f; flips = 0 }) r

  round_received : (vs : List Word) (f : Frame) → Received g f → Received g (round_of vs f).frame
  unfolding round_of
  round_received vs f r = correct_each_received g (record { frame = f; flips = 0 }) vs r

  abbrev next : Progress → Decoded → Decoded
  next x rest =
      cond (eqb x.flips 0) (record { frame = x.frame; rounds = 1; flips = 0 })
      (record { frame = rest.frame; rounds = 1 + rest.rounds; flips = x.flips + rest.flips })

  pub run_each_alike : {vs ws : List Word} → Alikes g vs ws → (k : ℕ) (f : Frame) → Received g f → run_each vs k f ≡ run_each ws k f
  unfolding run_each
  run_each_alike a zero f r = refl
  run_each_alike {vs} {ws} a (suc k) f r =
      ap (λ (d : Decoded). next (round_of vs f) d) (run_each_alike a k (round_of vs f).frame (round_received vs f r))
      ∙ ap (λ (x : Progress). next x (run_each ws k x.frame)) (round_of_alike a f r)

  pub outside_each_alike : {vs ws : List Word} → Alikes g vs ws → (f : Frame) → Received g f → outside_each f vs ≡ outside_each f ws
  unfolding outside_each
  outside_each_alike none f r = refl
  outside_each_alike (more h a) f r = ap₂ (λ (z : Bool) (n : ℕ). cond z 0 1 + n) (h.coded f r) (outside_each_alike a f r)

  stuck_alike : (v w : Word) → Alike g v w → (f : Frame) → Received g f → stuck_of (outcome v.code f v.sites) ≡ stuck_of (outcome w.code f w.sites)
  unfolding outcome
  stuck_alike v w h f r = ap₂ (λ (z : Bool) (n : ℕ). stuck_of (cond z clean (corrected_bits n))) (h.coded f r) (h.count f r)

  stuck_each_alike : {vs ws : List Word} → Alikes g vs ws → (f : Frame) → Received g f → stuck_each f vs ≡ stuck_each f ws
  unfolding stuck_each correct_word
  stuck_each_alike none f r = refl
  stuck_each_alike (more {v} {w} {vs} {ws} h a) f r =
      ap₂ (λ (m n : ℕ). m + n) (stuck_alike v w h f r)
      (stuck_each_alike a (flip_all (correction v.code f v.sites) f) (word_received v (record { frame = f; flips = 0 }) r)
      ∙ ap (λ (z : Frame). stuck_each z ws) (h.flips f r))

  before_received : (vs : List Word) (k : ℕ) (f : Frame) → Received g f → Received g (before_last vs k f)
  unfolding before_last
  before_received vs zero f r = r
  before_received vs (suc k) f r = go (eqb (round_of vs f).flips 0) (eqb k 0) (before_received vs k (round_of vs f).frame (round_received vs f r))
    where
      go : (y z : Bool) → Received g (before_last vs k (round_of vs f).frame) → Received g (cond y f (cond z f (before_last vs k (round_of vs f).frame)))
      go true z h = r
      go false true h = r
      go false false h = h

  before_last_alike : {vs ws : List Word} → Alikes g vs ws → (k : ℕ) (f : Frame) → Received g f → before_last vs k f ≡ before_last ws k f
  unfolding before_last
  before_last_alike a zero f r = refl
  before_last_alike {vs} {ws} a (suc k) f r =
      ap (λ (h : Frame). cond (eqb (round_of vs f).flips 0) f (cond (eqb k 0) f h)) (before_last_alike a k (round_of vs f).frame (round_received vs f r))
      ∙ ap (λ (x : Progress). cond (eqb x.flips 0) f (cond (eqb k 0) f (before_last ws k x.frame))) (round_of_alike a f r)

  pub last_stuck_alike : {vs ws : List Word} → Alikes g vs ws → (k : ℕ) (f : Frame) → Received g f → last_stuck vs k f ≡ last_stuck ws k f
  unfolding last_stuck
  last_stuck_alike {vs} {ws} a k f r =
      stuck_each_alike a (before_last vs k f) (before_received vs k f r) ∙ ap (λ (h : Frame). stuck_each h ws) (before_last_alike a k f r)

  -- ---- windows

  module _ (U W : ℕ → List Word) where
    slide_received : (n k : ℕ) (f : Frame) → Received g f → Received g (slide U n k f).frame
    unfolding slide
    slide_received zero k f r = r
    slide_received (suc n) k f r = run_each_received (U n) g k (slide U n k f).frame (slide_received n k f r)

    abbrev along : Decoded → Decoded → Decoded
    along before here = record { frame = here.frame; rounds = before.rounds + here.rounds; flips = before.flips + here.flips }

    pub slide_alike : (n k : ℕ) (f : Frame) → Received g f → ((p : ℕ) → p < n → Alikes g (U p) (W p)) → slide U n k f ≡ slide W n k f
    unfolding slide
    slide_alike zero k f r a = refl
    slide_alike (suc n) k f r a =
        ap (along (slide U n k f)) (run_each_alike (a n (omega arith)) k (slide U n k f).frame (slide_received n k f r))
        ∙ ap (λ (d : Decoded). along d (run_each (W n) k d.frame)) (slide_alike n k f r (λ p h. a p (omega (arith, h))))

    pub slide_stuck_alike : (n k : ℕ) (f : Frame) → Received g f → ((p : ℕ) → p < suc n → Alikes g (U p) (W p)) → slide_stuck U n k f ≡ slide_stuck W n k f
    unfolding slide_stuck
    slide_stuck_alike n k f r a =
        last_stuck_alike (a n (omega arith)) k (slide U n k f).frame (slide_received n k f r)
        ∙ ap (λ (d : Decoded). last_stuck (W n) k d.frame) (slide_alike n k f r (λ p h. a p (omega (arith, h))))

-- ---- the words of a line, as they are read

module _ (s : Params) where
  column-same : (z : Bool) → eqb s.col 0 ≡ z → z ≡ true → column_code s ≡ s
  unfolding column_generator
  column-same z e t =
      ap (λ (n : ℕ). record { M = s.M; r = s.r; t = s.t; g = n; col = s.col }) (ap (λ (b : Bool). cond b s.g (mirror s.r s.g)) (e ∙ t))

  column-mirrored : eqb s.col 0 ≡ false → column_code s ≡ mirrored s
  unfolding column_generator
  column-mirrored e =
      ap (λ (n : ℕ). record { M = s.M; r = s.r; t = s.t; g = n; col = s.col }) (ap (λ (b : Bool). cond b s.g (mirror s.r s.g)) e)

module _ (s : Params) (L : ℕ) (l : Interleavers) (ok : Proper s) (odd : s.g % 2 ≡ 1) (apart : CodeDistance (column_code s) (word_length s))
    (ps : Permutes (order s) (λ p. get_or l.self p 0)) (pp : Permutes (order s) (λ p. get_or l.parity p 0)) (g : Frame) where
  -- a word of the mirrored code
  back_alike : (w : List Site) → length w ≡ word_length s → Distinct w → CodeDistance (mirrored s) (word_length s) → Alike g (word (mirrored s) w) (word s (backwards w))
  back_alike w long single far =
      record {
        flips = λ f h. mirrored-flips s ok.rpos ok.degree odd f (self f h) w single enough here;
        count = λ f h. mirrored-count s ok.rpos ok.degree odd f (self f h) w single enough here;
        coded = λ f h.
            mirror_codeword s.r s.g ok.degree odd ok.rpos (read f w) (read-bits f f (self f h) w) (subst (λ (n : ℕ). s.r ≤ n) (sym (read_length f w)) enough)
            ∙ ap (is_codeword s.g s.r) (sym (backwards-map (bit_at f) w));
      }
    where
      self : (f : Frame) → Received g f → Received f f
      self f h = record { info_length = refl; red_length = refl; binary = h.binary }

      enough : s.r ≤ length w
      enough = omega (arith, long)

      here : CodeDistance (mirrored s) (length w)
      here = subst (CodeDistance (mirrored s)) (sym long) far

  column_alike : (k a : ℕ) → a < s.M → even k ≡ false → Alike g (word (column_code s) (line_sites s l L k a)) (word s (read_sites s l L k a))
  column_alike k a ha kind = go (eqb s.col 0) refl
    where
      w : List Site
      w = line_sites s l L k a

      go : (z : Bool) → eqb s.col 0 ≡ z → Alike g (word (column_code s) (line_sites s l L k a)) (word s (read_sites s l L k a))
      go true e =
          alike_same g _ _ (ap₂ word (column-same s (eqb s.col 0) refl e) (sym (read_straight s L l k a (turned-column s k kind ∙ ap not e))))
      go false e =
          subst (λ (c : Params). Alike g (word c w) (word s (read_sites s l L k a))) (sym (column-mirrored s e))
          (subst (λ (v : List Site). Alike g (word (mirrored s) w) (word s v)) (sym (read_back s L l k a (turned-column s k kind ∙ ap not e)))
          (back_alike w (line-length s L l ok ps pp k a) (line_distinct s L l ok ps pp k a ha)
          (subst (λ (c : Params). CodeDistance c (word_length s)) (column-mirrored s e) apart)))

  pub line_alike : (k a : ℕ) → a < s.M → Alike g (line_word s l L k a) (word s (read_sites s l L k a))
  line_alike k a ha =
      line_ind (λ (k : ℕ). Alike g (line_word s l L k a) (word s (read_sites s l L k a)))
      (λ i. alike_same g _ _ (word_row s l L i a ∙ ap (word s) (sym (read_straight s L l (2 * i) a (turned_row s (2 * i) (even-twice i)) ∙ line_row s l L i a))))
      (λ i.
      subst (λ (v : Word). Alike g v (word s (read_sites s l L (2 * i + 1) a)))
      (ap (word (column_code s)) (line-column s l L i a) ∙ sym (word-column s l L i a)) (column_alike (2 * i + 1) a ha (odd_twice i)))
      k

  tabulate_alike : (n : ℕ) (f : ℕ → Word) (h : ℕ → List Site) → ((a : ℕ) → a < n → Alike g (f a) (word s (h a))) → Alikes g (tabulate n f) (plain s (tabulate n h))
  unfolding tabulate
  tabulate_alike zero f h each = none
  tabulate_alike (suc n) f h each = more (each zero (omega arith)) (tabulate_alike n (λ a. f (suc a)) (λ a. h (suc a)) (λ a m. each (suc a) (suc-le-suc m)))

  concat_alike : (n : ℕ) (f : ℕ → List Word) (h : ℕ → List (List Site)) → ((i : ℕ) → Alikes g (f i) (plain s (h i))) → Alikes g (concat n f) (plain s (concat n h))
  unfolding concat
  concat_alike zero f h each = none
  concat_alike (suc n) f h each =
      subst (Alikes g (f zero ++ concat n (λ i. f (suc i)))) (sym (map-append (word s) (h zero) (concat n (λ i. h (suc i)))))
      (alikes_append g (each zero) (concat_alike n (λ i. f (suc i)) (λ i. h (suc i)) (λ i. each (suc i))))

  pub from_alike : (k n : ℕ) → Alikes g (words_from s l L k n) (plain s (read_from s l L k n))
  from_alike k n =
      concat_alike n (λ i. tabulate s.M (line_word s l L (k + i))) (λ i. tabulate s.M (read_sites s l L (k + i)))
      (λ i. tabulate_alike s.M (line_word s l L (k + i)) (read_sites s l L (k + i)) (λ a ha. line_alike (k + i) a ha))

  words-from : words s l L ≡ words_from s l L 0 (2 * groups L)
  words-from =
      words_lines s l L
      ∙ concat-same (2 * groups L) (λ i. tabulate s.M (line_word s l L i)) (λ i. tabulate s.M (line_word s l L (0 + i)))
      (λ i h. let e : i ≡ 0 + i = omega arith in ap (λ (k : ℕ). tabulate s.M (line_word s l L k)) e)

  pub words_alike : Alikes g (words s l L) (plain s (read_from s l L 0 (2 * groups L)))
  words_alike = subst (λ (ws : List Word). Alikes g ws (plain s (read_from s l L 0 (2 * groups L)))) (sym words-from) (from_alike 0 (2 * groups L))

  -- the words outside, as code counts them
  pub outside-read : (f : Frame) → Received g f → outside s l L f ≡ outside_among s f (read_from s l L 0 (2 * groups L))
  unfolding outside outside_among
  outside-read f r = outside_each_alike g words_alike f r

  pub window_alike : (v p : ℕ) → Alikes g (window_words s l L v p) (plain s (read_from s l L (2 * p) (2 * window_groups (groups L) v)))
  window_alike v p = from_alike (2 * p) (2 * window_groups (groups L) v)
