-- Correcting the words of a received frame: where each word of the sent frame is in its code, each code tells words of its length apart, and the
-- received frame has at most t wrong bits in each word (a bit that stands twice counts twice), a corrected word is the sent word, and a round leaves
-- the sent frame. For any list of words whatever.
--   CodeDistance s n      codewords of n bits that differ in at most 2t places are equal
--   nearest_errors        the error positions of a word are those at which it differs from the codeword within t changes
--   Sound f w             a word of the frame is in its code, whose distance is at least 2t + 1
--   FewWrong, Covers      at most t wrong bits in a word; each byte of the frame is in some word
--   Nearer f a b          b has the frame's bit or a's bit at each site
--   covers_same           where all words are the frame's, so are the buffers
--   correct-word          a corrected word is the sent word
--   correct_each_restore   after a pass over some words these are the sent ones, and nothing has moved away from the frame
--   round_of_near          after a round no word has more than t wrong bits
--   round_of-restores, run_each_restore, outside_each-none   any number of rounds but none leaves the frame, with no word outside
-- Assumes nothing.
use mathlib.Core.Path.{◌≡◌, refl, sym, ap, ◌∙◌, subst}
use mathlib.Core.Bool.{true}
use mathlib.Core.Logic.{◌≢◌, ◌⊎◌, inl, inr}
use mathlib.Core.List.{List, [], ◌∷◌, map}
use Prim.Native.Nat.{ℕ, zero, suc, ◌+◌, ◌-◌, ◌*◌, ◌≤◌, ◌<◌, zero-le}
use native.Mathlib.Nat.{le_trans}
use native.Mathlib.Decide.{ℕ_discrete}
use native.Mathlib.Omega.{arith}
use lib.Dec.{eqb}
use lib.ListN.{length, get_or}
use lib.Seq.{ext_get_or}
use Rattle.bch.specs.Polynomial.{Bits}
use Rattle.bch.specs.Code.{is_codeword, unlike, distance}
use Rattle.bch.proofs.Distance.{unlike-same, distance_self, distance_comm, distance_triangle}
use Rattle.staircase.specs.Design.{Params}
use Rattle.staircase.specs.Frame.{Frame, Site, Word, bit_at, read, in_code, outside_each}
use Rattle.staircase.specs.Frame.Site.{unsent, in_info, in_red}
use Rattle.staircase.specs.Decoder.{flip_bits, error_positions, once, permitted, correction, flip_all, Progress, correct_word, correct_each, round_of, Decoded, run_each}
use Rattle.staircase.proofs.Search.{cond_ind}
use Rattle.staircase.proofs.Member.{In, in?}
use Rattle.staircase.proofs.Flip.{Sent, Within, Received, flip_all_received, flip_all_other, error_within, read_same, same_read, read-bits, read_length, site?}
use Rattle.staircase.proofs.Occurrences.{permitted-all, once_in, in_once, once_single, flip_all-here, differing, sites_differing, differing_in, in_differing, occurrences_differing}
use Rattle.staircase.proofs.Outside.{outside_each_inside}
use Rattle.staircase.proofs.Errors.{flip_bits-length, flip_bits-bits, flip_bits-distance, Positions, errors, errors-positions, errors_flipped, error_positions_found, flips-once}

-- The code's distance: words of n bits in the code that differ in at most 2t places are equal.
abbrev pub CodeDistance : Params → ℕ → Type 0
CodeDistance s n =
    (u v : List ℕ) → length u ≡ n → length v ≡ n → Bits u → Bits v
    → is_codeword s.g s.r u ≡ true → is_codeword s.g s.r v ≡ true → distance u v ≤ 2 * s.t → u ≡ v

-- The codeword v within t changes of u is the one that the definition finds: the order of its search plays no part.
module _ (s : Params) (n : ℕ) (apart : CodeDistance s n) (u v : List ℕ) (lu : length u ≡ n) (lv : length v ≡ n) (hu : Bits u) (hv : Bits v)
    (code : is_codeword s.g s.r v ≡ true) (near : distance u v ≤ s.t) where
  nearest_found : Positions (length u) s.t (error_positions s u) × (is_codeword s.g s.r (flip_bits (error_positions s u) u) ≡ true)
  nearest_found =
      error_positions_found s u (errors u v) (errors-positions u v (lu ∙ sym lv) s.t near)
      (ap (is_codeword s.g s.r) (errors_flipped u v hu hv (lu ∙ sym lv)) ∙ code)

  nearest_flipped : flip_bits (error_positions s u) u ≡ v
  nearest_flipped =
      let b : List ℕ = flip_bits (error_positions s u) u in
      let lb : length b ≡ length u = flip_bits-length (error_positions s u) u in
      apart b v (lb ∙ lu) lv (flip_bits-bits (error_positions s u) u hu) hv nearest_found.1 code
      (omega (arith, flip_bits-distance (error_positions s u) u, nearest_found.0.few, distance_triangle b u v lb (lu ∙ sym lv), distance_comm b u, near))

  pub nearest_errors : error_positions s u ≡ errors u v
  nearest_errors =
      flips-once (length u) s.t (error_positions s u) (errors u v) u refl nearest_found.0 (errors-positions u v (lu ∙ sym lv) s.t near) hu
      (nearest_flipped ∙ sym (errors_flipped u v hu hv (lu ∙ sym lv)))

pub record Sound (f : Frame) (w : Word) : Type 0 where
  pub coded : in_code w.code f w.sites ≡ true
  pub apart : CodeDistance w.code (length w.sites)

abbrev pub FewWrong : Frame → Frame → Word → Type 0
FewWrong f a w = distance (read f w.sites) (read a w.sites) ≤ w.code.t

abbrev pub Covers : Frame → List Word → Type 0
Covers f ws =
    ((k : ℕ) → k < length f.info → (w : Word) × In w ws × In (in_info k) w.sites)
    × ((k : ℕ) → k < length f.red → (w : Word) × In w ws × In (in_red k) w.sites)

-- b has the frame's bit or a's bit at each site
abbrev pub Nearer : Frame → Frame → Frame → Type 0
Nearer f a b = (y : Site) → (bit_at b y ≡ bit_at f y) ⊎ (bit_at b y ≡ bit_at a y)

pub nearer_trans : (f a b c : Frame) → Nearer f a b → Nearer f b c → Nearer f a c
nearer_trans f a b c p q y = go (p y) (q y)
  where
    go : (bit_at b y ≡ bit_at f y) ⊎ (bit_at b y ≡ bit_at a y) → (bit_at c y ≡ bit_at f y) ⊎ (bit_at c y ≡ bit_at b y) → (bit_at c y ≡ bit_at f y) ⊎ (bit_at c y ≡ bit_at a y)
    go p (inl e) = inl e
    go (inl d) (inr e) = inl (e ∙ d)
    go (inr d) (inr e) = inr (e ∙ d)

pub nearer_distance : (f a b : Frame) → Nearer f a b → (w : List Site) → distance (read f w) (read b w) ≤ distance (read f w) (read a w)
unfolding distance
nearer_distance f a b p [] = zero-le
nearer_distance f a b p (x ∷ w) = go (p x) (nearer_distance f a b p w)
  where
    go : (bit_at b x ≡ bit_at f x) ⊎ (bit_at b x ≡ bit_at a x) → distance (read f w) (read b w) ≤ distance (read f w) (read a w)
        → unlike (bit_at f x) (bit_at b x) + distance (read f w) (read b w) ≤ unlike (bit_at f x) (bit_at a x) + distance (read f w) (read a w)
    go (inl e) l = omega (arith, unlike-same {a = bit_at f x} {b = bit_at b x} (sym e), l)
    go (inr e) l =
        omega (arith, ap (unlike (bit_at f x)) e, l)

pub nearer_same : (f a b : Frame) → Nearer f a b → (w : List Site) → read a w ≡ read f w → read b w ≡ read f w
nearer_same f a b p w e = read_same w b f (λ y i. go y i (p y))
  where
    go : (y : Site) → In y w → (bit_at b y ≡ bit_at f y) ⊎ (bit_at b y ≡ bit_at a y) → bit_at b y ≡ bit_at f y
    go y i (inl q) = q
    go y i (inr q) = q ∙ same_read w a f e y i

-- a frame all words of which are the frame's
pub covers_same : (f : Frame) (ws : List Word) → Covers f ws → (b : Frame) → Received f b
    → ((w : Word) → In w ws → read b w.sites ≡ read f w.sites) → b ≡ f
covers_same f ws all b g same =
    let info-same : b.info ≡ f.info =
    ext_get_or 0 b.info f.info g.info_length
    (λ k h. let c = all.0 k (omega (arith, g.info_length)) in same_read c.0.sites b f (same c.0 c.1) (in_info k) c.2) in
    let red-same : b.red ≡ f.red =
    ext_get_or 0 b.red f.red g.red_length
    (λ k h. let c = all.1 k (omega (arith, g.red_length)) in same_read c.0.sites b f (same c.0 c.1) (in_red k) c.2) in
    λ i. record { info = info-same i; red = red-same i }

module _ (f : Frame) (ff : Received f f) where
  module _ (a : Frame) (g : Received f a) (v : Word) (ok : Sound f v) (few : FewWrong f a v) where
    abbrev s : Params
    s = v.code

    abbrev w : List Site
    w = v.sites

    abbrev sent : List ℕ
    sent = read f w

    abbrev got : List ℕ
    got = read a w

    abbrev found : List ℕ
    found = error_positions s (read a w)

    abbrev sites : List Site
    sites = map (λ j. get_or w j unsent) (error_positions s (read a w))

    near : distance got sent ≤ s.t
    near = omega (arith, distance_comm got sent, few)

    -- what was found are the positions of the wrong bits
    found_errors : found ≡ errors got sent
    found_errors =
        nearest_errors s (length w) ok.apart got sent (read_length a w) (read_length f w) (read-bits f a g w) (read-bits f f ff w) ok.coded near

    found_sites : sites ≡ differing a f w
    found_sites = ap (map (λ j. get_or w j unsent)) found_errors ∙ sites_differing a f w

    wrong_within : (y : Site) → bit_at a y ≢ bit_at f y → Within y a
    wrong_within y d = error_within f a g y (λ e. d (sym e))

    sent_site : (x : Site) → Within x a → Sent x
    sent_site unsent h = h
    sent_site (in_info k) h = tt
    sent_site (in_red k) h = tt

    -- each wrong bit once
    correction-sites : correction s a w ≡ once (differing a f w)
    unfolding correction
    correction-sites =
        ap (permitted w) found_sites
        ∙ permitted-all w (differing a f w) (λ y i. sent_site y (wrong_within y (differing_in a f w y i).1))
        (λ y i. occurrences_differing a f w y (differing_in a f w y i).1)

    pub correct-word : read (flip_all (correction v.code a v.sites) a) v.sites ≡ read f v.sites
    correct-word =
        ap (λ (c : List Site). read (flip_all c a) w) correction-sites
        ∙ read_same w (flip_all (once (differing a f w)) a) f (λ y i. go y i (ℕ_discrete (bit_at a y) (bit_at f y)))
      where
        go : (y : Site) → In y w → Dec (bit_at a y ≡ bit_at f y) → bit_at (flip_all (once (differing a f w)) a) y ≡ bit_at f y
        go y i (yes e) = flip_all_other (once (differing a f w)) a y (λ j. (differing_in a f w y (once_in (differing a f w) y j)).1 e) ∙ e
        go y i (no d) =
            flip_all-here (once (differing a f w)) (once_single (differing a f w)) f a g y (wrong_within y d) (in_once (differing a f w) y (in_differing a f w y i d))
            ∙ (let p = g.binary y in let q = ff.binary y in omega (arith, p, q, d))

    pub correct_nearer : Nearer f a (flip_all (correction v.code a v.sites) a)
    correct_nearer y = go (in? site? y (correction s a w))
      where
        among : In y (correction s a w) → In y w
        among i =
            (differing_in a f w y (once_in (differing a f w) y (subst (λ (c : List Site). In y c) correction-sites i))).0

        go : In y (correction s a w) ⊎ (¬ In y (correction s a w)) → (bit_at (flip_all (correction s a w) a) y ≡ bit_at f y) ⊎ (bit_at (flip_all (correction s a w) a) y ≡ bit_at a y)
        go (inl i) = inl (same_read w (flip_all (correction s a w) a) f correct-word y (among i))
        go (inr d) = inr (flip_all_other (correction s a w) a y d)

  -- after a pass over some words these are the frame's, and nothing has moved away from the frame
  pub correct_each_restore : (ws : List Word) → ((w : Word) → In w ws → Sound f w) → (x : Progress) → Received f x.frame
      → ((w : Word) → In w ws → FewWrong f x.frame w)
      → Received f (correct_each x ws).frame × Nearer f x.frame (correct_each x ws).frame
      × ((w : Word) → In w ws → read (correct_each x ws).frame w.sites ≡ read f w.sites)
  unfolding correct_each correct_word
  correct_each_restore [] ok x g few = (g, (λ y. inr refl), (λ w i. absurd i))
  correct_each_restore (v ∷ ws) ok x g few =
      let a : Frame = x.frame in
      let y : Progress = correct_word v.code x v.sites in
      let own : read y.frame v.sites ≡ read f v.sites = correct-word a g v (ok v (inl refl)) (few v (inl refl)) in
      let near : Nearer f a y.frame = correct_nearer a g v (ok v (inl refl)) (few v (inl refl)) in
      let like : Received f y.frame = flip_all_received (correction v.code a v.sites) f a g in
      let rest = correct_each_restore ws (λ w i. ok w (inr i)) y like (λ w i. le_trans (nearer_distance f a y.frame near w.sites) (few w (inr i))) in
      let z : Frame = (correct_each y ws).frame in
      (rest.0, nearer_trans f a y.frame z near rest.1, λ w i. each y.frame z own rest.1 rest.2 w i)
    where
      each : (b z : Frame) → read b v.sites ≡ read f v.sites → Nearer f b z → ((w : Word) → In w ws → read z w.sites ≡ read f w.sites)
          → (w : Word) → In w (v ∷ ws) → read z w.sites ≡ read f w.sites
      each b z own near rest w (inl e) = subst (λ (u : Word). read z u.sites ≡ read f u.sites) (sym e) (nearer_same f b z near v.sites own)
      each b z own near rest w (inr i) = rest w i

  -- after a round no word has more than t wrong bits either
  pub round_of_near : (ws : List Word) → ((w : Word) → In w ws → Sound f w) → (a : Frame) → Received f a → ((w : Word) → In w ws → FewWrong f a w)
      → Received f (round_of ws a).frame × ((w : Word) → In w ws → FewWrong f (round_of ws a).frame w)
  unfolding round_of
  round_of_near ws ok a g few =
      let p = correct_each_restore ws ok (record { frame = a; flips = 0 }) g few in
      (p.0, λ w i. le_trans (nearer_distance f a (correct_each (record { frame = a; flips = 0 }) ws).frame p.1 w.sites) (few w i))

  module _ (ws : List Word) (ok : (w : Word) → In w ws → Sound f w) (all : Covers f ws) where
    round_of-restores : (a : Frame) → Received f a → ((w : Word) → In w ws → FewWrong f a w) → (round_of ws a).frame ≡ f
    unfolding round_of
    round_of-restores a g few =
        let x : Progress = record { frame = a; flips = 0 } in
        let p = correct_each_restore ws ok x g few in
        covers_same f ws all (correct_each x ws).frame p.0 p.2

    none_wrong : (w : Word) → In w ws → FewWrong f f w
    none_wrong w i = subst (λ (z : ℕ). z ≤ w.code.t) (sym (distance_self (read f w.sites))) zero-le

    run_each-keep : (k : ℕ) (a : Frame) → a ≡ f → (run_each ws k a).frame ≡ f
    unfolding run_each
    run_each-keep zero a e = e
    run_each-keep (suc k) a e =
        let one : (round_of ws a).frame ≡ f = ap (λ (z : Frame). (round_of ws z).frame) e ∙ round_of-restores f ff none_wrong in
        cond_ind (λ (d : Decoded). d.frame ≡ f) (eqb (round_of ws a).flips 0) _ _ (λ q. one) (λ q. run_each-keep k (round_of ws a).frame one)

    -- any number of rounds but none leaves the frame
    pub run_each_restore : (k : ℕ) (a : Frame) → Received f a → ((w : Word) → In w ws → FewWrong f a w) → (run_each ws (suc k) a).frame ≡ f
    unfolding run_each
    run_each_restore k a g few =
        let one : (round_of ws a).frame ≡ f = round_of-restores a g few in
        cond_ind (λ (d : Decoded). d.frame ≡ f) (eqb (round_of ws a).flips 0) _ _ (λ q. one) (λ q. run_each-keep k (round_of ws a).frame one)

  pub outside_each-none : (ws : List Word) → ((w : Word) → In w ws → Sound f w) → outside_each f ws ≡ 0
  outside_each-none ws ok = outside_each_inside f ws (λ w i. (ok w i).coded)
