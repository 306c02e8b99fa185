-- How often a site stands in a word, and the corrections that its several occurrences permit.
--   same-site, other_site              sites are told apart
--   occurrences-here, occurrences_other, occurrences_in, occurrences-none
--   every_occurrence-all, every_occurrence_each   the test, and a fact of each site
--   once-in, in-once, once-single, once-length  each site once
--   permitted-all, permitted_ind, permitted_in, permitted-length   what may be flipped
--   flip_all-here                       a site that is flipped once has the other bit
--   differing, sites_differing         the sites of a word at which two frames differ: those of the positions at which the word differs
--   differing_in, in_differing, occurrences_differing
--   sub-occurrences, distinct_occurrences, correction_distinct   a word in which no sent site stands twice
-- Assumes nothing.
use mathlib.Core.Path.{◌≡◌, refl, sym, ap, ap₂, ◌∙◌, subst}
use mathlib.Core.Bool.{Bool, true, false, cond, true≢false}
use mathlib.Core.Logic.{◌≢◌, ◌⊎◌, inl, inr}
use mathlib.Core.List.{List, [], ◌∷◌, map}
use Prim.Native.Nat.{ℕ, zero, suc, ◌+◌, ◌-◌, ◌≤◌, ◌<◌, zero-le}
use native.Mathlib.Decide.{ℕ_discrete}
use native.Mathlib.Omega.{arith}
use lib.Dec.{eqb}
use lib.ListN.{length, get_or}
use borrow.Author.Tests.{eq-eqb, ne_eqb, eqb-true}
use Rattle.staircase.specs.Lists.{tabulate}
use Rattle.staircase.specs.Design.{Params}
use Rattle.staircase.specs.Frame.{Frame, Site, bit_at, flip, read}
use Rattle.staircase.specs.Frame.Site.{unsent, in_info, in_red}
use Rattle.staircase.specs.Decoder.{error_positions, all_sent, same_site, occurrences, every_occurrence, once, permitted, correction, flip_all}
use Rattle.staircase.proofs.Search.{cond_ind, cond-true, cond-false, bool?}
use Rattle.staircase.proofs.Member.{In, in?, Sub, done, skip, keep}
use Rattle.staircase.proofs.Flip.{Sent, all_sent_each, each_all_sent, Within, Received, flip_all_received, flip_all_other, flip-same, flip_other, received_within, Distinct, site?, read_length}
use Rattle.staircase.proofs.Errors.{errors_at, errors, error_positions-positions}

-- ---- sites told apart

pub same-site : (x y : Site) → x ≡ y → same_site x y ≡ true
same-site x y e = subst (λ (z : Site). same_site x z ≡ true) e (self x)
  where
    self : (x : Site) → same_site x x ≡ true
    self unsent = refl
    self (in_info k) = eq-eqb k k refl
    self (in_red k) = eq-eqb k k refl

pub other_site : (x y : Site) → x ≢ y → same_site x y ≡ false
other_site unsent unsent d = absurd (d refl)
other_site unsent (in_info k) d = refl
other_site unsent (in_red k) d = refl
other_site (in_info j) unsent d = refl
other_site (in_info j) (in_info k) d = ne_eqb j k (λ e. d (ap in_info e))
other_site (in_info j) (in_red k) d = refl
other_site (in_red j) unsent d = refl
other_site (in_red j) (in_info k) d = refl
other_site (in_red j) (in_red k) d = ne_eqb j k (λ e. d (ap in_red e))

-- ---- places

pub occurrences-here : (x y : Site) (w : List Site) → x ≡ y → occurrences x (y ∷ w) ≡ 1 + occurrences x w
unfolding occurrences
occurrences-here x y w e = ap (λ (z : Bool). cond z 1 0 + occurrences x w) (same-site x y e)

occurrences_other : (x y : Site) (w : List Site) → x ≢ y → occurrences x (y ∷ w) ≡ occurrences x w
unfolding occurrences
occurrences_other x y w d = let e : occurrences x (y ∷ w) ≡ 0 + occurrences x w = ap (λ (z : Bool). cond z 1 0 + occurrences x w) (other_site x y d) in omega (arith, e)

pub occurrences_in : (x : Site) (w : List Site) → In x w → 0 < occurrences x w
occurrences_in x (y ∷ w) i = go (site? x y) i (λ j. occurrences_in x w j)
  where
    go : (x ≡ y) ⊎ (x ≢ y) → In x (y ∷ w) → (In x w → 0 < occurrences x w) → 0 < occurrences x (y ∷ w)
    go (inl e) i rest = omega (arith, occurrences-here x y w e)
    go (inr d) (inl e) rest = absurd (d e)
    go (inr d) (inr i) rest = omega (arith, occurrences_other x y w d, rest i)
occurrences_in x [] i = elim i [ ]

pub occurrences-none : (x : Site) (w : List Site) → ¬ In x w → occurrences x w ≡ 0
unfolding occurrences
occurrences-none x [] n = refl
occurrences-none x (y ∷ w) n = occurrences_other x y w (λ e. n (inl e)) ∙ occurrences-none x w (λ i. n (inr i))

pub every_occurrence-all : (w c d : List Site) → ((x : Site) → In x d → occurrences x c ≡ occurrences x w) → every_occurrence w c d ≡ true
unfolding every_occurrence
every_occurrence-all w c [] h = refl
every_occurrence-all w c (x ∷ d) h =
    cond-true (eqb (occurrences x c) (occurrences x w)) _ _ (eq-eqb (occurrences x c) (occurrences x w) (h x (inl refl)))
    ∙ every_occurrence-all w c d (λ y i. h y (inr i))

pub every_occurrence_each : (w c d : List Site) → every_occurrence w c d ≡ true → (x : Site) → In x d → occurrences x c ≡ occurrences x w
unfolding every_occurrence
every_occurrence_each w c (y ∷ d) h x i = go (bool? (eqb (occurrences y c) (occurrences y w))) i (λ q j. every_occurrence_each w c d q x j)
  where
    go : (eqb (occurrences y c) (occurrences y w) ≡ true) ⊎ (eqb (occurrences y c) (occurrences y w) ≡ false) → In x (y ∷ d)
        → (every_occurrence w c d ≡ true → In x d → occurrences x c ≡ occurrences x w) → occurrences x c ≡ occurrences x w
    go (inr q) i rest = absurd (true≢false (sym h ∙ cond-false (eqb (occurrences y c) (occurrences y w)) _ _ q))
    go (inl q) (inl e) rest = subst (λ (z : Site). occurrences z c ≡ occurrences z w) (sym e) (eqb-true (occurrences y c) (occurrences y w) q)
    go (inl q) (inr j) rest = rest (sym (cond-true (eqb (occurrences y c) (occurrences y w)) _ _ q) ∙ h) j
every_occurrence_each w c [] h x i = elim i [ ]

-- ---- each site once

pub once_in : (c : List Site) (y : Site) → In y (once c) → In y c
unfolding once
once_in [] y = λ i. i
once_in (x ∷ c) y =
    cond_ind (λ (d : List Site). In y d → In y (x ∷ c)) (eqb (occurrences x c) 0) (x ∷ once c) (once c)
    (λ q i. first i (λ j. once_in c y j)) (λ q i. inr (once_in c y i))
  where
    first : In y (x ∷ once c) → (In y (once c) → In y c) → In y (x ∷ c)
    first (inl e) rest = inl e
    first (inr i) rest = inr (rest i)

once-keep : (x : Site) (c : List Site) → ¬ In x c → once (x ∷ c) ≡ x ∷ once c
unfolding once
once-keep x c n = ap (λ (z : Bool). cond z (x ∷ once c) (once c)) (eq-eqb (occurrences x c) 0 (occurrences-none x c n))

once-drop : (x : Site) (c : List Site) → In x c → once (x ∷ c) ≡ once c
unfolding once
once-drop x c i = ap (λ (z : Bool). cond z (x ∷ once c) (once c)) (ne_eqb (occurrences x c) 0 (λ z. omega (arith, z, occurrences_in x c i)))

pub in_once : (c : List Site) (y : Site) → In y c → In y (once c)
in_once (x ∷ c) y i = go (in? site? x c) i (λ j. in_once c y j)
  where
    go : In x c ⊎ (¬ In x c) → In y (x ∷ c) → (In y c → In y (once c)) → In y (once (x ∷ c))
    go (inl j) (inl e) rest = subst (λ (l : List Site). In y l) (sym (once-drop x c j)) (rest (subst (λ (v : Site). In v c) (sym e) j))
    go (inl j) (inr k) rest = subst (λ (l : List Site). In y l) (sym (once-drop x c j)) (rest k)
    go (inr n) (inl e) rest = subst (λ (l : List Site). In y l) (sym (once-keep x c n)) (inl e)
    go (inr n) (inr k) rest = subst (λ (l : List Site). In y l) (sym (once-keep x c n)) (inr (rest k))
in_once [] y i = elim i [ ]

once_nil : once [] ≡ []
unfolding once
once_nil = refl

-- no site stands twice in a list
abbrev pub Single : List Site → Type 0
Single [] = Unit {0}
Single (x ∷ c) = (¬ In x c) × Single c

pub once_single : (c : List Site) → Single (once c)
once_single [] = subst Single (sym once_nil) tt
once_single (x ∷ c) = go (in? site? x c) (once_single c)
  where
    go : In x c ⊎ (¬ In x c) → Single (once c) → Single (once (x ∷ c))
    go (inl j) rest = subst Single (sym (once-drop x c j)) rest
    go (inr n) rest = subst Single (sym (once-keep x c n)) (λ i. n (once_in c x i), rest)

pub once-length : (c : List Site) → length (once c) ≤ length c
unfolding once
once-length [] = zero-le
once-length (x ∷ c) =
    cond_ind (λ (d : List Site). length d ≤ suc (length c)) (eqb (occurrences x c) 0) (x ∷ once c) (once c)
    (λ q. omega (arith, once-length c)) (λ q. omega (arith, once-length c))

-- ---- what may be flipped

module _ (w c : List Site) where
  pub permitted-all : ((y : Site) → In y c → Sent y) → ((y : Site) → In y c → occurrences y c ≡ occurrences y w) → permitted w c ≡ once c
  unfolding permitted
  permitted-all sent every =
      cond-true (all_sent c) _ _ (each_all_sent c sent) ∙ cond-true (every_occurrence w c c) _ _ (every_occurrence-all w c c every)

  permitted-unsent : all_sent c ≡ false → permitted w c ≡ []
  unfolding permitted
  permitted-unsent e = cond-false (all_sent c) _ _ e

  pub permitted_ind : (F : List Site → Type 0) → (all_sent c ≡ true → every_occurrence w c c ≡ true → F (once c)) → F [] → F (permitted w c)
  unfolding permitted
  permitted_ind F all none =
      cond_ind F (all_sent c) (cond (every_occurrence w c c) (once c) []) []
      (λ e. cond_ind F (every_occurrence w c c) (once c) [] (λ q. all e q) (λ q. none)) (λ e. none)

  pub permitted_in : (y : Site) → In y (permitted w c) → Sent y × In y c
  permitted_in y =
      permitted_ind (λ (d : List Site). In y d → Sent y × In y c) (λ e q i. let k : In y c = once_in c y i in (all_sent_each c e y k, k)) (λ i. absurd i)

  pub permitted-length : length (permitted w c) ≤ length c
  permitted-length = permitted_ind (λ (d : List Site). length d ≤ length c) (λ e q. once-length c) zero-le

-- ---- flips, each once

pub flip_all-here : (c : List Site) → Single c → (f a : Frame) → Received f a → (y : Site) → Within y a → In y c → bit_at (flip_all c a) y ≡ 1 - bit_at a y
unfolding flip_all
flip_all-here (x ∷ c) (n, d) f a g y h (inl e) =
    let b : Frame = flip_all c a in
    subst (λ (z : Site). bit_at (flip z b) y ≡ 1 - bit_at a y) e
    (flip-same y b (received_within f a b g (flip_all_received c f a g) y h)
    ∙ ap (λ (z : ℕ). 1 - z) (flip_all_other c a y (λ i. n (subst (λ (z : Site). In z c) e i))))
flip_all-here (x ∷ c) (n, d) f a g y h (inr i) =
    flip_other x y (flip_all c a) (λ e. n (subst (λ (z : Site). In z c) (sym e) i)) ∙ flip_all-here c d f a g y h i
flip_all-here [] _ f a g y h x5 = elim x5 [ ]

-- ---- the sites of a word at which two frames differ

unfoldable pub differing : Frame → Frame → List Site → List Site
differing a f [] = []
differing a f (x ∷ w) = cond (eqb (bit_at a x) (bit_at f x)) (differing a f w) (x ∷ differing a f w)

map-cond : (S : ℕ → Site) (z : Bool) (u v : List ℕ) → map S (cond z u v) ≡ cond z (map S u) (map S v)
map-cond S true u v = refl
map-cond S false u v = refl

module _ (a f : Frame) where
  differing_from : (S : ℕ → Site) (h : ℕ → ℕ) (w : List Site) → ((k : ℕ) → S (h k) ≡ get_or w k unsent) → map S (errors_at h (read a w) (read f w)) ≡ differing a f w
  unfolding errors_at differing
  differing_from S h [] e = refl
  differing_from S h (x ∷ w) e =
      let rest = errors_at (λ k. h (suc k)) (read a w) (read f w) in
      map-cond S (eqb (bit_at a x) (bit_at f x)) rest (h zero ∷ rest)
      ∙ ap₂ (λ (y : Site) (l : List Site). cond (eqb (bit_at a x) (bit_at f x)) l (y ∷ l)) (e zero) (differing_from S (λ k. h (suc k)) w (λ k. e (suc k)))

  -- those of the positions at which the word differs
  pub sites_differing : (w : List Site) → map (λ j. get_or w j unsent) (errors (read a w) (read f w)) ≡ differing a f w
  unfolding errors
  sites_differing w = differing_from (λ j. get_or w j unsent) (λ j. j) w (λ k. refl)

  differing_nil : differing a f [] ≡ []
  unfolding differing
  differing_nil = refl

  skip_same : (x : Site) (w : List Site) → bit_at a x ≡ bit_at f x → differing a f (x ∷ w) ≡ differing a f w
  unfolding differing
  skip_same x w e = ap (λ (z : Bool). cond z (differing a f w) (x ∷ differing a f w)) (eq-eqb (bit_at a x) (bit_at f x) e)

  keep_other : (x : Site) (w : List Site) → bit_at a x ≢ bit_at f x → differing a f (x ∷ w) ≡ x ∷ differing a f w
  unfolding differing
  keep_other x w d = ap (λ (z : Bool). cond z (differing a f w) (x ∷ differing a f w)) (ne_eqb (bit_at a x) (bit_at f x) d)

  pub differing_in : (w : List Site) (y : Site) → In y (differing a f w) → (In y w) × (bit_at a y ≢ bit_at f y)
  differing_in [] y i = absurd (subst (λ (l : List Site). In y l) differing_nil i)
  differing_in (x ∷ w) y i = go (ℕ_discrete (bit_at a x) (bit_at f x)) (λ j. differing_in w y j)
    where
      later : (In y w) × (bit_at a y ≢ bit_at f y) → (In y (x ∷ w)) × (bit_at a y ≢ bit_at f y)
      later p = (inr p.0, p.1)

      here : bit_at a x ≢ bit_at f x → In y (x ∷ differing a f w) → (In y (differing a f w) → (In y w) × (bit_at a y ≢ bit_at f y))
          → (In y (x ∷ w)) × (bit_at a y ≢ bit_at f y)
      here d (inl e) rest = (inl e, subst (λ (z : Site). bit_at a z ≢ bit_at f z) (sym e) d)
      here d (inr j) rest = later (rest j)

      go : Dec (bit_at a x ≡ bit_at f x) → (In y (differing a f w) → (In y w) × (bit_at a y ≢ bit_at f y)) → (In y (x ∷ w)) × (bit_at a y ≢ bit_at f y)
      go (yes e) rest = later (rest (subst (λ (l : List Site). In y l) (skip_same x w e) i))
      go (no d) rest = here d (subst (λ (l : List Site). In y l) (keep_other x w d) i) rest

  pub in_differing : (w : List Site) (y : Site) → In y w → bit_at a y ≢ bit_at f y → In y (differing a f w)
  in_differing (x ∷ w) y i n = go (ℕ_discrete (bit_at a x) (bit_at f x)) i (λ j. in_differing w y j n)
    where
      go : Dec (bit_at a x ≡ bit_at f x) → In y (x ∷ w) → (In y w → In y (differing a f w)) → In y (differing a f (x ∷ w))
      go (yes e) (inl q) rest = absurd (n (subst (λ (z : Site). bit_at a z ≡ bit_at f z) (sym q) e))
      go (yes e) (inr j) rest = subst (λ (l : List Site). In y l) (sym (skip_same x w e)) (rest j)
      go (no d) (inl q) rest = subst (λ (l : List Site). In y l) (sym (keep_other x w d)) (inl q)
      go (no d) (inr j) rest = subst (λ (l : List Site). In y l) (sym (keep_other x w d)) (inr (rest j))
  in_differing [] y i n = elim i [ ]

  -- a wrong bit is wrong in all its places
  pub occurrences_differing : (w : List Site) (y : Site) → bit_at a y ≢ bit_at f y → occurrences y (differing a f w) ≡ occurrences y w
  occurrences_differing [] y n = ap (occurrences y) differing_nil
  occurrences_differing (x ∷ w) y n = go (ℕ_discrete (bit_at a x) (bit_at f x)) (site? y x) (occurrences_differing w y n)
    where
      go : Dec (bit_at a x ≡ bit_at f x) → (y ≡ x) ⊎ (y ≢ x) → occurrences y (differing a f w) ≡ occurrences y w → occurrences y (differing a f (x ∷ w)) ≡ occurrences y (x ∷ w)
      go (yes e) (inl q) rest = absurd (n (subst (λ (z : Site). bit_at a z ≡ bit_at f z) (sym q) e))
      go (yes e) (inr q) rest = ap (occurrences y) (skip_same x w e) ∙ rest ∙ sym (occurrences_other y x w q)
      go (no d) (inl q) rest =
          ap (occurrences y) (keep_other x w d) ∙ occurrences-here y x (differing a f w) q ∙ ap (λ (z : ℕ). 1 + z) rest ∙ sym (occurrences-here y x w q)
      go (no d) (inr q) rest = ap (occurrences y) (keep_other x w d) ∙ occurrences_other y x (differing a f w) q ∙ rest ∙ sym (occurrences_other y x w q)

-- ---- a word in which no sent bit stands twice

pub sub-occurrences : (x : Site) {c w : List Site} → Sub c w → occurrences x c ≤ occurrences x w
unfolding occurrences
sub-occurrences x done = zero-le
sub-occurrences x (skip {x = y} {c = c} {l = w} s) = omega (arith, sub-occurrences x s)
sub-occurrences x (keep {x = y} s) = omega (arith, sub-occurrences x s)

pub distinct_occurrences : (w : List Site) → Distinct w → (x : Site) → Sent x → occurrences x w ≤ 1
unfolding occurrences
distinct_occurrences [] d x h = zero-le
distinct_occurrences (y ∷ w) d x h = go (site? x y) (distinct_occurrences w d.1 x h)
  where
    go : (x ≡ y) ⊎ (x ≢ y) → occurrences x w ≤ 1 → occurrences x (y ∷ w) ≤ 1
    go (inl e) rest =
        let n : occurrences x w ≡ 0 = occurrences-none x w (λ i. d.0 (subst Sent e h) (subst (λ (z : Site). In z w) e i)) in
        omega (arith, occurrences-here x y w e, n)
    go (inr q) rest = omega (arith, occurrences_other x y w q, rest)

once-same : (c : List Site) → ((x : Site) → In x c → occurrences x c ≤ 1) → once c ≡ c
once-same [] h = once_nil
once-same (x ∷ c) h =
    once-keep x c (λ i. omega (arith, h x (inl refl), occurrences-here x x c refl, occurrences_in x c i))
    ∙ ap (λ (l : List Site). x ∷ l) (once-same c (λ y i. fewer y (h y (inr i)) (site? y x)))
  where
    fewer : (y : Site) → occurrences y (x ∷ c) ≤ 1 → (y ≡ x) ⊎ (y ≢ x) → occurrences y c ≤ 1
    fewer y l (inl e) = omega (arith, l, occurrences-here y x c e)
    fewer y l (inr d) = omega (arith, l, occurrences_other y x c d)

pub map-sub : (S : ℕ → Site) {c l : List ℕ} → Sub c l → Sub (map S c) (map S l)
map-sub S done = done
map-sub S (skip s) = skip (map-sub S s)
map-sub S (keep s) = keep (map-sub S s)

pub map-sites : (w : List Site) (S : ℕ → Site) (h : ℕ → ℕ) → ((k : ℕ) → S (h k) ≡ get_or w k unsent) → map S (tabulate (length w) h) ≡ w
unfolding tabulate
map-sites [] S h e = refl
map-sites (x ∷ w) S h e = ap₂ (λ (y : Site) (l : List Site). y ∷ l) (e zero) (map-sites w S (λ k. h (suc k)) (λ k. e (suc k)))

-- document 01's correction
pub correction_distinct : (s : Params) (f : Frame) (w : List Site) → Distinct w
    → correction s f w ≡ (let c : List Site = map (λ j. get_or w j unsent) (error_positions s (read f w)) in cond (all_sent c) c [])
unfolding correction
correction_distinct s f w d = go (bool? (all_sent c))
  where
    c : List Site
    c = map (λ j. get_or w j unsent) (error_positions s (read f w))

    inside : Sub c w
    inside =
        subst (λ (l : List Site). Sub c l) (map-sites w (λ j. get_or w j unsent) (λ j. j) (λ k. refl))
        (map-sub (λ j. get_or w j unsent)
        (subst (λ (n : ℕ). Sub (error_positions s (read f w)) (tabulate n (λ j. j))) (read_length f w) (error_positions-positions s (read f w)).sub))

    go : (all_sent c ≡ true) ⊎ (all_sent c ≡ false) → permitted w c ≡ cond (all_sent c) c []
    go (inr e) = permitted-unsent w c e ∙ sym (ap (λ (b : Bool). cond b c []) e)
    go (inl e) =
        let few : (x : Site) → In x c → occurrences x w ≤ 1 = λ x i. distinct_occurrences w d x (all_sent_each c e x i) in
        permitted-all w c (all_sent_each c e) (λ x i. omega (arith, few x i, sub-occurrences x inside, occurrences_in x c i))
        ∙ once-same c (λ x i. omega (arith, few x i, sub-occurrences x inside)) ∙ sym (ap (λ (b : Bool). cond b c []) e)
