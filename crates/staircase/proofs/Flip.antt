-- Flipping bits of a frame: what is flipped and what stays.
--   Sent, Within            a site of a sent block; a byte of the buffers
--   all_sent_each, each_all_sent   the test that all of some sites are sent
--   place, buffer, site?    sites can be told apart
--   flip-same, flip_other   a flipped bit is the other bit, and no other site is touched
--   Received f x            x has the lengths of the frame f and holds bits
--   bit_at-bits              buffers of bits have a bit at every site
--   flip_all_received, flip_all_other   some sites flipped
--   read_same, same_read    a word's bits are those of its sites
--   read-bits, read_length, site_in   they are bits, one for each site; the site at a position
--   Distinct w              no sent site stands twice in a word
-- Assumes nothing.
use mathlib.Core.Path.{◌≡◌, refl, sym, ap, ap₂, ◌∙◌, subst}
use mathlib.Core.Bool.{true, true≢false}
use mathlib.Core.Logic.{◌≢◌, ◌⊎◌, inl, inr}
use mathlib.Core.List.{List, [], ◌∷◌}
use Prim.Native.Nat.{ℕ, zero, suc, ◌-◌, ◌<◌}
use native.Mathlib.Nat.{le_of_suc-le-suc, not-suc-le-zero}
use native.Mathlib.Decide.{ℕ_discrete, dec_lt}
use native.Mathlib.Omega.{arith}
use lib.ListN.{length, get_or, length-set, length-map, get_or-map, get_or-eq_default}
use lib.Seq.{get_or-set_same, get_or-set_other, set_out}
use Rattle.bch.specs.Polynomial.{Bits}
use Rattle.staircase.specs.Frame.{Frame, Site, bit_at, flip, read}
use Rattle.staircase.specs.Frame.Site.{unsent, in_info, in_red}
use Rattle.staircase.specs.Decoder.{all_sent, flip_all}
use Rattle.staircase.proofs.Member.{In}

abbrev pub Sent : Site → Type 0
Sent unsent = ⊥
Sent (in_info k) = Unit {0}
Sent (in_red k) = Unit {0}

pub all_sent_each : (c : List Site) → all_sent c ≡ true → (y : Site) → In y c → Sent y
all_sent_each (unsent ∷ c) h y i = absurd (true≢false (sym h))
all_sent_each (in_info k ∷ c) h y (inl e) = subst Sent (sym e) tt
all_sent_each (in_info k ∷ c) h y (inr i) = all_sent_each c h y i
all_sent_each (in_red k ∷ c) h y (inl e) = subst Sent (sym e) tt
all_sent_each (in_red k ∷ c) h y (inr i) = all_sent_each c h y i
all_sent_each [] h y i = elim i [ ]

pub each_all_sent : (c : List Site) → ((y : Site) → In y c → Sent y) → all_sent c ≡ true
each_all_sent [] h = refl
each_all_sent (unsent ∷ c) h = absurd (h unsent (inl refl))
each_all_sent (in_info k ∷ c) h = each_all_sent c (λ y i. h y (inr i))
each_all_sent (in_red k ∷ c) h = each_all_sent c (λ y i. h y (inr i))

-- the place of a site in its buffer, and the buffer
abbrev pub place : Site → ℕ
place unsent = 0
place (in_info k) = k
place (in_red k) = k

abbrev pub buffer : Site → ℕ
buffer unsent = 0
buffer (in_info k) = 1
buffer (in_red k) = 2

pub site? : (x y : Site) → (x ≡ y) ⊎ (x ≢ y)
site? unsent unsent = inl refl
site? unsent (in_info k) = inr (λ e. let z : ◌≡◌ {A = ℕ} 0 1 = ap buffer e in omega arith)
site? unsent (in_red k) = inr (λ e. let z : ◌≡◌ {A = ℕ} 0 2 = ap buffer e in omega arith)
site? (in_info k) unsent = inr (λ e. let z : ◌≡◌ {A = ℕ} 1 0 = ap buffer e in omega arith)
site? (in_info k) (in_info j) = go (ℕ_discrete k j)
  where
    go : Dec (k ≡ j) → (in_info k ≡ in_info j) ⊎ (in_info k ≢ in_info j)
    go (yes e) = inl (ap in_info e)
    go (no d) = inr (λ e. d (ap place e))
site? (in_info k) (in_red j) = inr (λ e. let z : ◌≡◌ {A = ℕ} 1 2 = ap buffer e in omega arith)
site? (in_red k) unsent = inr (λ e. let z : ◌≡◌ {A = ℕ} 2 0 = ap buffer e in omega arith)
site? (in_red k) (in_info j) = inr (λ e. let z : ◌≡◌ {A = ℕ} 2 1 = ap buffer e in omega arith)
site? (in_red k) (in_red j) = go (ℕ_discrete k j)
  where
    go : Dec (k ≡ j) → (in_red k ≡ in_red j) ⊎ (in_red k ≢ in_red j)
    go (yes e) = inl (ap in_red e)
    go (no d) = inr (λ e. d (ap place e))

pub flip_other : (x y : Site) (f : Frame) → x ≢ y → bit_at (flip x f) y ≡ bit_at f y
flip_other unsent y f d = refl
flip_other (in_info k) unsent f d = refl
flip_other (in_info k) (in_info j) f d = get_or-set_other f.info k j (1 - get_or f.info k 0) 0 (λ e. d (ap in_info (sym e)))
flip_other (in_info k) (in_red j) f d = refl
flip_other (in_red k) unsent f d = refl
flip_other (in_red k) (in_info j) f d = refl
flip_other (in_red k) (in_red j) f d = get_or-set_other f.red k j (1 - get_or f.red k 0) 0 (λ e. d (ap in_red (sym e)))

abbrev pub Within : Site → Frame → Type 0
Within unsent f = ⊥
Within (in_info k) f = k < length f.info
Within (in_red k) f = k < length f.red

pub flip-same : (x : Site) (f : Frame) → Within x f → bit_at (flip x f) x ≡ 1 - bit_at f x
flip-same unsent f h = absurd h
flip-same (in_info k) f h = get_or-set_same f.info k (1 - get_or f.info k 0) 0 h
flip-same (in_red k) f h = get_or-set_same f.red k (1 - get_or f.red k 0) 0 h

-- bits in both buffers, as long as the frame's
pub record Received (f x : Frame) : Type 0 where
  pub info_length : length x.info ≡ length f.info
  pub red_length : length x.red ≡ length f.red
  pub binary : (y : Site) → bit_at x y < 2

pub bit_at-bits : (x : Frame) → Bits x.info → Bits x.red → (y : Site) → bit_at x y < 2
bit_at-bits x h k unsent = omega arith
bit_at-bits x h k (in_info j) = h j
bit_at-bits x h k (in_red j) = k j

flip_lengths : (x : Site) (f : Frame) → (length (flip x f).info ≡ length f.info) × (length (flip x f).red ≡ length f.red)
flip_lengths unsent f = (refl, refl)
flip_lengths (in_info k) f = (length-set f.info k (1 - get_or f.info k 0), refl)
flip_lengths (in_red k) f = (refl, length-set f.red k (1 - get_or f.red k 0))

within? : (x : Site) (f : Frame) → Within x f ⊎ (flip x f ≡ f)
within? unsent f = inr refl
within? (in_info k) f = go (dec_lt k (length f.info))
  where
    go : Dec (k < length f.info) → Within (in_info k) f ⊎ (flip (in_info k) f ≡ f)
    go (yes h) = inl h
    go (no h) = inr (λ i. record { info = set_out f.info k (1 - get_or f.info k 0) (omega arith) i; red = f.red })
within? (in_red k) f = go (dec_lt k (length f.red))
  where
    go : Dec (k < length f.red) → Within (in_red k) f ⊎ (flip (in_red k) f ≡ f)
    go (yes h) = inl h
    go (no h) = inr (λ i. record { info = f.info; red = set_out f.red k (1 - get_or f.red k 0) (omega arith) i })

pub flip_received : (x : Site) (f a : Frame) → Received f a → Received f (flip x a)
flip_received x f a g =
    record {
      info_length = (flip_lengths x a).0 ∙ g.info_length;
      red_length = (flip_lengths x a).1 ∙ g.red_length;
      binary = λ y. go y (site? x y) (within? x a);
    }
  where
    go : (y : Site) → (x ≡ y) ⊎ (x ≢ y) → Within x a ⊎ (flip x a ≡ a) → bit_at (flip x a) y < 2
    go y (inr d) w = subst (λ (z : ℕ). z < 2) (sym (flip_other x y a d)) (g.binary y)
    go y (inl e) (inr s) = subst (λ (z : Frame). bit_at z y < 2) (sym s) (g.binary y)
    go y (inl e) (inl h) = subst (λ (z : Site). bit_at (flip x a) z < 2) e (subst (λ (z : ℕ). z < 2) (sym (flip-same x a h)) (omega arith))

pub flip_all_received : (c : List Site) (f a : Frame) → Received f a → Received f (flip_all c a)
unfolding flip_all
flip_all_received [] f a g = g
flip_all_received (x ∷ c) f a g = flip_received x f (flip_all c a) (flip_all_received c f a g)

-- sites at which a received frame differs from the sent one are bytes of the buffers
pub error_within : (f a : Frame) → Received f a → (x : Site) → bit_at f x ≢ bit_at a x → Within x a
error_within f a g unsent d = d refl
error_within f a g (in_info k) d = go (dec_lt k (length a.info))
  where
    go : Dec (k < length a.info) → k < length a.info
    go (yes h) = h
    go (no h) =
        absurd (d (get_or-eq_default f.info 0 {n = k} (omega (arith, g.info_length)) ∙ sym (get_or-eq_default a.info 0 {n = k} (omega arith))))
error_within f a g (in_red k) d = go (dec_lt k (length a.red))
  where
    go : Dec (k < length a.red) → k < length a.red
    go (yes h) = h
    go (no h) =
        absurd (d (get_or-eq_default f.red 0 {n = k} (omega (arith, g.red_length)) ∙ sym (get_or-eq_default a.red 0 {n = k} (omega arith))))

pub received_within : (f a b : Frame) → Received f a → Received f b → (x : Site) → Within x a → Within x b
received_within f a b g h unsent w = w
received_within f a b g h (in_info k) w = omega (arith, g.info_length, h.info_length)
received_within f a b g h (in_red k) w = omega (arith, g.red_length, h.red_length)

pub flip_all_other : (c : List Site) (f : Frame) (y : Site) → ¬ In y c → bit_at (flip_all c f) y ≡ bit_at f y
unfolding flip_all
flip_all_other [] f y d = refl
flip_all_other (x ∷ c) f y d = flip_other x y (flip_all c f) (λ e. d (inl (sym e))) ∙ flip_all_other c f y (λ h. d (inr h))

pub read_same : (w : List Site) (a b : Frame) → ((y : Site) → In y w → bit_at a y ≡ bit_at b y) → read a w ≡ read b w
read_same [] a b h = refl
read_same (x ∷ w) a b h = ap₂ (λ (p : ℕ) (q : List ℕ). p ∷ q) (h x (inl refl)) (read_same w a b (λ y i. h y (inr i)))

pub same_read : (w : List Site) (a b : Frame) → read a w ≡ read b w → (y : Site) → In y w → bit_at a y ≡ bit_at b y
same_read (x ∷ w) a b h y (inl e) = subst (λ (z : Site). bit_at a z ≡ bit_at b z) (sym e) (cc)
same_read (x ∷ w) a b h y (inr i) = same_read w a b (cc) y i
same_read [] a b h y x'' = elim x'' [ ]

-- no sent site stands twice in a word
abbrev pub Distinct : List Site → Type 0
Distinct [] = Unit {0}
Distinct (x ∷ w) = (Sent x → ¬ In x w) × Distinct w

pub read-bits : (f a : Frame) → Received f a → (w : List Site) → Bits (read a w)
read-bits f a g w k = subst (λ (z : ℕ). z < 2) (sym (get_or-map (bit_at a) w k unsent)) (g.binary (get_or w k unsent))

pub read_length : (f : Frame) (w : List Site) → length (read f w) ≡ length w
read_length f w = length-map w (bit_at f)

-- the site at a position of a word stands in it
pub site_in : (w : List Site) (j : ℕ) → j < length w → In (get_or w j unsent) w
site_in [] j h = absurd (not-suc-le-zero h)
site_in (y ∷ w) zero h = inl refl
site_in (y ∷ w) (suc j) h = inr (site_in w j (le_of_suc-le-suc h))
