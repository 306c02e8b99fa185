-- Flipping the sites of a correction one after the other.
--   received       two buffers of bits as a received frame
--   flipped_bits   buffers after some flips hold bits and have their lengths
--   flip_ready     what flipping one more bit asks for
--   Flips          what flipping one bit leaves
--   absent_flips, unsent-flips, info-flips, red-flips   each kind of bit
--   info-below, red-below   a bit that is sent is a byte of its buffer
--   listed-flips   three bits flipped, one after the other
--   listed_sent    three bits are sent where each of them is
-- Assumes nothing.
use mathlib.Core.Path.{◌≡◌, refl, sym, ap, ◌∙◌, subst}
use mathlib.Core.Bool.{Bool, false, cond}
use mathlib.Core.List.{List, [], ◌∷◌, ◌++◌}
use Prim.Native.Nat.{ℕ, ◌+◌, ◌-◌, ◌<◌}
use native.Mathlib.Omega.{arith}
use lib.ListN.{length, get_or, set}
use Rattle.bch.specs.Polynomial.{Bits}
use Rattle.staircase.specs.Frame.{Frame, Site, bit_at, flip, frame_of}
use Rattle.staircase.specs.Frame.Site.{unsent, in_info, in_red}
use Rattle.staircase.specs.Decoder.{all_sent, flip_all}
use Rattle.staircase.proofs.Flip.{Received, flip_all_received}
use Rattle.decoder_marks.specs.Marks.{Toggled, MarksKept}
use Rattle.decoder_marks.proofs.Marks.{info_marked, red_marked}
use Rattle.decoder_flips.specs.declared.BitSite.{BitSite}
use Rattle.decoder_flips.specs.declared.BitSite.TheVariants.{Absent, Unsent, Info, Red}
use Rattle.decoder_flips.specs.declared.Spots.{Spots}
use Rattle.decoder_flips.specs.Sites.{sites_of, Inside, listed, Flippable}

pub received : (info red : List ℕ) → Bits info → Bits red → Received (frame_of info red) (frame_of info red)
received info red a b = record { info_length = refl; red_length = refl; binary = λ y. go y }
  where
    go : (y : Site) → bit_at (frame_of info red) y < 2
    go unsent = omega arith
    go (in_info k) = a k
    go (in_red k) = b k

pub flipped_bits : (c : List Site) (info red info' red' : List ℕ) → Bits info → Bits red → frame_of info' red' ≡ flip_all c (frame_of info red)
    → Bits info' × Bits red' × (length info' ≡ length info) × (length red' ≡ length red)
flipped_bits c info red info' red' a b e =
    let g : Received (frame_of info red) (frame_of info' red') =
    subst (λ (z : Frame). Received (frame_of info red) z) (sym e) (flip_all_received c (frame_of info red) (frame_of info red) (received info red a b)) in
    ((λ k. g.binary (in_info k)), (λ k. g.binary (in_red k)), g.info_length, g.red_length)

pub flip_ready : (x : BitSite) (c : List Site) {info red marks info' red' marks' : List ℕ} → Flippable info red marks → Inside x (length info) (length red)
    → frame_of info' red' ≡ flip_all c (frame_of info red) → length marks' ≡ length marks
    → Inside x (length info') (length red') × Flippable info' red' marks'
unfolding Inside
flip_ready x c {info} {red} {marks} {info'} {red'} {marks'} F h e l =
    let g = flipped_bits c info red info' red' F.info_bits F.red_bits e in
    (go x h g.2 g.3, record { info_bits = g.0; red_bits = g.1; room = omega (arith, F.room, g.2, g.3, l); short = omega (arith, F.short, g.2, g.3) })
  where
    go : (x : BitSite) → Inside x (length info) (length red) → length info' ≡ length info → length red' ≡ length red → Inside x (length info') (length red')
    go Absent h p q = tt
    go Unsent h p q = tt
    go (Info k) h p q = omega (arith, h, p)
    go (Red k) h p q = omega (arith, h, q)

-- one bit, with its mark
abbrev pub Flips : BitSite → List ℕ → List ℕ → List ℕ → List ℕ → List ℕ → List ℕ → Type 0
Flips at info red marks info' red' marks' =
    (frame_of info' red' ≡ flip_all (sites_of at) (frame_of info red)) × (length marks' ≡ length marks)
    × MarksKept (frame_of info red) marks (frame_of info' red') marks'

module _ {at : BitSite} {info red marks : List ℕ} where
  pub absent_flips : at ≡ Absent → Flips at info red marks info red marks
  unfolding sites_of flip_all
  absent_flips e = (ap (λ (z : BitSite). flip_all (sites_of z) (frame_of info red)) (sym e), refl, λ f M. M)

  pub unsent-flips : at ≡ Unsent → Flips at info red marks info red marks
  unfolding sites_of flip_all
  unsent-flips e = (ap (λ (z : BitSite). flip_all (sites_of z) (frame_of info red)) (sym e), refl, λ f M. M)

  module _ {k : ℕ} (I : Inside at (length info) (length red)) (F : Flippable info red marks) where
    pub info-below : at ≡ Info k → k < length info
    unfolding Inside
    info-below e = subst (λ (z : BitSite). Inside z (length info) (length red)) e I

    pub red-below : at ≡ Red k → k < length red
    unfolding Inside
    red-below e = subst (λ (z : BitSite). Inside z (length info) (length red)) e I

    module _ {marks' : List ℕ} where
      pub info-flips : {info' : List ℕ} → at ≡ Info k → info' ≡ set info k (1 - get_or info k 0) → Toggled marks marks' k
          → Flips at info red marks info' red marks'
      unfolding sites_of flip_all
      info-flips {info'} e q T = (
        ap (λ (z : List ℕ). frame_of z red) q ∙ ap (λ (z : BitSite). flip_all (sites_of z) (frame_of info red)) (sym e),
        T.long,
        subst (λ (z : List ℕ). MarksKept (frame_of info red) marks (frame_of z red) marks') (sym q)
            (info_marked info red marks marks' F.info_bits F.red_bits k (info-below e) T),
      )

      pub red-flips : {red' : List ℕ} → at ≡ Red k → red' ≡ set red k (1 - get_or red k 0) → Toggled marks marks' (length info + k)
          → Flips at info red marks info red' marks'
      unfolding sites_of flip_all
      red-flips {red'} e q T = (
        ap (λ (z : List ℕ). frame_of info z) q ∙ ap (λ (z : BitSite). flip_all (sites_of z) (frame_of info red)) (sym e),
        T.long,
        subst (λ (z : List ℕ). MarksKept (frame_of info red) marks (frame_of info z) marks') (sym q)
            (red_marked info red marks marks' F.info_bits F.red_bits k (red-below e) T),
      )

flip_all-append : (c d : List Site) (f : Frame) → flip_all (c ++ d) f ≡ flip_all c (flip_all d f)
unfolding flip_all
flip_all-append [] d f = refl
flip_all-append (x ∷ c) d f = ap (flip x) (flip_all-append c d f)

-- three bits one after the other
pub listed-flips : (s : Spots) {i r m i' r' m' i'' r'' m'' i''' r''' m''' : List ℕ} → Flips s.z i r m i' r' m' → Flips s.y i' r' m' i'' r'' m''
    → Flips s.x i'' r'' m'' i''' r''' m'''
    → (frame_of i''' r''' ≡ flip_all (listed s) (frame_of i r)) × (length m''' ≡ length m) × MarksKept (frame_of i r) m (frame_of i''' r''') m'''
unfolding listed
listed-flips s {i} {r} a b c = (
  c.0 ∙ ap (flip_all (sites_of s.x)) (b.0 ∙ ap (flip_all (sites_of s.y)) a.0 ∙ sym (flip_all-append (sites_of s.y) (sites_of s.z) (frame_of i r)))
      ∙ sym (flip_all-append (sites_of s.x) (sites_of s.y ++ sites_of s.z) (frame_of i r)),
  c.1 ∙ b.1 ∙ a.1,
  λ f M. c.2 f (b.2 f (a.2 f M)),
)

all_sent-append : (c d : List Site) → all_sent (c ++ d) ≡ cond (all_sent c) (all_sent d) false
all_sent-append [] d = refl
all_sent-append (unsent ∷ c) d = refl
all_sent-append (in_info k ∷ c) d = all_sent-append c d
all_sent-append (in_red k ∷ c) d = all_sent-append c d

pub listed_sent : (s : Spots) → all_sent (listed s) ≡ cond (all_sent (sites_of s.x)) (cond (all_sent (sites_of s.y)) (all_sent (sites_of s.z)) false) false
unfolding listed
listed_sent s =
    all_sent-append (sites_of s.x) (sites_of s.y ++ sites_of s.z)
    ∙ ap (λ (z : Bool). cond (all_sent (sites_of s.x)) z false) (all_sent-append (sites_of s.y) (sites_of s.z))
