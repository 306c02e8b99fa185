-- The remainder of a word of a line as sums of entries of the table of powers of x: those of its two blocks, and what is behind them.
--   first-sum, second-sum, tail-is   the three parts
--   line-is                          a word of a line
-- Assumes nothing.
use mathlib.Core.Path.{◌≡◌, refl, sym, ap, ap₂, ◌∙◌}
use mathlib.Core.Bool.{Bool, true, false, not, cond}
use mathlib.Core.List.{List}
use Prim.Native.Nat.{ℕ, ◌+◌, ◌-◌, ◌*◌, ◌/◌, ◌<◌}
use native.Mathlib.Nat.{zero-add, mul_comm, add-mul}
use native.Mathlib.Omega.{arith}
use lib.Arith.{digits_lt}
use lib.ListN.{get_or}
use Rattle.bch.specs.Polynomial.{◌⊕◌, remainder}
use Rattle.bch.specs.Powers.{xor_sum}
use Rattle.bch.proofs.Sum.{⊕_assoc}
use Rattle.bch.proofs.PowerSum.{xor_sum-same, xor_sum-append}
use Rattle.staircase.specs.Design.{Params, Interleavers, order}
use Rattle.staircase.specs.Frame.{bit_at, read, block_at, frame_of}
use Rattle.staircase.specs.Frame.Site.{unsent}
use Rattle.staircase.specs.Lines.{even, partner}
use Rattle.staircase.specs.Layout.{Fits}
use Rattle.staircase.proofs.Lines.{line-red, partner_y, partner_p}
use Rattle.staircase.proofs.System.{Proper}
use Rattle.design.specs.declared.Design.{Design}
use Rattle.design.specs.Sizes.{params_of}
use Rattle.design.proofs.Allowed.{proper_of}
use Rattle.layout.specs.declared.Shape.{Shape}
use Rattle.layout.specs.declared.Shape.TheVariants.{FeedForward, Original}
use Rattle.layout.specs.Layouts.{lines_in, bits_in, tail_in, turned_in, straight_in, sites_in, layout_in, rows_first, rows_second, AllowedIn, PermutesIn}
use Rattle.layout.proofs.Layouts.{word_parts, first_in, second_in}
use Rattle.words_blocks.specs.Blocks.{block_bytes, part_sum, bit_place, block_sum}
use Rattle.words_blocks.proofs.Blocks.{block-bit}
use Rattle.words_lines.specs.Words.{red_place, line_blocks, tail_sum, ReadTable}
use Rattle.words_lines.proofs.Weights.{word-remainder}

-- ---- bits of a block

place_is : (rows : Bool) (M a j : ℕ) → cond rows (a * M + j) (j * M + a) ≡ bit_place (not rows) M a j
unfolding bit_place
place_is true M a j = refl
place_is false M a j = refl

place_lt : (rows : Bool) (M a j : ℕ) → a < M → j < M → cond rows (a * M + j) (j * M + a) < M * M
place_lt true M a j ha hj = digits_lt ha hj
place_lt false M a j ha hj = digits_lt hj ha

-- ---- bits of the redundancy

module _ (s : Params) (l : Interleavers) (L : ℕ) (ok : Proper s) (info red : List ℕ) (k a : ℕ) (ha : a < s.M) where
  abbrev B : ℕ → ℕ
  B p = bit_at (frame_of info red) (get_or (straight_in FeedForward s l L k a) p unsent)

  abbrev y : ℕ
  y = k / 2 * (2 * order s)

  red-bit : (j q : ℕ) → j < 2 * s.r → j * s.M + a ≡ q → B (2 * s.M + j) ≡ get_or red (y + cond (even k) (partner s l true q) q) 0
  unfolding straight_in
  red-bit j q h e =
      ap (bit_at (frame_of info red)) (line-red s l L ok a (2 * s.M + j) ha (omega arith) (omega (arith, h)) k)
      ∙ ap (λ (x : ℕ). get_or red (y + cond (even k) (partner s l true x) x) 0) (let p : 2 * s.M + j - 2 * s.M ≡ j = omega arith in ap (λ (i : ℕ). i * s.M + a) p ∙ e)

  self-bit : (j : ℕ) → j < s.r → B (2 * s.M + j) ≡ get_or red (k / 2 * (2 * order s) + red_place (even k) l.self (j * s.M + a)) 0
  unfolding red_place
  self-bit j h =
      let q : ℕ = j * s.M + a in
      let low : q < order s = omega (arith, digits_lt {q = j} {m = s.r} h ha, times_order) in
      red-bit j q (omega (arith, h)) refl ∙ ap (λ (x : ℕ). get_or red (y + cond (even k) x q) 0) (partner_y s l true q low)
    where
      times_order : s.r * s.M ≡ order s
      times_order = mul_comm s.r s.M

  parity-bit : (j : ℕ) → j < s.r → B (2 * s.M + s.r + j) ≡ get_or red (k / 2 * (2 * order s) + order s + red_place (even k) l.parity (j * s.M + a)) 0
  unfolding red_place
  parity-bit j h = go (even k) refl
    where
      q : ℕ
      q = j * s.M + a

      x : ℕ
      x = (s.r + j) * s.M + a

      behind : x ≡ order s + q
      behind = let e = mul_comm s.r s.M in omega (arith, add-mul s.r j s.M, e)

      here : B (2 * s.M + s.r + j) ≡ get_or red (y + cond (even k) (partner s l true x) x) 0
      here = let e : 2 * s.M + s.r + j ≡ 2 * s.M + (s.r + j) = omega arith in ap B e ∙ red-bit (s.r + j) x (omega (arith, h)) refl

      go : (b : Bool) → even k ≡ b → B (2 * s.M + s.r + j) ≡ get_or red (y + order s + cond (even k) (get_or l.parity q 0) q) 0
      go true e =
          here ∙ ap (λ (b : Bool). get_or red (y + cond b (partner s l true x) x) 0) e
          ∙ ap (λ (p : ℕ). get_or red p 0) (let f = partner_p s l true x q behind in let g : y + partner s l true x ≡ y + order s + get_or l.parity q 0 = omega (arith, f) in g)
          ∙ ap (λ (b : Bool). get_or red (y + order s + cond b (get_or l.parity q 0) q) 0) (sym e)
      go false e =
          here ∙ ap (λ (b : Bool). get_or red (y + cond b (partner s l true x) x) 0) e
          ∙ ap (λ (p : ℕ). get_or red p 0) (let g : y + x ≡ y + order s + q = omega (arith, behind) in g)
          ∙ ap (λ (b : Bool). get_or red (y + order s + cond b (get_or l.parity q 0) q) 0) (sym e)

  pub group-sum : (positions : List ℕ) → xor_sum (2 * s.r) (λ j. B (2 * s.M + j) * get_or positions (2 * s.M + j) 0) ≡ tail_sum FeedForward s l red positions k a
  unfolding tail_sum part_sum
  group-sum positions =
      let H : ℕ → ℕ = λ j. B (2 * s.M + j) * get_or positions (2 * s.M + j) 0 in
      let two : 2 * s.r ≡ s.r + s.r = omega arith in
      ap (λ (n : ℕ). xor_sum n H) two
      ∙ xor_sum-append s.r s.r H
      ∙ ap₂ ◌⊕◌
      (xor_sum-same s.r H (λ j. get_or red (y + red_place (even k) l.self (j * s.M + a)) 0 * get_or positions (2 * s.M + j) 0)
      (λ j h. ap (λ (b : ℕ). b * get_or positions (2 * s.M + j) 0) (self-bit j h)))
      (xor_sum-same s.r (λ j. H (s.r + j)) (λ j. get_or red (y + order s + red_place (even k) l.parity (j * s.M + a)) 0 * get_or positions (2 * s.M + s.r + j) 0)
      (λ j h. let e : 2 * s.M + (s.r + j) ≡ 2 * s.M + s.r + j = omega arith in
      ap (λ (p : ℕ). B p * get_or positions p 0) e ∙ ap (λ (b : ℕ). b * get_or positions (2 * s.M + s.r + j) 0) (parity-bit j h)))

tail-is : (z : Shape) (d : Design) (l : Interleavers) (L : ℕ) → AllowedIn z d → (info red : List ℕ) (k a : ℕ) → a < d.size → (positions : List ℕ)
    → xor_sum (2 * tail_in z (params_of d))
    (λ j. bit_at (frame_of info red) (get_or (straight_in z (params_of d) l L k a) (2 * d.size + j) unsent) * get_or positions (2 * d.size + j) 0)
    ≡ tail_sum z (params_of d) l red positions k a
unfolding tail_in AllowedIn tail_sum xor_sum
tail-is FeedForward d l L A info red k a ha positions = group-sum (params_of d) l L (proper_of d A) info red k a ha positions
tail-is Original d l L A info red k a ha positions = refl

-- ---- a word

module _ (z : Shape) (d : Design) (l : Interleavers) (L : ℕ) (A : AllowedIn z d) (P : PermutesIn z (params_of d) l) (info red : List ℕ)
    (F : Fits (layout_in z (params_of d) l L) info red) (k a : ℕ) (hk : k < lines_in z L) (ha : a < d.size) (positions : List ℕ) where
  abbrev s₂ : Params
  s₂ = params_of d

  abbrev M : ℕ
  M = d.size

  abbrev bit : ℕ → ℕ
  bit p = bit_at (frame_of info red) (get_or (straight_in z s₂ l L k a) p unsent)

  abbrev H : ℕ → ℕ
  H p = bit p * get_or positions p 0

  abbrev first : ℕ → ℕ
  first j = get_or (block_bytes L (M * M) info k) (bit_place (not (rows_first z k)) M a j) 0

  abbrev second : ℕ → ℕ
  second j = get_or (block_bytes L (M * M) info (k + 1)) (bit_place (not (rows_second z k)) M a j) 0

  first-sum : xor_sum M H ≡ part_sum positions 0 M first
  unfolding part_sum
  first-sum =
      xor_sum-same M H (λ j. first j * get_or positions (0 + j) 0)
      (λ j h. ap₂ ◌*◌
      (ap (bit_at (frame_of info red)) (first_in z d l L k a j A hk h)
      ∙ block-bit s₂ L info red F.info_length (cond (rows_first z k) (a * M + j) (j * M + a)) (place_lt (rows_first z k) M a j ha h) k
      ∙ ap (λ (c : ℕ). get_or (block_bytes L (M * M) info k) c 0) (place_is (rows_first z k) M a j))
      (ap (λ (p : ℕ). get_or positions p 0) (sym (zero-add j))))

  second-sum : xor_sum M (λ j. H (M + j)) ≡ part_sum positions M M second
  unfolding part_sum
  second-sum =
      xor_sum-same M (λ j. H (M + j)) (λ j. second j * get_or positions (M + j) 0)
      (λ j h. ap (λ (b : ℕ). b * get_or positions (M + j) 0)
      (ap (bit_at (frame_of info red)) (second_in z d l L k a (M + j) A hk (omega arith) (omega (arith, h)))
      ∙ ap (λ (i : ℕ). bit_at (frame_of info red) (block_at s₂ L (k + 1) (cond (rows_second z k) (a * M + i) (i * M + a)))) (let e : M + j - M ≡ j = omega arith in e)
      ∙ block-bit s₂ L info red F.info_length (cond (rows_second z k) (a * M + j) (j * M + a)) (place_lt (rows_second z k) M a j ha h) (k + 1)
      ∙ ap (λ (c : ℕ). get_or (block_bytes L (M * M) info (k + 1)) c 0) (place_is (rows_second z k) M a j)))

  pub line-is : ReadTable z (params_of d) (turned_in z (params_of d) k) positions
      → line_blocks z positions d.size L info k a ⊕ tail_sum z (params_of d) l red positions k a
      ≡ remainder (params_of d).g (params_of d).r (read (frame_of info red) (sites_in z (params_of d) l L k a))
  unfolding line_blocks block_sum
  line-is T =
      let t : ℕ = 2 * tail_in z s₂ in
      let parts : bits_in z s₂ ≡ M + (M + t) = word_parts z s₂ ∙ omega arith in
      sym
      (word-remainder z d l L A P info red F k a hk ha positions T
      ∙ ap (λ (n : ℕ). xor_sum n H) parts
      ∙ xor_sum-append M (M + t) H
      ∙ ap₂ ◌⊕◌ first-sum
      (xor_sum-append M t (λ j. H (M + j))
      ∙ ap₂ ◌⊕◌ second-sum
      (xor_sum-same t (λ j. H (M + (M + j))) (λ j. H (2 * M + j)) (λ j h. ap H (let e : M + (M + j) ≡ 2 * M + j = omega arith in e))
      ∙ tail-is z d l L A info red k a ha positions))
      ∙ sym (⊕_assoc (part_sum positions 0 M first) (part_sum positions M M second) (tail_sum z s₂ l red positions k a)))
