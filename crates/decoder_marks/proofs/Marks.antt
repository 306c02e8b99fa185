-- Laws of the marks of a frame.
--   toggled             a bit added to the packed marks toggles its mark
--   cleared_marked      a frame beside itself has no marks
--   info_marked, red_marked   a bit is flipped and its mark toggled
--   marked_errors       the marks that are set are the line errors
-- Assumes nothing.
use mathlib.Core.Path.{◌≡◌, refl, sym, ap, ap₂, ◌∙◌, subst}
use mathlib.Core.Bool.{Bool, cond}
use mathlib.Core.List.{List, [], ◌∷◌, ◌++◌}
use Prim.Native.Nat.{ℕ, zero, suc, ◌+◌, ◌-◌, ◌*◌, ◌/◌, ◌%◌, ◌^◌, ◌≤◌, ◌<◌}
use native.Mathlib.Nat.{div-one, zero-add, suc-add, add_assoc, suc_inj, suc-ne-zero}
use native.Mathlib.Decide.{ℕ_discrete}
use native.Mathlib.Omega.{arith}
use lib.Count.{ones_in}
use lib.Dec.{eqb}
use lib.ListN.{length, get_or, set, drop, replicate, length-drop, length-append, length-set, get_or-append}
use lib.Seq.{get_or-set_same, get_or-set_other, get_or-append-add, get_or-drop, set-append_left}
use borrow.Author.Tests.{eq-eqb, ne_eqb}
use Rattle.bch.specs.Polynomial.{Bits}
use Rattle.bch.specs.Code.{unlike, distance}
use Rattle.bch.proofs.Sum.{bit_ind}
use Rattle.bch.proofs.Systematic.{append_bits}
use Rattle.bch.proofs.Distance.{unlike-same, distance-append}
use Rattle.staircase.specs.Lists.{bit_sum}
use Rattle.staircase.specs.Frame.{Frame, frame_of}
use Rattle.staircase.specs.LineErrors.{line_errors}
use Rattle.staircase.proofs.Matrix.{bit_sum-zero}
use Rattle.matrix.specs.Packed.{packed_bit}
use Rattle.matrix.proofs.Bits.{bit, bit-lt, bit_shr}
use Rattle.matrix.proofs.Packed.{packed_bit-at, packed_bit-zeros}
use Rattle.decoder_marks.specs.Marks.{sent_bits, Toggled, set_marks, Marked}

packed_bit-lt : (marks : List ℕ) (k : ℕ) → packed_bit marks k < 2
unfolding packed_bit
packed_bit-lt marks k = bit-lt (get_or marks (k / 8) 0) (k % 8)

pub toggled : (before after : List ℕ) (k : ℕ) → length after ≡ length before
    → ((j : ℕ) → packed_bit after j ≡ bit_sum (packed_bit before j) (cond (eqb k j) 1 0)) → Toggled before after k
toggled before after k e h =
    record {
      long = e;
      here = h k ∙ ap (λ (z : Bool). bit_sum (packed_bit before k) (cond z 1 0)) (eq-eqb k k refl) ∙ omega (arith, packed_bit-lt before k);
      others = λ j d. h j ∙ ap (λ (z : Bool). bit_sum (packed_bit before j) (cond z 1 0)) (ne_eqb k j (λ q. d (sym q)))
          ∙ bit_sum-zero (packed_bit before j) (packed_bit-lt before j);
    }

pub cleared_marked : (f : Frame) (n : ℕ) → Bits (sent_bits f) → Marked f f (replicate n 0)
cleared_marked f n b =
    record { info_length = refl; red_length = refl; bits = b; mark = λ k. packed_bit-zeros n k ∙ sym (unlike-same {a = get_or (sent_bits f) k 0} refl) }

-- ---- a flip

other_unlike : (a b : ℕ) → a < 2 → b < 2 → unlike a (1 - b) ≡ 1 - unlike a b
unfolding unlike
other_unlike a b ha hb =
    bit_ind (λ (x : ℕ). unlike x (1 - b) ≡ 1 - unlike x b)
    (bit_ind (λ (y : ℕ). unlike 0 (1 - y) ≡ 1 - unlike 0 y) refl refl b hb)
    (bit_ind (λ (y : ℕ). unlike 1 (1 - y) ≡ 1 - unlike 1 y) refl refl b hb) a ha

-- bit p of the list l, which had the marks `before` beside the list a
flipped : (a l before after : List ℕ) (p : ℕ) → Bits a → Bits l → p < length l → Toggled before after p
    → ((k : ℕ) → packed_bit before k ≡ unlike (get_or a k 0) (get_or l k 0))
    → (k : ℕ) → packed_bit after k ≡ unlike (get_or a k 0) (get_or (set l p (1 - get_or l p 0)) k 0)
flipped a l before after p ba bl h T m k = go (ℕ_discrete k p)
  where
    go : Dec (k ≡ p) → packed_bit after k ≡ unlike (get_or a k 0) (get_or (set l p (1 - get_or l p 0)) k 0)
    go (yes e) =
        subst (λ (z : ℕ). packed_bit after z ≡ unlike (get_or a z 0) (get_or (set l p (1 - get_or l p 0)) z 0)) (sym e)
        (T.here ∙ ap (λ (z : ℕ). 1 - z) (m p) ∙ sym (other_unlike (get_or a p 0) (get_or l p 0) (ba p) (bl p))
        ∙ ap (unlike (get_or a p 0)) (sym (get_or-set_same l p (1 - get_or l p 0) 0 h)))
    go (no d) = T.others k d ∙ m k ∙ ap (unlike (get_or a k 0)) (sym (get_or-set_other l p k (1 - get_or l p 0) 0 d))

set_append_right : (v w : List ℕ) (k x : ℕ) → set (v ++ w) (length v + k) x ≡ v ++ set w k x
set_append_right [] w k x = ap (λ (n : ℕ). set w n x) (zero-add k)
set_append_right (y ∷ v) w k x =
    ap (λ (n : ℕ). set (y ∷ (v ++ w)) n x) (suc-add (length v) k) ∙ ap (λ (l : List ℕ). y ∷ l) (set_append_right v w k x)

module _ (info red before after : List ℕ) (bi : Bits info) (br : Bits red) (k : ℕ) where
  all-bits : Bits (info ++ red)
  all-bits = append_bits info red bi br

  pub info_marked : k < length info → Toggled before after k → (f : Frame) → Marked f (frame_of info red) before
      → Marked f (frame_of (set info k (1 - get_or info k 0)) red) after
  info_marked h T f M =
      let same : set (info ++ red) k (1 - get_or (info ++ red) k 0) ≡ set info k (1 - get_or info k 0) ++ red =
      ap (λ (z : ℕ). set (info ++ red) k (1 - z)) (get_or-append info red 0 k h) ∙ set-append_left info red k (1 - get_or info k 0) h in
      record {
        info_length = M.info_length ∙ sym (length-set info k (1 - get_or info k 0));
        red_length = M.red_length;
        bits = M.bits;
        mark = λ j. flipped (sent_bits f) (info ++ red) before after k M.bits all-bits (omega (arith, length-append info red)) T M.mark j
            ∙ ap (λ (l : List ℕ). unlike (get_or (sent_bits f) j 0) (get_or l j 0)) same;
      }

  pub red_marked : k < length red → Toggled before after (length info + k) → (f : Frame) → Marked f (frame_of info red) before
      → Marked f (frame_of info (set red k (1 - get_or red k 0))) after
  red_marked h T f M =
      let p : ℕ = length info + k in
      let same : set (info ++ red) p (1 - get_or (info ++ red) p 0) ≡ info ++ set red k (1 - get_or red k 0) =
      ap (λ (z : ℕ). set (info ++ red) p (1 - z)) (get_or-append-add info red k 0) ∙ set_append_right info red k (1 - get_or red k 0) in
      record {
        info_length = M.info_length;
        red_length = M.red_length ∙ sym (length-set red k (1 - get_or red k 0));
        bits = M.bits;
        mark = λ j. flipped (sent_bits f) (info ++ red) before after p M.bits all-bits (omega (arith, length-append info red)) T M.mark j
            ∙ ap (λ (l : List ℕ). unlike (get_or (sent_bits f) j 0) (get_or l j 0)) same;
      }

-- ---- the count

sum_to : ℕ → (ℕ → ℕ) → ℕ
sum_to zero f = 0
sum_to (suc n) f = f zero + sum_to n (λ k. f (suc k))

sum_same : (n : ℕ) (f g : ℕ → ℕ) → ((k : ℕ) → k < n → f k ≡ g k) → sum_to n f ≡ sum_to n g
unfolding sum_to
sum_same zero f g h = refl
sum_same (suc n) f g h = ap₂ ◌+◌ (h zero (omega arith)) (sum_same n (λ k. f (suc k)) (λ k. g (suc k)) (λ k l. h (suc k) (omega arith)))

sum-none : (n : ℕ) (f : ℕ → ℕ) → ((k : ℕ) → f k ≡ 0) → sum_to n f ≡ 0
unfolding sum_to
sum-none zero f h = refl
sum-none (suc n) f h = omega (arith, h zero, sum-none n (λ k. f (suc k)) (λ k. h (suc k)))

ones-bits : (n b : ℕ) → ones_in n b ≡ sum_to n (bit b)
unfolding ones_in sum_to
ones-bits zero b = refl
ones-bits (suc n) b =
    ap₂ ◌+◌ (sym (ap (λ (z : ℕ). z % 2) (div-one b)))
    (ones-bits n (b / 2) ∙ sum_same n (bit (b / 2)) (λ k. bit b (suc k)) (λ k l. bit_shr b 1 k ∙ ap (bit b) (let e : 1 + k ≡ suc k = omega arith in e)))

unlike_at : List ℕ → List ℕ → ℕ → ℕ
unlike_at v w k = unlike (get_or v k 0) (get_or w k 0)

-- the differing places among the first n, and those behind them
distance-split : (n : ℕ) (v w : List ℕ) → length v ≡ length w → distance v w ≡ sum_to n (unlike_at v w) + distance (drop n v) (drop n w)
unfolding distance sum_to unlike_at
distance-split zero v w e = sym (zero-add (distance v w))
distance-split (suc n) [] [] e = sym (omega (arith, sum-none (suc n) (λ (k : ℕ). unlike 0 0) (λ k. unlike-same {a = 0} refl)))
distance-split (suc n) [] (b ∷ w) e = absurd (suc-ne-zero (length w) (sym e))
distance-split (suc n) (a ∷ v) [] e = absurd (suc-ne-zero (length v) e)
distance-split (suc n) (a ∷ v) (b ∷ w) e =
    ap (λ (z : ℕ). unlike a b + z) (distance-split n v w (suc_inj e)) ∙ sym (add_assoc (unlike a b) (sum_to n (unlike_at v w)) (distance (drop n v) (drop n w)))

first_byte : (b : ℕ) (marks : List ℕ) (r : ℕ) → r < 8 → bit b r ≡ packed_bit (b ∷ marks) r
first_byte b marks r h = let e : 8 * 0 + r ≡ r = omega arith in sym (packed_bit-at (b ∷ marks) 0 r h) ∙ ap (packed_bit (b ∷ marks)) e

next_byte : (b : ℕ) (marks : List ℕ) (k : ℕ) → packed_bit (b ∷ marks) (8 + k) ≡ packed_bit marks k
unfolding packed_bit
next_byte b marks k =
    let q : (8 + k) / 8 ≡ suc (k / 8) = omega arith in
    let r : (8 + k) % 8 ≡ k % 8 = omega arith in
    ap₂ (λ (x y : ℕ). get_or (b ∷ marks) x 0 / 2 ^ y % 2) q r

distance_none : (v w : List ℕ) → length v ≤ 0 → distance v w ≡ 0
unfolding distance
distance_none [] w h = refl
distance_none (a ∷ v) w h = absurd (omega arith)

count-distance : (marks v w : List ℕ) → length v ≡ length w → length v ≤ 8 * length marks
    → ((k : ℕ) → packed_bit marks k ≡ unlike (get_or v k 0) (get_or w k 0)) → set_marks marks ≡ distance v w
unfolding set_marks unlike_at
count-distance [] v w e h m = sym (distance_none v w h)
count-distance (b ∷ marks) v w e h m =
    ap₂ ◌+◌
    (ones-bits 8 b ∙ sum_same 8 (bit b) (unlike_at v w) (λ r l. first_byte b marks r l ∙ m r))
    (count-distance marks (drop 8 v) (drop 8 w) (length-drop 8 v ∙ ap (λ (n : ℕ). n - 8) e ∙ sym (length-drop 8 w))
    (omega (arith, length-drop 8 v)) (λ k. sym (next_byte b marks k) ∙ m (8 + k) ∙ ap₂ unlike (sym (get_or-drop 8 v k 0)) (sym (get_or-drop 8 w k 0))))
    ∙ sym (distance-split 8 v w e)

pub marked_errors : (f g : Frame) (marks : List ℕ) → length f.info + length f.red ≤ 8 * length marks
    → Marked f g marks → set_marks marks ≡ line_errors f g
unfolding line_errors
marked_errors f g marks h M =
    count-distance marks (sent_bits f) (sent_bits g)
    (length-append f.info f.red ∙ ap₂ ◌+◌ M.info_length M.red_length ∙ sym (length-append g.info g.red))
    (omega (arith, length-append f.info f.red)) M.mark
    ∙ distance-append f.info g.info f.red g.red M.info_length
