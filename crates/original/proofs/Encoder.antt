-- Words encoded one after the other, each by the parity of its own information, for any list of words over sites.
--   put_same, put_other, put_all_other, put_all-read   written bits
--   read-binary           the bits of a word
--   Fresh f w             the parity's sites are bytes of the buffers, each once, none of them in the word's information
--   After ws              no word has a parity site of a later one
--   encode_in_code        all words are in their codes
--   encode-only           and no other frame with that information has them so
--   encode_old            old parity plays no part
--   encode-reach          sites that depend on none but those on which two frames agree
-- Assumes nothing.
use mathlib.Core.Path.{◌≡◌, refl, sym, ap, ap₂, ◌∙◌, subst}
use mathlib.Core.Bool.{true}
use mathlib.Core.Logic.{◌≢◌, ◌⊎◌, inl, inr}
use mathlib.Core.List.{List, [], ◌∷◌, ◌++◌}
use Prim.Native.Nat.{ℕ, zero, suc, ◌+◌, ◌-◌, ◌/◌, ◌^◌, ◌<◌}
use native.Mathlib.Nat.{suc_inj, suc-ne-zero, zero-lt-suc}
use native.Mathlib.Omega.{arith}
use lib.ListN.{length, length-set}
use lib.Seq.{get_or-set_same, get_or-set_other}
use Rattle.bch.specs.Polynomial.{Bits, remainder}
use Rattle.bch.specs.Code.{is_codeword, parity}
use Rattle.bch.proofs.Systematic.{parity-length, parity-bits, parity_makes, parity-alone}
use Rattle.bch.proofs.Bch.{codeword_zero, zero_codeword}
use Rattle.staircase.specs.Frame.{Frame, Site, bit_at, read, in_code}
use Rattle.staircase.specs.Frame.Site.{unsent, in_info, in_red}
use Rattle.original.specs.Systematic.{put, put_all, Systematic, encode_word, encode_each}
use Rattle.staircase.proofs.Member.{In, in?, in_left}
use Rattle.staircase.proofs.Flip.{Within, site?, read_same, same_read, read_length}
use Rattle.staircase.proofs.Occurrences.{Single}

-- ---- written bits

pub put_same : (x : Site) (b : ℕ) (f : Frame) → Within x f → bit_at (put x b f) x ≡ b
put_same unsent b f h = absurd h
put_same (in_info k) b f h = get_or-set_same f.info k b 0 h
put_same (in_red k) b f h = get_or-set_same f.red k b 0 h

pub put_other : (x y : Site) (b : ℕ) (f : Frame) → x ≢ y → bit_at (put x b f) y ≡ bit_at f y
put_other unsent y b f d = refl
put_other (in_info k) unsent b f d = refl
put_other (in_info k) (in_info j) b f d = get_or-set_other f.info k j b 0 (λ e. d (ap in_info (sym e)))
put_other (in_info k) (in_red j) b f d = refl
put_other (in_red k) unsent b f d = refl
put_other (in_red k) (in_info j) b f d = refl
put_other (in_red k) (in_red j) b f d = get_or-set_other f.red k j b 0 (λ e. d (ap in_red (sym e)))

-- the lengths of the buffers
pub record Alike (f x : Frame) : Type 0 where
  pub info_same : length x.info ≡ length f.info
  pub red_same : length x.red ≡ length f.red

put_alike : (x : Site) (b : ℕ) (f : Frame) → Alike f (put x b f)
put_alike unsent b f = record { info_same = refl; red_same = refl }
put_alike (in_info k) b f = record { info_same = length-set f.info k b; red_same = refl }
put_alike (in_red k) b f = record { info_same = refl; red_same = length-set f.red k b }

alike_trans : {f g h : Frame} → Alike f g → Alike g h → Alike f h
alike_trans p q = record { info_same = q.info_same ∙ p.info_same; red_same = q.red_same ∙ p.red_same }

alike_within : {f g : Frame} → Alike f g → (x : Site) → Within x f → Within x g
alike_within p unsent h = h
alike_within p (in_info k) h = omega (arith, h, p.info_same)
alike_within p (in_red k) h = omega (arith, h, p.red_same)

put_all_alike : (c : List Site) (bs : List ℕ) (f : Frame) → Alike f (put_all c bs f)
unfolding put_all
put_all_alike [] bs f = record { info_same = refl; red_same = refl }
put_all_alike (x ∷ c) [] f = record { info_same = refl; red_same = refl }
put_all_alike (x ∷ c) (b ∷ bs) f = alike_trans (put_all_alike c bs f) (put_alike x b (put_all c bs f))

pub put_all_other : (c : List Site) (bs : List ℕ) (f : Frame) (y : Site) → ¬ In y c → bit_at (put_all c bs f) y ≡ bit_at f y
unfolding put_all
put_all_other [] bs f y n = refl
put_all_other (x ∷ c) [] f y n = refl
put_all_other (x ∷ c) (b ∷ bs) f y n = put_other x y b (put_all c bs f) (λ e. n (inl (sym e))) ∙ put_all_other c bs f y (λ i. n (inr i))

pub put_all-read : (c : List Site) → Single c → (bs : List ℕ) → length bs ≡ length c → (f : Frame) → ((y : Site) → In y c → Within y f) → read (put_all c bs f) c ≡ bs
unfolding put_all
put_all-read [] d [] e f h = refl
put_all-read [] d (b ∷ bs) e f h = absurd (suc-ne-zero (length bs) e)
put_all-read (x ∷ c) d [] e f h = absurd (suc-ne-zero (length c) (sym e))
put_all-read (x ∷ c) d (b ∷ bs) e f h =
    let g : Frame = put_all c bs f in
    ap₂ (λ (p : ℕ) (q : List ℕ). p ∷ q)
    (put_same x b g (alike_within (put_all_alike c bs f) x (h x (inl refl))))
    (read_same c (put x b g) g (λ y i. put_other x y b g (λ q. d.0 (subst (λ (z : Site). In z c) (sym q) i)))
    ∙ put_all-read c d.1 bs (suc_inj e) f (λ y i. h y (inr i)))

-- ---- words

pub record Fresh (f : Frame) (w : Systematic) : Type 0 where
  pub positive : 0 < w.code.r
  pub degree : w.code.g / 2 ^ w.code.r ≡ 1
  pub long : length w.end ≡ w.code.r
  pub single : Single w.end
  pub within : (y : Site) → In y w.end → Within y f
  pub apart : (y : Site) → In y w.end → ¬ In y w.info

-- no word has a parity site of a later one
abbrev pub After : List Systematic → Type 0
After [] = Unit {0}
After (w ∷ ws) = ((v : Systematic) → In v ws → (y : Site) → In y v.end → ¬ In y (w.info ++ w.end)) × After ws

pub read-binary : (f : Frame) → ((y : Site) → bit_at f y < 2) → (w : List Site) → Bits (read f w)
read-binary f h [] k = zero-lt-suc 1
read-binary f h (x ∷ w) zero = h x
read-binary f h (x ∷ w) (suc k) = read-binary f h w k

read-append : (f : Frame) (u v : List Site) → read f (u ++ v) ≡ read f u ++ read f v
read-append f [] v = refl
read-append f (x ∷ u) v = ap (λ (l : List ℕ). bit_at f x ∷ l) (read-append f u v)

put_all-binary : (c : List Site) (bs : List ℕ) (f : Frame) → Bits bs → ((y : Site) → bit_at f y < 2) → ((y : Site) → In y c → Within y f) → (y : Site) → bit_at (put_all c bs f) y < 2
unfolding put_all
put_all-binary [] bs f hb hf hw y = hf y
put_all-binary (x ∷ c) [] f hb hf hw y = hf y
put_all-binary (x ∷ c) (b ∷ bs) f hb hf hw y = go (site? x y) (put_all-binary c bs f (λ k. hb (suc k)) hf (λ z i. hw z (inr i)) y)
  where
    go : (x ≡ y) ⊎ (x ≢ y) → bit_at (put_all c bs f) y < 2 → bit_at (put x b (put_all c bs f)) y < 2
    go (inl e) rest =
        subst (λ (z : Site). bit_at (put x b (put_all c bs f)) z < 2) e
        (subst (λ (n : ℕ). n < 2) (sym (put_same x b (put_all c bs f) (alike_within (put_all_alike c bs f) x (hw x (inl refl))))) (hb 0))
    go (inr d) rest = subst (λ (n : ℕ). n < 2) (sym (put_other x y b (put_all c bs f) d)) rest

abbrev given : Systematic → Frame → List ℕ
given w f = parity w.code.g w.code.r (read f w.info)

module _ (f : Frame) (w : Systematic) (ok : Fresh f w) where
  pub encode_word_alike : Alike f (encode_word f w)
  unfolding encode_word
  encode_word_alike = put_all_alike w.end (given w f) f

  pub encode_word_other : (y : Site) → ¬ In y w.end → bit_at (encode_word f w) y ≡ bit_at f y
  unfolding encode_word
  encode_word_other = put_all_other w.end (given w f) f

  pub encode_word-end : read (encode_word f w) w.end ≡ parity w.code.g w.code.r (read f w.info)
  unfolding encode_word
  encode_word-end = put_all-read w.end ok.single (given w f) (parity-length w.code.g w.code.r (read f w.info) ∙ sym ok.long) f ok.within

  encode_word-binary : ((y : Site) → bit_at f y < 2) → (y : Site) → bit_at (encode_word f w) y < 2
  unfolding encode_word
  encode_word-binary h = put_all-binary w.end (given w f) f (parity-bits w.code.g w.code.r (read f w.info)) h ok.within

  encode_word-own : read (encode_word f w) w.info ≡ read f w.info
  encode_word-own = read_same w.info (encode_word f w) f (λ y i. encode_word_other y (λ e. ok.apart y e i))

  pub encode_word-code : ((y : Site) → bit_at f y < 2) → in_code w.code (encode_word f w) (w.info ++ w.end) ≡ true
  encode_word-code h =
      ap (is_codeword w.code.g w.code.r) (read-append (encode_word f w) w.info w.end ∙ ap₂ (λ (p q : List ℕ). p ++ q) encode_word-own encode_word-end)
      ∙ zero_codeword w.code.g w.code.r (read f w.info ++ given w f)
      (parity_makes w.code.g w.code.r ok.positive ok.degree (read f w.info) (read-binary f h w.info))

  -- the only end
  pub encode_word-only : (g : Frame) → ((y : Site) → bit_at g y < 2) → ((y : Site) → In y w.info → bit_at g y ≡ bit_at f y)
      → in_code w.code g (w.info ++ w.end) ≡ true → (y : Site) → In y w.end → bit_at g y ≡ bit_at (encode_word f w) y
  encode_word-only g hg same code =
      let own : read g w.info ≡ read f w.info = read_same w.info g f same in
      let z = codeword_zero w.code.g w.code.r (read g (w.info ++ w.end)) code in
      let e : read g w.end ≡ parity w.code.g w.code.r (read g w.info) =
      parity-alone w.code.g w.code.r ok.positive ok.degree (read g w.info) (read-binary g hg w.info) (read g w.end) (read-binary g hg w.end)
      (read_length g w.end ∙ ok.long) (ap (λ (u : List ℕ). remainder w.code.g w.code.r u) (sym (read-append g w.info w.end)) ∙ z) in
      same_read w.end g (encode_word f w) (e ∙ ap (parity w.code.g w.code.r) own ∙ sym encode_word-end)

pub fresh_alike : {f g : Frame} → Alike f g → (w : Systematic) → Fresh f w → Fresh g w
fresh_alike p w ok =
    record { positive = ok.positive; degree = ok.degree; long = ok.long; single = ok.single; within = λ y i. alike_within p y (ok.within y i); apart = ok.apart }

-- words that are encoded later leave a word that has none of their parity sites
pub later_other : (ws : List Systematic) (f : Frame) → ((w : Systematic) → In w ws → Fresh f w) → (y : Site) → ((w : Systematic) → In w ws → ¬ In y w.end) → bit_at (encode_each f ws) y ≡ bit_at f y
unfolding encode_each
later_other [] f ok y n = refl
later_other (w ∷ ws) f ok y n =
    later_other ws (encode_word f w) (λ v i. fresh_alike (encode_word_alike f w (ok w (inl refl))) v (ok v (inr i))) y (λ v i. n v (inr i))
    ∙ encode_word_other f w (ok w (inl refl)) y (n w (inl refl))

pub encode_each-binary : (ws : List Systematic) (f : Frame) → ((w : Systematic) → In w ws → Fresh f w) → ((y : Site) → bit_at f y < 2) → (y : Site) → bit_at (encode_each f ws) y < 2
unfolding encode_each
encode_each-binary [] f ok h = h
encode_each-binary (w ∷ ws) f ok h =
    encode_each-binary ws (encode_word f w) (λ v i. fresh_alike (encode_word_alike f w (ok w (inl refl))) v (ok v (inr i))) (encode_word-binary f w (ok w (inl refl)) h)

pub encode_each_alike : (ws : List Systematic) (f : Frame) → ((w : Systematic) → In w ws → Fresh f w) → Alike f (encode_each f ws)
unfolding encode_each
encode_each_alike [] f ok = record { info_same = refl; red_same = refl }
encode_each_alike (w ∷ ws) f ok =
    let p = encode_word_alike f w (ok w (inl refl)) in
    alike_trans p (encode_each_alike ws (encode_word f w) (λ v i. fresh_alike p v (ok v (inr i))))

-- "the parity .. makes every row a codeword"
pub encode_in_code : (ws : List Systematic) → After ws → (f : Frame) → ((w : Systematic) → In w ws → Fresh f w) → ((y : Site) → bit_at f y < 2)
    → (w : Systematic) → In w ws → in_code w.code (encode_each f ws) (w.info ++ w.end) ≡ true
unfolding encode_each
encode_in_code (w ∷ ws) order f ok h v (inl e) =
    let x = ok w (inl refl) in
    let g : Frame = encode_word f w in
    let ok' : (u : Systematic) → In u ws → Fresh g u = λ u i. fresh_alike (encode_word_alike f w x) u (ok u (inr i)) in
    ap (λ (u : Systematic). in_code u.code (encode_each g ws) (u.info ++ u.end)) e
    ∙ ap (is_codeword w.code.g w.code.r)
    (read_same (w.info ++ w.end) (encode_each g ws) g (λ y i. later_other ws g ok' y (λ u j k. order.0 u j y k i)))
    ∙ encode_word-code f w x h
encode_in_code (w ∷ ws) order f ok h v (inr i) =
    let x = ok w (inl refl) in
    encode_in_code ws order.1 (encode_word f w) (λ u j. fresh_alike (encode_word_alike f w x) u (ok u (inr j))) (encode_word-binary f w x h) v i
encode_in_code [] order f ok h v x4 = elim x4 [ ]

-- "The parity is the only one": a frame of bits that has the same bits but for the parity and all words in their codes is the encoded one
pub encode-only : (ws : List Systematic) → After ws → (f : Frame) → ((w : Systematic) → In w ws → Fresh f w)
    → (g : Frame) → ((y : Site) → bit_at g y < 2) → ((y : Site) → ((w : Systematic) → In w ws → ¬ In y w.end) → bit_at g y ≡ bit_at f y)
    → ((w : Systematic) → In w ws → in_code w.code g (w.info ++ w.end) ≡ true) → (y : Site) → bit_at g y ≡ bit_at (encode_each f ws) y
unfolding encode_each
encode-only [] order f ok g hg same code = λ y. same y (λ w i. absurd i)
encode-only (w ∷ ws) order f ok g hg same code =
    let x = ok w (inl refl) in
    encode-only ws order.1 (encode_word f w) (λ v i. fresh_alike (encode_word_alike f w x) v (ok v (inr i))) g hg
    (λ y n. step y n (in? site? y w.end))
    (λ v i. code v (inr i))
  where
    -- the word's information holds no parity of this word or a later one
    own_same : (y : Site) → In y w.info → bit_at g y ≡ bit_at f y
    own_same y i = same y (λ v j. clear v j)
      where
        clear : (v : Systematic) → In v (w ∷ ws) → ¬ In y v.end
        clear v (inl e) k = (ok w (inl refl)).apart y (subst (λ (u : Systematic). In y u.end) e k) i
        clear v (inr j) k = order.0 v j y k (in_left y w.info w.end i)

    step : (y : Site) → ((v : Systematic) → In v ws → ¬ In y v.end) → In y w.end ⊎ (¬ In y w.end) → bit_at g y ≡ bit_at (encode_word f w) y
    step y n (inl i) = encode_word-only f w (ok w (inl refl)) g hg own_same (code w (inl refl)) y i
    step y n (inr d) = same y (λ v j. clear v j) ∙ sym (encode_word_other f w (ok w (inl refl)) y d)
      where
        clear : (v : Systematic) → In v (w ∷ ws) → ¬ In y v.end
        clear v (inl e) k = d (subst (λ (u : Systematic). In y u.end) e k)
        clear v (inr j) k = n v j k

-- Two frames that agree off the parity are encoded alike.
pub encode_old : (ws : List Systematic) → After ws → (f g : Frame) → ((w : Systematic) → In w ws → Fresh f w) → ((w : Systematic) → In w ws → Fresh g w)
    → ((y : Site) → ((w : Systematic) → In w ws → ¬ In y w.end) → bit_at f y ≡ bit_at g y) → (y : Site) → bit_at (encode_each f ws) y ≡ bit_at (encode_each g ws) y
unfolding encode_each
encode_old [] order f g okf okg same = λ y. same y (λ w i. absurd i)
encode_old (w ∷ ws) order f g okf okg same =
    encode_old ws order.1 (encode_word f w) (encode_word g w)
    (λ v i. fresh_alike (encode_word_alike f w (okf w (inl refl))) v (okf v (inr i)))
    (λ v i. fresh_alike (encode_word_alike g w (okg w (inl refl))) v (okg v (inr i)))
    (λ y n. step y n (in? site? y w.end))
  where
    own_same : (y : Site) → In y w.info → bit_at f y ≡ bit_at g y
    own_same y i = same y (λ v j. clear v j)
      where
        clear : (v : Systematic) → In v (w ∷ ws) → ¬ In y v.end
        clear v (inl e) k = (okf w (inl refl)).apart y (subst (λ (u : Systematic). In y u.end) e k) i
        clear v (inr j) k = order.0 v j y k (in_left y w.info w.end i)

    step : (y : Site) → ((v : Systematic) → In v ws → ¬ In y v.end) → In y w.end ⊎ (¬ In y w.end) → bit_at (encode_word f w) y ≡ bit_at (encode_word g w) y
    step y n (inl i) =
        same_read w.end (encode_word f w) (encode_word g w)
        (encode_word-end f w (okf w (inl refl)) ∙ ap (parity w.code.g w.code.r) (read_same w.info f g own_same)
        ∙ sym (encode_word-end g w (okg w (inl refl)))) y i
    step y n (inr d) = encode_word_other f w (okf w (inl refl)) y d ∙ same y (λ v j. clear v j) ∙ sym (encode_word_other g w (okg w (inl refl)) y d)
      where
        clear : (v : Systematic) → In v (w ∷ ws) → ¬ In y v.end
        clear v (inl e) k = d (subst (λ (u : Systematic). In y u.end) e k)
        clear v (inr j) k = n v j k

-- Two frames that agree on some sites still do so after encoding, where the parity among these depends on no others.
pub encode-reach : (S : Site → Type 0) (ws : List Systematic) (f g : Frame) → ((w : Systematic) → In w ws → Fresh f w) → ((w : Systematic) → In w ws → Fresh g w)
    → ((w : Systematic) → In w ws → (y : Site) → In y w.end → S y → (z : Site) → In z w.info → S z)
    → ((y : Site) → S y → bit_at f y ≡ bit_at g y) → (y : Site) → S y → bit_at (encode_each f ws) y ≡ bit_at (encode_each g ws) y
unfolding encode_each
encode-reach S [] f g okf okg closed same = same
encode-reach S (w ∷ ws) f g okf okg closed same =
    let x = okf w (inl refl) in
    let z = okg w (inl refl) in
    encode-reach S ws (encode_word f w) (encode_word g w)
    (λ v i. fresh_alike (encode_word_alike f w x) v (okf v (inr i))) (λ v i. fresh_alike (encode_word_alike g w z) v (okg v (inr i)))
    (λ v i. closed v (inr i)) (λ y s. step y s (in? site? y w.end))
  where
    step : (y : Site) → S y → In y w.end ⊎ (¬ In y w.end) → bit_at (encode_word f w) y ≡ bit_at (encode_word g w) y
    step y s (inr d) = encode_word_other f w (okf w (inl refl)) y d ∙ same y s ∙ sym (encode_word_other g w (okg w (inl refl)) y d)
    step y s (inl i) =
        same_read w.end (encode_word f w) (encode_word g w)
        (encode_word-end f w (okf w (inl refl))
        ∙ ap (parity w.code.g w.code.r) (read_same w.info f g (λ v j. same v (closed w (inl refl) y i s v j)))
        ∙ sym (encode_word-end g w (okg w (inl refl)))) y i
