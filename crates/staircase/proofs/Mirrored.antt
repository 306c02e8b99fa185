-- Correcting a word in the mirrored code is correcting it, read backwards, in the other: the locator of the row code serves both.
--   backwards-at, in_backwards, backwards-map, sub-backwards   lists read backwards
--   mirror_positions n c        position j becomes n - 1 - j
--   mirrored-positions         the error positions of a word in the mirrored code
--   mirrored-correction        the correction, for a word in which no sent bit stands twice
--   mirrored-flips             and what it leaves
-- Assumes nothing.
use mathlib.Core.Path.{◌≡◌, refl, sym, ap, ap₂, ◌∙◌, subst}
use mathlib.Core.Bool.{Bool, true, false, cond, true≢false}
use mathlib.Core.Logic.{◌≢◌, ◌⊎◌, inl, inr}
use mathlib.Core.List.{List, [], ◌∷◌, ◌++◌, map}
use Prim.Native.Nat.{ℕ, zero, suc, ◌+◌, ◌-◌, ◌/◌, ◌%◌, ◌^◌, ◌≤◌, ◌<◌}
use native.Mathlib.Nat.{not-suc-le-zero, zero-add, add_assoc}
use native.Mathlib.Decide.{ℕ_discrete, dec_lt}
use native.Mathlib.Omega.{arith}
use lib.ListN.{length, get_or, set, length-append, length-map, get_or-append}
use lib.Seq.{ext_get_or, get_or-append_seam, get_or-set_other}
use Rattle.bch.specs.Polynomial.{Bits}
use Rattle.bch.specs.Code.{is_codeword}
use Rattle.bch.specs.Mirror.{backwards}
use Rattle.bch.proofs.Distance.{distance_comm, distance_triangle}
use Rattle.bch.proofs.Mirror.{backwards-length, backwards-bits, backwards-twice, mirror_codeword}
use Rattle.staircase.specs.Lists.{tabulate}
use Rattle.staircase.specs.Design.{Params, mirrored}
use Rattle.staircase.specs.Frame.{Frame, Site, bit_at, flip, read}
use Rattle.staircase.specs.Frame.Site.{unsent, in_info, in_red}
use Rattle.staircase.specs.Decoder.{flip_bits, first_correcting, error_positions, all_sent, same_site, occurrences, correction, flip_all}
use Rattle.staircase.proofs.Tabulate.{tabulate-length, tabulate-at}
use Rattle.staircase.proofs.Member.{In, in?, in_left, in_right, in_cases, in_map, map_in, Sub, done, skip, keep}
use Rattle.staircase.proofs.Flip.{Sent, Distinct, read_length, read-bits, Received}
use Rattle.staircase.proofs.Errors.{flip_bits-length, flip_bits-bits, flip_bits-distance, flip_bits-here, flip_bits_other, Positions, positions-once, positions-below, error_positions_found, error_positions-positions, flips-once}
use Rattle.staircase.proofs.Correction.{CodeDistance}
use Rattle.staircase.proofs.Occurrences.{same-site, occurrences_in, distinct_occurrences, correction_distinct}

-- ---- lists read backwards

module _ {A : Type 0} where
  pub backwards-long : (w : List A) → length (backwards w) ≡ length w
  unfolding backwards
  backwards-long [] = refl
  backwards-long (b ∷ w) = omega (arith, length-append (backwards w) (b ∷ []), backwards-long w)

  pub in_backwards : (x : A) (w : List A) → In x w → In x (backwards w)
  unfolding backwards
  in_backwards x (y ∷ w) (inl e) = in_right x (backwards w) (y ∷ []) (inl e)
  in_backwards x (y ∷ w) (inr i) = in_left x (backwards w) (y ∷ []) (in_backwards x w i)
  in_backwards x [] x'' = elim x'' [ ]

  pub backwards_in : (x : A) (w : List A) → In x (backwards w) → In x w
  unfolding backwards
  backwards_in x [] i = i
  backwards_in x (y ∷ w) i = go (in_cases x (backwards w) (y ∷ []) i) (λ j. backwards_in x w j)
    where
      go : In x (backwards w) ⊎ In x (y ∷ []) → (In x (backwards w) → In x w) → In x (y ∷ w)
      go (inl j) rest = inr (rest j)
      go (inr (inl e)) rest = inl e
      go (inr (inr x5)) rest = elim x5 [ ]

  pub backwards-at : (w : List A) (d : A) (j : ℕ) → j < length w → get_or (backwards w) j d ≡ get_or w (length w - 1 - j) d
  unfolding backwards
  backwards-at [] d j h = absurd (not-suc-le-zero h)
  backwards-at (b ∷ w) d j h = go (dec_lt j (length w)) (λ l. backwards-at w d j l)
    where
      go : Dec (j < length w) → (j < length w → get_or (backwards w) j d ≡ get_or w (length w - 1 - j) d) → get_or (backwards w ++ (b ∷ [])) j d ≡ get_or (b ∷ w) (suc (length w) - 1 - j) d
      go (yes l) rest =
          let e : suc (length w) - 1 - j ≡ suc (length w - 1 - j) = omega (arith, l) in
          get_or-append (backwards w) (b ∷ []) d j (subst (λ (z : ℕ). j < z) (sym (backwards-long w)) l) ∙ rest l ∙ ap (λ (z : ℕ). get_or (b ∷ w) z d) (sym e)
      go (no l) rest =
          let e : j ≡ length (backwards w) = let z = backwards-long w in omega (arith, l, h, z) in
          let q : suc (length w) - 1 - j ≡ 0 = omega (arith, l) in
          ap (λ (z : ℕ). get_or (backwards w ++ (b ∷ [])) z d) e ∙ get_or-append_seam (backwards w) b [] d ∙ ap (λ (z : ℕ). get_or (b ∷ w) z d) (sym q)

  sub_snoc : {c l : List A} (x : A) → Sub c l → Sub c (l ++ (x ∷ []))
  sub_snoc x done = skip done
  sub_snoc x (skip s) = skip (sub_snoc x s)
  sub_snoc x (keep s) = keep (sub_snoc x s)

  sub-both : {c l : List A} (x : A) → Sub c l → Sub (c ++ (x ∷ [])) (l ++ (x ∷ []))
  sub-both x done = keep done
  sub-both x (skip s) = skip (sub-both x s)
  sub-both x (keep s) = keep (sub-both x s)

  sub-backwards : {c l : List A} → Sub c l → Sub (backwards c) (backwards l)
  unfolding backwards
  sub-backwards done = done
  sub-backwards (skip {x = x} s) = sub_snoc x (sub-backwards s)
  sub-backwards (keep {x = x} s) = sub-both x (sub-backwards s)

module _ {A B : Type 0} where
  map-append : (f : A → B) (u v : List A) → map f (u ++ v) ≡ map f u ++ map f v
  map-append f [] v = refl
  map-append f (x ∷ u) v = ap (λ (l : List B). f x ∷ l) (map-append f u v)

  pub backwards-map : (f : A → B) (w : List A) → map f (backwards w) ≡ backwards (map f w)
  unfolding backwards
  backwards-map f [] = refl
  backwards-map f (x ∷ w) = map-append f (backwards w) (x ∷ []) ∙ ap (λ (l : List B). l ++ (f x ∷ [])) (backwards-map f w)

  map-sub : (f : A → B) {c l : List A} → Sub c l → Sub (map f c) (map f l)
  map-sub f done = done
  map-sub f (skip s) = skip (map-sub f s)
  map-sub f (keep s) = keep (map-sub f s)

  map_same : (f g : A → B) (c : List A) → ((x : A) → In x c → f x ≡ g x) → map f c ≡ map g c
  map_same f g [] h = refl
  map_same f g (x ∷ c) h = ap₂ (λ (y : B) (l : List B). y ∷ l) (h x (inl refl)) (map_same f g c (λ y i. h y (inr i)))

-- ---- positions

unfoldable pub mirror_positions : ℕ → List ℕ → List ℕ
mirror_positions n c = backwards (map (λ j. n - 1 - j) c)

module _ (n : ℕ) where
  whole : backwards (map (λ j. n - 1 - j) (tabulate n (λ j. j))) ≡ tabulate n (λ j. j)
  whole =
      let w : List ℕ = map (λ j. n - 1 - j) (tabulate n (λ j. j)) in
      let l : length w ≡ n = length-map (tabulate n (λ j. j)) (λ j. n - 1 - j) ∙ tabulate-length n (λ j. j) in
      ext_get_or 0 (backwards w) (tabulate n (λ j. j)) (backwards-long w ∙ l ∙ sym (tabulate-length n (λ j. j)))
      (λ k h.
      let hk : k < n = omega (arith, h, backwards-long w, l) in
      backwards-at w 0 k (omega (arith, hk, l))
      ∙ ap (λ (z : ℕ). get_or w z 0) (let e : length w - 1 - k ≡ n - 1 - k = omega (arith, l) in e)
      ∙ at (n - 1 - k) (omega (arith, hk)) ∙ (let e : n - 1 - (n - 1 - k) ≡ k = omega (arith, hk) in e) ∙ sym (tabulate-at n (λ j. j) 0 k hk))
    where
      at : (i : ℕ) → i < n → get_or (map (λ j. n - 1 - j) (tabulate n (λ j. j))) i 0 ≡ n - 1 - i
      at i h = go (tabulate n (λ j. j)) i (subst (λ (z : ℕ). i < z) (sym (tabulate-length n (λ j. j))) h) ∙ ap (λ (z : ℕ). n - 1 - z) (tabulate-at n (λ j. j) 0 i h)
        where
          go : (l : List ℕ) (i : ℕ) → i < length l → get_or (map (λ j. n - 1 - j) l) i 0 ≡ n - 1 - get_or l i 0
          go [] i h = absurd (not-suc-le-zero h)
          go (x ∷ l) zero h = refl
          go (x ∷ l) (suc i) h = go l i (omega (arith, h))

  module _ {t : ℕ} (c : List ℕ) (p : Positions n t c) where
    pub mirror-positions : Positions n t (mirror_positions n c)
    unfolding mirror_positions
    mirror-positions =
        record {
          sub = subst (λ (l : List ℕ). Sub (backwards (map (λ j. n - 1 - j) c)) l) whole (sub-backwards (map-sub (λ j. n - 1 - j) p.sub));
          few = omega (arith, backwards-long (map (λ j. n - 1 - j) c), length-map c (λ j. n - 1 - j), p.few);
        }

    in_mirror : (k : ℕ) → In k c → In (n - 1 - k) (mirror_positions n c)
    unfolding mirror_positions
    in_mirror k i = in_backwards (n - 1 - k) (map (λ j. n - 1 - j) c) (in_map (λ j. n - 1 - j) c k i)

    mirror_in : (k : ℕ) → k < n → In k (mirror_positions n c) → In (n - 1 - k) c
    unfolding mirror_positions
    mirror_in k h i =
        let (j, ij, e) = map_in (λ j. n - 1 - j) c k (backwards_in k (map (λ j. n - 1 - j) c) i) in
        let hj : j < n = positions-below p j ij in
        subst (λ (z : ℕ). In z c) (let q : j ≡ n - 1 - k = omega (arith, e, hj) in q) ij

    pub flip_bits-mirror : (u : List ℕ) → length u ≡ n → Bits u → flip_bits (mirror_positions n c) u ≡ backwards (flip_bits c (backwards u))
    flip_bits-mirror u lu hu =
        let v : List ℕ = flip_bits c (backwards u) in
        let lv : length v ≡ n = flip_bits-length c (backwards u) ∙ backwards-long u ∙ lu in
        ext_get_or 0 (flip_bits (mirror_positions n c) u) (backwards v) (flip_bits-length (mirror_positions n c) u ∙ lu ∙ sym (backwards-long v ∙ lv))
        (λ k h.
        let hk : k < n = omega (arith, h, flip_bits-length (mirror_positions n c) u, lu) in
        go k hk (in? nat? (n - 1 - k) c)
        ∙ sym (backwards-at v 0 k (omega (arith, hk, lv)) ∙ ap (λ (z : ℕ). get_or v z 0) (let e : length v - 1 - k ≡ n - 1 - k = omega (arith, lv) in e)))
      where
        nat? : (x y : ℕ) → (x ≡ y) ⊎ (x ≢ y)
        nat? x y = pick (ℕ_discrete x y)
          where
            pick : Dec (x ≡ y) → (x ≡ y) ⊎ (x ≢ y)
            pick (yes e) = inl e
            pick (no d) = inr d

        same : (k : ℕ) → k < n → get_or (backwards u) (n - 1 - k) 0 ≡ get_or u k 0
        same k hk = backwards-at u 0 (n - 1 - k) (omega (arith, hk, lu)) ∙ ap (λ (z : ℕ). get_or u z 0) (let e : length u - 1 - (n - 1 - k) ≡ k = omega (arith, hk, lu) in e)

        go : (k : ℕ) → k < n → In (n - 1 - k) c ⊎ (¬ In (n - 1 - k) c) → get_or (flip_bits (mirror_positions n c) u) k 0 ≡ get_or (flip_bits c (backwards u)) (n - 1 - k) 0
        go k hk (inl i) =
            flip_bits-here (mirror_positions n c) u (positions-once mirror-positions) k
            (subst (λ (z : ℕ). In z (mirror_positions n c)) (let e : n - 1 - (n - 1 - k) ≡ k = omega (arith, hk) in e) (in_mirror (n - 1 - k) i)) (omega (arith, hk, lu))
            ∙ ap (λ (z : ℕ). 1 - z) (sym (same k hk))
            ∙ sym (flip_bits-here c (backwards u) (positions-once p) (n - 1 - k) i (let z = backwards-long u in omega (arith, hk, lu, z)))
        go k hk (inr d) =
            flip_bits_other (mirror_positions n c) u k (λ i. d (mirror_in k hk i)) ∙ sym (same k hk) ∙ sym (flip_bits_other c (backwards u) (n - 1 - k) d)

-- ---- error positions in the mirrored code

default_none : (s : Params) (u : List ℕ) (cs : List (List ℕ)) → is_codeword s.g s.r (flip_bits (first_correcting s u cs) u) ≡ false → first_correcting s u cs ≡ []
unfolding first_correcting
default_none s u [] h = refl
default_none s u (b ∷ cs) h = go (is_codeword s.g s.r (flip_bits b u)) refl (default_none s u cs)
  where
    go : (z : Bool) → is_codeword s.g s.r (flip_bits b u) ≡ z
        → (is_codeword s.g s.r (flip_bits (first_correcting s u cs) u) ≡ false → first_correcting s u cs ≡ [])
        → cond (is_codeword s.g s.r (flip_bits b u)) b (first_correcting s u cs) ≡ []
    go true e rest = absurd (true≢false (sym (ap (λ (c : List ℕ). is_codeword s.g s.r (flip_bits c u)) (ap (λ (y : Bool). cond y b (first_correcting s u cs)) e) ∙ e) ∙ h))
    go false e rest =
        let q : cond (is_codeword s.g s.r (flip_bits b u)) b (first_correcting s u cs) ≡ first_correcting s u cs = ap (λ (y : Bool). cond y b (first_correcting s u cs)) e in
        q ∙ rest (sym (ap (λ (c : List ℕ). is_codeword s.g s.r (flip_bits c u)) q) ∙ h)

none_found : (s : Params) (u : List ℕ) → is_codeword s.g s.r (flip_bits (error_positions s u) u) ≡ false → error_positions s u ≡ []
unfolding error_positions
none_found s u h = default_none s u _ h

module _ (s : Params) (pos : 0 < s.r) (deg : s.g / 2 ^ s.r ≡ 1) (odd : s.g % 2 ≡ 1)
    (u : List ℕ) (hu : Bits u) (long : s.r ≤ length u) (apart : CodeDistance (mirrored s) (length u)) where
  abbrev n : ℕ
  n = length u

  abbrev e : List ℕ
  e = error_positions s (backwards u)

  abbrev e' : List ℕ
  e' = error_positions (mirrored s) u

  back_bits : Bits (backwards u)
  back_bits = backwards-bits u hu

  e_positions : Positions (length u) s.t (error_positions s (backwards u))
  e_positions = subst (λ (z : ℕ). Positions z s.t e) (backwards-length u) (error_positions-positions s (backwards u))

  -- flips in the mirrored code and in the other
  code-mirror : (c : List ℕ) → Positions (length u) s.t c
      → is_codeword (mirrored s).g s.r (flip_bits (mirror_positions (length u) c) u) ≡ is_codeword s.g s.r (flip_bits c (backwards u))
  code-mirror c p =
      let v : List ℕ = flip_bits c (backwards u) in
      let lv : length v ≡ n = flip_bits-length c (backwards u) ∙ backwards-length u in
      let hv : Bits v = flip_bits-bits c (backwards u) back_bits in
      ap (is_codeword (mirrored s).g s.r) (flip_bits-mirror n c p u refl hu)
      ∙ mirror_codeword s.r s.g deg odd pos (backwards v) (backwards-bits v hv) (omega (arith, long, backwards-length v, lv))
      ∙ ap (is_codeword s.g s.r) (backwards-twice v)

  twice-mirror : (c : List ℕ) → Positions (length u) s.t c → mirror_positions (length u) (mirror_positions (length u) c) ≡ c
  unfolding mirror_positions
  twice-mirror c p =
      ap backwards (backwards-map (λ j. n - 1 - j) (map (λ j. n - 1 - j) c)) ∙ backwards-twice (map (λ j. n - 1 - j) (map (λ j. n - 1 - j) c)) ∙ undo c (λ j i. positions-below p j i)
    where
      undo : (c : List ℕ) → ((j : ℕ) → In j c → j < n) → map (λ j. n - 1 - j) (map (λ j. n - 1 - j) c) ≡ c
      undo [] h = refl
      undo (j ∷ c) h = ap₂ (λ (x : ℕ) (l : List ℕ). x ∷ l) (let l = h j (inl refl) in let q : n - 1 - (n - 1 - j) ≡ j = omega (arith, l) in q) (undo c (λ k i. h k (inr i)))

  nothing : mirror_positions (length u) [] ≡ []
  unfolding mirror_positions backwards
  nothing = refl

  pub mirrored-positions : error_positions (mirrored s) u ≡ mirror_positions (length u) (error_positions s (backwards u))
  mirrored-positions = go (is_codeword s.g s.r (flip_bits e (backwards u))) refl
    where
      m : List ℕ
      m = mirror_positions (length u) (error_positions s (backwards u))

      mp : Positions (length u) s.t m
      mp = mirror-positions n e e_positions

      go : (z : Bool) → is_codeword s.g s.r (flip_bits e (backwards u)) ≡ z → e' ≡ m
      go true h =
          let found = error_positions_found (mirrored s) u m mp (code-mirror e e_positions ∙ h) in
          let a : List ℕ = flip_bits e' u in
          let b : List ℕ = flip_bits m u in
          let la : length a ≡ n = flip_bits-length e' u in
          let lb : length b ≡ n = flip_bits-length m u in
          let same : a ≡ b =
          apart a b la lb (flip_bits-bits e' u hu) (flip_bits-bits m u hu) found.1 (code-mirror e e_positions ∙ h)
          (omega (arith, flip_bits-distance e' u, flip_bits-distance m u, found.0.few, mp.few, distance_comm a u, distance_triangle a u b la (sym lb))) in
          flips-once n s.t e' m u refl found.0 mp hu same
      go false h = other (is_codeword (mirrored s).g s.r (flip_bits e' u)) refl
        where
          ep : Positions (length u) s.t e'
          ep = error_positions-positions (mirrored s) u

          -- a choice in the mirrored code would be one in the other
          other : (z : Bool) → is_codeword (mirrored s).g s.r (flip_bits e' u) ≡ z → e' ≡ m
          other true k =
              let c : List ℕ = mirror_positions (length u) e' in
              let cp : Positions (length u) s.t c = mirror-positions n e' ep in
              let good : is_codeword s.g s.r (flip_bits c (backwards u)) ≡ true =
              sym (code-mirror c cp) ∙ ap (λ (x : List ℕ). is_codeword (mirrored s).g s.r (flip_bits x u)) (twice-mirror e' ep) ∙ k in
              let found = error_positions_found s (backwards u) c (subst (λ (z : ℕ). Positions z s.t c) (sym (backwards-length u)) cp) good in
              absurd (true≢false (sym found.1 ∙ h))
          other false k = none_found (mirrored s) u k ∙ sym (ap (mirror_positions n) (none_found s (backwards u) h) ∙ nothing)

-- ---- a word read backwards has each site as often

occurrences-append : (x : Site) (u v : List Site) → occurrences x (u ++ v) ≡ occurrences x u + occurrences x v
unfolding occurrences
occurrences-append x [] v = sym (zero-add (occurrences x v))
occurrences-append x (y ∷ u) v = ap (λ (n : ℕ). cond (same_site x y) 1 0 + n) (occurrences-append x u v) ∙ sym (add_assoc (cond (same_site x y) 1 0) (occurrences x u) (occurrences x v))

occurrences-backwards : (x : Site) (w : List Site) → occurrences x (backwards w) ≡ occurrences x w
unfolding occurrences backwards
occurrences-backwards x [] = refl
occurrences-backwards x (y ∷ w) = let e = occurrences-append x (backwards w) (y ∷ []) in let i = occurrences-backwards x w in omega (arith, e, i)

occurrences_distinct : (w : List Site) → ((x : Site) → Sent x → occurrences x w ≤ 1) → Distinct w
unfolding occurrences
occurrences_distinct [] h = tt
occurrences_distinct (y ∷ w) h = (
  λ sent i. let p = h y sent in let q = occurrences_in y w i in let e = ap (λ (z : Bool). cond z 1 0 + occurrences y w) (same-site y y refl) in omega (arith, p, q, e),
  occurrences_distinct w (λ x sent. let p = h x sent in omega (arith, p)),
)

pub distinct_backwards : (w : List Site) → Distinct w → Distinct (backwards w)
distinct_backwards w d = occurrences_distinct (backwards w) (λ x sent. let p = distinct_occurrences w d x sent in let e = occurrences-backwards x w in omega (arith, p, e))

-- ---- corrections

-- a flip of two sites, in either order
set_comm : (l : List ℕ) (j k a b : ℕ) → j ≢ k → set (set l k b) j a ≡ set (set l j a) k b
set_comm [] j k a b d = refl
set_comm (x ∷ l) zero zero a b d = absurd (d refl)
set_comm (x ∷ l) zero (suc k) a b d = refl
set_comm (x ∷ l) (suc j) zero a b d = refl
set_comm (x ∷ l) (suc j) (suc k) a b d = ap (λ (z : List ℕ). x ∷ z) (set_comm l j k a b (λ e. d (ap suc e)))

turn_comm : (l : List ℕ) (j k : ℕ) → set (set l k (1 - get_or l k 0)) j (1 - get_or (set l k (1 - get_or l k 0)) j 0) ≡ set (set l j (1 - get_or l j 0)) k (1 - get_or (set l j (1 - get_or l j 0)) k 0)
turn_comm l j k = go (ℕ_discrete j k)
  where
    go : Dec (j ≡ k) → set (set l k (1 - get_or l k 0)) j (1 - get_or (set l k (1 - get_or l k 0)) j 0) ≡ set (set l j (1 - get_or l j 0)) k (1 - get_or (set l j (1 - get_or l j 0)) k 0)
    go (yes e) = subst (λ (z : ℕ). set (set l z (1 - get_or l z 0)) j (1 - get_or (set l z (1 - get_or l z 0)) j 0) ≡ set (set l j (1 - get_or l j 0)) z (1 - get_or (set l j (1 - get_or l j 0)) z 0)) e refl
    go (no d) =
        ap (λ (z : ℕ). set (set l k (1 - get_or l k 0)) j (1 - z)) (get_or-set_other l k j (1 - get_or l k 0) 0 d)
        ∙ set_comm l j k (1 - get_or l j 0) (1 - get_or l k 0) d
        ∙ sym (ap (λ (z : ℕ). set (set l j (1 - get_or l j 0)) k (1 - z)) (get_or-set_other l j k (1 - get_or l j 0) 0 (λ e. d (sym e))))

flip_comm : (x y : Site) (f : Frame) → flip x (flip y f) ≡ flip y (flip x f)
flip_comm unsent y f = refl
flip_comm (in_info j) unsent f = refl
flip_comm (in_info j) (in_info k) f = λ i. record { info = turn_comm f.info j k i; red = f.red }
flip_comm (in_info j) (in_red k) f = refl
flip_comm (in_red j) unsent f = refl
flip_comm (in_red j) (in_info k) f = refl
flip_comm (in_red j) (in_red k) f = λ i. record { info = f.info; red = turn_comm f.red j k i }

flip_all-append : (c d : List Site) (f : Frame) → flip_all (c ++ d) f ≡ flip_all c (flip_all d f)
unfolding flip_all
flip_all-append [] d f = refl
flip_all-append (x ∷ c) d f = ap (flip x) (flip_all-append c d f)

flip_all_last : (c : List Site) (x : Site) (f : Frame) → flip_all c (flip x f) ≡ flip x (flip_all c f)
unfolding flip_all
flip_all_last [] x f = refl
flip_all_last (y ∷ c) x f = ap (flip y) (flip_all_last c x f) ∙ flip_comm y x (flip_all c f)

pub flip_all-backwards : (c : List Site) (f : Frame) → flip_all (backwards c) f ≡ flip_all c f
unfolding flip_all backwards
flip_all-backwards [] f = refl
flip_all-backwards (x ∷ c) f = flip_all-append (backwards c) (x ∷ []) f ∙ flip_all_last (backwards c) x f ∙ ap (flip x) (flip_all-backwards c f)

sent-append : (c d : List Site) → all_sent (c ++ d) ≡ cond (all_sent c) (all_sent d) false
sent-append [] d = refl
sent-append (unsent ∷ c) d = refl
sent-append (in_info k ∷ c) d = sent-append c d
sent-append (in_red k ∷ c) d = sent-append c d

sent-backwards : (c : List Site) → all_sent (backwards c) ≡ all_sent c
unfolding backwards
sent-backwards [] = refl
sent-backwards (x ∷ c) = sent-append (backwards c) (x ∷ []) ∙ ap (λ (z : Bool). cond z (all_sent (x ∷ [])) false) (sent-backwards c) ∙ go x (all_sent c) refl
  where
    go : (x : Site) (z : Bool) → all_sent c ≡ z → cond (all_sent c) (all_sent (x ∷ [])) false ≡ all_sent (x ∷ c)
    go unsent true e = ap (λ (b : Bool). cond b false false) e
    go unsent false e = ap (λ (b : Bool). cond b false false) e
    go (in_info k) true e = ap (λ (b : Bool). cond b true false) e ∙ sym e
    go (in_info k) false e = ap (λ (b : Bool). cond b true false) e ∙ sym e
    go (in_red k) true e = ap (λ (b : Bool). cond b true false) e ∙ sym e
    go (in_red k) false e = ap (λ (b : Bool). cond b true false) e ∙ sym e

backwards-cond : (z : Bool) (c : List Site) → cond z (backwards c) [] ≡ backwards (cond z c [])
unfolding backwards
backwards-cond true c = refl
backwards-cond false c = refl

module _ (s : Params) (pos : 0 < s.r) (deg : s.g / 2 ^ s.r ≡ 1) (odd : s.g % 2 ≡ 1)
    (f : Frame) (ff : Received f f) (w : List Site) (single : Distinct w)
    (long : s.r ≤ length w) (apart : CodeDistance (mirrored s) (length w)) where
  abbrev u : List ℕ
  u = read f w

  lu : length (read f w) ≡ length w
  lu = read_length f w

  -- the word read backwards
  read-backwards : read f (backwards w) ≡ backwards (read f w)
  read-backwards = backwards-map (bit_at f) w

  -- position j of the word is position n - 1 - j of the word read backwards
  sites-mirror : (c : List ℕ) → ((j : ℕ) → In j c → j < length w)
      → map (λ j. get_or w j unsent) (mirror_positions (length w) c) ≡ backwards (map (λ j. get_or (backwards w) j unsent) c)
  unfolding mirror_positions
  sites-mirror c below =
      backwards-map (λ j. get_or w j unsent) (map (λ j. length w - 1 - j) c)
      ∙ ap backwards (twice c ∙ map_same (λ j. get_or w (length w - 1 - j) unsent) (λ j. get_or (backwards w) j unsent) c (λ j i. sym (backwards-at w unsent j (below j i))))
    where
      twice : (c : List ℕ) → map (λ j. get_or w j unsent) (map (λ j. length w - 1 - j) c) ≡ map (λ j. get_or w (length w - 1 - j) unsent) c
      twice [] = refl
      twice (j ∷ c) = ap (λ (l : List Site). get_or w (length w - 1 - j) unsent ∷ l) (twice c)

  -- "its column words are .. mended in that code": by the row code's means, on the sites in the other order
  pub mirrored-correction : correction (mirrored s) f w ≡ backwards (correction s f (backwards w))
  mirrored-correction =
      let e : List ℕ = error_positions s (read f (backwards w)) in
      let d : List Site = map (λ j. get_or (backwards w) j unsent) e in
      let positions : error_positions (mirrored s) (read f w) ≡ mirror_positions (length w) e =
      mirrored-positions s pos deg odd (read f w) (read-bits f f ff w) (subst (λ (z : ℕ). s.r ≤ z) (sym lu) long) (subst (CodeDistance (mirrored s)) (sym lu) apart)
      ∙ ap₂ mirror_positions lu (ap (error_positions s) (sym read-backwards)) in
      let below : (j : ℕ) → In j e → j < length w = λ j i. subst (λ (z : ℕ). j < z) (read_length f (backwards w) ∙ backwards-long w) (positions-below (error_positions-positions s (read f (backwards w))) j i) in
      let sites : map (λ j. get_or w j unsent) (error_positions (mirrored s) (read f w)) ≡ backwards d = ap (map (λ j. get_or w j unsent)) positions ∙ sites-mirror e below in
      correction_distinct (mirrored s) f w single
      ∙ ap (λ (c : List Site). cond (all_sent c) c []) sites
      ∙ ap (λ (z : Bool). cond z (backwards d) []) (sent-backwards d) ∙ backwards-cond (all_sent d) d
      ∙ sym (ap backwards (correction_distinct s f (backwards w) (distinct_backwards w single)))

  pub mirrored-flips : flip_all (correction (mirrored s) f w) f ≡ flip_all (correction s f (backwards w)) f
  mirrored-flips = ap (λ (c : List Site). flip_all c f) mirrored-correction ∙ flip_all-backwards (correction s f (backwards w)) f

  pub mirrored-count : length (correction (mirrored s) f w) ≡ length (correction s f (backwards w))
  mirrored-count = ap length mirrored-correction ∙ backwards-long (correction s f (backwards w))
