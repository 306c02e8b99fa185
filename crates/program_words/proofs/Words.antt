-- The words after a program's name, by the tests that code makes.
--   same_lengths                                     texts of different lengths
--   slices_same                                      `==` compares two texts
--   first_dash                                       a word's first letter
--   word-help .. word-file                           one word
--   kit-alone .. kit-file                            behind `-k`
--   words-none .. words-other                        all words
-- Assumes nothing.
use mathlib.Core.Path.{◌≡◌, refl, sym, ap, ◌∙◌}
use mathlib.Core.Bool.{Bool, true, false, cond, ◌&&◌}
use mathlib.Core.List.{List, [], ◌∷◌}
use Prim.Native.Nat.{ℕ, suc}
use native.Mathlib.Nat.{suc-ne-zero, suc_inj}
use borrow.Author.Tests.{eq-eqb, ne_eqb}
use lib.Dec.{eqb}
use lib.Pointwise.{pointwise}
use Rattle.std.specs.Prelude.{Option, None, Some, slice_get}
use Rattle.std.specs.Option.{option_copied, option_eq}
use denote.Bor.{Bor}
use lib.ListN.{length}
use Rattle.program_words.specs.declared.Request.TheVariants.{Run, Help, Version, Wrong}
use Rattle.program_words.specs.Words.{help_word, version_word, kit_word, same_text, is_option, one_word, kit_words, request_of, Shows}

-- ---- two texts

pub same_lengths : (a b : List ℕ) → (length a ≡ length b → ⊥) → same_text a b ≡ false
unfolding same_text
same_lengths [] [] h = absurd (h refl)
same_lengths [] (y ∷ ys) h = refl
same_lengths (x ∷ xs) [] h = refl
same_lengths (x ∷ xs) (y ∷ ys) h = unequal (eqb x y) (same_text xs ys) (same_lengths xs ys (λ e. h (ap suc e)))
  where
    unequal : (c d : Bool) → d ≡ false → cond c d false ≡ false
    unequal true d e = e
    unequal false d e = refl

pointwise_same : (a b : List ℕ) → pointwise eqb a b ≡ same_text a b
unfolding same_text
pointwise_same [] [] = refl
pointwise_same [] (y ∷ ys) = refl
pointwise_same (x ∷ xs) [] = refl
pointwise_same (x ∷ xs) (y ∷ ys) = rw (pointwise_same xs ys) (both (eqb x y) (same_text xs ys))
  where
    both : (c d : Bool) → (c && d) ≡ cond c d false
    both true d = refl
    both false d = refl

pub slices_same : (a : List ℕ) {r : Bool} {b k : List ℕ} → r ≡ pointwise eqb a b → b ≡ k → r ≡ same_text a k
slices_same a {k = k} e f = rw f at e ∙ pointwise_same a k

-- ---- one word

pub first_dash : (word : List ℕ) (o : Option (Bor ℕ)) (dash : Bor ℕ) → dash.now ≡ 45 → option_copied o ≡ slice_get word 0
    → option_eq (λ (x y : Bor ℕ). eqb x.now y.now) o (Some dash) ≡ is_option word
unfolding is_option
first_dash [] None dash d e = refl
first_dash [] (Some x) dash d e = cc
first_dash (w ∷ ws) None dash d e = cc
first_dash (w ∷ ws) (Some x) dash d e = let f : x.now ≡ w = cc in rw (f, d)

pub word_help : (word : List ℕ) → true ≡ same_text word help_word → Help ≡ one_word word
unfolding one_word
word_help word e = rw (sym e)

pub word-version : (word : List ℕ) → false ≡ same_text word help_word → true ≡ same_text word version_word → Version ≡ one_word word
unfolding one_word
word-version word e f = rw (sym e, sym f)

module _ (word : List ℕ) (help : false ≡ same_text word help_word) (version : false ≡ same_text word version_word) where
  pub word_option : true ≡ is_option word → Wrong ≡ one_word word
  unfolding one_word
  word_option e = rw (sym help, sym version, sym e)

  pub word_file : false ≡ is_option word → Run None (Some 1) ≡ one_word word
  unfolding one_word
  word_file e = rw (sym help, sym version, sym e)

-- ---- behind `-k`

pub kit-alone : (count : ℕ) (third : List ℕ) → count ≡ 2 → Run (Some 2) None ≡ kit_words count third
unfolding kit_words
kit-alone count third e = rw (eq-eqb count 2 e)

module _ (count : ℕ) (third : List ℕ) (more : count ≡ 2 → ⊥) where
  pub kit_many : (count ≡ 3 → ⊥) → Wrong ≡ kit_words count third
  unfolding kit_words
  kit_many h = rw (ne_eqb count 2 more, ne_eqb count 3 h)

  pub kit_option : count ≡ 3 → true ≡ is_option third → Wrong ≡ kit_words count third
  unfolding kit_words
  kit_option e f = rw (ne_eqb count 2 more, eq-eqb count 3 e, sym f)

  pub kit_file : count ≡ 3 → false ≡ is_option third → Run (Some 2) (Some 3) ≡ kit_words count third
  unfolding kit_words
  kit_file e f = rw (ne_eqb count 2 more, eq-eqb count 3 e, sym f)

-- ---- all words

module _ (count : ℕ) (first third : List ℕ) where
  pub words-none : (kit : Bool) → count ≡ 0 → (words : List (List ℕ)) → Shows words count first third → Run None None ≡ request_of kit words
  unfolding request_of
  words-none kit e [] s = refl
  words-none kit e (w ∷ ws) s = absurd (suc-ne-zero (length ws) (sym s.count-is ∙ e))

  pub words_one : (kit : Bool) → count ≡ 1 → (words : List (List ℕ)) → Shows words count first third → one_word first ≡ request_of kit words
  unfolding request_of
  words_one kit e [] s = absurd (suc-ne-zero 0 (sym e ∙ s.count-is))
  words_one kit e (w ∷ []) s = ap one_word s.first-is
  words_one kit e (w ∷ v ∷ ws) s = absurd (suc-ne-zero (length ws) (suc_inj (sym s.count-is ∙ e)))

  first_word : {b : Bool} (w : List ℕ) {ws : List (List ℕ)} → b ≡ same_text first kit_word → Shows (w ∷ ws) count first third → b ≡ same_text w kit_word
  first_word w e s = e ∙ ap (λ (f : List ℕ). same_text f kit_word) s.first-is

  not_two : (n : ℕ) → count ≡ suc (suc (suc (suc n))) → count ≡ 2 → ⊥
  not_two n e f = suc-ne-zero (suc n) (suc_inj (suc_inj (sym e ∙ f)))

  not_three : (n : ℕ) → count ≡ suc (suc (suc (suc n))) → count ≡ 3 → ⊥
  not_three n e f = suc-ne-zero n (suc_inj (suc_inj (suc_inj (sym e ∙ f))))

  module _ (kit : Bool) (some : count ≡ 0 → ⊥) (more : count ≡ 1 → ⊥) where
    pub words_no_kit : kit ≡ false → (words : List (List ℕ)) → Shows words count first third → Wrong ≡ request_of kit words
    unfolding request_of
    words_no_kit k [] s = absurd (some s.count-is)
    words_no_kit k (w ∷ []) s = absurd (more s.count-is)
    words_no_kit k (w ∷ v ∷ ws) s = rw k

    module _ (k : kit ≡ true) where
      pub words-kit : true ≡ same_text first kit_word → (words : List (List ℕ)) → Shows words count first third → kit_words count third ≡ request_of kit words
      unfolding request_of kit_words
      words-kit e [] s = absurd (some s.count-is)
      words-kit e (w ∷ []) s = absurd (more s.count-is)
      words-kit e (w ∷ v ∷ []) s = rw (k, s.count-is, sym (first_word w e s))
      words-kit e (w ∷ v ∷ u ∷ []) s = rw (k, s.count-is, s.third-is, sym (first_word w e s))
      words-kit e (w ∷ v ∷ u ∷ x ∷ ws) s = rw k (sym (kit_many count third (not_two (length ws) s.count-is) (not_three (length ws) s.count-is)))

      pub words_other : false ≡ same_text first kit_word → (words : List (List ℕ)) → Shows words count first third → Wrong ≡ request_of kit words
      unfolding request_of
      words_other e [] s = absurd (some s.count-is)
      words_other e (w ∷ []) s = absurd (more s.count-is)
      words_other e (w ∷ v ∷ []) s = rw (k, sym (first_word w e s))
      words_other e (w ∷ v ∷ u ∷ []) s = rw (k, sym (first_word w e s))
      words_other e (w ∷ v ∷ u ∷ x ∷ ws) s = rw k
