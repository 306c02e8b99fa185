-- The words after a program's name, and what they ask for: `[-k KIT] [FILE]`, or one of `--help` and `--version` alone. A program that takes no kit has no `-k`.
--   help_word, version_word, kit_word   the options
--   same_text                         whether two texts are the same
--   is_option                         a word that begins with a minus sign
--   one_word, kit_words                what one word asks for, and what more ask for of which the first is `-k`, by their number and the third
--   request_of                        what the words ask for; a word is named by its number, from 1, and none stands for kit.txt and for standard input
--   Shows                            how many words there are, and the two that tell what they ask for
-- Assumes nothing.
use Rattle.std.specs.Prelude.{◌≡◌, Bool, true, false, cond, List, [], ◌∷◌, ℕ, eqb, length, get_or, None, Some}
use Rattle.program_words.specs.declared.Request.{Request}
use Rattle.program_words.specs.declared.Request.TheVariants.{Run, Help, Version, Wrong}

-- "`--help`", "`--version`", "`-k`"
abbrev pub help_word : List ℕ
help_word = 45 ∷ 45 ∷ 104 ∷ 101 ∷ 108 ∷ 112 ∷ []

abbrev pub version_word : List ℕ
version_word = 45 ∷ 45 ∷ 118 ∷ 101 ∷ 114 ∷ 115 ∷ 105 ∷ 111 ∷ 110 ∷ []

abbrev pub kit_word : List ℕ
kit_word = 45 ∷ 107 ∷ []

unfoldable pub same_text : List ℕ → List ℕ → Bool
same_text [] [] = true
same_text [] (y ∷ ys) = false
same_text (x ∷ xs) [] = false
same_text (x ∷ xs) (y ∷ ys) = cond (eqb x y) (same_text xs ys) false

unfoldable pub is_option : List ℕ → Bool
is_option word = eqb (get_or word 0 0) 45

-- one word: an option, or FILE
unfoldable pub one_word : List ℕ → Request
one_word word = cond (same_text word help_word) Help (cond (same_text word version_word) Version (cond (is_option word) Wrong (Run None (Some 1))))

-- the name of a kit, after `-k`, and then FILE or nothing
unfoldable pub kit_words : ℕ → List ℕ → Request
kit_words count third = cond (eqb count 2) (Run (Some 2) None) (cond (eqb count 3) (cond (is_option third) Wrong (Run (Some 2) (Some 3))) Wrong)

unfoldable pub request_of : Bool → List (List ℕ) → Request
request_of takes_kit [] = Run None None
request_of takes_kit (word ∷ []) = one_word word
request_of false (option ∷ kit ∷ words) = Wrong
request_of true (option ∷ kit ∷ []) = cond (same_text option kit_word) (Run (Some 2) None) Wrong
request_of true (option ∷ kit ∷ file ∷ []) = cond (same_text option kit_word) (cond (is_option file) Wrong (Run (Some 2) (Some 3))) Wrong
request_of true (option ∷ kit ∷ file ∷ more ∷ words) = Wrong

pub record Shows (words : List (List ℕ)) (count : ℕ) (first third : List ℕ) : Type 0 where
  pub count-is : count ≡ length words
  pub first-is : first ≡ get_or words 0 []
  pub third-is : third ≡ get_or words 2 []
