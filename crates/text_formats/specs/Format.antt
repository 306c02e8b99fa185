-- Text formats: what the texts of a format are, the longest start that a text shares with them, and a scan that decides both.
--   dec                      a number in decimal digits
--   Item, Shows              what a place of a text holds, and the bytes that show it
--   Format, Renders, Text    a format, its texts with their values
--   Longest                  "length of the longest start that some .. text shares" (rules 11 and 12)
--   scan                     reads a text by its format: the values, or the place where it goes wrong
--   Clear                    a format that one byte ahead decides; of these proofs/Scan.antt shows that the scan is right
-- A byte is a number below 256. `get_or s 0 256` is the first byte of s, and 256, which is no byte, where s is empty.
-- Assumes nothing: these are definitions.
use Rattle.std.specs.Prelude.{ℕ, zero, suc, ◌+◌, ◌-◌, ◌*◌, ◌/◌, ◌%◌, ◌≤◌, ◌<◌, ◌≡◌, ◌⊎◌, Bool, false, cond, List, [], ◌∷◌, ◌++◌, length, get_or, take, drop, leb, ltb, eqb}

-- The last k decimal digits of a number, with no leading zero.
unfoldable pub digits_of : ℕ → ℕ → List ℕ
digits_of zero v = []
digits_of (suc k) v = cond (ltb v 10) ((48 + v) ∷ []) (digits_of k (v / 10) ++ ((48 + v % 10) ∷ []))

-- "Decimal numbers have .. no leading zero": a number in decimal digits. Twenty are enough for any number of 64 bits.
unfoldable pub dec : ℕ → List ℕ
dec v = digits_of 20 v

-- What a place of a text holds: a fixed byte, a decimal number of one to four digits without a leading zero, or a bit.
pub data Item : Type 0 where
  byte : ℕ → Item
  num : Item
  bit : Item

-- The bytes p show the item with the values ws (none for a fixed byte, one for a number or a bit).
abbrev pub Shows : Item → List ℕ → List ℕ → Type 0
Shows (byte b) ws p = (ws ≡ []) × (p ≡ b ∷ [])
Shows num ws p = (v : ℕ) × (v < 10000) × (ws ≡ v ∷ []) × (p ≡ dec v)
Shows bit ws p = (v : ℕ) × (v < 2) × (ws ≡ v ∷ []) × (p ≡ (48 + v) ∷ [])

-- A format: items, places where the text may end, each with a mark, and places where one byte decides how the text goes on.
infixr 67 ◌▷◌
pub data Format : Type 0 where
  end : ℕ → Format
  ◌▷◌ : Item → Format → Format
  opt : ℕ → Format → Format
  fork : ℕ → Format → Format → Format

-- s is a text of the format, its end at the mark L, with the values vs.
abbrev pub Renders : Format → ℕ → List ℕ → List ℕ → Type 0
Renders (end l) L vs s = (L ≡ l) × (vs ≡ []) × (s ≡ [])
Renders (i ▷ F) L vs s =
    (ws : List ℕ) × (p : List ℕ) × (us : List ℕ) × (t : List ℕ) × Shows i ws p × (vs ≡ ws ++ us) × (s ≡ p ++ t) × Renders F L us t
Renders (opt l F) L vs s = ((L ≡ l) × (vs ≡ []) × (s ≡ [])) ⊎ Renders F L vs s
Renders (fork b F G) L vs s = ((t : List ℕ) × (s ≡ b ∷ t) × Renders F L vs t) ⊎ Renders G L vs s

abbrev pub Text : Format → List ℕ → Type 0
Text F s = (L : ℕ) × (vs : List ℕ) × Renders F L vs s

-- Of any set T of texts: some text of T starts with the first k bytes of s.
abbrev pub Shares : (List ℕ → Type 0) → List ℕ → ℕ → Type 0
Shares T s k = (k ≤ length s) × ((u : List ℕ) × T (take k s ++ u))

-- k is the length of the longest start that s shares with some text of T.
pub record Longest (T : List ℕ → Type 0) (s : List ℕ) (k : ℕ) : Type 0 where
  pub shared : Shares T s k
  pub most : (j : ℕ) → Shares T s j → j ≤ k

-- ---- the scan

-- What stands at the front of a text: not the item, or the item with these values in so many bytes.
pub data Piece : Type 0 where
  none : Piece
  got : List ℕ → ℕ → Piece

unfoldable pub is_digit : ℕ → Bool
is_digit c = cond (leb 48 c) (leb c 57) false

-- How many digits, up to k, stand at the front.
unfoldable pub more : ℕ → List ℕ → ℕ
more zero s = 0
more (suc k) [] = 0
more (suc k) (c ∷ t) = cond (is_digit c) (suc (more k t)) 0

-- The value of the first n bytes as decimal digits.
abbrev pub value : ℕ → List ℕ → ℕ
value zero s = 0
value (suc n) s = value n s * 10 + (get_or s n 256 - 48)

-- The length of the number at the front: 0 where there is none, 1 where it starts with 0.
unfoldable pub num_len : List ℕ → ℕ
num_len [] = 0
num_len (c ∷ t) = cond (is_digit c) (cond (eqb c 48) 1 (suc (more 3 t))) 0

abbrev pub num_piece : ℕ → List ℕ → Piece
num_piece zero s = none
num_piece (suc n) s = got (value (suc n) s ∷ []) (suc n)

unfoldable pub item : Item → List ℕ → Piece
item (byte b) s = cond (eqb (get_or s 0 256) b) (got [] 1) none
item num s = num_piece (num_len s) s
item bit s = cond (eqb (get_or s 0 256) 48) (got (0 ∷ []) 1) (cond (eqb (get_or s 0 256) 49) (got (1 ∷ []) 1) none)

-- What a scan finds: the place where it goes wrong, or the mark of the end and the values.
pub data Scan : Type 0 where
  refused : ℕ → Scan
  read : ℕ → List ℕ → Scan

-- What is found after n bytes with the values ws.
abbrev pub after : List ℕ → ℕ → Scan → Scan
after ws n (refused k) = refused (n + k)
after ws n (read l vs) = read l (ws ++ vs)

abbrev pub step : Piece → (ℕ → Scan) → Scan
step none k = refused 0
step (got ws n) k = after ws n (k n)

abbrev pub scan : Format → List ℕ → Scan
scan (end l) [] = read l []
scan (end l) (c ∷ t) = refused 0
scan (i ▷ F) s = step (item i s) (λ n. scan F (drop n s))
scan (opt l F) [] = read l []
scan (opt l F) (c ∷ t) = scan F (c ∷ t)
scan (fork b F G) s = cond (eqb (get_or s 0 256) b) (after [] 1 (scan F (drop 1 s))) (scan G s)

-- No text of F starts with a byte of the class p.
abbrev pub Avoids : (ℕ → Bool) → Format → Type 0
Avoids p (end l) = Unit {0}
Avoids p (byte b ▷ F) = p b ≡ false
Avoids p (num ▷ F) = (d : ℕ) → d < 10 → p (48 + d) ≡ false
Avoids p (bit ▷ F) = (d : ℕ) → d < 2 → p (48 + d) ≡ false
Avoids p (opt l F) = Avoids p F
Avoids p (fork b F G) = (p b ≡ false) × Avoids p G

-- No text of F is empty.
abbrev pub Begins : Format → Type 0
Begins (end l) = ⊥
Begins (i ▷ F) = Unit {0}
Begins (opt l F) = ⊥
Begins (fork b F G) = Begins G

-- A format that one byte ahead decides: a number is followed by no digit, what may end or go on goes on with a byte, and the two ways of a
-- fork start with different bytes.
abbrev pub Clear : Format → Type 0
Clear (end l) = Unit {0}
Clear (byte b ▷ F) = (b < 256) × Clear F
Clear (num ▷ F) = Avoids is_digit F × Clear F
Clear (bit ▷ F) = Clear F
Clear (opt l F) = Begins F × Clear F
Clear (fork b F G) = (b < 256) × Avoids (eqb b) G × Clear F × Clear G
