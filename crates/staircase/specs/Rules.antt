-- Document 01, "Refusing": the rules 1 to 10 of the table, each a verdict.
--   Verdict               accepted, or refused with the table's number and place
--   u then v              the first refusal of two
--   refuse, refuse_first   refused where a test passes; at the first place where it passes
--   size_rule .. bit_rule   the rules
--   design_rules           rules 1 to 3
--   kit_rules              rules 7 to 9 of a kit
--   content_rules          rules 7, 8, 10 and 9 of a kit and the information under it
--   Part                  what is shown
--   kit_work, word_work, kept_work, decoder_work   the working lengths
--   entries, interleavers the lists, from their bytes
-- Assumes nothing.
use Rattle.std.specs.Prelude.{Bool, true, false, not, ◌||◌, List, ℕ, ◌+◌, ◌-◌, ◌*◌, ◌/◌, ◌%◌, ◌^◌, ltb, leb, eqb, get_or, length}
use Rattle.staircase.specs.Lists.{tabulate, first_where}
use Rattle.staircase.specs.Design.{Params, Interleavers, params, word_length, order, least_m, most-m, most-t, most-M, most-col, most-order, most-blocks, most-rounds}
use Rattle.staircase.specs.System.{system_entry, inverse_entry, row_bytes, product, identity}
use Rattle.staircase.specs.Frame.{groups}

-- "A refusal returns a number and a place"
pub data Verdict : Type 0 where
  accepted : Verdict
  refused : ℕ → ℕ → Verdict

-- "Checks run in rising order"
infixr 20 ◌then◌
abbrev pub ◌then◌ : Verdict → Verdict → Verdict
accepted then v = v
refused n p then v = refused n p

-- refused by a rule at a place where a test passes
abbrev pub refuse : Bool → ℕ → ℕ → Verdict
refuse true n p = refused n p
refuse false n p = accepted

-- refused by a rule at the first of n places that passes a test; places count from `base`
unfoldable pub refuse_first : ℕ → ℕ → ℕ → (ℕ → Bool) → Verdict
refuse_first rule base n f = refuse (ltb (first_where n f) n) rule (base + first_where n f)

abbrev pub out_of_range : ℕ → ℕ → ℕ → Bool
out_of_range low high x = ltb x low || ltb high x

-- "1 size: 1, 2, 3 for m, t, M; the first that is out of range"; document 02: "rule 1 gains place 4 for any other" column code
unfoldable pub size_rule : ℕ → ℕ → ℕ → ℕ → Verdict
size_rule m t M col = refuse (out_of_range least_m most-m m) 1 1 then refuse (out_of_range 1 most-t t) 1 2 then refuse (out_of_range 1 most-M M) 1 3
    then refuse (ltb most-col col) 1 4

-- "2 long: n above 2^m - 1"
unfoldable pub long_rule : ℕ → Params → Verdict
long_rule m s = refuse (ltb (2 ^ m - 1) (word_length s)) 2 (word_length s)

-- "3 large: M × r above 4,096"
unfoldable pub large_rule : Params → Verdict
large_rule s = refuse (ltb most-order (order s)) 3 (order s)

-- rules 1 to 3
unfoldable pub design_rules : ℕ → ℕ → ℕ → ℕ → Verdict
design_rules m t M col = size_rule m t M col then long_rule m (params m t M col) then large_rule (params m t M col)

-- "4 count: the number; L .. out of range"
unfoldable pub count_rule : ℕ → Verdict
count_rule L = refuse (out_of_range 1 most-blocks L) 4 L

-- what is shown: a block or a group, by its number
pub data Part : Type 0 where
  block : ℕ → Part
  group : ℕ → Part

-- "4 count: .. else the block or group to be shown, out of range"
abbrev pub part_rule : ℕ → Part → Verdict
part_rule L (block b) = refuse (out_of_range 1 L b) 4 b
part_rule L (group i) = refuse (out_of_range 1 (groups L) i) 4 i

-- "5 rounds: the number; above 64"
unfoldable pub rounds_rule : ℕ → Verdict
rounds_rule k = refuse (ltb most-rounds k) 5 k

-- "6 length: 1 self, 2 parity, 3 inverse, 4 information, 5 redundancy, 6 working; first slice of a wrong length"
abbrev pub length_rule : ℕ → ℕ → ℕ → Verdict
length_rule place have want = refuse (not (eqb have want)) 6 place

-- "A list is two bytes an entry"
unfoldable pub list_lengths : Params → List ℕ → List ℕ → Verdict
list_lengths s self parity = length_rule 1 (length self) (2 * order s) then length_rule 2 (length parity) (2 * order s)

-- "The inverse has M × r rows of (M × r)/8 bytes rounded up"
unfoldable pub kit_lengths : Params → List ℕ → List ℕ → List ℕ → Verdict
kit_lengths s self parity w = list_lengths s self parity then length_rule 3 (length w) (order s * row_bytes (order s))

-- L blocks of M × M bits, and G groups of Y and P
abbrev pub info_length : Params → ℕ → ℕ
info_length s L = L * (s.M * s.M)

abbrev pub red_length : Params → ℕ → ℕ
red_length s L = groups L * (2 * order s)

unfoldable pub frame_lengths : Params → ℕ → List ℕ → List ℕ → Verdict
frame_lengths s L info red = length_rule 4 (length info) (info_length s L) then length_rule 5 (length red) (red_length s L)

-- "The team fixes working lengths in docs/": docs/WORKING.md. Of the kit checker and the encoder: a matrix packed like the inverse
unfoldable pub kit_work : Params → ℕ
kit_work s = order s * row_bytes (order s)

-- of the word checker: a byte an entry of a list
unfoldable pub word_work : Params → ℕ
word_work s = order s

-- of what the decoder keeps: four bytes for each of the 2 M words of each group, and a mark for each bit of the copy, eight in a byte
unfoldable pub kept_work : Params → ℕ → ℕ
kept_work s L = 8 * (groups L * s.M) + (info_length s L + red_length s L + 7) / 8

-- of the decoder
unfoldable pub decoder_work : Params → ℕ → ℕ
decoder_work s L = word_work s + kept_work s L

-- "two bytes an entry, low byte first"
unfoldable pub entries : ℕ → List ℕ → List ℕ
entries n b = tabulate n (λ p. get_or b (2 * p) 0 + 256 * get_or b (2 * p + 1) 0)

abbrev pub interleavers : Params → List ℕ → List ℕ → Interleavers
interleavers s self parity = record { self = entries (order s) self; parity = entries (order s) parity }

-- entry p of a list of n is "too large or seen earlier in its list"
unfoldable pub bad_entry : ℕ → List ℕ → ℕ → Bool
bad_entry n l p = leb n (get_or l p 0) || ltb (first_where p (λ q. eqb (get_or l q 0) (get_or l p 0))) p

-- "7 list: the entry's position in its list; for parity plus M × r"
unfoldable pub list_rule : Params → Interleavers → Verdict
list_rule s l = refuse_first 7 0 (order s) (bad_entry (order s) l.self) then refuse_first 7 (order s) (order s) (bad_entry (order s) l.parity)

-- row i of a packed matrix of n columns has a spare bit of 1
unfoldable pub spare_row : List ℕ → ℕ → ℕ → Bool
spare_row w n i =
    let spare : ℕ = 8 * row_bytes n - n in
    ltb (first_where spare (λ j. eqb (inverse_entry w n i (n + j)) 1)) spare

-- "8 spare: row; first row of W with a spare bit of 1"
unfoldable pub spare_rule : Params → List ℕ → Verdict
spare_rule s w = refuse_first 8 0 (order s) (spare_row w (order s))

-- entry e, row by row, of a product of n × n matrices is not the identity's
unfoldable pub wrong_entry : ℕ → (ℕ → ℕ → ℕ) → (ℕ → ℕ → ℕ) → ℕ → Bool
wrong_entry n a b e = not (eqb (product n a b (e / n) (e % n)) (identity (e / n) (e % n)))

-- "9 inverse: row × M × r + column; first wrong entry of A W"; W A is then the identity too (`either_order` in proofs/Square.antt)
unfoldable pub inverse_rule : Params → Interleavers → List ℕ → Verdict
inverse_rule s l w =
    let n : ℕ = order s in
    refuse_first 9 0 (n * n) (wrong_entry n (system_entry s l) (inverse_entry w n))

-- rules 7 to 9: "It passes exactly when both lists are permutations, spare bits of W are 0, A W is the identity and W A is the identity"
unfoldable pub kit_rules : Params → Interleavers → List ℕ → Verdict
kit_rules s l w = list_rule s l then spare_rule s w then inverse_rule s l w

-- "10 bit: byte; .. first byte above 1"; places count from `base`
unfoldable pub bit_rule : ℕ → List ℕ → Verdict
bit_rule base b = refuse_first 10 base (length b) (λ k. ltb 1 (get_or b k 0))

-- "for redundancy plus the information length"
unfoldable pub frame_bits : List ℕ → List ℕ → Verdict
frame_bits info red = bit_rule 0 info then bit_rule (length info) red

-- document 02: "Rule 10 now comes before rule 9", where a call has both
unfoldable pub content_rules : Params → Interleavers → List ℕ → List ℕ → Verdict
content_rules s l w info = list_rule s l then spare_rule s w then bit_rule 0 info then inverse_rule s l w
