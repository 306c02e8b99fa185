-- Document 01: "The reader takes two lines (11, where any numbers of one to four digits will do), then 1 to 3, 6, then the rest (11); it doesn't
-- judge lists."
--   head_number, head_rule          the numbers of the second line, and rule 11 for the two lines
--   kit_params, Passing            the sizes that the numbers make, and the designs that rules 1 to 3 let through
--   body_scan, body_rule            the scan of the rest, and rule 11 for it
--   scan_kit                       the scan: no slices are lent to it, so it has no rule 6
--   firsts, seconds, packs, pack, pack_rows   the bytes of a list and of an inverse, of the values that a text shows
--   self_of, parity_of, inverse_of   the lists and the inverse that a text shows
--   read_kit_call                   the reader: its verdict, and what it leaves in the three lent slices
-- Assumes nothing.
use Rattle.std.specs.Prelude.{ℕ, zero, suc, ◌+◌, ◌*◌, ◌/◌, ◌%◌, ◌≡◌, List, [], ◌∷◌, ◌++◌, get_or, take, drop}
use Rattle.text_formats.specs.Format.{Scan}
use Rattle.text_formats.specs.Items.{walk, values, scan_at}
use Rattle.staircase.specs.Design.{Params, params, order}
use Rattle.staircase.specs.System.{row_bytes}
use Rattle.staircase.specs.Rules.{Verdict, ◌then◌, design_rules, kit_lengths}
use Rattle.staircase.specs.Rules.Verdict.{accepted}
use Rattle.text.specs.Rules.{walk_rule, scan_rule, passed, values_of, kept}
use Rattle.text.specs.KitText.{head_items, rest_format}

-- ---- the two lines

-- number i of the second line; 0 where there is none
unfoldable pub head_number : List ℕ → ℕ → ℕ
head_number s i = get_or (values (walk head_items s 0)) i 0

-- "The reader takes two lines (11 ..)"
unfoldable pub head_rule : List ℕ → Verdict
head_rule s = walk_rule 11 (walk head_items s 0)

abbrev pub kit_params : List ℕ → Params
kit_params s = params (head_number s 0) (head_number s 1) (head_number s 2) 0

-- the designs that rules 1 to 3 let through
abbrev pub Passing : ℕ → ℕ → ℕ → Type 0
Passing m t M = design_rules m t M 0 ≡ accepted

-- the rest, read from the position after the two lines on
unfoldable pub body_scan : List ℕ → Scan
body_scan s = scan_at (rest_format (order (kit_params s))) s (passed (walk head_items s 0))

-- "then the rest (11)"
unfoldable pub body_rule : List ℕ → Verdict
body_rule s = scan_rule 11 (body_scan s)

unfoldable pub scan_kit : List ℕ → Verdict
scan_kit s = head_rule s then design_rules (head_number s 0) (head_number s 1) (head_number s 2) 0 then body_rule s

-- ---- the bytes of a list and of an inverse

-- the first and the second values of pairs
unfoldable pub firsts : List ℕ → List ℕ
firsts [] = []
firsts (a ∷ []) = a ∷ []
firsts (a ∷ b ∷ vs) = a ∷ firsts vs

unfoldable pub seconds : List ℕ → List ℕ
seconds [] = []
seconds (a ∷ []) = []
seconds (a ∷ b ∷ vs) = b ∷ seconds vs

-- "A list is two bytes an entry, low byte first."
unfoldable pub packs : List ℕ → List ℕ
packs [] = []
packs (v ∷ vs) = (v % 256) ∷ (v / 256 % 256) ∷ packs vs

-- the number of bits, the first the lowest
unfoldable pub binary : List ℕ → ℕ
binary [] = 0
binary (v ∷ vs) = v + 2 * binary vs

-- "column j is bit j mod 8 (value 2^(j mod 8)) of byte j/8 rounded down": b bytes of bits, and 0 past their end
unfoldable pub pack : ℕ → List ℕ → List ℕ
pack zero vs = []
pack (suc b) vs = binary (take 8 vs) ∷ pack b (drop 8 vs)

-- k rows of n bits
unfoldable pub pack_rows : ℕ → ℕ → List ℕ → List ℕ
pack_rows n zero vs = []
pack_rows n (suc k) vs = pack (row_bytes n) (take n vs) ++ pack_rows n k (drop n vs)

-- ---- what a text shows, and the reader

-- The rest shows the lists' entries in pairs, and then the inverse row by row.
unfoldable pub self_of : List ℕ → List ℕ
self_of s = packs (firsts (take (2 * order (kit_params s)) (values_of (body_scan s))))

unfoldable pub parity_of : List ℕ → List ℕ
parity_of s = packs (seconds (take (2 * order (kit_params s)) (values_of (body_scan s))))

unfoldable pub inverse_of : List ℕ → List ℕ
inverse_of s = pack_rows (order (kit_params s)) (order (kit_params s)) (drop (2 * order (kit_params s)) (values_of (body_scan s)))

unfoldable pub read_verdict : List ℕ → List ℕ → List ℕ → List ℕ → Verdict
read_verdict s self parity w =
    head_rule s then design_rules (head_number s 0) (head_number s 1) (head_number s 2) 0 then kit_lengths (kit_params s) self parity w then body_rule s

pub record KitRead : Type 0 where
  pub verdict : Verdict
  pub self : List ℕ
  pub parity : List ℕ
  pub inverse : List ℕ

unfoldable pub read_kit_call : List ℕ → List ℕ → List ℕ → List ℕ → KitRead
read_kit_call s self parity w =
    let v : Verdict = read_verdict s self parity w in
    record { verdict = v; self = kept v (self_of s) self; parity = kept v (parity_of s) parity; inverse = kept v (inverse_of s) w }
