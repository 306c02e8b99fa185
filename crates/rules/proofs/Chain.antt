-- Rules one after another, and rules 4 to 6 of each kind of call as those of the crate `staircase`.
--   both_then                     the first refusal of two
--   then_assoc, then_where        of three; a rest that counts only where what comes before it accepts
--   sizes_where, frame_where, due_where   rules 4 to 6, by lengths that are due where the number of blocks is allowed
--   kit_lengths_rule              rule 6 of the kit checker, and then others
--   make_lengths_rule             rule 6 of the maker of a kit's inverse, and then others
--   received-rules, decoder-rules  rules 4 to 6 of calls with a kit's lists alone, and then others
--   batch_where, batch-rules      rules 4, 17 and 6, by lengths that are due where the numbers are allowed; of calls with a kit, and then others
--   lists-alone, kit-alone, frame-alone   rule 6 for some of the slices
--   content-rules, kit-rules      rules 7 to 10 of calls with a kit, and of the kit checker
--   received_bytes                rules 7 and 10 of calls with its lists alone
--   lists-and-spare               rules 7 and 8 of calls without a frame
-- Assumes nothing.
use mathlib.Core.Path.{◌≡◌, refl, sym, ap, ap₂, ◌∙◌}
use mathlib.Core.List.{List, []}
use Prim.Native.Nat.{ℕ, ◌*◌, ◌≤◌}
use lib.ListN.{length}
use Rattle.staircase.specs.Design.{Params, Interleavers, order, most-blocks}
use Rattle.staircase.specs.Lists.{first_where}
use Rattle.staircase.specs.System.{row_bytes}
use Rattle.staircase.specs.Rules.{Verdict, ◌then◌, count_rule, rounds_rule, length_rule, info_length, red_length, list_lengths, kit_lengths, frame_lengths, kit_work, word_work, decoder_work, refuse_first, list_rule, spare_row, spare_rule, inverse_rule, kit_rules, bit_rule, frame_bits, content_rules}
use Rattle.staircase.specs.Rules.Verdict.{accepted, refused}
use Rattle.staircase.specs.Maker.{make_work}
use Rattle.staircase.specs.Batch.{most-frames, batch_rule, batch_lengths}
use Rattle.staircase.proofs.Rules.{count_limits, length-accepted, refuse_first-accepted}
use Rattle.staircase.proofs.Batch.{batch_limits}
use Rattle.rules.specs.declared.lengths.Lengths.{Lengths}
use Rattle.rules.specs.Bytes.{byte_rules}
use Rattle.rules.proofs.Spare.{empty-spare}
use Rattle.rules.specs.Lengths.{lengths_of, lengths_rule, kit_due, make_due, lists_with, lists_due, decoder_due, frame_due, batch_due, size_rules, batch_size_rules, frame_rules, batch_rules}

pub both_then : {x y z u v : Verdict} → z ≡ (x then y) → x ≡ u → y ≡ v → z ≡ (u then v)
both_then h e f = h ∙ ap₂ (λ (p q : Verdict). p then q) e f

pub then_assoc : (u v w : Verdict) → ((u then v) then w) ≡ (u then v then w)
then_assoc accepted v w = refl
then_assoc (refused n p) v w = refl

pub then_none : (u : Verdict) → (u then accepted) ≡ u
then_none accepted = refl
then_none (refused n p) = refl

pub then_where : (x u v : Verdict) → (x ≡ accepted → u ≡ v) → (x then u) ≡ (x then v)
then_where accepted u v h = h refl
then_where (refused n p) u v h = refl

pub sizes_where : (L k : ℕ) (have due other : Lengths) → (L ≤ most-blocks → due ≡ other) → size_rules L k have due ≡ size_rules L k have other
unfolding size_rules
sizes_where L k have due other same =
    then_where (count_rule L) (rounds_rule k then lengths_rule have due) (rounds_rule k then lengths_rule have other)
    (λ e. ap (λ (x : Lengths). rounds_rule k then lengths_rule have x) (same (count_limits L e).1))

module _ (s : Params) (L k : ℕ) (have due : Lengths) where
  pub frame_where : {x : Lengths} → (L ≤ most-blocks → x ≡ frame_due s L due) → size_rules L k have x ≡ frame_rules s L k have due
  unfolding frame_rules
  frame_where {x} same = sizes_where L k have x (frame_due s L due) same

  pub due_where : (other : Lengths) → (L ≤ most-blocks → due ≡ other) → frame_rules s L k have due ≡ frame_rules s L k have other
  unfolding frame_rules
  due_where other same = sizes_where L k have (frame_due s L due) (frame_due s L other) (λ h. ap (frame_due s L) (same h))

pub batch_where : (s : Params) (L n : ℕ) (have due : Lengths) {x : Lengths} → (L ≤ most-blocks → n ≤ most-frames → x ≡ batch_due s L n due)
    → batch_size_rules L n have x ≡ batch_rules s L n have due
unfolding batch_rules batch_size_rules
batch_where s L n have due {x} same =
    then_where (count_rule L) (batch_rule n then lengths_rule have x) (batch_rule n then lengths_rule have (batch_due s L n due))
    (λ e. then_where (batch_rule n) (lengths_rule have x) (lengths_rule have (batch_due s L n due))
    (λ f. ap (lengths_rule have) (same (count_limits L e).1 (batch_limits n f).1)))

-- a to f flat and then v, and as kit, frame and working bytes and then v
grouped : (a b c d e f v : Verdict) → ((a then b then c then d then e then f) then v) ≡ (((a then b) then c) then (d then e) then f then v)
grouped accepted accepted accepted accepted accepted f v = refl
grouped accepted accepted accepted accepted (refused n p) f v = refl
grouped accepted accepted accepted (refused n p) e f v = refl
grouped accepted accepted (refused n p) d e f v = refl
grouped accepted (refused n p) c d e f v = refl
grouped (refused n p) b c d e f v = refl

module _ (s : Params) (self parity : List ℕ) (work : ℕ) (v : Verdict) where
  pub kit_lengths_rule : (w : List ℕ) → (lengths_rule (lengths_of self parity w [] [] work) (kit_due s) then v) ≡ (kit_lengths s self parity w then length_rule 6 work (kit_work s) then v)
  unfolding lengths_rule kit_due kit_lengths list_lengths
  kit_lengths_rule w =
      grouped (length_rule 1 (length self) (2 * order s)) (length_rule 2 (length parity) (2 * order s)) (length_rule 3 (length w) (order s * row_bytes (order s)))
      accepted accepted (length_rule 6 work (kit_work s)) v

  pub make_lengths_rule : (w : List ℕ) → (lengths_rule (lengths_of self parity w [] [] work) (make_due s) then v) ≡ (kit_lengths s self parity w then length_rule 6 work (make_work s) then v)
  unfolding lengths_rule make_due kit_lengths list_lengths
  make_lengths_rule w =
      grouped (length_rule 1 (length self) (2 * order s)) (length_rule 2 (length parity) (2 * order s)) (length_rule 3 (length w) (order s * row_bytes (order s)))
      accepted accepted (length_rule 6 work (make_work s)) v

  module _ (L k : ℕ) (info red : List ℕ) where
    -- behind the number of blocks and another
    counted : (x u w : Verdict) → (u then v) ≡ w → ((count_rule L then x then u) then v) ≡ (count_rule L then x then w)
    counted x u w e =
        then_assoc (count_rule L) (x then u) v
        ∙ ap (λ (z : Verdict). count_rule L then z) (then_assoc x u v ∙ ap (λ (z : Verdict). x then z) e)

    lists-rules : (due : ℕ) → (frame_rules s L k (lengths_of self parity [] info red work) (lists_with s due) then v)
        ≡ (count_rule L then rounds_rule k then list_lengths s self parity then frame_lengths s L info red then length_rule 6 work due then v)
    unfolding frame_rules size_rules frame_due lengths_rule list_lengths frame_lengths
    lists-rules due =
        counted (rounds_rule k) _ _
        (grouped (length_rule 1 (length self) (2 * order s)) (length_rule 2 (length parity) (2 * order s)) accepted
        (length_rule 4 (length info) (info_length s L)) (length_rule 5 (length red) (red_length s L)) (length_rule 6 work due) v
        ∙ ap (λ (z : Verdict). z then frame_lengths s L info red then length_rule 6 work due then v) (then_none (list_lengths s self parity)))

    pub received-rules : (frame_rules s L k (lengths_of self parity [] info red work) (lists_due s) then v)
        ≡ (count_rule L then rounds_rule k then list_lengths s self parity then frame_lengths s L info red then length_rule 6 work (word_work s) then v)
    unfolding lists_due
    received-rules = lists-rules (word_work s)

    pub decoder_rules : (frame_rules s L k (lengths_of self parity [] info red work) (decoder_due s L) then v)
        ≡ (count_rule L then rounds_rule k then list_lengths s self parity then frame_lengths s L info red then length_rule 6 work (decoder_work s L) then v)
    unfolding decoder_due
    decoder_rules = lists-rules (decoder_work s L)

    pub batch-rules : (n : ℕ) (w : List ℕ) → (batch_rules s L n (lengths_of self parity w info red work) (kit_due s) then v)
        ≡ (count_rule L then batch_rule n then kit_lengths s self parity w then batch_lengths s L n info red then length_rule 6 work (kit_work s) then v)
    unfolding batch_rules batch_size_rules batch_due lengths_rule kit_due kit_lengths list_lengths batch_lengths
    batch-rules n w =
        counted (batch_rule n) _ _
        (grouped (length_rule 1 (length self) (2 * order s)) (length_rule 2 (length parity) (2 * order s)) (length_rule 3 (length w) (order s * row_bytes (order s)))
        (length_rule 4 (length info) (n * info_length s L)) (length_rule 5 (length red) (n * red_length s L)) (length_rule 6 work (kit_work s)) v)

-- ---- rule 6 for some of the slices: the others have the length that is due

as_due : (place n : ℕ) → length_rule place n n ≡ accepted
as_due place n = length-accepted place n n refl

module _ (s : Params) (self parity w info red : List ℕ) (L : ℕ) where
  pub lists-alone : lengths_rule (record { own = length self; parity = length parity; inverse = (kit_due s).inverse; info = (kit_due s).info; red = (kit_due s).red; work = (kit_due s).work }) (kit_due s)
      ≡ list_lengths s self parity
  unfolding lengths_rule kit_due list_lengths
  lists-alone =
      ap₂ (λ (x y : Verdict). length_rule 1 (length self) (2 * order s) then length_rule 2 (length parity) (2 * order s) then x then y)
      (as_due 3 (order s * row_bytes (order s))) (as_due 6 (kit_work s))
      ∙ ap (λ (x : Verdict). length_rule 1 (length self) (2 * order s) then x) (then_none (length_rule 2 (length parity) (2 * order s)))

  pub kit-alone : lengths_rule (record { own = length self; parity = length parity; inverse = length w; info = (kit_due s).info; red = (kit_due s).red; work = (kit_due s).work }) (kit_due s)
      ≡ kit_lengths s self parity w
  unfolding lengths_rule kit_due kit_lengths list_lengths
  kit-alone =
      ap (λ (x : Verdict). length_rule 1 (length self) (2 * order s) then length_rule 2 (length parity) (2 * order s) then length_rule 3 (length w) (order s * row_bytes (order s)) then x) (as_due 6 (kit_work s))
      ∙ ap (λ (x : Verdict). length_rule 1 (length self) (2 * order s) then length_rule 2 (length parity) (2 * order s) then x) (then_none (length_rule 3 (length w) (order s * row_bytes (order s))))
      ∙ sym (then_assoc (length_rule 1 (length self) (2 * order s)) (length_rule 2 (length parity) (2 * order s)) (length_rule 3 (length w) (order s * row_bytes (order s))))

  pub frame-alone : lengths_rule (record { own = (lists_due s).own; parity = (lists_due s).parity; inverse = (lists_due s).inverse; info = length info; red = length red; work = (lists_due s).work }) (frame_due s L (lists_due s))
      ≡ frame_lengths s L info red
  unfolding lengths_rule lists_due frame_due frame_lengths
  frame-alone =
      ap₂ (λ (x y : Verdict). x then y then length_rule 4 (length info) (info_length s L) then length_rule 5 (length red) (red_length s L) then length_rule 6 (word_work s) (word_work s))
      (as_due 1 (2 * order s)) (as_due 2 (2 * order s))
      ∙ ap (λ (x : Verdict). length_rule 4 (length info) (info_length s L) then length_rule 5 (length red) (red_length s L) then x) (as_due 6 (word_work s))
      ∙ ap (λ (x : Verdict). length_rule 4 (length info) (info_length s L) then x) (then_none (length_rule 5 (length red) (red_length s L)))

-- ---- rules 7 to 10

-- no byte is judged
no_bits : (base : ℕ) → bit_rule base [] ≡ accepted
unfolding bit_rule refuse_first first_where
no_bits base = refl

module _ (s : Params) (l : Interleavers) where
  information_alone : (info : List ℕ) → frame_bits info [] ≡ bit_rule 0 info
  unfolding frame_bits
  information_alone info = ap (λ (z : Verdict). bit_rule 0 info then z) (no_bits (length info)) ∙ then_none (bit_rule 0 info)

  pub content-rules : (w info : List ℕ) → (byte_rules s l w info [] then inverse_rule s l w) ≡ content_rules s l w info
  unfolding byte_rules content_rules
  content-rules w info =
      then_assoc (list_rule s l) (spare_rule s w then frame_bits info []) (inverse_rule s l w)
      ∙ ap (λ (z : Verdict). list_rule s l then z)
      (then_assoc (spare_rule s w) (frame_bits info []) (inverse_rule s l w) ∙ ap (λ (z : Verdict). spare_rule s w then z then inverse_rule s l w) (information_alone info))

  pub kit-rules : (w : List ℕ) → content_rules s l w [] ≡ kit_rules s l w
  unfolding content_rules kit_rules
  kit-rules w = ap (λ (z : Verdict). list_rule s l then spare_rule s w then z then inverse_rule s l w) (no_bits 0)

  pub received_bytes : (info red : List ℕ) → byte_rules s l [] info red ≡ (list_rule s l then frame_bits info red)
  unfolding byte_rules spare_rule
  received_bytes info red =
      ap (λ (z : Verdict). list_rule s l then z then frame_bits info red)
      (refuse_first-accepted 8 0 (order s) (spare_row [] (order s)) (λ k h. empty-spare [] (order s) k refl))

  pub lists-and-spare : (w : List ℕ) → byte_rules s l w [] [] ≡ (list_rule s l then spare_rule s w)
  unfolding byte_rules
  lists-and-spare w =
      ap (λ (z : Verdict). list_rule s l then spare_rule s w then z) (information_alone [] ∙ no_bits 0)
      ∙ ap (λ (z : Verdict). list_rule s l then z) (then_none (spare_rule s w))
