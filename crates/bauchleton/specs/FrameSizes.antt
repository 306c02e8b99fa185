-- The sizes of a design and of a frame, and the lengths of the slices that the calls are lent.
--   no_sizes        those of a design or a frame that is refused
--   sizes_verdict   rules 1 to 4
--   sizes_answer    what is told
--   sizes_told      what the code holds, in this order
-- Assumes nothing.
use Rattle.std.specs.Prelude.{List, [], ◌∷◌, ℕ, ◌+◌, ◌*◌}
use Rattle.staircase.specs.Design.{Params, word_length, order}
use Rattle.staircase.specs.Frame.{groups}
use Rattle.staircase.specs.System.{row_bytes}
use Rattle.staircase.specs.Rules.{Verdict, ◌then◌, design_rules, count_rule, info_length, red_length, kit_work, word_work, decoder_work}
use Rattle.staircase.specs.Rules.Verdict.{accepted, refused}
use Rattle.staircase.specs.Maker.{make_work}
use Rattle.loopback.specs.Link.{loopback_work}
use Rattle.bauchleton.specs.declared.sizes.Sizes.{Sizes}

abbrev pub no_sizes : List ℕ
no_sizes = 0 ∷ 0 ∷ 0 ∷ 0 ∷ 0 ∷ 0 ∷ 0 ∷ 0 ∷ 0 ∷ 0 ∷ 0 ∷ 0 ∷ 0 ∷ 0 ∷ 0 ∷ []

abbrev pub sizes_verdict : ℕ → ℕ → ℕ → ℕ → Verdict
sizes_verdict m t M L = design_rules m t M 0 then count_rule L

-- the place; r, n, k and G; bytes of a list, of the inverse, of the information and of the redundancy; working bytes of the kit checker, of the maker of
-- an inverse, of the encoders, of the word checker, of the decoders and of the self test; bytes of a row of the inverse
unfoldable pub sizes_answer : Verdict → Params → ℕ → List ℕ
sizes_answer accepted s L =
    0 ∷ s.r ∷ word_length s ∷ (2 * s.M + s.r) ∷ groups L ∷ (2 * order s) ∷ (order s * row_bytes (order s)) ∷ info_length s L ∷ red_length s L
    ∷ kit_work s ∷ make_work s ∷ kit_work s ∷ word_work s ∷ decoder_work s L ∷ loopback_work s L ∷ row_bytes (order s) ∷ []
sizes_answer (refused n p) s L = p ∷ no_sizes

abbrev pub sizes_told : ℕ → Sizes → List ℕ
sizes_told p z =
    p ∷ z.r ∷ z.n ∷ z.k ∷ z.groups ∷ z.list ∷ z.inverse ∷ z.info ∷ z.red
    ∷ z.kit ∷ z.make ∷ z.encode ∷ z.words ∷ z.decode ∷ z.loopback ∷ z.row ∷ []
