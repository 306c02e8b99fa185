-- Frames whose arguments have passed all rules: their table, their places and their redundancy.
--   red-long       the redundancy has a stretch for each group of each frame
--   frames_ready   the slices are as the loop over the frames asks
--   frames-made    what the loop makes is the redundancy of the definition
-- Assumes nothing.
use mathlib.Core.Path.{◌≡◌, sym, ap, ◌∙◌, subst, subst⁻¹}
use mathlib.Core.List.{List}
use Prim.Native.Nat.{ℕ, ◌*◌, ◌<◌}
use native.Mathlib.Nat.{mul_assoc}
use native.Mathlib.Omega.{arith}
use lib.ListN.{length, get_or}
use Rattle.bch.specs.Powers.{PositionPowers}
use Rattle.staircase.specs.Lists.{concat}
use Rattle.staircase.specs.Design.{word_length, column_generator}
use Rattle.staircase.specs.System.{preimage, redundancy}
use Rattle.staircase.specs.Frame.{groups}
use Rattle.staircase.specs.Rules.{entries}
use Rattle.staircase.specs.Batch.{frame_at, batch_redundancy}
use Rattle.staircase.proofs.Tabulate.{concat-same}
use Rattle.staircase.proofs.System.{Proper}
use Rattle.staircase.proofs.Permutation.{preimage-sent}
use Rattle.staircase.proofs.Batch.{frame-length, frame-bits}
use Rattle.design.specs.declared.Design.{Design}
use Rattle.design.specs.Sizes.{params_of, order_of, lists_of}
use Rattle.design.proofs.Allowed.{proper_of, r_small}
use Rattle.encoder_frame.specs.Group.{WordTables, GroupTables}
use Rattle.encoder_frame.specs.Groups.{frame_from, group_at, FramesReady, Encodable}
use Rattle.encoder_frame.proofs.FrameGroups.{groups_are, groups-by-frames}

module _ {d : Design} {L n : ℕ} {parity inverse info red : List ℕ} (h : Encodable d L n parity inverse info red) {r : ℕ} (er : r ≡ d.m * d.t) where
  ok : Proper (params_of d)
  ok = proper_of d h.allowed

  pub red-long : length red ≡ n * groups L * (2 * (d.size * r))
  red-long = h.red_length ∙ ap (λ (k : ℕ). n * (groups L * (2 * (d.size * k)))) (sym er) ∙ sym (mul_assoc n (groups L) (2 * (d.size * r)))

  -- the table and the places as they are lent, and as they were filled
  module _ {o : ℕ} (eo : o ≡ order_of d) {columns filled_columns positions filled preimages sent : List ℕ} (is-columns : columns ≡ filled_columns) (is-positions : positions ≡ filled) (is-preimages : preimages ≡ sent)
      (long_columns : length filled_columns ≡ word_length (params_of d)) (long : length filled ≡ word_length (params_of d)) (wide : length sent ≡ o)
      (at : (q : ℕ) → q < o → get_or sent q 0 ≡ preimage (entries o parity) o q) where
    places : (q : ℕ) → q < order_of d → get_or preimages q 0 ≡ preimage (entries (order_of d) parity) (order_of d) q
    places q l =
        ap (λ (t : List ℕ). get_or t q 0) is-preimages
        ∙ subst (λ (k : ℕ). (q : ℕ) → q < k → get_or sent q 0 ≡ preimage (entries k parity) k q) eo at q l

    within : (q : ℕ) → q < order_of d → get_or preimages q 0 < order_of d
    within q l = subst⁻¹ (λ (x : ℕ). x < order_of d) (places q l) (preimage-sent (entries (order_of d) parity) (order_of d) h.parity_permutes q l).0

    words : (t : List ℕ) → length t ≡ word_length (params_of d) → WordTables d.size (d.m * d.t) t
    words t e =
        record {
          some-columns = h.allowed.M-low;
          few-columns = omega (arith, h.allowed.M-high);
          some-rows = ok.rpos;
          few-rows = omega (arith, r_small d h.allowed);
          small = h.allowed.order-high;
          powers = e;
        }

    ready : FramesReady L n d.size (d.m * d.t) info columns positions × GroupTables d.size (d.m * d.t) columns preimages inverse
    ready =
        let by_rows = words positions (ap length is-positions ∙ long) in
        let by_columns = words columns (ap length is-columns ∙ long_columns) in (
          record { few-blocks = h.few-blocks; few-frames = h.few-frames; tables = by_rows; column-tables = by_columns; blocks = h.info_length; bits = h.bits },
          record { words = by_columns; places = ap length is-preimages ∙ wide ∙ eo; within = within; packed = h.inverse_length },
        )

    pub frames_ready : FramesReady L n d.size r info columns positions
    frames_ready = subst⁻¹ (λ (k : ℕ). FramesReady L n d.size k info columns positions) er ready.0

    pub tables_ready : GroupTables d.size r columns preimages inverse
    tables_ready = subst⁻¹ (λ (k : ℕ). GroupTables d.size k columns preimages inverse) er ready.1

    pub frames-made : PositionPowers (column_generator (params_of d)) (d.m * d.t) filled_columns → PositionPowers (params_of d).g (d.m * d.t) filled → {out : List ℕ} → out ≡ concat (n * groups L) (group_at columns positions preimages inverse d.size r L info)
        → (own : List ℕ) → out ≡ batch_redundancy (params_of d) (lists_of d own parity) inverse L n info
    unfolding frame_from batch_redundancy
    frames-made column_powers powers made own =
        let part : ℕ → List ℕ = frame_at (L * (d.size * d.size)) info in
        made ∙ groups-by-frames columns positions preimages inverse d.size r L n info ∙ ap (λ (k : ℕ). concat n (frame_from columns positions preimages inverse d.size k L info)) er
        ∙ concat-same n (frame_from columns positions preimages inverse d.size (d.m * d.t) L info) (λ f. redundancy (params_of d) (lists_of d own parity) inverse L (part f))
        (λ f l. groups_are (params_of d) ok (lists_of d own parity) h.parity_permutes columns positions preimages inverse
        (record { long = ap length is-columns ∙ long_columns; powers = subst⁻¹ (PositionPowers (column_generator (params_of d)) (d.m * d.t)) is-columns column_powers })
        (record { long = ap length is-positions ∙ long; powers = subst⁻¹ (PositionPowers (params_of d).g (d.m * d.t)) is-positions powers }) places L (part f)
        (frame-length (L * (d.size * d.size)) info n h.info_length f l) (frame-bits (L * (d.size * d.size)) info h.bits f))
