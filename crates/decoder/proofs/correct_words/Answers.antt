-- The tables are filled, and each is lent as long as the design needs.
use mathlib.Core.Path.{◌≡◌, ◌∙◌, subst, subst⁻¹}
use Prim.Native.Nat.{◌+◌, ◌-◌, ◌*◌, ◌%◌, ◌^◌}
use native.Mathlib.Omega.{arith}
use lib.ListN.{length, take, drop}
use lib.Seq.{length-take-le}
use Rattle.staircase.specs.Frame.{frame_of}
use Rattle.design.specs.Sizes.{params_of}
use Rattle.decoder_lines.proofs.Links.{links_long}
use Rattle.layout.specs.declared.Frames.{Frames}
use Rattle.layout.specs.Layouts.{bits_in, feed_frames}
use Rattle.decoder_tables.specs.Sizes.{WordSizes}
use Rattle.decoder_words.specs.Ready.{FramesReady, WordTables}
use Rattle.decoder_frame.proofs.Feed.{feed_bits, feed_fits}
use Rattle.decoder_frame.specs.Filled.{Filled}
use Rattle.decoder_frame.proofs.Tables.{word-sizes}
use Rattle.decoder.proofs.Room.{tables-room, field_is, field_room}
use Rattle.decoder.proofs.Rounds.{ready_lent, kept_lent}
use Rattle.decoder.proofs.correct_words.Goals as goal

pub slice_bounds-field-end : goal.slice_bounds-field-end
slice_bounds-field-end c =
    omega (arith, c.field_entries-field.ensures, field_room c.args.frames.d c.requires.0.allowed c.m-powers.result c.m-powers.ensures)

pub fill_tables-requires : goal.fill_tables-requires
fill_tables-requires c =
    let p = c.requires in
    let a = c.args in
    let lt = length-take-le (2 * c.n.result + 128 - 0) c.table_entries-tables.result (omega (arith, c.table_entries-tables.ensures, tables-room a.frames.d p.0.allowed c.n.result c.n.ensures.0)) in
    let lf = length-take-le (4 * ((1 * 2 ^ c.m-powers.result) % 2 ^ 64) - 0) c.field_entries-field.result (omega (arith, c.field_entries-field.ensures, field_room a.frames.d p.0.allowed c.m-powers.result c.m-powers.ensures)) in
    let T = take (2 * c.n.result + 128 - 0) c.table_entries-tables.result in
    let D = take (4 * ((1 * 2 ^ c.m-powers.result) % 2 ^ 64) - 0) c.field_entries-field.result in
    subst⁻¹ (λ (f : Frames). WordSizes f.d.m f.d.t (bits_in f.shape (params_of f.d))
    × (length T ≡ bits_in f.shape (params_of f.d) + (bits_in f.shape (params_of f.d) + 128)) × (length D ≡ 4 * 2 ^ f.d.m)) p.1
    (word-sizes a.frames.d p.0.allowed, omega (arith, lt, c.n.ensures.0, feed_bits (params_of a.frames.d)), omega (arith, lf, field_is a.frames.d p.0.allowed c.m-powers.result c.m-powers.ensures))

pub correct_lines-requires : goal.correct_lines-requires
correct_lines-requires c =
    let p = c.requires in
    let a = c.args in
    let due = 2 * c.n.result + 128 in
    let T = c.fill_tables.new.tables in
    let l_t : length T ≡ due = (subst (λ (f : Frames). WordTables f T c.fill_tables.new.field) p.1 c.fill_tables.ensures).long
    ∙ omega (arith, c.n.ensures.0, feed_bits (params_of a.frames.d)) in
    let lf = length-take-le (4 * ((1 * 2 ^ c.m-powers.result) % 2 ^ 64) - 0) c.field_entries-field.result (omega (arith, c.field_entries-field.ensures, field_room a.frames.d p.0.allowed c.m-powers.result c.m-powers.ensures)) in
    let F = c.fill_tables.new.field in
    let K = c.fill_links.new.links in
    let f = 4 * ((1 * 2 ^ c.m-powers.result) % 2 ^ 64) in
    let k = 4 * c.order-n.result in
    let l_f : length F ≡ f = omega (arith, lf) in
    let l_k : length K ≡ k = links_long c.fill_links.ensures.0 ∙ omega (arith, c.order-n.ensures.0) in
    let R : FramesReady (feed_frames a.frames.d a.frames.blocks) K T F =
    record {
      fits = feed_fits a.frames.d p.0.few-blocks p.0.allowed c.fill_links.ensures.0;
      word-tables = subst (λ (f : Frames). WordTables f T F) p.1 c.fill_tables.ensures;
    } in
    let K' = drop (k - 0) c.link_entries-links.result in (
      ready_lent (feed_frames a.frames.d a.frames.blocks) K K' T (drop (due - 0) c.table_entries-tables.result) F (drop (f - 0) c.field_entries-field.result) k due f l_k l_t l_f R,
      p.2,
      kept_lent a.frames.d a.frames.blocks a.own.now a.parity.now K K' k l_k p.0 c.fill_links.ensures.1 p.3
          (subst (λ (g : Frames). Filled g a.own.now a.parity.now (frame_of a.info.now a.red.now) a.kept.now) p.1 p.4),
      p.1,
    )
