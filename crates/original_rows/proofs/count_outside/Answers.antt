-- The rows are the words of the frame.
use mathlib.Core.Path.{◌∙◌}
use Rattle.design.specs.Sizes.{params_of, lists_of}
use mathlib.Core.List.{[]}
use Rattle.original.specs.Frame.{buffer_of}
use Rattle.words_lines.proofs.Lent.{buffer_lent, row-sites}
use Rattle.original_rows.proofs.count_outside.Goals as goal

pub count_outside-requires : goal.count_outside-requires
count_outside-requires c =
    let F = c.requires in
    buffer_lent c.args.d c.args.blocks c.args.buffer.now F.allowed F.few-blocks F.long F.bits

pub returns : goal.returns
returns c =
    let d = c.args.d in
    c.count_outside.ensures ∙ row-sites (params_of d) (lists_of d [] []) c.args.blocks (buffer_of c.args.buffer.now)
