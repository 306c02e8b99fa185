-- Position p as it is read is the turned position of the word.
use mathlib.Core.Path.{sym, ap, ◌∙◌}
use mathlib.Core.List.{[], ◌∷◌}
use Prim.Native.Nat.{ℕ}
use lib.ListN.{get_or}
use Rattle.staircase.specs.Frame.{Site}
use Rattle.staircase.specs.Frame.Site.{unsent}
use Rattle.decoder_lines.specs.Layouts.{straight_word}
use Rattle.decoder_lines.proofs.Layouts.{site_read}
use Rattle.decoder_lines.proofs.site_at.Goals as goal

pub returns : goal.returns
returns c =
    let a = c.args in
    let h = c.requires in (
      c.straight_site.ensures.0
          ∙ ap (λ (q : ℕ). get_or (straight_word a.line a.links.now a.a) q unsent ∷ []) c.turned_position-q.ensures.0
          ∙ ap (λ (x : Site). x ∷ []) (sym (site_read h.0.frames a.line.k a.a a.p h.2)),
      c.straight_site.ensures.1,
    )
