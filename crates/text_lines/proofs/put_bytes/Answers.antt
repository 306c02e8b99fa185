-- The text is copied into its part.
use Rattle.text_lines.proofs.Storing.{placed}
use Rattle.text_lines.proofs.put_bytes.Goals as goal

pub returns-clause-out_after : goal.returns-clause-out_after
returns-clause-out_after c = placed _ _ _ _ c.requires c.copy_from_slice.ensures.after
