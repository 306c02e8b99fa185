-- The maker is called, and what it answers is printed.
use Rattle.program.proofs.Printing.{printed_as}
use Rattle.program_makekit.proofs.Making.{made-prints}
use Rattle.program_makekit.proofs.make_kit.Goals as goal

pub returns : goal.returns
returns c =
    let e = rw (c.m.ensures, c.t.ensures, c.size.ensures) at c.make_inverse-made.ensures in
    printed_as _ _ _ _ _ (made-prints _ _ _ _ _ _ c.requires.make_ready _ _ e.0 e.1) c.put_made.ensures
