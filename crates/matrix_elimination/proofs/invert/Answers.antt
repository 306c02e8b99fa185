-- What elimination leaves of the matrix and of the identity.
use mathlib.Core.Path.{◌∙◌}
use Rattle.matrix_elimination.proofs.Inversion.{inversion_first, inversion_made}
use Rattle.matrix_elimination.proofs.invert.Goals as goal

pub returns : goal.returns
returns c =
    let a = c.args in
    let p = c.requires in
    let f = c.fill_identity in
    let r = c.eliminate in
    let e = r.ensures in record {
      value = inversion_first a.n a.m.now f.new.m r.new.m f.ensures.1 f.ensures.2 e.row_steps r.result e.upper_bound.0 e.upper_bound.1 e.upper_bound.2;
      c_after = inversion_made a.n a.m.now f.new.m r.new.m f.ensures.1 f.ensures.2 e.row_steps r.result e.upper_bound.0 e.upper_bound.1 e.upper_bound.2
          p.0 (λ k. (c.type_inv.m k).fits);
      m_len_unchanged = e.row_steps.long ∙ f.ensures.0;
    }
