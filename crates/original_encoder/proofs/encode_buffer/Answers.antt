-- The parity is zeroed, which changes no parity that is written, and the blocks are encoded.
use native.Mathlib.Omega.{arith}
use mathlib.Core.Path.{◌≡◌, sym, ap, ◌∙◌, subst⁻¹, subst₂}
use mathlib.Core.Bool.{false}
use mathlib.Core.List.{List}
use Prim.Native.Nat.{ℕ, ◌*◌, ◌<◌}
use native.Mathlib.Nat.{mul_assoc}
use lib.ListN.{length, get_or}
use Rattle.bch.specs.Code.{generator}
use Rattle.bch.specs.Powers.{PositionPowers}
use Rattle.words_positions.proofs.Parts.{part-is}
use Rattle.original.specs.Frame.{encoded}
use Rattle.original.specs.Steps.{cleared}
use Rattle.original.proofs.Buffer.{cleared-length, cleared-bits, encoded-cleared}
use Rattle.original.proofs.Rules.{degree_some, degree_of}
use Rattle.design.specs.Sizes.{params_of}
use Rattle.layout.specs.declared.Shape.TheVariants.{Original}
use Rattle.words_blocks.proofs.Sums.{part_length}
use Rattle.words_lines.specs.Words.{ReadTable}
use Rattle.words_lines.proofs.Tables.{ahead_table}
use Rattle.original_encoder.proofs.Rows.{row-bits}
use Rattle.original_encoder.specs.Written.{RowsAt}
use Rattle.original_encoder.proofs.Blocks.{rows-cleared, cleared-zero}
use Rattle.original_encoder.proofs.encode_buffer.Goals as goal

pub encode_cleared-requires : goal.encode_cleared-requires
encode_cleared-requires c =
    let a = c.args in
    let p = c.requires in
    let F = p.0 in
    let s = params_of a.d in
    let x = c.fill_code in
    let n = c.row_bits-bits in
    let m = c.m-m in
    let t = c.t-t in
    let size = c.size-size in
    let r = c.r-r in
    let clear = c.clear_parity in
    let same : clear.new.buffer ≡ cleared s a.buffer.now =
    rows-cleared s (let t = F.allowed.thin in omega (arith, t)) (let t = F.allowed.thin in omega (arith, t)) (a.blocks * size.result) a.buffer.now
    clear.new.buffer (mul_assoc a.blocks size.result a.d.size ∙ ap (λ (z : ℕ). a.blocks * (z * a.d.size)) size.ensures ∙ sym F.long)
    (subst₂ (λ (n r : ℕ). RowsAt (a.blocks * size.result) n r 0 (λ i. 0) a.buffer.now clear.new.buffer) size.ensures
    r.ensures.0 clear.ensures) in
    let all = x.ensures.1 ∙ part_length _ 0 n.result n.result (omega arith) (omega (arith, n.ensures.0, F.allowed.M-high)) in
    let positions = part-is x.new.positions _ _ all in (
      record {
        allowed = F.allowed;
        few-blocks = F.few-blocks;
        long = ap length same ∙ cleared-length s a.buffer.now ∙ F.long;
        bits = subst⁻¹ (λ (l : List ℕ). (k : ℕ) → get_or l k 0 < 2) same (cleared-bits s a.buffer.now p.1);
      },
      subst⁻¹ (ReadTable Original s false) positions (ahead_table Original s x.new.positions
          (subst₂ (λ (m t : ℕ). PositionPowers (generator m t) (m * t) x.new.positions) m.ensures t.ensures x.ensures.0) (all ∙ n.ensures.0 ∙ row-bits s)),
      λ k h. ap (λ (l : List ℕ). get_or l k 0) same ∙ cleared-zero s a.buffer.now k h,
    )

pub returns : goal.returns
returns c =
    let a = c.args in
    let F = c.requires.0 in
    let s = params_of a.d in
    let size = c.size-size in
    let r = c.r-r in
    let clear = c.clear_parity in
    let same : clear.new.buffer ≡ cleared s a.buffer.now =
    rows-cleared s (let t = F.allowed.thin in omega (arith, t)) (let t = F.allowed.thin in omega (arith, t)) (a.blocks * size.result) a.buffer.now
    clear.new.buffer (mul_assoc a.blocks size.result a.d.size ∙ ap (λ (z : ℕ). a.blocks * (z * a.d.size)) size.ensures ∙ sym F.long)
    (subst₂ (λ (n r : ℕ). RowsAt (a.blocks * size.result) n r 0 (λ i. 0) a.buffer.now clear.new.buffer) size.ensures
    r.ensures.0 clear.ensures) in
    c.encode_cleared.ensures ∙ ap (encoded s a.blocks) same
    ∙ sym (encoded-cleared s (degree_some F.allowed) F.allowed.thin (degree_of F.allowed) a.blocks a.buffer.now F.long)
