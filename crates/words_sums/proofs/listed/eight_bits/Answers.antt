-- Each bit is put below those before it: the byte so far is doubled, and stays below 256.
use Rattle.words_sums.proofs.ListedBits.{listed_byte_eight}
use Rattle.words_sums.proofs.listed.eight_bits.Goals as goal

pub returns : goal.returns
returns c =
    let a = c.args in
    listed_byte_eight a.list.now a.bits.now a.p a.w _ _ _ _ _ _ _ _ c.bit_at-a.ensures.0 c.bit_at.ensures.0 c.bit_at-2.ensures.0
    c.bit_at-3.ensures.0 c.bit_at-4.ensures.0 c.bit_at-5.ensures.0 c.bit_at-6.ensures.0 c.bit_at-7.ensures.0
