-- The two tests of the code are those of `sent`.
use Rattle.words_blocks.proofs.Blocks.{sent-none, sent-some}
use Rattle.words_blocks.proofs.is_sent.Goals as goal

pub returns-then-b-lt1 : goal.returns-then-b-lt1
returns-then-b-lt1 c = sent-none _ _ c.if-b-lt1.true

pub returns : goal.returns
returns c = sent-some _ _ c.if-b-lt1.false
