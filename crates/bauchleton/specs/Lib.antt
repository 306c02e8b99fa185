pub mod Answers
pub mod Report
pub mod LentTally
pub mod FrameSizes
pub mod OriginalReport
pub mod RuleNames
pub mod OriginalSizes
pub mod Buffers
