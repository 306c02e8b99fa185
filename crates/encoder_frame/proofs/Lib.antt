pub mod Finish
pub mod FrameGroups
pub mod GroupMade
pub mod Joined
pub mod Lending
pub mod Solved
pub mod WholeFrame
