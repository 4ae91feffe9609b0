-- What a reader of the mapper must believe.
pub mod Assignments
pub mod Map
pub mod Answer
pub mod Cases
pub mod JitterCases
pub mod OverrunCases
-- A reader need not believe these: they name what the search computes about groups, and where it cuts a node.
pub mod Groups
pub mod Cuts
pub mod OneProof
pub mod Found
