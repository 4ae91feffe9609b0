-- What a reader of the completion time test must believe.
pub mod Demand
pub mod Test
pub mod Timed
pub mod Group
pub mod Rounds
pub mod WithoutJitter
pub mod WithoutOverrun
-- Only the theorems use these.
pub mod Right
