-- What a reader of the C functions must believe.
pub mod Returned
pub mod Changes
pub mod Writing
-- Only the theorems use this.
pub mod OneRow
-- Only functions that C does not call use this.
pub mod Results
