-- Laws for the proofs of functions, and the theorems of sessions and files.
pub mod Changing
pub mod Calls
pub mod Mapping
pub mod Checking
pub mod Results
pub mod Writing
pub mod FileMap
pub mod Converted
pub mod Timed
-- Worked cases of repeated numbers, over files, conversions and sessions.
pub mod NumberCases
