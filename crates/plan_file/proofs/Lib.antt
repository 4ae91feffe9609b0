-- Laws for the proofs of functions, here and in other crates, and the theorems of plan files.
-- Checks one after another, and what their tests say.
pub mod Tests
-- Words, and the fields that they hold.
pub mod Words
-- The parts of a file: its header, its rows, its entries, and the whole.
pub mod Header
pub mod Contents
pub mod Rows
pub mod Bodies
pub mod File
pub mod Numbering
pub mod Nodes
pub mod Memory
-- The parts of a plan that the writer is given, and what it stores.
pub mod Encoding
pub mod WriterChecks
-- What the reader, the finder and the writer answer.
pub mod Finding
pub mod Reading
pub mod Writing
-- Reader and writer undo each other.
pub mod Encoded
pub mod Decoded
pub mod Bytes
pub mod Fits
-- What is accepted is within the limits.
pub mod Limits
pub mod Theorems
-- When a number repeats, and what was checked before numbers were.
pub mod Repeats
pub mod WithoutNumbers
-- The same for the buffers, as the calls leave them.
pub mod RoundTrips
-- An input that is longer than any plan.
pub mod Long
-- What functions promise beside their answer.
pub mod Ensured
-- A file without a release jitter is checked as before there was one.
pub mod FirstEdition
pub mod Examples
