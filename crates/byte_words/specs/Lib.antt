-- What a reader of words in bytes must believe.
pub mod Bytes
pub mod Buffers
