-- Laws of text in a buffer and of decimal numbers.
pub mod Writing
pub mod Numbers
