-- What a reader of text in a buffer must believe.
pub mod Text
pub mod Decimal
