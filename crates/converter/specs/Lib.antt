-- What a reader of the converter must believe.
pub mod Conversion
pub mod RoundTrip
