-- Laws of the listing.
pub mod Lines
pub mod Texts
pub mod Grouped
pub mod Cases
pub mod Long
pub mod Inside
pub mod Theorems
pub mod Shown
pub mod Agreeing
pub mod WithoutJitter
pub mod AnyOverrun
