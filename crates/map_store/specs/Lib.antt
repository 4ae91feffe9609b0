-- What a reader of the stored map must believe.
pub mod Store
pub mod Asking
-- Worked figures.
pub mod StoreCases
-- A reader need not believe this: it names what the loops write.
pub mod Putting
