-- What a reader must believe.
pub mod Deciding
-- A reader need not believe these: they name the sums and the bound that save the search rounds and tests.
pub mod Utilisation
pub mod StartBound
