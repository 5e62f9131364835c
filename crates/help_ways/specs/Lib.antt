-- What the ways of a help read.
pub mod Found
