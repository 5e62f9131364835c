-- The text of a file of jobs that name earlier jobs.
pub mod Places
pub mod Grown
pub mod Levels
pub mod DepFile
pub mod DepWords
pub mod SoFar
pub mod Grammar
pub mod LineCauses
pub mod Reads
