-- Jobs that name earlier jobs: what they are once those are answered, their answers, and their runs.
pub mod Resolve
pub mod Answers
pub mod LevelFile
pub mod Texts
pub mod Plain
