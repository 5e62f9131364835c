-- What a job answers.
pub mod Answer
pub mod Mix
pub mod Words
pub mod CountMap
