-- What the books and the replies of a file show.
pub mod Books
pub mod Replies
pub mod Ran
pub mod Hands
pub mod UnitOps
pub mod Rounds
pub mod Stops
