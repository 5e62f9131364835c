-- Lemmas on the definitions of specs/, in files named for their topics.
pub mod Searches
pub mod StillFree
pub mod Causes
pub mod Waiting
pub mod Shares
pub mod Pigeons
pub mod Owed
pub mod Busy
pub mod CausePoints
pub mod SearchBegins
pub mod CauseSteps
pub mod Roomy
pub mod RoomySteps
