-- Lemmas on the definitions of specs/, in files named for their topics.
pub mod Effects
pub mod Ready
pub mod Allowed
pub mod Single
pub mod Seated
pub mod StoreLaws
pub mod Begun
pub mod FirstSteps
pub mod Seatings
pub mod Openings
pub mod FirstPoints
