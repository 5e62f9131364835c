-- Lemmas on the definitions of specs/, in files named for their topics.
pub mod ExcessLaws
pub mod CountsLaws
pub mod ReplayLaws
pub mod PlaceLaws
pub mod PairingLaws
