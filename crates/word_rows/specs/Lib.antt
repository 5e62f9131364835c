-- The words of a lane: how each is coded, and where it lies.
pub mod Sizes
pub mod Layout
pub mod Packing
pub mod ReadsBack
pub mod Fits
pub mod Contents
pub mod Homes
pub mod Order
pub mod Opening
pub mod Memory
