-- That each step keeps the parker's rule.
pub mod Keeps
