-- Lemmas on the bytes of streams.
pub mod Known
