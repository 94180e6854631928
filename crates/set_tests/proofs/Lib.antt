-- Lemmas of the tests.
pub mod Sizes
