-- Prefixes of lists, that the steps keep the rule of the history, and that who has all shares has as many.
pub mod Prefixes
mod Adding
mod Present
