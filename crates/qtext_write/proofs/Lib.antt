-- Parts that are put one after the other.
pub mod Regrouped
pub mod Behind
mod Groups
