-- In reading order: what is told of a board, as which text; what a service counts, as which text.
pub mod Families
pub mod Metrics
pub mod Mishaps
pub mod Services
