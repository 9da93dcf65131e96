pub mod Reading
pub mod OnlyLines
pub mod OfSession
pub mod Answering
