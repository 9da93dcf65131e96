pub mod LooseValues
pub mod SlotValues
pub mod Fitting
pub mod Replying
pub mod Committing
pub mod Calling
pub mod Listed
pub mod Put
