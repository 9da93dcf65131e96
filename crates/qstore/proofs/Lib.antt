-- What the proofs of more than one file share: of walks, of what is written, then of stores.
pub mod Arguments
pub mod Beginning
pub mod Settling
pub mod Steps
pub mod Applied
pub mod Listed
pub mod Deciding
pub mod Even
pub mod Calls
pub mod Directories
pub mod FurtherNames
pub mod Replaced
pub mod Reading
