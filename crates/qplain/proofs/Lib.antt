-- What the proofs of more than one file share.
pub mod Ordered
pub mod Prefixes
