-- The proofs of the laws, law by law.
pub mod Refilling
pub mod GivingBack
pub mod Remaking
pub mod Returning
pub mod Ranking
pub mod Chaining
