-- The proofs of the laws, law by law.
pub mod MadeNumbers
pub mod ReadLengths
pub mod LimitTable
pub mod LimitOrder
pub mod Entries
pub mod Looks
pub mod Attempts
pub mod Calls
pub mod Alike
pub mod AlikeJournals
