-- A journaled store that makes one call more is again what its journal leaves.
pub mod Journaling
