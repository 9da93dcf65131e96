pub mod Readers
pub mod TextReplays
pub mod Replicas
