-- How the samples of clients are written one after the other.
pub mod Clients
