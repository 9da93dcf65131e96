-- What clients hand out.
pub mod Clients
