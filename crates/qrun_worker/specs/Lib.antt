-- What workers have done, and a script as a client.
pub mod Work
pub mod Scripts
