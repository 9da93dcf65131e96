-- What calls are answered.
pub mod Numbers
pub mod Reads
pub mod FirstLimit
pub mod WithoutProjects
