pub mod Bytes
pub mod Dense
mod Examples
pub mod Fields
pub mod Fills
pub mod FirstFrom
pub mod Freed
pub mod Indexes
pub mod Past
pub mod Puts
pub mod Reading
pub mod Spans
pub mod Table
pub mod Touched
pub mod Used
pub mod View
