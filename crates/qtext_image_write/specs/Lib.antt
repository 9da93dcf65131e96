-- In reading order: what a store tells, as lines of an image; what is known of bytes that were written.
pub mod Lines
pub mod Typed
