-- What an ending leaves, results whose error was turned into another, what was read under names, the entries of clients that are
-- bound, which clients are served, and what was printed.
pub mod Endings
pub mod Results
pub mod Under
pub mod Keeping
pub mod Serving
pub mod Printing
