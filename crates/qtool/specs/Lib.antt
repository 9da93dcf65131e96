-- In reading order: what the program owes a job, how it ends, what stands under the names of a job, which clients
-- are served, and on which terms, which names are others, what is printed; and what no public clause cites.
pub mod Jobs
pub mod Endings
pub mod Under
pub mod Served
pub mod Terms
pub mod Apart
pub mod Printed
pub mod ClientNames
