-- In reading order.
pub mod Room
pub mod InOrder
pub mod Names
pub mod Nodes
pub mod Tree
pub mod TreeOf
pub mod Listed
