-- First lines and their parts, what turns they take, what they say, what is left of a share, and what comes of a client.
pub mod FirstLines
pub mod LineParts
pub mod Paying
pub mod OneLine
pub mod Spending
pub mod Said
pub mod Talking
pub mod Talked
pub mod Bound
