-- Each step keeps the rule; boards are whole; rows are found.
mod Rules
mod Balanced
mod Found
