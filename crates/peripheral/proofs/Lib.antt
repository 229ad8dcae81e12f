pub mod Or
pub mod Steps
pub mod Sides
pub mod Stored
pub mod Reached
pub mod Found
mod Fills
mod Nesting
