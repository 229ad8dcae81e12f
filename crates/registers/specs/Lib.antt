pub mod Address
pub mod Bits
pub mod Aliases
pub mod Writes
