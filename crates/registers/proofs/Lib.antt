pub mod Digits
pub mod Accesses
