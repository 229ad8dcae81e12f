pub mod Records
pub mod Lent
