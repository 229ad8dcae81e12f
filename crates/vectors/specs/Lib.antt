pub mod Memory
pub mod Published
