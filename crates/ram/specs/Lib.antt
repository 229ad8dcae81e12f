pub mod Memory
pub mod Rules
pub mod Law
