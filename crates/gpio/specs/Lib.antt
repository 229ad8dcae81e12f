pub mod Map
pub mod Pins
pub mod Ports
pub mod Rules
pub mod Law
