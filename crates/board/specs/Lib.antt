pub mod Map
pub mod Control
