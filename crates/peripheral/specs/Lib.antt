pub mod Model
pub mod Bus
pub mod Block
pub mod Pair
pub mod PairKeeps
pub mod Rules
