pub mod Map
pub mod Timer
pub mod Pwm
pub mod Unit
pub mod Rules
pub mod Law
