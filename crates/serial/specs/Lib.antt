pub mod Fields
pub mod Upload
pub mod Frames
