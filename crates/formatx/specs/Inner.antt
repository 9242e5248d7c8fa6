pub mod Answers
pub mod Ends
pub mod Parts
pub mod Scenes
