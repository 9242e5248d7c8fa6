pub mod Headers
pub mod Heading
pub mod Read
pub mod Message
pub mod Laws
