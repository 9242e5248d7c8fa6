pub mod Words
pub mod Stream
pub mod Reading
pub mod Located
pub mod Lines
pub mod ReaderState
pub mod LineCall
pub mod Inner
