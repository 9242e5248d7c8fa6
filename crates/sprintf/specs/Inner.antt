-- What the private functions promise. Nothing public cites it.
pub mod Reading
