pub mod FreshReaders
