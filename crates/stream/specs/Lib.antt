pub mod Faults
pub mod Numbers
pub mod Tags
pub mod Events
pub mod Fields
pub mod Streams
pub mod Ranges
pub mod Spelling
