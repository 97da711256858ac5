pub mod Steady
pub mod Streams
pub mod Densest
pub mod Text
pub mod Reading
pub mod Random
