pub mod Printed
pub mod Plays
pub mod Testing
