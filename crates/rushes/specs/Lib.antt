pub mod TeamLines
pub mod Hands
pub mod HandFields
pub mod RushFaults
pub mod Printed
