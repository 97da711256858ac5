pub mod Table
pub mod Holds
pub mod IsTableOf
