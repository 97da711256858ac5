pub mod Numbers
pub mod Rooms
pub mod InOrder
pub mod Shared
pub mod Written
pub mod Cuts
pub mod Bisection
