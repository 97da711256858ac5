pub mod Testing
pub mod Receiving
pub mod Rounds
pub mod Passing
pub mod ForeignLaws
pub mod ContentLaws
pub mod AgreeLaws
pub mod OwnLaws
