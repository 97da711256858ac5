pub mod SameLaws
pub mod NodeLaws
pub mod SilentLaws
pub mod ChainLaws
pub mod SeatLaws
pub mod FirstLaws
pub mod PushLaws
