pub mod CarriedOut
pub mod SetRefusals
