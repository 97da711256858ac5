pub mod BearingLaws
