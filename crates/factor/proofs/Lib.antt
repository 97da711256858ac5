pub mod AtLaws
