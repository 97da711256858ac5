pub mod ComeLaws
pub mod BesideLaws
pub mod WindowLaws
pub mod LateLaws
pub mod SourceLaws
pub mod WaitLaws
pub mod SeenLaws
