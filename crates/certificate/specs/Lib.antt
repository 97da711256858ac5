pub mod Body
pub mod Spelling
pub mod Words
pub mod CertificateLines
pub mod ReasonOf
pub mod BodyOf
pub mod Versions
pub mod CertificateOf
