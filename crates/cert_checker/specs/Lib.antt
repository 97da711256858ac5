pub mod Ages
pub mod Bounded
pub mod Numbers
pub mod Ready
pub mod Chains
pub mod CertificateFaults
pub mod Work
pub mod Answers
