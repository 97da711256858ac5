mod Documents
mod Quiet
mod RowsBeside
