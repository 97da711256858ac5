pub mod Scripted
