pub mod Covering
