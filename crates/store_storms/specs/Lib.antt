pub mod Putters
