pub mod Followed
pub mod Front
pub mod Graphs
pub mod Course
pub mod Resources
pub mod Tables
pub mod Texts
