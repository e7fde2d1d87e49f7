pub mod Story
pub mod Requests
pub mod Steps
