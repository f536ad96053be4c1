pub mod OptimalityTest
pub mod Steps
