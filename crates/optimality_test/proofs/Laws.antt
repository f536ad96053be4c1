pub mod OptimalityTest
