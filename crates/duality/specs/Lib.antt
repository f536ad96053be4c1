pub mod Best
pub mod BestCost
pub mod Steps
