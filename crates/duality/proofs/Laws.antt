pub mod PlanDuality
pub mod Best
pub mod Agree
pub mod BestCost
