pub mod Agreement
pub mod Matching
pub mod Plan
pub mod PlanCost
pub mod PlanMoves
