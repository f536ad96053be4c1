pub mod PlanSteps
