pub mod EvaluateTree
