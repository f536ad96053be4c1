pub mod TransportProblem
