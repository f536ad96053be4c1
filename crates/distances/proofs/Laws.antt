pub mod DistanceCases
pub mod RecordCases
