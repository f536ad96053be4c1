pub mod Passed
pub mod AnswerCheck
pub mod Told
pub mod Answer
pub mod Outcome
