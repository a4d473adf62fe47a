pub mod Cases
pub mod OwnCases
pub mod WindowCases
pub mod AboveCases
