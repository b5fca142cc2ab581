pub mod Arguments
pub mod Complaints
pub mod Help
pub mod Options
pub mod OptionSteps
