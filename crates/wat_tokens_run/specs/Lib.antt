pub mod Compiles
pub mod JsonWrites
pub mod Outcomes
pub mod Printed
pub mod Responses
pub mod Runs
pub mod Writes
