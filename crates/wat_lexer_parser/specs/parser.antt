-- A parser as its callers see it, and the results of its calls.
pub mod State
pub mod Takers
pub mod Closures
pub mod Sights
