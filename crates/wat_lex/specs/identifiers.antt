-- WebAssembly 2.0, 6.3.5 (identifiers) and 6.6.1 (indices), as their callers see them.
pub mod Identifiers
pub mod IndexLaws
pub mod Indices
