pub mod Heights
pub mod Indices
pub mod Machine
pub mod Named
pub mod Law
pub mod Parts
pub mod Stack
