pub mod Examples
pub mod Items
pub mod Names
pub mod Placed
pub mod Renaming
pub mod Values
