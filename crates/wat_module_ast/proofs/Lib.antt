pub mod Tables
pub mod Places
pub mod SameTypes
pub mod FunctionTypes
pub mod TypeKeys
pub mod Lengths
