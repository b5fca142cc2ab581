-- The values of tokens.
pub mod NumberValues
pub mod Names
pub mod UniqueValues
pub mod Annotations
pub mod WordValues
pub mod IntegerFacts
pub mod KindNumbers
