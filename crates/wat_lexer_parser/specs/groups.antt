-- Groups in parentheses, and the token kinds that delimit them.
pub mod Sorts
