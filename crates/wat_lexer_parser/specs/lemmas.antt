-- Consequences of the definitions, for proofs in this crate and in crates that use it. The contracts can be understood
-- without them.
pub mod Parts
pub mod After
pub mod AnswerLaws
pub mod ReadingLaws
pub mod TypeLaws
pub mod WhileLaws
pub mod RuleLaws
pub mod SpellingLaws
