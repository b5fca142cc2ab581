-- Theorems about visible tokens and sequences of calls, which the functions of the module `laws` carry in their
-- contracts. Callers of the parser do not need them.
pub mod AllShown
pub mod ShownLaws
pub mod Counting
pub mod Blanking
pub mod BlankTexts
pub mod CallLaws
