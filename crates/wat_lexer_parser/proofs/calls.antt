-- Lemmas about sequences of calls, and about all visible tokens.
pub mod Refusals
pub mod Beginnings
pub mod EachShown
pub mod ShownOneByOne
pub mod AllShownBlanked
pub mod BlankingLaw
pub mod BlankTextsLaw
pub mod Takes
