pub mod Counting
pub mod SectionBytes
pub mod RunLaws
pub mod LocalLaws
pub mod FunctionElements
pub mod NameLaws
