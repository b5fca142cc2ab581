pub mod CompilerErrors
pub mod SplitFloats
