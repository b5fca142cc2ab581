-- WebAssembly 2.0, chapter 5 (binary format): the encodings of integers, lists and texts.
pub mod Encoding
pub mod Leb128
