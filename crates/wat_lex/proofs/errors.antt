-- Lemmas on positions and on the line that an error shows.
pub mod Positions
pub mod Lines
pub mod LineFeeds
pub mod Rendering
pub mod ShownLines
pub mod ShownBytes
pub mod Stretches
pub mod Widths
pub mod Laying
pub mod Digits
pub mod Lengths
pub mod Utf16
pub mod LineCounts
pub mod PastColumns
