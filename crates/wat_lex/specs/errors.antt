-- Errors as their callers see them: messages, positions, and the excerpt of the source line.
pub mod Messages
pub mod Positions
pub mod LineFeeds
pub mod Rendering
pub mod Errors
pub mod ErrorView
pub mod LineBytes
pub mod ShownView
pub mod PieceTexts
pub mod LaidPieces
