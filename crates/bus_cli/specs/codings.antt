-- How a capture is taken piece by piece. No public contract cites a file of this folder.
pub mod Asked
pub mod Late
pub mod Pieces
pub mod Reading
