-- No public contract cites a file of this folder.
pub mod Asked
pub mod Log
pub mod Reading
