-- How values are stored and computed. No public contract cites a file of this folder.
pub mod Node
pub mod Reading
