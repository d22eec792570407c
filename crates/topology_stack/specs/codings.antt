-- How trees are stored. No public contract cites a file of this folder.
pub mod Code
pub mod Place
