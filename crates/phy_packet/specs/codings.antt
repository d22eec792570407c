-- How values are computed. No public contract cites a file of this folder.
pub mod Decoding
