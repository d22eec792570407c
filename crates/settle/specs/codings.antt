-- How what is reported is found, node by node. No public contract cites one of these files.
pub mod Reading
