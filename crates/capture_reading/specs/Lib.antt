pub mod Capture
pub mod Line
pub mod OneReading
pub mod Stop
pub mod Answer
