pub mod Gathering
pub mod Forms
pub mod OneAnswer
pub mod Cables
pub mod CablesBy
pub mod Ends
