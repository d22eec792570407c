pub mod Turns
pub mod told
pub mod SomeManager
pub mod SomeAnswer
pub mod WorkedScripts
pub mod Lemmas
