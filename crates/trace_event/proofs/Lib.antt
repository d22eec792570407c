mod Chain
mod Digits
mod Ends
mod Spelled
