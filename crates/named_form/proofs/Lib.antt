mod Cutting
mod Written
mod Quotable
mod Numbers
mod Passing
mod NamedDot
