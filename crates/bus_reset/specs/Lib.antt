pub mod ResetStep
