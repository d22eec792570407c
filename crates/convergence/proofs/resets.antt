-- The end of resets.
--
-- `ResetsOver`: after n d turns a Reset is under way to nodes in R0 alone, as it would make any
-- other enter. `ResetsDone`: then every hold ends, and the Idle that follows comes to all ports.
pub mod ResetsOver
pub mod ResetsDone
