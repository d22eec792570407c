-- what there is
pub mod Wire
pub mod Times
pub mod World
pub mod Parts
-- what happens
pub mod Turn
pub mod Act
pub mod Quiet
pub mod Run
pub mod Events
pub mod Still
-- what comes of it
pub mod Outcome
pub mod Fresh
-- what holds on the way
pub mod Phases
pub mod Signals
pub mod Agreement
pub mod Coupling
pub mod Lawful
-- laws
pub mod ByNumber
pub mod Unchanged
pub mod StaysLawful
pub mod ResetsEnd
-- answers of a world
pub mod Answer
-- how the code goes from item to item
pub mod running
