-- A made script has no fault.
--
-- `Names`: each node has a name of its own, and is found by it. `FreeEnds`: no end is free twice.
-- `Cables`: a cable more joins a free end to a node without cables, and a cable that was pulled is
-- put back. `Steps`: what holds behind commands of which none is at fault, and what their lines tell.
-- `Buses`: what each command makes of the bus. `Scripts`: the whole script.
pub mod Names
pub mod FreeEnds
pub mod Cables
pub mod Steps
pub mod Buses
pub mod Scripts
