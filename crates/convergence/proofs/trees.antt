-- Components without loop: every node takes its roles.
--
-- `TreeStart`: the timers of nodes in T0. `TreesTaken`: of the nodes still in T0 one has a single
-- cable to another of them, and leaves once it sees that, and needn't wait to be forced.
pub mod TreeStart
pub mod TreesTaken
