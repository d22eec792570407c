-- How much a node keeps and sends.
use Rattle.std.specs.Prelude.{ℕ}

-- How many quadlets a node's list has at most: four for each of 63 nodes. No bus fills it, since a
-- node sends three self-ID packets at most.
abbrev pub list_limit : ℕ
list_limit = 252

-- How many signals a step sends at most: seven on each of sixteen ports. No step needs as many,
-- since the most is three packets on every port, and Done.
abbrev pub sends_limit : ℕ
sends_limit = 112
