-- How it is proved that a trace is the lines of events.
--
--   Lines         lines one behind the other, and the events that stand there
--   EventLines    a line with one name, wherever it stands in a text
--   NodeLines     what a trace tells of a node, and of all nodes
--   CommandLines  the line of an act or a hold
--   Waits         a node that draws a coin then waits for a short or for a long time
--   Said          what a line of a script says of names and numbers
--   Known         the names of nodes and how many turns are done, command by command
--   TraceLines    the whole trace
--   Feeds         a line ends at its one line feed
--   ReadOn        a trace that is read event by event is read whole
--   Lemmas        what crates above use
pub mod Lines
pub mod EventLines
pub mod NodeLines
pub mod CommandLines
pub mod Waits
pub mod Said
pub mod Known
pub mod TraceLines
pub mod Feeds
pub mod ReadOn
pub mod Lemmas
