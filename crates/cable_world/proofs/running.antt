-- Worlds that run: how the code goes from item to item.
--
-- `Mixed`: a table that a loop writes anew from its head on. `Rows`: what is under way on a node's wires, kept as
-- entries. `Tally`: how much of that is counted. `Sending`: what is sent goes onto a node's wires. `Hearing`: a node
-- hears signals one after the other. `Lists`: whether a list changed is seen from its length. `AllNodes`: the tables of
-- a turn, entry by entry. `Stepping`: a step of one node between two turns. `Whole`: a world by its parts, and its
-- vectors. `Start`: the tables at power-on. `Acting`: steps of one node and of two, and the packet for a set of nodes.
-- `Acts`: the four acts. `Touched`: what steps and acts leave as it is. `Still`: turns in which nothing happens.
pub mod Mixed
pub mod Rows
pub mod Tally
pub mod Sending
pub mod Hearing
pub mod Lists
pub mod AllNodes
pub mod Stepping
pub mod Whole
pub mod Start
pub mod Acting
pub mod Acts
pub mod Touched
pub mod Still
