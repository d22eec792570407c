-- What crates above use of the proofs of this one, by what it is about.

-- The text of a value is read as that value, and how deep a bus nests.
pub use Rattle.bus_json.proofs.ReadBack.{reads_back, tree_shallow, refusal_shallow}
-- Lines of JSON, gathered and written.
pub use Rattle.bus_json.proofs.JsonLines.{json_line_of, one_line, all_lines, gathers_none, gathers, gathers_both, writes_none, writes_both, writes_gathered}
