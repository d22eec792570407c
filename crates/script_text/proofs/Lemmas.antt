-- What crates above use of the proofs of this one, by what it is about.

-- A tree's maps are shown by one text.
pub use Rattle.script_text.proofs.OneMaps.{same_maps}
-- A report has one text at most.
pub use Rattle.script_text.proofs.OneText.{one-text}
