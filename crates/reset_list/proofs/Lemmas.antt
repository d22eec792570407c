-- What crates above use of the proofs of this one, by what it is about.

-- What is told of items, one more and the first of them, is one thing, and there is one; and so it is of a list.
pub use Rattle.reset_list.proofs.InOrder.{AreSame, one_more, told_first, told_once, told_some, told_some_in}
pub use Rattle.reset_list.proofs.OneText.{same_list, same_short, same_told}
pub use Rattle.reset_list.proofs.SomeText.{some_list, some_short, some_told}
-- That the quadlets of a list have 32 bits.
pub use Rattle.log_line.proofs.Lemmas.{Fit}
-- Reads and writes in a row, and what came where all was read.
pub use Rattle.reset_list.proofs.Reading.{all_came, consumes_then, nothing_came}
pub use Rattle.reset_list.proofs.Wrote.{wrote_nothing, wrote_then, front_then, front_more, front_whole, is_front, is_sure}
-- What came and what is written where not all was read.
pub use Rattle.reset_list.proofs.Answered.{complete_of, exact_of, log_left, on_err, still_came}
-- How deep what a list is told as nests.
pub use Rattle.reset_list.proofs.Shallow.{told_shallow}
-- That a list is refused is that it is heard as no tree.
pub use Rattle.reset_list.proofs.Heard.{none_is}
-- A list with another item in place of the first that passes a test.
pub use Rattle.reset_list.proofs.Update.{first_nowhere, first_there, get_push, get_set, place_passes, place_within, updated_at, updated_none}
pub use Rattle.reset_list.proofs.Places.{places_none, places_push, places_same, places_set}
pub use Rattle.reset_list.proofs.Begun.{eq_number}
-- What a count that stays at its last value comes to.
pub use Rattle.reset_list.proofs.Capped.{counted_in, how_many, how_many_count}
-- That each quadlet of a list has 32 bits.
pub use Rattle.reset_list.proofs.AsRead.{all_fit}
