-- What crates above use of the proofs of this one.
pub use Rattle.top_call.proofs.Answering.{each_answered, none_twice, of_answer, of_asked, some_left, unread_written}
