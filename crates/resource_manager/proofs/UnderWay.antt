-- A list of calls under way.
use Rattle.std.proofs.Common.{◌≡◌, ◌<◌, ◌≤◌, ◌+◌, ℕ, List, ◌++◌, ◌∷◌, [], length, take, drop, get_or, arith, sym, ◌∙◌, add-one, append_assoc, drop-cons, append-nil, set}
use Rattle.std.proofs.lemmas.List.{take_more_set, drop_all, take_all}
use Rattle.resource_manager.specs.declared.access.Access.{Access}
use Rattle.resource_manager.specs.declared.access.Answer.{Answer}
use Rattle.resource_manager.specs.Register.{Values}
use Rattle.resource_manager.specs.Access.{after, answer_of, after_all, answers_of}

-- i calls were made: what is still to come, from here, completes what the whole list leaves and answers
pub record IsUnderWay (before now : Values) (i : ℕ) (accesses : List Access) (answers : List Answer) : Type 0 where
  pub left : after_all now (drop i accesses) ≡ after_all before accesses
  pub given : take i answers ++ answers_of now (drop i accesses) ≡ answers_of before accesses

-- one call more
pub one_more :
    (before now : Values) (i : ℕ) (accesses : List Access) (answers : List Answer) (d : Access) →
    i < length accesses → i < length answers → IsUnderWay before now i accesses answers →
    IsUnderWay before (after now (get_or accesses i d)) (i + 1) accesses (set answers i (answer_of now (get_or accesses i d)))
one_more before now i accesses answers d h k w =
    let next : drop i accesses ≡ get_or accesses i d ∷ drop (i + 1) accesses = rw add-one (drop-cons accesses i d h) in
    record {
      left = rw next at w.left;
      given = rw (take_more_set answers i (answer_of now (get_or accesses i d)) k, append_assoc) (rw next at w.given);
    }

-- the registers and the answers once all calls were made
pub record IsDone (before now : Values) (accesses : List Access) (answers : List Answer) : Type 0 where
  pub left : now ≡ after_all before accesses
  pub given : answers ≡ answers_of before accesses

pub all_made :
    (before now : Values) (i : ℕ) (accesses : List Access) (answers : List Answer) → length accesses ≤ i →
    length answers ≡ length accesses → IsUnderWay before now i accesses answers →
    IsDone before now accesses answers
all_made before now i accesses answers end same w =
    let none : drop i accesses ≡ [] = drop_all i accesses end in
    let whole : take i answers ≡ answers = take_all i answers (omega arith) in
    record {
      left = rw none at w.left;
      given = sym (append-nil answers) ∙ rw (none, whole) at w.given;
    }
