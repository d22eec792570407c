-- Any list of calls to the registers: what they answer, and what they leave.
use Rattle.std.specs.Prelude.{◌≢◌, ◌≤◌, Option, None, Some, List, fold}
use Rattle.std.specs.List.{scan}
use Rattle.resource_manager.specs.declared.access.Access.{Access}
use Rattle.resource_manager.specs.declared.access.Access.TheVariants.{Read, Write, Lock, Reset, Look, Allocate, Release}
use Rattle.resource_manager.specs.declared.access.Answer.{Answer}
use Rattle.resource_manager.specs.declared.access.Answer.TheVariants.{Replied, Saw, Done, Refused}
use Rattle.resource_manager.specs.declared.grant.GrantFault.{GrantFault}
use Rattle.resource_manager.specs.Register.{Values, initial_values}
use Rattle.resource_manager.specs.Channel.{seen_of}
use Rattle.resource_manager.specs.Response.{read_reply, write_reply, lock_reply, after_lock}
use Rattle.resource_manager.specs.Grant.{allocate_fault, release_fault, after_allocation, after_release}

-- there are 64 channels, and never more than 4915 units of bandwidth
abbrev pub IsPermitted : Access → Type 0
IsPermitted (Read offset) = Unit {0}
IsPermitted (Write offset value) = Unit {0}
IsPermitted (Lock offset kind arg value) = Unit {0}
IsPermitted Reset = Unit {0}
IsPermitted Look = Unit {0}
IsPermitted (Allocate seen channel units) = (channel ≤ 63) × (units ≤ 4915)
IsPermitted (Release seen channel units) = (channel ≤ 63) × (units ≤ 4915)

-- a grant or a release is done where there is no fault
abbrev pub done_unless : Option GrantFault → Answer
done_unless None = Done
done_unless (Some fault) = Refused fault

-- what a call answers
abbrev pub answer_of : Values → Access → Answer
answer_of values (Read offset) = Replied (read_reply values offset)
answer_of values (Write offset value) = Replied (write_reply offset)
answer_of values (Lock offset kind arg value) = Replied (lock_reply values offset kind)
answer_of values Reset = Done
answer_of values Look = Saw (seen_of values)
answer_of values (Allocate seen channel units) =
    done_unless (allocate_fault values seen channel units)
answer_of values (Release seen channel units) =
    done_unless (release_fault values seen channel units)

-- new values where there is no fault, and else the old ones
abbrev pub unless : Option GrantFault → Values → Values → Values
unless None old new = new
unless (Some fault) old new = old

-- what a call leaves
abbrev pub after : Values → Access → Values
after values (Read offset) = values
after values (Write offset value) = values
after values (Lock offset kind arg value) = after_lock values offset kind arg value
after values Reset = initial_values
after values Look = values
after values (Allocate seen channel units) =
    unless (allocate_fault values seen channel units) values (after_allocation values channel units)
after values (Release seen channel units) =
    unless (release_fault values seen channel units) values (after_release values channel units)

-- what a list of calls leaves, and what they answer, one after another
abbrev pub after_all : Values → List Access → Values
after_all values accesses = fold after values accesses

abbrev pub answers_of : Values → List Access → List Answer
answers_of values accesses = scan after answer_of values accesses

-- the answer refuses the call
abbrev pub IsRefusal : Answer → Type 0
IsRefusal (Replied reply) = reply.rcode ≢ 0
IsRefusal (Saw seen) = ⊥
IsRefusal Done = ⊥
IsRefusal (Refused fault) = Unit {0}
