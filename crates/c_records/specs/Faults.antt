-- The records of faults: the number of the kind, the place, and what was found and wanted. The words of a kind, and
-- the line, are those of the fault that a record tells (`fault_line` of `capture_reading`).
use Rattle.std.specs.Prelude.{◌≡◌, ℕ, ◌==◌, if◌then◌else◌}
use Rattle.self_id.specs.declared.fault.GroupFault.{GroupFault}
use Rattle.self_id.specs.declared.fault.GroupFault.TheVariants.{NotSelfId, WrongId, BadOrder, Cut, TwoParents}
use Rattle.topology_stack.specs.declared.fault.TreeFault.{TreeFault}
use Rattle.topology_stack.specs.declared.fault.TreeFault.TheVariants.{Group, Empty, TooFewChildren, TreesLeft, AfterRoot, NoRoot, TooMany}
use Rattle.capture_reading.specs.declared.fault.CaptureFault.{CaptureFault}
use Rattle.capture_reading.specs.declared.fault.CaptureFault.TheVariants.{BadLength, BadInverse, Tree}
use Rattle.c_records.specs.declared.records.FaultRecord.{FaultRecord}

abbrev pub fault_with : ℕ → ℕ → ℕ → ℕ → FaultRecord
fault_with kind at found wanted =
    record { at = at; kind = kind; found = found; wanted = wanted }

abbrev pub group_record : GroupFault → FaultRecord
group_record (NotSelfId at) = fault_with 1 at 0 0
group_record (WrongId at found wanted) = fault_with 2 at found wanted
group_record (BadOrder at) = fault_with 3 at 0 0
group_record (Cut at) = fault_with 4 at 0 0
group_record (TwoParents at) = fault_with 5 at 0 0

abbrev pub tree_record : TreeFault → FaultRecord
tree_record (Group f) = group_record f
tree_record Empty = fault_with 6 0 0 0
tree_record (TooFewChildren at found wanted) = fault_with 7 at found wanted
tree_record (TreesLeft at found wanted) = fault_with 8 at found wanted
tree_record (AfterRoot at) = fault_with 9 at 0 0
tree_record (NoRoot at) = fault_with 10 at 0 0
tree_record (TooMany at) = fault_with 11 at 0 0

-- the bytes of a capture end within this pair
abbrev pub bad_length : ℕ → FaultRecord
bad_length pair = fault_with 12 pair 0 0

-- the second quadlet of this pair, and of none before it, isn't the inverse of the first
abbrev pub bad_inverse : ℕ → FaultRecord
bad_inverse pair = fault_with 13 pair 0 0

abbrev pub fault_record : CaptureFault → FaultRecord
fault_record (BadLength pair) = bad_length pair
fault_record (BadInverse pair) = bad_inverse pair
fault_record (Tree f) = tree_record f

-- ---- the fault that a record tells

-- of a list, where the kind is 1 to 11
abbrev pub tree_fault_in : FaultRecord → TreeFault
tree_fault_in r =
    if r.kind == 1 then Group (NotSelfId r.at)
    else (if r.kind == 2 then Group (WrongId r.at r.found r.wanted)
    else (if r.kind == 3 then Group (BadOrder r.at)
    else (if r.kind == 4 then Group (Cut r.at)
    else (if r.kind == 5 then Group (TwoParents r.at)
    else (if r.kind == 6 then Empty
    else (if r.kind == 7 then TooFewChildren r.at r.found r.wanted
    else (if r.kind == 8 then TreesLeft r.at r.found r.wanted
    else (if r.kind == 9 then AfterRoot r.at
    else (if r.kind == 10 then NoRoot r.at else TooMany r.at)))))))))

-- of a capture, where the kind is 1 to 13
abbrev pub fault_in : FaultRecord → CaptureFault
fault_in r =
    if r.kind == 12 then BadLength r.at
    else (if r.kind == 13 then BadInverse r.at else Tree (tree_fault_in r))

-- the fault of a fault's record is that fault
abbrev pub ListFaultsAreReadBack : Type 0
ListFaultsAreReadBack = (f : TreeFault) → tree_fault_in (tree_record f) ≡ f

abbrev pub FaultsAreReadBack : Type 0
FaultsAreReadBack = (f : CaptureFault) → fault_in (fault_record f) ≡ f
