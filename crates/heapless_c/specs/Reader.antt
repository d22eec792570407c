-- A reader of fixed size: for which list it stands, and what is told of that list.
-- Statuses: 0 ok, 1 refused, 4 no standard, 6 incomplete.
use Rattle.std.specs.Prelude.{◌≡◌, ℕ, Some, None, List, length, take}
use Rattle.self_id.specs.declared.standard.Standard.{Standard}
use Rattle.topology_stack.specs.declared.fault.TreeFault.{TreeFault}
use Rattle.topology_stack.specs.Tree.{Tree, IsBusTreeOf, emits}
use Rattle.topology_stack.specs.Refused.{Refused}
use Rattle.topology_stack.specs.Reader.{IsLasting}
use Rattle.c_records.specs.declared.records.FaultRecord.{FaultRecord}
use Rattle.c_records.specs.Faults.{tree_record}
use Rattle.c_records.specs.Standards.{standard_of}
use Rattle.heapless_c.specs.declared.records.ReaderRecord.{ReaderRecord}

-- the reader keeps the first 253 quadlets of the list: no bus tree of either standard emits as many
pub record HasTaken (r : ReaderRecord) (list : List ℕ) : Type 0 where
  pub places : length r.quads ≡ 253
  pub kept : take r.count r.quads ≡ take 253 list

-- what is told of a list that no bus tree of the standard emits: a fault that it keeps however it goes
-- on, or the fault that it has only as long as it ends here
pub data IsNoTree (standard : Standard) (list : List ℕ) (after : FaultRecord) (status : ℕ)
    : Type 0 where
  refused : (f : TreeFault) → Refused standard list f → IsLasting f → after ≡ tree_record f →
      status ≡ 1 → IsNoTree standard list after status
  incomplete : (f : TreeFault) → Refused standard list f → (IsLasting f → ⊥) →
      after ≡ tree_record f → status ≡ 6 → IsNoTree standard list after status

-- what is told of a list that may go on: of the bus tree that emits it this holds, or there is none
pub data TellsState (standard : Standard) (list : List ℕ) (before after : FaultRecord) (status : ℕ)
    (Tells : Tree → Type 0) : Type 0 where
  whole : (t : Tree) → IsBusTreeOf standard t → emits t ≡ list → after ≡ before → Tells t →
      TellsState standard list before after status Tells
  no_tree : IsNoTree standard list after status →
      TellsState standard list before after status Tells

-- the same by the standard of a year
pub data TellsStateBy (year : ℕ) (list : List ℕ) (before after : FaultRecord) (status : ℕ)
    (Tells : Tree → Type 0) : Type 0 where
  by_standard : (standard : Standard) → standard_of year ≡ Some standard →
      TellsState standard list before after status Tells →
      TellsStateBy year list before after status Tells
  no_standard : standard_of year ≡ None → after ≡ before → status ≡ 4 →
      TellsStateBy year list before after status Tells
