-- What a call answers that reads the list of a bus.
-- Statuses: 1 refused, 2 no memory, 4 no standard.
use Rattle.std.specs.Prelude.{◌≡◌, ℕ, Some, None, List, length, ◌≢◌, ◌/◌, ◌%◌}
use Rattle.quad_lanes.specs.Pairs.{quads_of, firsts, first_bad_pair}
use Rattle.self_id.specs.declared.standard.Standard.{Standard}
use Rattle.topology_stack.specs.declared.fault.TreeFault.{TreeFault}
use Rattle.topology_stack.specs.Tree.{Tree, IsBusTreeOf, emits}
use Rattle.topology_stack.specs.Refused.{Refused}
use Rattle.c_records.specs.declared.records.FaultRecord.{FaultRecord}
use Rattle.c_records.specs.Standards.{standard_of}
use Rattle.c_records.specs.Faults.{tree_record, bad_length, bad_inverse}

-- the bus tree of the year's standard emits the list
pub record IsTreeOf (year : ℕ) (quads : List ℕ) (t : Tree) : Type 0 where
  pub standard : Standard
  pub named : standard_of year ≡ Some standard
  pub bus : IsBusTreeOf standard t
  pub emitted : emits t ≡ quads

-- why no tree is read: the list's fault, which is told, want of memory, or no standard
pub data IsStop (year : ℕ) (quads : List ℕ) (before after : FaultRecord) (status : ℕ) : Type 0 where
  refused : (standard : Standard) (f : TreeFault) → standard_of year ≡ Some standard →
      Refused standard quads f → after ≡ tree_record f → status ≡ 1 →
      IsStop year quads before after status
  no_memory : after ≡ before → status ≡ 2 → IsStop year quads before after status
  no_standard : standard_of year ≡ None → after ≡ before → status ≡ 4 →
      IsStop year quads before after status

-- a tree is read and this holds of it, or else why not
pub data AnswersTree (year : ℕ) (quads : List ℕ) (before after : FaultRecord) (status : ℕ)
    (Tells : Tree → Type 0) : Type 0 where
  told : (t : Tree) → IsTreeOf year quads t → after ≡ before → Tells t →
      AnswersTree year quads before after status Tells
  stopped : IsStop year quads before after status → AnswersTree year quads before after status Tells

-- ---- captures: pairs of quadlets as bytes, each packet's quadlet before its bitwise inverse

-- the bytes are whole pairs, none of them is bad, and the list has the first quadlet of each
pub record IsListOf (bytes quads : List ℕ) : Type 0 where
  pub whole : length bytes % 8 ≡ 0
  pub good : first_bad_pair (quads_of bytes) ≡ None
  pub quads_are : quads ≡ firsts (quads_of bytes)

-- why bytes have no list: they end within a pair, a pair is bad, or memory ran out
pub data IsBadCapture (bytes : List ℕ) (before after : FaultRecord) (status : ℕ) : Type 0 where
  length_is_bad : length bytes % 8 ≢ 0 → after ≡ bad_length (length bytes / 8) →
      status ≡ 1 → IsBadCapture bytes before after status
  pair_is_bad : (pair : ℕ) → length bytes % 8 ≡ 0 → first_bad_pair (quads_of bytes) ≡ Some pair →
      after ≡ bad_inverse pair → status ≡ 1 → IsBadCapture bytes before after status
  no_room : after ≡ before → status ≡ 2 → IsBadCapture bytes before after status

-- the list of a capture is answered, or else why there is none
pub data AnswersCapture (year : ℕ) (bytes : List ℕ) (before after : FaultRecord) (status : ℕ)
    (Tells : Tree → Type 0) : Type 0 where
  of_list : (quads : List ℕ) → IsListOf bytes quads →
      AnswersTree year quads before after status Tells →
      AnswersCapture year bytes before after status Tells
  bad : IsBadCapture bytes before after status →
      AnswersCapture year bytes before after status Tells
