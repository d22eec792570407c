-- What a call answers that runs a script.
-- Statuses: 0 ok, 1 refused, 2 no memory, 3 too short, 8 too long, 9 no name.
use Rattle.std.specs.Prelude.{◌≡◌, ℕ, List, Ok, Err}
use Rattle.quad_lanes.specs.Capture.{capture}
use Rattle.script_run.specs.Listed.{IsListed}
use Rattle.script_lines.specs.declared.kind.ScriptFault.{ScriptFault}
use Rattle.script_told.specs.Script.{ScriptResult}
use Rattle.c_border.specs.Places.{IsCopied}
use Rattle.script_c.specs.declared.record.ScriptFaultRecord.{ScriptFaultRecord}
use Rattle.script_c.specs.Faults.{fault_record}

-- a text that the script has is told at the place, or only its length where the place is too short;
-- or a fault that it has is told; or memory ran out
pub data TellsScript (HasText : List ℕ → Type 0) (HasFault : ScriptFault → Type 0)
    (before after : List ℕ) (needed_before needed : ℕ) (fault_before fault : ScriptFaultRecord)
    (status : ℕ) : Type 0 where
  told : (text : List ℕ) → HasText text → IsCopied text before after needed status →
      fault ≡ fault_before →
      TellsScript HasText HasFault before after needed_before needed fault_before fault status
  refused : (f : ScriptFault) → HasFault f → fault ≡ fault_record f → after ≡ before →
      needed ≡ needed_before → status ≡ 1 →
      TellsScript HasText HasFault before after needed_before needed fault_before fault status
  no_memory : after ≡ before → needed ≡ needed_before → fault ≡ fault_before → status ≡ 2 →
      TellsScript HasText HasFault before after needed_before needed fault_before fault status

-- this is told, a text or a fault
abbrev pub TellsThis :
    ScriptResult → List ℕ → List ℕ → ℕ → ℕ → ScriptFaultRecord → ScriptFaultRecord → ℕ → Type 0
TellsThis (Ok text) before after needed_before needed fault_before fault status =
    IsCopied text before after needed status × (fault ≡ fault_before)
TellsThis (Err f) before after needed_before needed fault_before fault status =
    (fault ≡ fault_record f) × (after ≡ before) × (needed ≡ needed_before) × (status ≡ 1)

-- a script of more than 1,048,576 bytes isn't looked at
abbrev pub IsTooLong :
    List ℕ → List ℕ → ℕ → ℕ → ScriptFaultRecord → ScriptFaultRecord → ℕ → Type 0
IsTooLong before after needed_before needed fault_before fault status =
    (after ≡ before) × (needed ≡ needed_before) × (fault ≡ fault_before) × (status ≡ 8)

-- nor is one of which only this is asked
abbrev pub IsUnread : List ℕ → List ℕ → ℕ → ℕ → ℕ → Type 0
IsUnread before after needed_before needed status =
    (after ≡ before) × (needed ≡ needed_before) × (status ≡ 8)

-- the name of a node isn't one, so no script is asked
abbrev pub IsNoName :
    List ℕ → List ℕ → ℕ → ℕ → ScriptFaultRecord → ScriptFaultRecord → ℕ → Type 0
IsNoName before after needed_before needed fault_before fault status =
    (after ≡ before) × (needed ≡ needed_before) × (fault ≡ fault_before) × (status ≡ 9)

-- the capture of the list that a script's node has in the end
pub record HasCapture (bytes name text : List ℕ) : Type 0 where
  pub list : List ℕ
  pub listed : IsListed bytes name (Ok list)
  pub text_is : text ≡ capture list
