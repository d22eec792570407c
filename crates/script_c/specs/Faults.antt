-- The records of the faults of scripts: the line, and the number of the kind.
-- Statuses: 1 refused, 2 no memory.
use Rattle.std.specs.Prelude.{◌≡◌, ℕ, ◌==◌, if◌then◌else◌}
use Rattle.script_lines.specs.declared.kind.Kind.{Kind}
use Rattle.script_lines.specs.declared.kind.Kind.TheVariants.{Word, Number, Name, Twice, Late, TooManyNodes, NoNode, NoPort, InUse, SameNode, NotPlugged, Range, NotSettled, NoManager, NotManager, TooManyTurns, TooManyMaps}
use Rattle.script_lines.specs.declared.kind.ScriptFault.{ScriptFault}
use Rattle.script_lines.specs.declared.kind.ScriptStop.{ScriptStop}
use Rattle.script_lines.specs.declared.kind.ScriptStop.TheVariants.{Fault, Memory}
use Rattle.script_c.specs.declared.record.ScriptFaultRecord.{ScriptFaultRecord}

abbrev pub kind_number : Kind → ℕ
kind_number Word = 1
kind_number Number = 2
kind_number Name = 3
kind_number Twice = 4
kind_number Late = 5
kind_number TooManyNodes = 6
kind_number NoNode = 7
kind_number NoPort = 8
kind_number InUse = 9
kind_number SameNode = 10
kind_number NotPlugged = 11
kind_number Range = 12
kind_number NotSettled = 13
kind_number NoManager = 14
kind_number NotManager = 15
kind_number TooManyTurns = 16
kind_number TooManyMaps = 17

abbrev pub fault_record : ScriptFault → ScriptFaultRecord
fault_record f = record { line = f.line; kind = kind_number f.kind }

-- a stop for a fault tells it, and one for want of memory leaves what was told
abbrev pub IsStopped : ScriptStop → ScriptFaultRecord → ScriptFaultRecord → ℕ → Type 0
IsStopped (Fault f) before after status = (after ≡ fault_record f) × (status ≡ 1)
IsStopped (Memory none) before after status = (after ≡ before) × (status ≡ 2)

-- ---- back from records

-- the kind with a number from 1 to 17
abbrev pub kind_in : ℕ → Kind
kind_in n =
    if n == 1 then Word
    else (if n == 2 then Number
    else (if n == 3 then Name
    else (if n == 4 then Twice
    else (if n == 5 then Late
    else (if n == 6 then TooManyNodes
    else (if n == 7 then NoNode
    else (if n == 8 then NoPort
    else (if n == 9 then InUse
    else (if n == 10 then SameNode
    else (if n == 11 then NotPlugged
    else (if n == 12 then Range
    else (if n == 13 then NotSettled
    else (if n == 14 then NoManager
    else (if n == 15 then NotManager
    else (if n == 16 then TooManyTurns else TooManyMaps)))))))))))))))

-- the fault that a record tells whose kind is 1 to 17
abbrev pub fault_in : ScriptFaultRecord → ScriptFault
fault_in r = record { line = r.line; kind = kind_in r.kind }

-- the fault of a fault's record is that fault
abbrev pub ScriptFaultsAreReadBack : Type 0
ScriptFaultsAreReadBack = (f : ScriptFault) → fault_in (fault_record f) ≡ f
