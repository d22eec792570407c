-- The value of a refused capture, and of a refused script.
use Rattle.std.specs.Prelude.{ℕ, Option, Some, None, List, codes}
use Rattle.capture_reading.specs.declared.fault.CaptureFault.{CaptureFault}
use Rattle.capture_reading.specs.declared.refusal.Counts.{Counts}
use Rattle.capture_reading.specs.Line.{Refusal, refusal_of}
use Rattle.json.specs.Json.{Json, string, object, Members, no_members, member}
use Rattle.bus_json.specs.Text.{numeral}
use Rattle.bus_json.specs.Bus.{with_schema}

-- what was found and what was wanted, where both are known
abbrev pub counts_members : Option Counts → Members
counts_members None = no_members
counts_members (Some c) =
    member (codes "found") (numeral c.found) (member (codes "wanted") (numeral c.wanted) no_members)

-- the pair at fault, the kind of its fault, and the counts
abbrev pub refusal_members : Refusal → Members
refusal_members r =
    member (codes "pair") (numeral r.pair)
    (member (codes "kind") (string r.kind) (counts_members r.counts))

abbrev pub fault_members : CaptureFault → Members
fault_members f = refusal_members (refusal_of f)

-- the one member `refused`
abbrev pub refused_members : Members → Members
refused_members members = member (codes "refused") (object members) no_members

abbrev pub with_refusal : Members → Json
with_refusal members = with_schema (refused_members members)

abbrev pub fault_value : CaptureFault → Json
fault_value f = with_refusal (fault_members f)

-- the line of a script at fault and the kind of its fault
abbrev pub line_members : ℕ → List ℕ → Members
line_members line kind =
    member (codes "line") (numeral line) (member (codes "kind") (string kind) no_members)

abbrev pub line_refusal_value : ℕ → List ℕ → Json
line_refusal_value line kind = with_refusal (line_members line kind)
