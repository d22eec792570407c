-- What is shown of the resets of a dump for programs: a value for each.
use Rattle.std.specs.Prelude.{◌≡◌, ℕ, Option, Some, None, List, [], ◌++◌, codes}
use Rattle.self_id.specs.declared.standard.Standard.{Standard}
use Rattle.topology_stack.specs.Tree.{Tree}
use Rattle.json.specs.Json.{Json, string, object, Members, no_members, member}
use Rattle.bus_json.specs.Text.{numeral, json_line}
use Rattle.bus_json.specs.Bus.{with_schema}
use Rattle.bus_json.specs.Refusal.{with_refusal}
use Rattle.log_line.specs.declared.line.Origin.TheVariants.{Core}
use Rattle.reset_list.specs.declared.counts.Tally.{Tally}
use Rattle.reset_list.specs.Counts.{most_of}
use Rattle.reset_list.specs.Json.{IsListTold}
use Rattle.nosy_dump.specs.declared.record.DumpReset.{DumpReset}
use Rattle.nosy_dump.specs.declared.record.DumpFault.{DumpFault}
use Rattle.nosy_dump.specs.declared.record.DumpFault.TheVariants.{Cut, BadLength}
use Rattle.nosy_dump.specs.Noted.{Noted}

-- ---- a reset

abbrev pub reset_value : ℕ → DumpReset → Members → Json
reset_value number r members =
    with_schema
    (member (codes "reset") (numeral number)
    (member (codes "byte") (numeral r.byte) (member (codes "time") (numeral r.time) members)))

-- the line of a reset, by what its list is told as
pub record IsResetTold (standard : Standard) (number : ℕ) (r : DumpReset) (text : List ℕ)
    (heard : Option Tree) : Type 0 where
  pub members : Members
  pub told : IsListTold standard Core r.list members heard
  pub text_is : text ≡ json_line (reset_value number r members)

-- ---- the end of a dump

abbrev pub found_members : DumpFault → Members
found_members Cut = member (codes "kind") (string (codes "Cut")) no_members
found_members (BadLength size) =
    member (codes "kind") (string (codes "BadLength"))
    (member (codes "found") (numeral size) no_members)

-- the record at a byte that is at fault
abbrev pub fault_value : ℕ → DumpFault → Json
fault_value byte f = with_refusal (member (codes "byte") (numeral byte) (found_members f))

abbrev pub fault_lines : ℕ → Option DumpFault → List ℕ
fault_lines byte None = []
fault_lines byte (Some f) = json_line (fault_value byte f)

abbrev pub most_members : Option Tally → Members
most_members None = no_members
most_members (Some t) =
    member (codes "most")
    (object
    (member (codes "node") (numeral t.node) (member (codes "count") (numeral t.count) no_members)))
    no_members

abbrev pub totals_value : Noted → Json
totals_value n =
    with_schema
    (member (codes "totals")
    (object
    (member (codes "resets") (numeral n.counts.resets)
    (member (codes "refused") (numeral n.counts.refused) (most_members (most_of None n.tallies)))))
    no_members)

abbrev pub end_lines : ℕ → Option DumpFault → Noted → List ℕ
end_lines byte fault n = fault_lines byte fault ++ json_line (totals_value n)
