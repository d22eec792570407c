-- The records of what differs between two buses.
-- Statuses: 1 refused, 2 no memory.
use Rattle.std.specs.Prelude.{◌≡◌, ◌≢◌, ℕ, Option, Some, None, List, map}
use Rattle.topology_stack.specs.Tree.{Tree}
use Rattle.view_text.specs.declared.cable.Cable.{Cable}
use Rattle.bus_diff.specs.declared.change.Change.{Change}
use Rattle.bus_diff.specs.declared.change.Change.TheVariants.{Went, Came, Moved, Value, Root, Manager}
use Rattle.bus_diff.specs.declared.change.Quality.{Quality}
use Rattle.bus_diff.specs.declared.change.Quality.TheVariants.{Link, Gap, Speed, Contender, Power}
use Rattle.bus_diff.specs.Difference.{AreDifferences}
use Rattle.c_border.specs.Places.{IsCopied}
use Rattle.c_records.specs.declared.records.FaultRecord.{FaultRecord}
use Rattle.c_records.specs.Shown.{id_or_none}
use Rattle.busconf_c.specs.declared.records.CableRecord.{CableRecord}
use Rattle.busconf_c.specs.declared.records.ChangeRecord.{ChangeRecord}
use Rattle.busconf_c.specs.Answers.{IsTreeOf, IsStop}

-- ---- records

abbrev pub cable_record : Option Cable → CableRecord
cable_record None = record { parent = 63; port = 0; child = 63; child_port = 0; speed = 0 }
cable_record (Some c) = record {
  parent = c.parent;
  port = c.port;
  child = c.child;
  child_port = c.child_port;
  speed = c.speed;
}

-- the record of a kind, of a node with these IDs, which hung on one cable and hangs on the other
abbrev pub hanging : ℕ → ℕ → ℕ → Option Cable → Option Cable → ChangeRecord
hanging kind old_id new_id old_cable new_cable = record {
  kind = kind;
  old_id = old_id;
  new_id = new_id;
  old_value = 0;
  new_value = 0;
  old_cable = cable_record old_cable;
  new_cable = cable_record new_cable;
}

-- the record of a kind, of a node with these IDs, which says other values of itself
abbrev pub saying : ℕ → ℕ → ℕ → ℕ → ℕ → ChangeRecord
saying kind old_id new_id old_value new_value = record {
  kind = kind;
  old_id = old_id;
  new_id = new_id;
  old_value = old_value;
  new_value = new_value;
  old_cable = cable_record None;
  new_cable = cable_record None;
}

-- the number of the kind of a value that a node says of itself
abbrev pub quality_number : Quality → ℕ
quality_number Link = 4
quality_number Gap = 5
quality_number Speed = 6
quality_number Contender = 7
quality_number Power = 8

abbrev pub change_record : Change → ChangeRecord
change_record (Went id cable) = hanging 1 id 63 cable None
change_record (Came id cable) = hanging 2 63 id None cable
change_record (Moved p from to) = hanging 3 p.old p.new from to
change_record (Value p quality from to) = saying (quality_number quality) p.old p.new from to
change_record (Root from to) = saying 9 from to 0 0
change_record (Manager from to) = saying 10 (id_or_none from) (id_or_none to) 0 0

-- ---- what is told

-- the list of what differs between two trees is told, by some matching of their nodes, unless memory ran out
pub data TellsChanges (old new : Tree) (before after : List ChangeRecord) (needed_before needed status : ℕ)
    : Type 0 where
  told : (changes : List Change) → AreDifferences old new changes →
      IsCopied (map change_record changes) before after needed status →
      TellsChanges old new before after needed_before needed status
  no_memory : after ≡ before → needed ≡ needed_before → status ≡ 2 →
      TellsChanges old new before after needed_before needed status

-- which list is refused is told: 1 the old one, 2 the new one
pub record IsMarked (number before after status : ℕ) : Type 0 where
  pub refused : status ≡ 1 → after ≡ number
  pub kept : status ≢ 1 → after ≡ before

-- two trees are read and this holds of them, or else why not: of the new list only where the old one is a tree's
pub data AnswersBoth (year : ℕ) (old_quads new_quads : List ℕ) (before after : FaultRecord)
    (list_before list status : ℕ) (Tells : Tree → Tree → Type 0) : Type 0 where
  both : (old new : Tree) → IsTreeOf year old_quads old → IsTreeOf year new_quads new →
      after ≡ before → list ≡ list_before → Tells old new →
      AnswersBoth year old_quads new_quads before after list_before list status Tells
  no_old : IsStop year old_quads before after status → IsMarked 1 list_before list status →
      AnswersBoth year old_quads new_quads before after list_before list status Tells
  no_new : (old : Tree) → IsTreeOf year old_quads old → IsStop year new_quads before after status →
      IsMarked 2 list_before list status →
      AnswersBoth year old_quads new_quads before after list_before list status Tells
