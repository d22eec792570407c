-- The values of a dump nest a few levels deep, so each of their lines is read back.
use Rattle.std.proofs.Common.{◌≤◌, ℕ, Option, Some, None, List, arith}
use Rattle.self_id.specs.declared.standard.Standard.{Standard}
use Rattle.topology_stack.specs.Tree.{Tree}
use Rattle.json.specs.Json.{Members, max_depth}
use Rattle.json.specs.Tree.{depth, members_depth}
use Rattle.log_line.specs.declared.line.Origin.{Origin}
use Rattle.reset_list.specs.declared.counts.Tally.{Tally}
use Rattle.reset_list.specs.Counts.{most_of}
use Rattle.reset_list.specs.Json.{IsListTold}
use Rattle.reset_list.proofs.Lemmas.{told_shallow}
use Rattle.nosy_dump.specs.declared.record.DumpReset.{DumpReset}
use Rattle.nosy_dump.specs.declared.record.DumpFault.{DumpFault}
use Rattle.nosy_dump.specs.declared.record.DumpFault.TheVariants.{Cut, BadLength}
use Rattle.nosy_dump.specs.Noted.{Noted}
use Rattle.nosy_dump.specs.Json.{reset_value, fault_value, most_members, totals_value}

pub reset_shallow : (standard : Standard) (n : ℕ) (r : DumpReset) (origin : Origin) (list : List ℕ) (members : Members) (heard : Option Tree) →
    IsListTold standard origin list members heard → depth (reset_value n r members) ≤ max_depth
reset_shallow standard n r origin list members heard told =
    omega (arith, told_shallow standard origin list members heard told)

pub fault_shallow : (byte : ℕ) (f : DumpFault) → depth (fault_value byte f) ≤ max_depth
fault_shallow byte Cut = omega arith
fault_shallow byte (BadLength size) = omega arith

most_shallow : (t : Option Tally) → members_depth (most_members t) ≤ 1
most_shallow None = omega arith
most_shallow (Some t) = omega arith

pub totals_shallow : (n : Noted) → depth (totals_value n) ≤ max_depth
totals_shallow n = omega (arith, most_shallow (most_of None n.tallies))
