-- The record of the root that suits a bus best.
-- Statuses: 0 ok, 5 no candidate.
use Rattle.std.specs.Prelude.{◌≡◌, ℕ, None}
use Rattle.topology_stack.specs.Tree.{Tree}
use Rattle.topology_stack.specs.Elect.{elected}
use Rattle.root_plan.specs.Plan.{IsPlan}
use Rattle.busconf_c.specs.declared.records.PlanRecord.{PlanRecord}

-- the best root of a tree's bus, and the packet that makes it root
abbrev pub IsPlanRecord : Tree → PlanRecord → Type 0
IsPlanRecord t r = IsPlan t (record {
  root_id = r.root;
  hops = r.hops;
  gap = r.gap;
  far = r.reach;
  packet = r.packet;
})

-- it is told, unless no node is eligible
pub data TellsPlan (t : Tree) (before after : PlanRecord) (status : ℕ) : Type 0 where
  planned : IsPlanRecord t after → status ≡ 0 → TellsPlan t before after status
  nobody : elected t ≡ None → after ≡ before → status ≡ 5 → TellsPlan t before after status
