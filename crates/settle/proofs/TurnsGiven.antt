-- How many quiet turns a world is given.
use Rattle.std.proofs.Common.{◌≡◌, ◌≤◌, ◌+◌, ℕ, length, max, ap, Result, Ok, Err, refl, ◌∙◌, sym, arith}
use Rattle.std.specs.Prelude.{OnErr}
use Rattle.port_state.specs.declared.timing.Timing.{Timing}
use Rattle.cable_world.specs.World.{CableWorld}
use Rattle.cable_world.specs.Run.{IsReached, quiet_turns}
use Rattle.cable_world.specs.declared.act.Act.{Act}
use Rattle.cable_world.specs.Act.{ActLeads}
use Rattle.cable_world.specs.Unchanged.{TurnsPass}
use Rattle.cable_world.proofs.Lemmas.{act-keeps, act-slack, lawful-now}
use Rattle.convergence.specs.Turns.{slack, turns_to_settle}
use Rattle.settle.specs.Report.{IsSized, quiet_turns_of}

pub sized :
    (w : CableWorld) (n d : ℕ) (longest : Timing) (spare : ℕ) → ∥ IsReached w ∥₁ → n ≡ length w.cabling → d ≡ w.delay →
    longest ≡ w.longest → spare ≡ slack w → IsSized w n d longest spare
sized w n d longest spare r nodes delay times slow = record {
  nodes_are = (lawful-now w r).well_formed.count ∙ sym nodes;
  cables_are = sym nodes;
  delay_is = sym delay;
  longest_is = sym times;
  slack_is = sym slow;
}

-- a world is given as many as these numbers tell
pub given-by :
    (w : CableWorld) (n d : ℕ) (longest : Timing) (spare plain long : ℕ) → IsSized w n d longest spare →
    plain ≡ quiet_turns n d → long ≡ turns_to_settle w → max plain long ≡ quiet_turns_of w
given-by w n d longest spare plain long s few most =
    let told : quiet_turns (length w.cabling) w.delay ≡ quiet_turns n d =
    ap (λ m. quiet_turns m w.delay) s.cables_are ∙ ap (quiet_turns n) s.delay_is in
    ap (λ m. max m long) few ∙ ap (max (quiet_turns n d)) most ∙ sym (ap (λ m. max m (turns_to_settle w)) told)

-- an act changes nothing of that
pub same-quiet :
    (a : Act) (w v : CableWorld) → ∥ IsReached w ∥₁ → ∥ IsReached v ∥₁ → ActLeads a w v →
    quiet_turns_of v ≡ quiet_turns_of w
same-quiet a w v r s led =
    let keeps = act-keeps a w v led in
    let cables : length v.cabling ≡ length w.cabling =
    sym (lawful-now v s).well_formed.count ∙ keeps.nodes ∙ (lawful-now w r).well_formed.count in
    let spare : slack v ≡ slack w = act-slack a w v led in
    rw (cables, keeps.nodes, keeps.delay, keeps.longest, spare) refl

pub still-few : (was now given more : ℕ) → now ≡ was + 0 → more ≡ given → was + given ≤ 4000000000 →
    now + more ≤ 4000000000
still-few was now given more turns same few = omega (arith, turns, same, few)

pub passed-on :
    (w u v : CableWorld) (count given : ℕ) → TurnsPass 0 w u → count ≡ given → TurnsPass count u v →
    TurnsPass given w v
passed-on w u v count given a same b = record { nodes = b.nodes ∙ a.nodes; turns = omega (arith, b.turns, a.turns, same) }

pub on-err : {A E : Type 0} → (r : Result A E) (P : Type 0) → P → OnErr r P
on-err (Ok x) P p = tt
on-err (Err e) P p = p
