use Rattle.std.proofs.Common.{◌≡◌, true, Option, Some, None, refl, subst}
use Rattle.std.specs.Prelude.{IfNone}
use Rattle.cabling.specs.Wiring.{Wiring}
use Rattle.cabling.specs.Looped.{IsCore}
use Rattle.cable_world.specs.Outcome.{HasNoLoop}
use Rattle.settle.proofs.Settled.{reports-loop, not-neither}
use Rattle.settle.proofs.Pairs.{pair-contends, none-contends}
use Rattle.settle.proofs.part.outcome_of.Goals as goal

if-none : {A : Type 0} → (o : Option A) (P : Type 0) → ((x : A) → o ≡ Some x → ⊥) → IfNone o P → P
if-none None P none h = h
if-none (Some x) P none h = absurd (none x refl)

pub returns-then-not-is_empty : goal.returns-then-not-is_empty
returns-then-not-is_empty g c =
    let w = g.W.WorldRun.world c.args.world.now in
    let is : IsCore w.cabling c.args.set c.core-core.result = subst (λ (d : Wiring). IsCore d c.args.set c.core-core.result) c.cabling.ensures c.core-core.ensures in
    reports-loop c.every_bus_settles.ensures.settles w c.args.set c.core-core.result c.requires.component c.requires.there is
    (λ empty. let no : c.is_empty.result ≡ true = c.is_empty.ensures.1 empty in absurd cc) c.requires.settled

pub tree_of-requires-clause-no_loop : goal.tree_of-requires-clause-no_loop
tree_of-requires-clause-no_loop g c = record {
  core = c.core-core.result;
  is_core = subst (λ (d : Wiring). IsCore d c.args.set c.core-core.result) c.cabling.ensures c.core-core.ensures;
  empty = c.is_empty.ensures.0 c.if-not-is_empty.false;
}

pub unreachable-requires : goal.unreachable-requires
unreachable-requires g c =
    let w = g.W.WorldRun.world c.args.world.now in
    let is : IsCore w.cabling c.args.set c.core-core.result = subst (λ (d : Wiring). IsCore d c.args.set c.core-core.result) c.cabling.ensures c.core-core.ensures in
    not-neither c.every_bus_settles.ensures.settles w c.args.set c.core-core.result c.requires.component c.requires.there is
    (c.is_empty.ensures.0 c.if-not-is_empty.false) (if-none c.in_ok-tree.field-0 _ c.in_default.not-Some c.in_ok-tree.ensures.none)
    (none-contends w c.args.set c.in-None.ensures.none) c.requires.settled

pub returns : goal.returns
returns g c =
    let w = g.W.WorldRun.world c.args.world.now in
    let no_loop : HasNoLoop w c.args.set = record {
      core = c.core-core.result;
      is_core = subst (λ (d : Wiring). IsCore d c.args.set c.core-core.result) c.cabling.ensures c.core-core.ensures;
      empty = c.is_empty.ensures.0 c.if-not-is_empty.false;
    } in
    pair-contends w c.args.set c.in-Some-contention_in.a c.in-Some-contention_in.b c.requires.component.1.closed no_loop
    (if-none c.in_ok-tree.field-0 _ c.in_default.not-Some c.in_ok-tree.ensures.none) c.in-Some-contention_in.ensures.first
