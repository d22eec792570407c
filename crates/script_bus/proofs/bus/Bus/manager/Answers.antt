use Rattle.std.proofs.Common.{◌≡◌, ◌<◌, ℕ, List, length, subst, sym, refl, ap, ◌∙◌}
use Rattle.std.proofs.lemmas.Option.{slice_get_within}
use Rattle.std.specs.Prelude.{IsSomeAnd, Option, None, Some, slice_get}
use Rattle.self_id.specs.Node.{Node}
use Rattle.self_id.specs.declared.standard.Standard.TheVariants.{Ieee2000}
use Rattle.topology_stack.specs.Tree.{Tree, walk}
use Rattle.script_bus.proofs.bus.Bus.manager.Goals as goal

there : (ns : List Node) (id : ℕ) (P : Node → Type 0) → IsSomeAnd (slice_get ns id) P →
    id < length ns
there ns id P h = by (slice_get ns id) refl h
  where
    by : (o : Option Node) → slice_get ns id ≡ o → IsSomeAnd o P → id < length ns
    by None e h = absurd h
    by (Some n) e h = slice_get_within ns id n e

pub bounds-order-id : goal.bounds-order-id
bounds-order-id c =
    let same : c.requires.tree ≡ c.in_ok-shown.shown = c.one_tree.ensures Ieee2000 c.requires.tree c.in_ok-shown.shown c.requires.valid c.in_ok-shown.ensures.tree.0 (c.requires.emitted ∙ sym c.in_ok-shown.ensures.tree.1) in
    let inside : c.in-Some.id < length (walk c.in_ok-shown.shown) = there (walk c.in_ok-shown.shown) c.in-Some.id _ c.in-Some.ensures.highest.0 in
    subst (λ (n : ℕ). c.in-Some.id < n) (ap (λ (t : Tree). length (walk t)) (sym same) ∙ sym c.requires.whole ∙ ap length (sym c.as_slice-order.ensures.value)) inside
