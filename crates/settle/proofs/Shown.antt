-- What a node of a world shows.
use Rattle.std.proofs.Common.{◌≡◌, ◌+◌, ℕ, ◌<◌, List, ◌++◌, [], ◌∷◌, map, take, length, slice_get, get_or, ap, sym, ◌∙◌}
use Rattle.std.proofs.lemmas.List.{map_more}
use Rattle.std.proofs.lemmas.Option.{slice_get_within, get_or_from_slice_get}
use Rattle.self_id.specs.declared.node.Attrs.{Attrs}
use Rattle.port_state.specs.Group.{shown_attrs}
use Rattle.port_state.specs.Machine.{PortNode}
use Rattle.cable_world.specs.World.{CableWorld}
use Rattle.cable_world.specs.Outcome.{AtNode}
use Rattle.cable_world.proofs.Lemmas.{some-of}

-- a node of which something holds is there
pub node-there : (w : CableWorld) (k : ℕ) (P : PortNode → Type 0) → AtNode w k P →
    k < length w.nodes
node-there w k P h = let s = some-of (slice_get w.nodes k) P h in slice_get_within w.nodes k s.0 s.1

-- the attributes of one node more
pub attrs-more :
    (w : CableWorld) (k : ℕ) (attrs : List Attrs) (a : Attrs) →
    AtNode w k (λ x. a ≡ shown_attrs x.state) →
    attrs ≡ map (λ (x : PortNode). shown_attrs x.state) (take k w.nodes) →
    attrs ++ a ∷ [] ≡ map (λ (x : PortNode). shown_attrs x.state) (take (k + 1) w.nodes)
attrs-more w k attrs a h so_far =
    let s = some-of (slice_get w.nodes k) (λ (x : PortNode). a ≡ shown_attrs x.state) h in
    let inside : k < length w.nodes = slice_get_within w.nodes k s.0 s.1 in
    let at : get_or w.nodes k s.0 ≡ s.0 = get_or_from_slice_get w.nodes k s.0 s.0 s.1 in
    let is : a ≡ shown_attrs (get_or w.nodes k s.0).state = s.2 ∙ sym (ap (λ (x : PortNode). shown_attrs x.state) at) in
    rw (so_far, is) (sym (map_more (λ (x : PortNode). shown_attrs x.state) w.nodes k s.0 inside))
