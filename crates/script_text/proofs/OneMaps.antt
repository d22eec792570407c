-- A tree's maps are shown by one text.
use Rattle.std.proofs.Common.{◌≡◌, ℕ, List, ◌∷◌, sym, ap, subst, ◌∙◌}
use Rattle.quad_lanes.specs.Pairs.{quads_of}
use Rattle.topology_stack.specs.Tree.{Tree, IsBusTree}
use Rattle.topology_map.specs.Sealed.{IsSealed}
use Rattle.speed_map.proofs.Lemmas.{one-rows, sealed-once}
use Rattle.script_text.specs.Maps.{images_text, IsMapsText}

pub same_maps : (generation : ℕ) (t : Tree) (a b : List ℕ) → IsBusTree t →
    IsMapsText generation t a → IsMapsText generation t b → a ≡ b
same_maps generation t a b bus x y =
    let topology : x.topology ≡ y.topology = sealed-once _ x.topology y.topology x.topology_is.image y.topology_is.image in
    let rows : x.rows ≡ y.rows = one-rows t x.rows y.rows bus x.rows_are y.rows_are in
    let speed : x.speed ≡ y.speed = sealed-once (generation ∷ quads_of y.rows) x.speed y.speed (subst (λ (r : List ℕ). IsSealed (generation ∷ quads_of r) x.speed) rows x.speed_is) y.speed_is in
    x.text_is ∙ ap (λ (q : List ℕ). images_text q x.speed) topology ∙ ap (images_text y.topology) speed ∙ sym y.text_is
