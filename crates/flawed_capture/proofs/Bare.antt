-- The list of a bus whose root has no cables at a packet that shows a child: trees are left.
use Rattle.std.proofs.Common.{◌≡◌, ℕ, ◌+◌, ◌<◌, ◌≤◌, List, [], ◌∷◌, ◌++◌, length, slice_set, get_or, refl, sym, ap, subst, ◌∙◌, append_assoc, arith, length-append}
use Rattle.std.proofs.lemmas.List.{append-nil}
use Rattle.std.proofs.Math.Seq.{set-append_seam, get_or-append_seam}
use Rattle.self_id.specs.declared.standard.Standard.{Standard}
use Rattle.self_id.specs.Node.{Node, node_with, IsNode, ups, downs}
use Rattle.self_id.specs.Group.{group}
use Rattle.topology_stack.specs.declared.fault.TreeFault.TheVariants.{TreesLeft as Left}
use Rattle.topology_stack.specs.Tree.{Label, Tree, branch, Slots, no_more, absent, unplugged, up, down, statuses, node_of, walk, walk_below, AreParts, AreOf, IsBusTreeOf, groups, emits}
use Rattle.topology_stack.specs.Forest.{AreWaiting, walks}
use Rattle.topology_stack.proofs.Lemmas.{groups-snoc, AreOf-parts, length-walk}
use Rattle.flawed_capture.specs.Other.{without_cables}
use Rattle.flawed_capture.specs.Spoilt.{IsListOfBus, LeavesTrees}
use Rattle.flawed_capture.proofs.Cleared.{cleared}
use Rattle.flawed_capture.proofs.Slots.{reformed, still_of, some_group}

-- ---- the trees below slots, as trees that wait: the last one comes first

abbrev onto : Slots → List Tree → List Tree
onto no_more ts = ts
onto (absent s) ts = onto s ts
onto (unplugged s) ts = onto s ts
onto (up s) ts = onto s ts
onto (down t s) ts = onto s (t ∷ ts)

walks-onto : (s : Slots) (ts : List Tree) → walks (onto s ts) ≡ walks ts ++ walk_below s
walks-onto no_more ts = sym (append-nil (walks ts))
walks-onto (absent s) ts = walks-onto s ts
walks-onto (unplugged s) ts = walks-onto s ts
walks-onto (up s) ts = walks-onto s ts
walks-onto (down t s) ts = walks-onto s (t ∷ ts) ∙ append_assoc (walks ts) (walk t) (walk_below s)

waiting-onto : (s : Slots) (ts : List Tree) → AreParts s → AreWaiting ts → AreWaiting (onto s ts)
waiting-onto no_more ts h w = w
waiting-onto (absent s) ts h w = waiting-onto s ts h w
waiting-onto (unplugged s) ts h w = waiting-onto s ts h w
waiting-onto (up s) ts h w = waiting-onto s ts h w
waiting-onto (down t s) ts h w = waiting-onto s (t ∷ ts) h.1 (h.0, w)

length-onto : (s : Slots) (ts : List Tree) → length (onto s ts) ≡ length ts + downs (statuses s)
length-onto no_more ts = omega arith
length-onto (absent s) ts = length-onto s ts
length-onto (unplugged s) ts = length-onto s ts
length-onto (up s) ts = length-onto s ts
length-onto (down t s) ts = omega (arith, length-onto s (t ∷ ts))

-- nodes below slots are below one that leads to a child
some_child : (s : Slots) → 0 < length (walk_below s) → 0 < downs (statuses s)
some_child no_more some = absurd (omega (arith, some))
some_child (absent s) some = some_child s some
some_child (unplugged s) some = some_child s some
some_child (up s) some = some_child s some
some_child (down t s) some = omega arith

-- ---- the list

-- a place of the list at which trees are left
abbrev pub IsLeftSomewhere : Standard → List ℕ → Type 0
IsLeftSomewhere standard list = (at : ℕ) × (at < length list) × LeavesTrees standard list at

left_by : (standard : Standard) (a : Label) (s : Slots) → IsBusTreeOf standard (branch a s) → 2 ≤ length (walk (branch a s)) →
    IsLeftSomewhere standard (emits (branch a s))
left_by standard a s bus enough =
    let root : Node = node_of a s in
    let wb : List Node = walk_below s in
    let ts : List Tree = onto s [] in
    let walked : walks ts ≡ wb = walks-onto s [] in
    let long : length (walk (branch a s)) ≡ length wb + 1 = length-walk a s in
    let both = AreOf-parts standard wb (root ∷ []) bus.nodes in
    let is_root : IsNode root = bus.bus.whole.0 in
    let child : 0 < downs root.ports = some_child s (omega (arith, long, enough)) in
    let c = cleared standard root (length wb) (omega (arith, long, bus.bus.small)) is_root both.1.0 child in
    let m : Node = node_with root.attrs c.ports root.kept_a root.kept_b in
    let list : List ℕ = emits (branch a s) in
    let front : List ℕ = groups 0 wb ++ c.begin in
    let whole : list ≡ front ++ c.quad ∷ c.end =
    groups-snoc wb root ∙ ap (λ (x : List ℕ). groups 0 wb ++ x) c.own ∙ sym (append_assoc (groups 0 wb) c.begin (c.quad ∷ c.end)) in
    let here : get_or list (length front) 0 ≡ c.quad =
    ap (λ (x : List ℕ). get_or x (length front) 0) whole ∙ get_or-append_seam front c.quad c.end 0 in
    let none : ups c.ports ≡ 0 = omega (arith, c.counts.parents, bus.bus.whole.1) in
    let is_m : IsNode m = record { form = reformed root c.ports c.counts.as_many is_root.form; one_parent = omega (arith, none) } in (
      length front,
      omega (arith, ap length whole, length-append front (c.quad ∷ c.end)),
      λ quad other.
          let new : quad ≡ without_cables standard c.quad = other ∙ ap (without_cables standard) here in
          let parts : slice_set list (length front) quad ≡ groups 0 wb ++ (group m (length (walks ts)) ++ []) =
          ap (λ (x : List ℕ). slice_set x (length front) quad) whole ∙ set-append_seam front c.quad c.end quad
          ∙ append_assoc (groups 0 wb) c.begin (quad ∷ c.end)
          ∙ ap (λ (q : ℕ). groups 0 wb ++ (c.begin ++ q ∷ c.end)) new
          ∙ ap (λ (x : List ℕ). groups 0 wb ++ x) (sym c.other)
          ∙ ap (λ (ns : List Node). groups 0 wb ++ group m (length ns)) (sym walked)
          ∙ ap (λ (x : List ℕ). groups 0 wb ++ x) (sym (append-nil (group m (length (walks ts))))) in
          record {
            fault = Left (length (groups 0 wb)) (length ts) (downs c.ports);
            refused = (
              ts,
              m,
              record {
                front = groups 0 wb;
                rest = [];
                goes_on = record {
                  forest = record {
                    waiting = waiting-onto s [] bus.bus.whole.2 tt;
                    are_of = subst (λ (ns : List Node). AreOf standard ns) (sym walked) both.0;
                    emitted = ap (groups 0) (sym walked);
                  };
                  parts = parts;
                  more = some_group m (length (walks ts)) [] is_m;
                  place = refl;
                  few = omega (arith, ap length walked, long, bus.bus.small);
                };
                is_node = is_m;
                is_of = still_of standard root c.ports c.counts.as_many both.1.0;
                found_is = refl;
                wanted_is = refl;
              },
              none,
              omega (arith, c.counts.fewer, length-onto s []),
            );
            kind = refl;
          },
    )

left_of : (standard : Standard) (t : Tree) → IsBusTreeOf standard t → 2 ≤ length (walk t) → IsLeftSomewhere standard (emits t)
left_of standard (branch a s) bus enough = left_by standard a s bus enough

pub leaves_trees : (standard : Standard) (nodes : ℕ) (list : List ℕ) → IsListOfBus standard nodes list → 2 ≤ nodes →
    IsLeftSomewhere standard list
leaves_trees standard nodes list bus enough =
    subst (IsLeftSomewhere standard) bus.emitted (left_of standard bus.t bus.bus (omega (arith, bus.count, enough)))
