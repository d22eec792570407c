-- The worked runs end as the definition of outcomes has it: in trees, in a loop, and in a
-- contention.
use Rattle.std.proofs.Common.{◌≡◌, ◌⊎◌, inl, inr, ℕ, zero, suc, ◌<◌, ◌≤◌, Bool, true, false, List, [], ◌∷◌, map, Option, Some, None, slice_get, refl, sym, ◌∙◌, subst, arith}
use Rattle.self_id.specs.declared.node.Attrs.{Attrs}
use Rattle.self_id.specs.Group.{group}
use Rattle.topology_stack.specs.Tree.{Label, Tree, branch, no_more, absent, unplugged, up, down, emits}
use Rattle.std.specs.Prelude.{IsSomeAnd}
use Rattle.port_state.specs.declared.signal.Phase.{Phase}
use Rattle.port_state.specs.declared.signal.Phase.TheVariants.{TreeStart, Ready}
use Rattle.port_state.specs.Entry.{enter}
use Rattle.port_state.specs.Heard.{on_signal}
use Rattle.port_state.specs.Tick.{tick}
use Rattle.port_state.specs.Machine.{PortNode}
use Rattle.cabling.specs.Wiring.{Wiring}
use Rattle.cabling.specs.NodeSet.{Holds}
use Rattle.cabling.specs.Looped.{HasTwo, IsCore}
use Rattle.cabling.proofs.Lemmas.{none_of_zero}
use Rattle.cable_world.specs.World.{CableWorld}
use Rattle.cable_world.specs.Turn.{turn, turns_after}
use Rattle.cable_world.specs.Outcome.{AtNode, attrs_now, IsTree, IsContention, Ending, IsOutcome, IsSettled, loop, tree, contention}
use Rattle.cable_world.proofs.worked.Summary.{Summary, summary_of, summary, childless, one_child, two_children, attrs, at}
use Rattle.cable_world.proofs.worked.Settled.{each-held, at-node, said, no-core, no-loop, tree-settled}
use Rattle.cable_world.proofs.worked.TwoNodes as pair
use Rattle.cable_world.proofs.worked.ThreeNodes as line
use Rattle.cable_world.proofs.worked.Desk as desk
use Rattle.cable_world.proofs.worked.ChosenRoot as chosen
use Rattle.cable_world.proofs.worked.Loops as loops

-- what a node says of itself: its attributes, and whether it began the last reset
abbrev says : Attrs → Bool → Label
says a began = record { attrs = record a { initiated = began }; kept_a = 0; kept_b = 0 }

-- a link, S400 and no contender
abbrev plain : Bool → Label
plain began = says (attrs true 2 false) began

-- a node of 3 ports, of which the first leads to the parent
abbrev leaf : Label → Tree
leaf a = branch a (up (unplugged (unplugged no_more)))

-- ---- two nodes

abbrev one_cable : Wiring
one_cable = (Some (at 1 0) ∷ None ∷ None ∷ []) ∷ (Some (at 0 0) ∷ None ∷ None ∷ []) ∷ []

abbrev pair_tree : Bool → Tree
pair_tree began = branch (plain began) (down (leaf (plain true)) (unplugged (unplugged no_more)))

abbrev pair_list : List ℕ
pair_list = 0x807f8096 ∷ 0x817f80d6 ∷ []

abbrev pair_attrs : List Attrs
pair_attrs = (plain true).attrs ∷ (plain true).attrs ∷ []

abbrev pair_rows : List Summary
pair_rows = summary Ready 1 (Some 0) childless (Some 0) pair_list ∷ summary Ready 1 None one_child (Some 1) pair_list ∷ []

-- the second node is the root
pair-cables : (turns_after 299 pair.start).cabling ≡ one_cable
unfolding turn turns_after enter tick on_signal group
pair-cables = refl

pair-attrs : attrs_now (turns_after 299 pair.start) ≡ pair_attrs
unfolding turn turns_after enter tick on_signal group
pair-attrs = refl

pair-told : map summary_of (turns_after 299 pair.start).nodes ≡ pair_rows
unfolding turn turns_after enter tick on_signal group
pair-told = refl

pair-tree : IsTree (turns_after 299 pair.start) 3 1 (pair_tree true)
unfolding group
pair-tree =
    tree-settled (turns_after 299 pair.start) 3 1 (pair_tree true) one_cable pair_attrs pair_rows pair-cables pair-attrs pair-told refl refl
    (refl, refl, ((λ e. absurd cc), (refl, refl, (refl, tt)), tt))
    refl (((λ ne. refl), refl, refl), (((λ ne. absurd (ne refl)), refl, refl), tt))

-- after a configuration packet and a reset of the second node the first is the root
abbrev chosen_list : List ℕ
chosen_list = 0x807f8096 ∷ 0x817f80d4 ∷ []

abbrev chosen_attrs : List Attrs
chosen_attrs = (plain false).attrs ∷ (plain true).attrs ∷ []

abbrev chosen_rows : List Summary
chosen_rows = summary Ready 0 None one_child (Some 1) chosen_list ∷ summary Ready 0 (Some 0) childless (Some 0) chosen_list ∷ []

chosen-cables : (turns_after 266 chosen.told_both).cabling ≡ one_cable
unfolding turn turns_after enter tick on_signal group
chosen-cables = refl

chosen-attrs : attrs_now (turns_after 266 chosen.told_both) ≡ chosen_attrs
unfolding turn turns_after enter tick on_signal group
chosen-attrs = refl

chosen-told : map summary_of (turns_after 266 chosen.told_both).nodes ≡ chosen_rows
unfolding turn turns_after enter tick on_signal group
chosen-told = refl

chosen-tree : IsTree (turns_after 266 chosen.told_both) 3 0 (pair_tree false)
unfolding group
chosen-tree =
    tree-settled (turns_after 266 chosen.told_both) 3 0 (pair_tree false) one_cable chosen_attrs chosen_rows chosen-cables chosen-attrs chosen-told refl refl
    (refl, refl, ((λ e. absurd cc), (refl, refl, (refl, tt)), tt))
    refl (((λ ne. refl), refl, refl), (((λ ne. absurd (ne refl)), refl, refl), tt))

-- ---- three nodes in a line, of which the middle one is the root

abbrev two_cables : Wiring
two_cables = (Some (at 1 0) ∷ None ∷ None ∷ []) ∷ (Some (at 0 0) ∷ Some (at 2 0) ∷ None ∷ []) ∷ (Some (at 1 1) ∷ None ∷ None ∷ []) ∷ []

abbrev line_tree : Tree
line_tree = branch (plain true) (down (leaf (says (attrs true 2 true) true)) (down (leaf (plain true)) (unplugged no_more)))

abbrev line_attrs : List Attrs
line_attrs = (says (attrs true 2 true) true).attrs ∷ (plain true).attrs ∷ (plain true).attrs ∷ []

abbrev line_rows : List Summary
line_rows =
    summary Ready 0 (Some 0) childless (Some 0) line.list ∷
    summary Ready 0 None two_children (Some 2) line.list ∷
    summary Ready 0 (Some 0) childless (Some 1) line.list ∷ []

line-cables : (turns_after 268 line.start).cabling ≡ two_cables
unfolding turn turns_after enter tick on_signal group
line-cables = refl

line-attrs : attrs_now (turns_after 268 line.start) ≡ line_attrs
unfolding turn turns_after enter tick on_signal group
line-attrs = refl

line-told : map summary_of (turns_after 268 line.start).nodes ≡ line_rows
unfolding turn turns_after enter tick on_signal group
line-told = refl

line-tree : IsTree (turns_after 268 line.start) 7 1 line_tree
unfolding group
line-tree =
    tree-settled (turns_after 268 line.start) 7 1 line_tree two_cables line_attrs line_rows line-cables line-attrs line-told refl refl
    (refl, refl, ((λ e. absurd cc), (refl, refl, (refl, tt)), ((λ e. absurd cc), (refl, refl, (refl, tt)), tt)))
    refl (((λ ne. refl), refl, refl), (((λ ne. refl), refl, refl), (((λ ne. absurd (ne refl)), refl, refl), tt)))

-- ---- the desk: the camera that was pulled is a bus of its own

abbrev after : CableWorld
after = turns_after 290 desk.camera_out

abbrev hub_tree : Tree
hub_tree =
    branch (says (attrs false 2 false) true)
    (up (down (branch (plain false) (up (unplugged (absent no_more))))
    (down (branch (says (attrs true 0 false) false) (up (unplugged (absent no_more))))
    (unplugged (unplugged (unplugged (absent (absent (absent (absent (absent no_more)))))))))))

abbrev desk_tree : Tree
desk_tree = branch (says (attrs true 2 true) false) (down hub_tree (unplugged (unplugged no_more)))

abbrev desk_cables : Wiring
desk_cables =
    (Some (at 1 0) ∷ None ∷ None ∷ []) ∷
    (Some (at 0 0) ∷ Some (at 2 0) ∷ Some (at 4 0) ∷ None ∷ None ∷ None ∷ []) ∷
    (Some (at 1 1) ∷ None ∷ []) ∷ (None ∷ []) ∷ (Some (at 1 2) ∷ None ∷ []) ∷ []

abbrev desk_attrs : List Attrs
desk_attrs =
    (says (attrs true 2 true) false).attrs ∷ (says (attrs false 2 false) true).attrs ∷ (plain false).attrs ∷
    (says (attrs true 0 false) true).attrs ∷ (says (attrs true 0 false) false).attrs ∷ []

abbrev desk_rows : List Summary
desk_rows =
    summary Ready 1 None one_child (Some 3) desk.list ∷
    summary Ready 0 (Some 0) (false ∷ true ∷ true ∷ false ∷ false ∷ false ∷ []) (Some 2) desk.list ∷
    summary Ready 0 (Some 0) (false ∷ false ∷ []) (Some 0) desk.list ∷
    summary Ready 0 None (false ∷ []) (Some 0) desk.own ∷
    summary Ready 0 (Some 0) (false ∷ false ∷ []) (Some 1) desk.list ∷ []

desk-cables : after.cabling ≡ desk_cables
unfolding turn turns_after enter tick on_signal group
desk-cables = refl

desk-attrs : attrs_now after ≡ desk_attrs
unfolding turn turns_after enter tick on_signal group
desk-attrs = refl

desk-told : map summary_of after.nodes ≡ desk_rows
unfolding turn turns_after enter tick on_signal group
desk-told = refl

desk-tree : IsTree after 23 0 desk_tree
unfolding group
desk-tree =
    tree-settled after 23 0 desk_tree desk_cables desk_attrs desk_rows desk-cables desk-attrs desk-told refl refl
    (refl, refl, ((λ e. absurd cc), (refl, refl, (refl, ((λ e. absurd cc), (refl, refl, (refl, tt)), ((λ e. absurd cc), (refl, refl, (refl, tt)), tt)))), tt))
    refl (((λ ne. refl), refl, refl), (((λ ne. refl), refl, refl), (((λ ne. refl), refl, refl), (((λ ne. absurd (ne refl)), refl, refl), tt))))

abbrev camera_tree : Tree
camera_tree = branch (says (attrs true 0 false) true) (unplugged (absent (absent no_more)))

camera-tree : IsTree after 8 3 camera_tree
unfolding group
camera-tree =
    tree-settled after 8 3 camera_tree desk_cables desk_attrs desk_rows desk-cables desk-attrs desk-told refl refl
    (refl, refl, tt) refl (((λ ne. absurd (ne refl)), refl, refl), tt)

-- ---- two cables between two nodes: after 2,305 turns both report the loop

abbrev ring : Wiring
ring = (Some (at 1 0) ∷ Some (at 1 1) ∷ None ∷ []) ∷ (Some (at 0 0) ∷ Some (at 0 1) ∷ None ∷ []) ∷ []

ring-two : (k : ℕ) → Holds 3 k → HasTwo ring 3 k
ring-two k h =
    each-held (λ k. HasTwo ring 3 k) 3 (0 ∷ 1 ∷ []) refl (
      record { low = 0; high = 1; apart = omega arith; low_leads = (at 1 0, refl, refl); high_leads = (at 1 1, refl, refl) },
      (record { low = 0; high = 1; apart = omega arith; low_leads = (at 0 0, refl, refl); high_leads = (at 0 1, refl, refl) }, tt),
    ) k h

ring-core : IsCore ring 3 3
ring-core k = (λ h. (3, (λ x i. i), ring-two, h), λ p. p.1 k p.3)

ring-cables : (turns_after 2305 loops.loop).cabling ≡ ring
unfolding turn turns_after enter tick on_signal
ring-cables = refl

-- the phase, whether it timed out, and the ID
abbrev waits : PortNode → Phase × Bool × Option ℕ
waits x = (x.state.view.phase, x.state.view.timed_out, x.state.view.id)

abbrev ring_rows : List (Phase × Bool × Option ℕ)
ring_rows = (TreeStart, true, None) ∷ (TreeStart, true, None) ∷ []

ring-waits : map waits (turns_after 2305 loops.loop).nodes ≡ ring_rows
unfolding turn turns_after enter tick on_signal
ring-waits = refl

-- what holds of both rows holds of each node
ring-level_after :
    (P : Phase × Bool × Option ℕ → Type 0) → P (TreeStart, true, None) → (k : ℕ) → Holds 3 k →
    AtNode (turns_after 2305 loops.loop) k (λ x. P (waits x))
ring-level_after P p k h = said (turns_after 2305 loops.loop) waits ring_rows k P ring-waits (each-held (λ k. IsSomeAnd (slice_get ring_rows k) P) 3 (0 ∷ 1 ∷ []) refl (p, (p, tt)) k h)

ring-loop : IsOutcome (turns_after 2305 loops.loop) 3 (loop 3)
ring-loop = record {
  is_core = rw ring-cables ring-core;
  node = 0;
  in_core = refl;
  timed_out = ring-level_after (λ r. (r.0 ≡ TreeStart) × (r.1 ≡ true)) (refl, refl);
  unnamed = ring-level_after (λ r. r.2 ≡ None) refl;
}

-- ---- one cable between nodes that always draw alike: after 663 turns both have drawn 32 coins

pair-no_core : IsCore one_cable 3 0
pair-no_core = no-core one_cable (λ k. plain true) 1 3 (pair_tree true) (refl, refl, ((λ e. absurd cc), (refl, refl, (refl, tt)), tt)) refl

alike-cables : (turns_after 663 loops.alike).cabling ≡ one_cable
unfolding turn turns_after enter tick on_signal
alike-cables = refl

-- how many coins it drew, the first 32 of them, and the parent port
abbrev drew : PortNode → ℕ × ℕ × Option ℕ
drew x = (x.state.view.draws, x.state.view.first_draws, x.state.view.parent)

abbrev alike_rows : List (ℕ × ℕ × Option ℕ)
alike_rows = (32, 0, Some 0) ∷ (32, 0, Some 0) ∷ []

alike-drew : map drew (turns_after 663 loops.alike).nodes ≡ alike_rows
unfolding turn turns_after enter tick on_signal
alike-drew = refl

alike-level_after :
    (P : ℕ × ℕ × Option ℕ → Type 0) → P (32, 0, Some 0) → (k : ℕ) → Holds 3 k →
    AtNode (turns_after 663 loops.alike) k (λ x. P (drew x))
alike-level_after P p k h = said (turns_after 663 loops.alike) drew alike_rows k P alike-drew (each-held (λ k. IsSomeAnd (slice_get alike_rows k) P) 3 (0 ∷ 1 ∷ []) refl (p, (p, tt)) k h)

some-port :
    (o : Option PortNode) → IsSomeAnd o (λ x. x.state.view.parent ≡ Some 0) →
    IsSomeAnd o (λ x. x.state.view.parent ≡ None) → ⊥
some-port None h n = h
some-port (Some x) h n = cc

first-pair : (w : CableWorld) (c d : ℕ) → IsContention w 3 c d → (0 < c) ⊎ ((0 ≡ c) × (1 ≤ d))
first-pair w zero d h = let r : 0 < d = h.rising in inr (refl, omega arith)
first-pair w (suc c) d h = inl (omega arith)

alike-contention : IsOutcome (turns_after 663 loops.alike) 3 (contention 0 1)
alike-contention = (
  record {
    no_loop = no-loop (turns_after 663 loops.alike) one_cable 3 alike-cables pair-no_core;
    rising = omega arith;
    holds_a = refl;
    holds_b = refl;
    port_a = 0;
    port_b = 0;
    cable = rw alike-cables refl;
    draws = at-node (turns_after 663 loops.alike) 0 (λ x. (x.state.view.draws ≡ 32) × (x.state.view.first_draws ≡ 0)) _
        (λ x p. at-node (turns_after 663 loops.alike) 1 (λ y. (y.state.view.draws ≡ 32) × (y.state.view.first_draws ≡ 0)) _
        (λ y q. record { many = omega (arith, p.0); many_too = omega (arith, q.0); alike = p.1 ∙ sym q.1 }) (alike-level_after (λ r. (r.0 ≡ 32) × (r.1 ≡ 0)) (refl, refl) 1 refl))
        (alike-level_after (λ r. (r.0 ≡ 32) × (r.1 ≡ 0)) (refl, refl) 0 refl);
  },
  λ root t h. some-port (slice_get (turns_after 663 loops.alike).nodes root) (alike-level_after (λ r. r.2 ≡ Some 0) refl root h.holds_root) h.no_parent,
  first-pair (turns_after 663 loops.alike),
)

-- ---- not before its time: a turn earlier the pair isn't settled, since the first node lacks a packet

abbrev early : CableWorld
early = turns_after 298 pair.start

early-cables : early.cabling ≡ one_cable
unfolding turn turns_after enter tick on_signal group
early-cables = refl

abbrev early_rows : List Summary
early_rows = summary Ready 1 (Some 0) childless (Some 0) (0x807f8096 ∷ []) ∷ summary Ready 1 None one_child (Some 1) pair_list ∷ []

early-told : map summary_of early.nodes ≡ early_rows
unfolding turn turns_after enter tick on_signal group
early-told = refl

early-at :
    (k : ℕ) (P : Summary → Type 0) → IsSomeAnd (slice_get early_rows k) P →
    AtNode early k (λ x. P (summary_of x))
early-at k P h = said early summary_of early_rows k P early-told h

-- two facts of one node
both :
    (o : Option PortNode) (P Q : PortNode → Type 0) → ((x : PortNode) → P x → Q x → ⊥) →
    IsSomeAnd o P → IsSomeAnd o Q → ⊥
both None P Q f p q = p
both (Some x) P Q f p q = f x p q

no-tree : (root : ℕ) (t : Tree) → IsTree early 3 root t → ⊥
no-tree root t h =
    both (slice_get early.nodes 0) (λ x. x.state.list.items ≡ emits t) (λ x. x.state.list.items ≡ 0x807f8096 ∷ [])
    (λ x p q. both (slice_get early.nodes 1) (λ y. y.state.list.items ≡ emits t) (λ y. y.state.list.items ≡ pair_list)
    (λ y r s. let one : ◌≡◌ {A = List ℕ} (0x807f8096 ∷ []) pair_list = sym q ∙ p ∙ sym r ∙ s in absurd cc)
    (h.lists 1 refl) (early-at 1 (λ r. r.list ≡ pair_list) refl))
    (h.lists 0 refl) (early-at 0 (λ r. r.list ≡ 0x807f8096 ∷ []) refl)

few-draws : (a b : ℕ) → IsContention early 3 a b → ⊥
few-draws a b h =
    both (slice_get early.nodes a) _ (λ x. x.state.view.draws ≡ 1)
    (λ x p q. both (slice_get early.nodes b) _ (λ y. y.state.view.draws ≡ 1) (λ y r s. omega (arith, r.many, q)) p (drew-one b h.holds_b)) h.draws (drew-one a h.holds_a)
  where
    drew-one : (k : ℕ) → Holds 3 k → AtNode early k (λ x. x.state.view.draws ≡ 1)
    drew-one k h = early-at k (λ r. r.draws ≡ 1) (each-held (λ k. IsSomeAnd (slice_get early_rows k) (λ r. r.draws ≡ 1)) 3 (0 ∷ 1 ∷ []) refl (refl, (refl, tt)) k h)

no-outcome : (o : Ending) → IsOutcome early 3 o → ⊥
no-outcome (loop core) h = let p = ((subst (λ (c : Wiring). IsCore c 3 core) early-cables h.is_core) h.node).0 h.in_core in none_of_zero h.node ((pair-no_core h.node).1 p)
no-outcome (tree root t) h = no-tree root t h
no-outcome (contention a b) h = few-draws a b h.0

unsettled : IsSettled early 3 → ⊥
unsettled h = no-outcome h.0 h.1
