-- A tree that a cabling of slots shows is a bus tree, where the cabling has no other nodes than the tree.
use Rattle.std.proofs.Common.{◌≡◌, ◌≢◌, ℕ, zero, suc, ◌+◌, ◌-◌, ◌≤◌, IsTrue, Option, Some, None, List, [], ◌∷◌, ◌++◌, length, slice_get, refl, sym, ◌∙◌, ap, subst, arith}
use Rattle.self_id.specs.declared.standard.Standard.{Standard}
use Rattle.self_id.specs.Node.{Node, HasForm, IsNode, ups, is_width_of, node_with}
use Rattle.topology_stack.specs.Tree.{Label, Tree, branch, Slots, no_more, absent, unplugged, up, down, statuses, node_of, walk, walk_below, IsPart, AreParts, IsWhole, AreOf, IsBusTreeOf}
use Rattle.cabling.specs.declared.cable.End.{End}
use Rattle.slot_cabling.specs.SlotCabling.{Place, no_port, no_cable, cable_to, SlotWiring, Leads, IsSlotCabling, AreLabels, SeesSlots, SeesRow, CablesTree, CablingsShowTheBusTrees}
use Rattle.slot_cabling.proofs.SlotCabling.{cabled, some-same}
use Rattle.quad_lanes.proofs.Lemmas.{Has, has-tail, has-head, has-itself}

abbrev end_at : ℕ → ℕ → End
end_at node port = record { node = node; port = port }

module _ (standard : Standard) (c : SlotWiring) (is : IsSlotCabling standard c) where
  module _ (label : ℕ → Label) where
    pub row-length : (come : Option ℕ) (p : ℕ) (row : List Place) (s : Slots) → SeesRow c label come p row s → length (statuses s) ≡ length row
    row-length come p [] no_more h = refl
    row-length come p (no_port ∷ row) (absent s) h = ap suc (row-length come (p + 1) row s h)
    row-length come p (no_cable ∷ row) (unplugged s) h = ap suc (row-length come (p + 1) row s h)
    row-length come p (cable_to f ∷ row) (up s) h = ap suc (row-length come (p + 1) row s h.1)
    row-length come p (cable_to f ∷ row) (down t s) h = ap suc (row-length come (p + 1) row s h.2)
    row-length come p row s h = absurd h

    -- ---- one slot up

    none-up :
        (row : List Place) (s : Slots) (p : ℕ) (come : Option ℕ) → ((q : ℕ) → p ≤ q → come ≢ Some q) →
        SeesRow c label come p row s → ups (statuses s) ≡ 0
    none-up [] no_more p come n h = refl
    none-up (no_port ∷ row) (absent s) p come n h = none-up row s (p + 1) come (λ q le. n q (omega (arith, le))) h
    none-up (no_cable ∷ row) (unplugged s) p come n h = none-up row s (p + 1) come (λ q le. n q (omega (arith, le))) h
    none-up (cable_to f ∷ row) (up s) p come n h = absurd (n p (omega arith) h.0)
    none-up (cable_to f ∷ row) (down t s) p come n h = none-up row s (p + 1) come (λ q le. n q (omega (arith, le))) h.2
    none-up row s p come n h = absurd h

    some-number : (p q : ℕ) → Some p ≡ Some q → p ≡ q
    some-number p q h = cc

    one-up :
        (row : List Place) (s : Slots) (p i q : ℕ) (e : End) → q ≡ p + i → slice_get row i ≡ Some (cable_to e) →
        SeesRow c label (Some q) p row s → ups (statuses s) ≡ 1
    one-up [] s p i q e z at h = absurd cc
    one-up (no_port ∷ row) (absent s) p zero q e z at h = absurd cc
    one-up (no_port ∷ row) (absent s) p (suc i) q e z at h = one-up row s (p + 1) i q e (omega (arith, z)) at h
    one-up (no_cable ∷ row) (unplugged s) p zero q e z at h = absurd cc
    one-up (no_cable ∷ row) (unplugged s) p (suc i) q e z at h = one-up row s (p + 1) i q e (omega (arith, z)) at h
    one-up (cable_to f ∷ row) (up s) p zero q e z at h =
        let rest : ups (statuses s) ≡ 0 = none-up row s (p + 1) (Some q) (λ r le same. omega (arith, z, le, some-number q r same)) h.1 in
        omega (arith, rest)
    one-up (cable_to f ∷ row) (up s) p (suc i) q e z at h = absurd (omega (arith, z, some-number q p h.0))
    one-up (cable_to f ∷ row) (down t s) p zero q e z at h = absurd (h.0 (let y : q ≡ p = omega (arith, z) in ap (λ (n : ℕ). Some n) y))
    one-up (cable_to f ∷ row) (down t s) p (suc i) q e z at h = one-up row s (p + 1) i q e (omega (arith, z)) at h.2
    one-up row s p i q e z at h = absurd h

    -- ---- nodes

    module _ (labels : AreLabels c label) where
      is-node :
          (a : Label) (x : ℕ) (row : List Place) (s : Slots) (come : Option ℕ) → a ≡ label x → slice_get c x ≡ Some row →
          SeesRow c label come 0 row s → ups (statuses s) ≤ 1 → IsNode (node_of a s)
      is-node a x row s come same at h few = record {
        form = subst (λ (b : Label). HasForm (node_with b.attrs (statuses s) b.kept_a b.kept_b)) (sym same) (labels x row at (statuses s) (row-length come 0 row s h));
        one_parent = few;
      }

      mutual
        part-seen :
            (t : Tree) (x q : ℕ) (e : End) → Leads c (end_at x q) e → SeesSlots c label x (Some q) t → IsPart t
        part-seen (branch a s) x q e l h =
            let same : l.row ≡ h.1 = some-same l.row h.1 (sym l.node ∙ h.2) in
            let at : slice_get h.1 q ≡ Some (cable_to e) = ap (λ (r : List Place). slice_get r q) (sym same) ∙ l.slot in
            let one : ups (statuses s) ≡ 1 = one-up h.1 s 0 q q e (omega arith) at h.3 in (
              is-node a x h.1 s (Some q) h.0 h.2 h.3 (omega (arith, one)),
              one,
              parts-seen h.1 s x 0 (Some q) h.1 h.2 (has-itself h.1) h.3,
            )

        parts-seen :
            (row : List Place) (s : Slots) (x p : ℕ) (come : Option ℕ) (whole : List Place) → slice_get c x ≡ Some whole →
            Has whole p row → SeesRow c label come p row s → AreParts s
        parts-seen [] no_more x p come whole at has h = tt
        parts-seen (no_port ∷ row) (absent s) x p come whole at has h = parts-seen row s x (p + 1) come whole at (has-tail whole p no_port row has) h
        parts-seen (no_cable ∷ row) (unplugged s) x p come whole at has h = parts-seen row s x (p + 1) come whole at (has-tail whole p no_cable row has) h
        parts-seen (cable_to f ∷ row) (up s) x p come whole at has h = parts-seen row s x (p + 1) come whole at (has-tail whole p (cable_to f) row has) h.1
        parts-seen (cable_to f ∷ row) (down t s) x p come whole at has h = (
          part-seen t f.node f.port (end_at x p) (is.both_ways (end_at x p) f (record { row = whole; node = at; slot = has-head whole p (cable_to f) row has })) h.1,
          parts-seen row s x (p + 1) come whole at (has-tail whole p (cable_to f) row has) h.2,
        )
        parts-seen row s x p come whole at has h = absurd h

      -- ---- widths

      both-of : (ms ns : List Node) → AreOf standard ms → AreOf standard ns → AreOf standard (ms ++ ns)
      both-of [] ns h g = g
      both-of (m ∷ ms) ns h g = (h.0, both-of ms ns h.1 g)

      mutual
        pub all-of : (t : Tree) (x : ℕ) (come : Option ℕ) → SeesSlots c label x come t → AreOf standard (walk t)
        all-of (branch a s) x come h =
            both-of (walk_below s) (node_of a s ∷ []) (below-of h.1 s 0 come h.3)
            (subst (λ (n : ℕ). IsTrue (is_width_of standard n)) (sym (row-length come 0 h.1 s h.3)) (is.widths x h.1 h.2), tt)

        below-of : (row : List Place) (s : Slots) (p : ℕ) (come : Option ℕ) → SeesRow c label come p row s → AreOf standard (walk_below s)
        below-of [] no_more p come h = tt
        below-of (no_port ∷ row) (absent s) p come h = below-of row s (p + 1) come h
        below-of (no_cable ∷ row) (unplugged s) p come h = below-of row s (p + 1) come h
        below-of (cable_to f ∷ row) (up s) p come h = below-of row s (p + 1) come h.1
        below-of (cable_to f ∷ row) (down t s) p come h = both-of (walk t) (walk_below s) (all-of t f.node (Some f.port) h.1) (below-of row s (p + 1) come h.2)
        below-of row s p come h = absurd h

      pub whole-seen : (t : Tree) (root : ℕ) → SeesSlots c label root None t → IsWhole t
      whole-seen (branch a s) root h =
          let none : ups (statuses s) ≡ 0 = none-up h.1 s 0 None (λ q le same. no-number q same) h.3 in (
            is-node a root h.1 s None h.0 h.2 h.3 (omega (arith, none)),
            none,
            parts-seen h.1 s root 0 None h.1 h.2 (has-itself h.1) h.3,
          )
        where
          no-number : (q : ℕ) → ◌≡◌ {A = Option ℕ} None (Some q) → ⊥
          no-number q h = cc

shown-tree : (standard : Standard) (t : Tree) → CablesTree standard t → IsBusTreeOf standard t
shown-tree standard t h =
    let root : ℕ = length (walk t) - 1 in
    let all = all-of standard h.cabling h.is h.label h.labels t root None h.seen in
    record {
      bus = record {
        whole = whole-seen standard h.cabling h.is h.label h.labels t root h.seen;
        small = omega (arith, h.whole, h.is.few_nodes);
        one_standard = (standard, all);
      };
      nodes = all;
    }

pub show_bus_trees : CablingsShowTheBusTrees
show_bus_trees standard t = (cabled standard t, shown-tree standard t)
