-- Trees with one text are alike but for what no text has, and the other way round.
use Rattle.std.proofs.Common.{◌≡◌, ℕ, suc, ◌+◌, ◌^◌, ◌<◌, ◌≤◌, Option, Some, None, List, [], ◌∷◌, ◌++◌, map, length, slice_get, refl, sym, ◌∙◌, ap, subst, arith, append_assoc, length-append}
use Rattle.std.proofs.lemmas.List.{map-append, length-map}
use Rattle.std.proofs.lemmas.Nat.{pow_pos}
use Rattle.std.proofs.Math.Nat.{zero-mod}
use Rattle.self_id.specs.declared.standard.Standard.{Standard}
use Rattle.self_id.specs.Node.{Node, IsNode, FitBits, ups, kept_a_bits, kept_b_bits, blank_b_bits}
use Rattle.topology_stack.specs.Tree.{Label, Tree, branch, Slots, no_more, absent, unplugged, up, down, statuses, node_of, walk, walk_below, IsPart, AreParts, IsWhole, AreOf, IsBusTree, IsBusTreeOf, groups}
use Rattle.topology_stack.specs.Far.{slot_ends, ends_from, ends_below, ends}
use Rattle.topology_stack.specs.Elect.{highest_from, elected}
use Rattle.topology_stack.specs.Text.{field, node_line, attrs_text, rest_of_attrs, lines_from, last_line, tree_text}
use Rattle.topology_stack.proofs.Lemmas.{are_nodes, one_tree, some_node}
use Rattle.world_laws.specs.TreeText.{told_node, told_label, told_tree, told_slots, HaveEnds, TextsTellTrees, AlikeTreesHaveOneText}
use Rattle.world_laws.proofs.LineText.{Lines, read-line, line-text}

-- ---- each slot has its end

abbrev AllEnds : List Node → List (List (Option ℕ)) → Type 0
AllEnds [] [] = Unit {0}
AllEnds (n ∷ ns) (e ∷ es) = HaveEnds n.ports e × AllEnds ns es
AllEnds ns es = ⊥

ends-append :
    (ms ns : List Node) (es fs : List (List (Option ℕ))) → AllEnds ms es → AllEnds ns fs →
    AllEnds (ms ++ ns) (es ++ fs)
ends-append [] ns [] fs a b = b
ends-append (m ∷ ms) ns (e ∷ es) fs a b = (a.0, ends-append ms ns es fs a.1 b)
ends-append [] ns (e ∷ es) fs a b = absurd a
ends-append (m ∷ ms) ns [] fs a b = absurd a

row-ends :
    (from parent : ℕ) (s : Slots) → parent < 64 → from + length (walk_below s) ≤ 64 →
    HaveEnds (statuses s) (slot_ends from parent s)
row-ends from parent no_more p few = tt
row-ends from parent (absent s) p few = (tt, row-ends from parent s p few)
row-ends from parent (unplugged s) p few = (tt, row-ends from parent s p few)
row-ends from parent (up s) p few = (p, row-ends from parent s p few)
row-ends from parent (down t s) p few =
    let long : length (walk t ++ walk_below s) ≡ length (walk t) + length (walk_below s) = length-append (walk t) (walk_below s) in
    (omega (arith, some_node t), row-ends (from + length (walk t)) parent s p (omega (arith, long)))

mutual
  tree-ends :
      (from parent : ℕ) (t : Tree) → parent < 64 → from + length (walk t) ≤ 64 →
      AllEnds (walk t) (ends_from from parent t)
  tree-ends from parent (branch a s) p few =
      let long : length (walk_below s ++ node_of a s ∷ []) ≡ length (walk_below s) + 1 = length-append (walk_below s) (node_of a s ∷ []) in
      ends-append (walk_below s) (node_of a s ∷ []) (ends_below from (from + length (walk_below s)) s) (slot_ends from parent s ∷ [])
      (below-ends from (from + length (walk_below s)) s (omega (arith, long)) (omega (arith, long)))
      (row-ends from parent s p (omega (arith, long)), tt)

  below-ends :
      (from id : ℕ) (s : Slots) → id < 64 → from + length (walk_below s) ≤ 64 →
      AllEnds (walk_below s) (ends_below from id s)
  below-ends from id no_more p few = tt
  below-ends from id (absent s) p few = below-ends from id s p few
  below-ends from id (unplugged s) p few = below-ends from id s p few
  below-ends from id (up s) p few = below-ends from id s p few
  below-ends from id (down t s) p few =
      let long : length (walk t ++ walk_below s) ≡ length (walk t) + length (walk_below s) = length-append (walk t) (walk_below s) in
      ends-append (walk t) (walk_below s) (ends_from from id t) (ends_below (from + length (walk t)) id s)
      (tree-ends from id t p (omega (arith, long))) (below-ends (from + length (walk t)) id s p (omega (arith, long)))

-- ---- the lines are read one by one

abbrev AllFit : List Node → Type 0
AllFit ns = (i : ℕ) (n : Node) → slice_get ns i ≡ Some n → FitBits n.attrs

-- no line of a node is the last one
no-last :
    (id : ℕ) (n : Node) (es : List (Option ℕ)) (xs : List ℕ) (count : ℕ) (manager : Option ℕ) →
    last_line count manager ≡ node_line id n es None ++ xs → ⊥
unfolding last_line field
no-last id n es xs count manager same =
    let e = same ∙ line-text id n es xs in
    let byte : ◌≡◌ {A = ℕ} 115 32 = cc in
    omega (arith, byte)

abbrev nameless : ℕ → List Node → List (List (Option ℕ)) → List ℕ
nameless id ns es = lines_from id ns es []

read-lines :
    (id : ℕ) (ns ms : List Node) (es fs : List (List (Option ℕ))) (count tally : ℕ) (one other : Option ℕ) →
    id + length ns ≤ 64 → id + length ms ≤ 64 → AllFit ns → AllFit ms → AllEnds ns es → AllEnds ms fs →
    lines_from id ns es [] ++ last_line count one ≡ lines_from id ms fs [] ++ last_line tally other →
    map told_node ns ≡ map told_node ms
read-lines id [] [] es fs count tally one other few small p q a b same = refl
read-lines id [] (m ∷ ms) es (f ∷ fs) count tally one other few small p q a b same =
    absurd (no-last id m f (nameless (id + 1) ms fs ++ last_line tally other) count one
    (same ∙ append_assoc (node_line id m f None) (nameless (id + 1) ms fs) (last_line tally other)))
read-lines id (n ∷ ns) [] (e ∷ es) fs count tally one other few small p q a b same =
    absurd (no-last id n e (nameless (id + 1) ns es ++ last_line count one) tally other
    (sym same ∙ append_assoc (node_line id n e None) (nameless (id + 1) ns es) (last_line count one)))
read-lines id (n ∷ ns) (m ∷ ms) (e ∷ es) (f ∷ fs) count tally one other few small p q a b same =
    let line : Lines id id n m e f (nameless (id + 1) ns es ++ last_line count one) (nameless (id + 1) ms fs ++ last_line tally other) =
    read-line id id n m e f (nameless (id + 1) ns es ++ last_line count one) (nameless (id + 1) ms fs ++ last_line tally other)
    (record { id_fits = omega arith; attrs = p 0 n refl; slots = a.0 }) (record { id_fits = omega arith; attrs = q 0 m refl; slots = b.0 })
    (sym (append_assoc (node_line id n e None) (nameless (id + 1) ns es) (last_line count one)) ∙ same
    ∙ append_assoc (node_line id m f None) (nameless (id + 1) ms fs) (last_line tally other)) in
    let head : told_node n ≡ told_node m = line.says.nodes in
    let tail : map told_node ns ≡ map told_node ms =
    read-lines (id + 1) ns ms es fs count tally one other (omega arith) (omega arith) (λ i x at. p (suc i) x at) (λ i x at. q (suc i) x at) a.1 b.1 line.rest in
    cc
read-lines id (n ∷ ns) ms [] fs count tally one other few small p q a b same = absurd a
read-lines id [] (m ∷ ms) [] [] count tally one other few small p q a b same = absurd b
read-lines id [] (m ∷ ms) (e ∷ es) [] count tally one other few small p q a b same = absurd a
read-lines id (n ∷ ns) (m ∷ ms) (e ∷ es) [] count tally one other few small p q a b same = absurd b

-- ---- the tree without what no text has

told-statuses : (s : Slots) → statuses (told_slots s) ≡ statuses s
told-statuses no_more = refl
told-statuses (absent s) = rw (told-statuses s) refl
told-statuses (unplugged s) = rw (told-statuses s) refl
told-statuses (up s) = rw (told-statuses s) refl
told-statuses (down t s) = rw (told-statuses s) refl

told-node : (a : Label) (s : Slots) → node_of (told_label a) (told_slots s) ≡ told_node (node_of a s)
told-node a s = rw (told-statuses s) refl

mutual
  told-walk : (t : Tree) → walk (told_tree t) ≡ map told_node (walk t)
  told-walk (branch a s) =
      rw (map-append told_node (walk_below s) (node_of a s ∷ []), told-below s, told-node a s) refl

  told-below : (s : Slots) → walk_below (told_slots s) ≡ map told_node (walk_below s)
  told-below no_more = refl
  told-below (absent s) = told-below s
  told-below (unplugged s) = told-below s
  told-below (up s) = told-below s
  told-below (down t s) = rw (map-append told_node (walk t) (walk_below s), told-walk t, told-below s) refl

walk-long : (t : Tree) → length (walk (told_tree t)) ≡ length (walk t)
walk-long t = ap length (told-walk t) ∙ length-map (walk t) told_node

below-long : (s : Slots) → length (walk_below (told_slots s)) ≡ length (walk_below s)
below-long s = ap length (told-below s) ∙ length-map (walk_below s) told_node

told-row : (from parent : ℕ) (s : Slots) → slot_ends from parent (told_slots s) ≡ slot_ends from parent s
told-row from parent no_more = refl
told-row from parent (absent s) = rw (told-row from parent s) refl
told-row from parent (unplugged s) = rw (told-row from parent s) refl
told-row from parent (up s) = rw (told-row from parent s) refl
told-row from parent (down t s) = rw (walk-long t, told-row (from + length (walk t)) parent s) refl

mutual
  told-ends : (from parent : ℕ) (t : Tree) → ends_from from parent (told_tree t) ≡ ends_from from parent t
  told-ends from parent (branch a s) =
      rw (below-long s, told-below-ends from (from + length (walk_below s)) s, told-row from parent s) refl

  told-below-ends : (from id : ℕ) (s : Slots) → ends_below from id (told_slots s) ≡ ends_below from id s
  told-below-ends from id no_more = refl
  told-below-ends from id (absent s) = told-below-ends from id s
  told-below-ends from id (unplugged s) = told-below-ends from id s
  told-below-ends from id (up s) = told-below-ends from id s
  told-below-ends from id (down t s) = rw (walk-long t, told-ends from id t, told-below-ends (from + length (walk t)) id s) refl

-- ---- that tree is a bus tree, too

told-is : (n : Node) → IsNode n → IsNode (told_node n)
told-is n h = record {
  form = record {
    attrs = record { gap = h.form.attrs.gap; speed = h.form.attrs.speed; delay = omega arith; power = h.form.attrs.power };
    width = h.form.width;
    kept_a = pow_pos (kept_a_bits (length n.ports));
    kept_b = pow_pos (kept_b_bits (length n.ports));
    blank_b = zero-mod (2 ^ blank_b_bits (length n.ports));
  };
  one_parent = h.one_parent;
}

told-node-is : (a : Label) (s : Slots) → IsNode (node_of a s) → IsNode (node_of (told_label a) (told_slots s))
told-node-is a s h = subst IsNode (sym (told-node a s)) (told-is (node_of a s) h)

mutual
  told-part : (t : Tree) → IsPart t → IsPart (told_tree t)
  told-part (branch a s) h = (told-node-is a s h.0, ap ups (told-statuses s) ∙ h.1, told-parts s h.2)

  told-parts : (s : Slots) → AreParts s → AreParts (told_slots s)
  told-parts no_more h = tt
  told-parts (absent s) h = told-parts s h
  told-parts (unplugged s) h = told-parts s h
  told-parts (up s) h = told-parts s h
  told-parts (down t s) h = (told-part t h.0, told-parts s h.1)

told-whole : (t : Tree) → IsWhole t → IsWhole (told_tree t)
told-whole (branch a s) h = (told-node-is a s h.0, ap ups (told-statuses s) ∙ h.1, told-parts s h.2)

told-of : (standard : Standard) (ns : List Node) → AreOf standard ns → AreOf standard (map told_node ns)
told-of standard [] h = tt
told-of standard (n ∷ ns) h = (h.0, told-of standard ns h.1)

told-bus : (standard : Standard) (t : Tree) → IsBusTreeOf standard t → IsBusTreeOf standard (told_tree t)
told-bus standard t bus =
    let nodes : AreOf standard (walk (told_tree t)) = subst (AreOf standard) (sym (told-walk t)) (told-of standard (walk t) bus.nodes) in
    record {
      bus = record { whole = told-whole t bus.bus.whole; small = omega (arith, walk-long t, bus.bus.small); one_standard = (standard, nodes) };
      nodes = nodes;
    }

-- trees with the same nodes, in the order of the walk, are one
one-walk :
    (standard : Standard) (t u : Tree) → IsBusTreeOf standard t → IsBusTreeOf standard u →
    map told_node (walk t) ≡ map told_node (walk u) → told_tree t ≡ told_tree u
one-walk standard t u bus other e =
    one_tree standard (told_tree t) (told_tree u) (told-bus standard t bus) (told-bus standard u other)
    (ap (groups 0) (told-walk t ∙ e ∙ sym (told-walk u)))

bus-fits : (t : Tree) → IsBusTree t → AllFit (walk t)
bus-fits t bus i n at = (are_nodes t i n bus at).form.attrs

pub texts-tell : TextsTellTrees
texts-tell standard t u bus other same =
    let nodes : told_tree t ≡ told_tree u =
    one-walk standard t u bus other
    (read-lines 0 (walk t) (walk u) (ends t) (ends u) (length (walk t)) (length (walk u)) (elected t) (elected u)
    (omega (arith, bus.bus.small)) (omega (arith, other.bus.small)) (bus-fits t bus.bus) (bus-fits u other.bus)
    (tree-ends 0 63 t (omega arith) (omega (arith, bus.bus.small))) (tree-ends 0 63 u (omega arith) (omega (arith, other.bus.small))) same) in
    record { nodes = nodes; far_ends = sym (told-ends 0 63 t) ∙ ap ends nodes ∙ told-ends 0 63 u }

-- ---- and the text of that tree is the text

told-line :
    (id : ℕ) (n : Node) (es : List (Option ℕ)) (name : Option (List ℕ)) →
    node_line id (told_node n) es name ≡ node_line id n es name
unfolding node_line attrs_text rest_of_attrs
told-line id n es name = refl

told-lines :
    (id : ℕ) (ns : List Node) (es : List (List (Option ℕ))) (names : List (List ℕ)) →
    lines_from id (map told_node ns) es names ≡ lines_from id ns es names
told-lines id [] es names = refl
told-lines id (n ∷ ns) [] names = refl
told-lines id (n ∷ ns) (e ∷ es) names =
    rw (told-line id n e (slice_get names id), told-lines (id + 1) ns es names) refl

told-highest : (id : ℕ) (ns : List Node) → highest_from id (map told_node ns) ≡ highest_from id ns
told-highest id [] = refl
told-highest id (n ∷ ns) = rw (told-highest (id + 1) ns) refl

told-text : (t : Tree) (names : List (List ℕ)) → tree_text (told_tree t) names ≡ tree_text t names
told-text t names =
    rw (
      told-walk t,
      told-ends 0 63 t,
      told-lines 0 (walk t) (ends t) names,
      length-map (walk t) told_node,
      told-highest 0 (walk t),
    ) refl

pub one-text : AlikeTreesHaveOneText
one-text t u names h =
    sym (told-text t names) ∙ ap (λ (x : Tree). tree_text x names) h.nodes ∙ told-text u names
