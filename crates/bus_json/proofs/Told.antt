-- Buses with one value have one text.
use Rattle.std.proofs.Common.{◌≡◌, ℕ, suc, ◌+◌, Option, Some, None, List, [], ◌∷◌, ◌++◌, length, slice_get, refl, sym, ◌∙◌, ap, subst, arith}
use Rattle.std.specs.Prelude.{codes, decimal}
use Rattle.self_id.specs.declared.node.PortStatus.{PortStatus}
use Rattle.self_id.specs.declared.node.PortStatus.TheVariants.{Absent, Unplugged, Up, Down}
use Rattle.self_id.specs.Node.{Node}
use Rattle.topology_stack.specs.Tree.{Tree, branch, Slots, no_more, absent, unplugged, up, down, node_of, walk, walk_below}
use Rattle.topology_stack.specs.Far.{slot_ends, ends_from, ends_below, ends}
use Rattle.topology_stack.specs.Elect.{elected}
use Rattle.topology_stack.proofs.Lemmas.{length-slot_ends}
use Rattle.topology_stack.specs.Text.{field, rest_of_attrs, attrs_text, sign, signs, node_line, lines_from, irm, last_line}
use Rattle.json.specs.Json.{Json, array, object, Items, no_items, item, no_members, member}
use Rattle.bus_json.specs.Text.{numeral}
use Rattle.bus_json.specs.Bus.{status_word, far_member, port_value, end_at, port_items, attrs_members, node_items, manager_value}
use Rattle.bus_json.specs.Told.{ValuesTellTexts}

-- ---- each slot of each node has its end

abbrev Rows : List Node → List (List (Option ℕ)) → Type 0
Rows [] [] = Unit {0}
Rows (n ∷ ns) (e ∷ es) = (length e ≡ length n.ports) × Rows ns es
Rows ns es = ⊥

rows-append :
    (ms ns : List Node) (es fs : List (List (Option ℕ))) → Rows ms es → Rows ns fs → Rows (ms ++ ns) (es ++ fs)
rows-append [] ns [] fs a b = b
rows-append (m ∷ ms) ns (e ∷ es) fs a b = (a.0, rows-append ms ns es fs a.1 b)
rows-append [] ns (e ∷ es) fs a b = absurd a
rows-append (m ∷ ms) ns [] fs a b = absurd a

mutual
  tree-rows : (from parent : ℕ) (t : Tree) → Rows (walk t) (ends_from from parent t)
  tree-rows from parent (branch a s) =
      rows-append (walk_below s) (node_of a s ∷ []) (ends_below from (from + length (walk_below s)) s) (slot_ends from parent s ∷ [])
      (below-rows from (from + length (walk_below s)) s) (length-slot_ends from parent s, tt)

  below-rows : (from id : ℕ) (s : Slots) → Rows (walk_below s) (ends_below from id s)
  below-rows from id no_more = tt
  below-rows from id (absent s) = below-rows from id s
  below-rows from id (unplugged s) = below-rows from id s
  below-rows from id (up s) = below-rows from id s
  below-rows from id (down t s) =
      rows-append (walk t) (walk_below s) (ends_from from id t) (ends_below (from + length (walk t)) id s)
      (tree-rows from id t) (below-rows (from + length (walk t)) id s)

-- ---- the value of rows

abbrev row_items : List PortStatus → List (Option ℕ) → Items
row_items [] es = no_items
row_items (p ∷ ps) [] = no_items
row_items (p ∷ ps) (e ∷ es) = item (port_value p e) (row_items ps es)

abbrev value_with : ℕ → Node → Items → Json
value_with id n ports =
    object (member (codes "id") (numeral id) (attrs_members n.attrs (member (codes "ports") (array ports) no_members)))

abbrev row_value : ℕ → Node → List (Option ℕ) → Json
row_value id n es = value_with id n (row_items n.ports es)

abbrev rows_items : ℕ → List Node → List (List (Option ℕ)) → Items
rows_items id [] es = no_items
rows_items id (n ∷ ns) [] = no_items
rows_items id (n ∷ ns) (e ∷ es) = item (row_value id n e) (rows_items (id + 1) ns es)

ports-are :
    (t : Tree) (id slot : ℕ) (ps : List PortStatus) (row es : List (Option ℕ)) → slice_get (ends t) id ≡ Some row →
    ((k : ℕ) → slice_get row (slot + k) ≡ slice_get es k) → length es ≡ length ps →
    port_items t id slot ps ≡ row_items ps es
ports-are t id slot [] row es at rest long = refl
ports-are t id slot (p ∷ ps) row [] at rest long = absurd (omega (arith, long))
ports-are t id slot (p ∷ ps) row (e ∷ es) at rest long =
    let now : slot + 0 ≡ slot = omega arith in
    let first : slice_get row slot ≡ Some e = subst (λ (k : ℕ). slice_get row k ≡ Some e) now (rest 0) in
    let here : end_at slot (slice_get (ends t) id) ≡ e = rw (at, first) refl in
    let more : port_items t id (slot + 1) ps ≡ row_items ps es =
    ports-are t id (slot + 1) ps row es at (later now) (omega (arith, long)) in
    ap (λ (x : Option ℕ). item (port_value p x) (port_items t id (slot + 1) ps)) here
    ∙ ap (λ (x : Items). item (port_value p e) x) more
  where
    later : slot + 0 ≡ slot → (k : ℕ) → slice_get row (slot + 1 + k) ≡ slice_get es k
    later now k =
        let next : slot + 1 + k ≡ slot + suc k = omega arith in
        ap (λ (j : ℕ). slice_get row j) next ∙ rest (suc k)

nodes-are :
    (t : Tree) (id : ℕ) (ns : List Node) (es : List (List (Option ℕ))) →
    ((k : ℕ) → slice_get (ends t) (id + k) ≡ slice_get es k) → Rows ns es →
    node_items t [] id ns ≡ rows_items id ns es
nodes-are t id [] es rest rows = refl
nodes-are t id (n ∷ ns) [] rest rows = absurd rows
nodes-are t id (n ∷ ns) (e ∷ es) rest rows =
    let now : id + 0 ≡ id = omega arith in
    let at : slice_get (ends t) id ≡ Some e = subst (λ (k : ℕ). slice_get (ends t) k ≡ Some e) now (rest 0) in
    let ports : port_items t id 0 n.ports ≡ row_items n.ports e = ports-are t id 0 n.ports e e at same rows.0 in
    let more : node_items t [] (id + 1) ns ≡ rows_items (id + 1) ns es = nodes-are t (id + 1) ns es later rows.1 in
    ap (λ (x : Items). item (value_with id n x) (node_items t [] (id + 1) ns)) ports
    ∙ ap (λ (x : Items). item (row_value id n e) x) more
  where
    same : (k : ℕ) → slice_get e (0 + k) ≡ slice_get e k
    same k = let on : 0 + k ≡ k = omega arith in ap (λ (j : ℕ). slice_get e j) on

    later : (k : ℕ) → slice_get (ends t) (id + 1 + k) ≡ slice_get es k
    later k =
        let next : id + 1 + k ≡ id + suc k = omega arith in
        ap (λ (j : ℕ). slice_get (ends t) j) next ∙ rest (suc k)

-- ---- the text of rows

same-status : (p q : PortStatus) → status_word p ≡ status_word q → p ≡ q
same-status Absent Absent e = refl
same-status Absent Unplugged e = let byte : ◌≡◌ {A = ℕ} 97 105 = cc in absurd (omega (arith, byte))
same-status Absent Up e = let byte : ◌≡◌ {A = ℕ} 97 112 = cc in absurd (omega (arith, byte))
same-status Absent Down e = let byte : ◌≡◌ {A = ℕ} 97 99 = cc in absurd (omega (arith, byte))
same-status Unplugged Absent e = let byte : ◌≡◌ {A = ℕ} 105 97 = cc in absurd (omega (arith, byte))
same-status Unplugged Unplugged e = refl
same-status Unplugged Up e = let byte : ◌≡◌ {A = ℕ} 105 112 = cc in absurd (omega (arith, byte))
same-status Unplugged Down e = let byte : ◌≡◌ {A = ℕ} 105 99 = cc in absurd (omega (arith, byte))
same-status Up Absent e = let byte : ◌≡◌ {A = ℕ} 112 97 = cc in absurd (omega (arith, byte))
same-status Up Unplugged e = let byte : ◌≡◌ {A = ℕ} 112 105 = cc in absurd (omega (arith, byte))
same-status Up Up e = refl
same-status Up Down e = let byte : ◌≡◌ {A = ℕ} 112 99 = cc in absurd (omega (arith, byte))
same-status Down Absent e = let byte : ◌≡◌ {A = ℕ} 99 97 = cc in absurd (omega (arith, byte))
same-status Down Unplugged e = let byte : ◌≡◌ {A = ℕ} 99 105 = cc in absurd (omega (arith, byte))
same-status Down Up e = let byte : ◌≡◌ {A = ℕ} 99 112 = cc in absurd (omega (arith, byte))
same-status Down Down e = refl

same-end : (p : PortStatus) (x y : Option ℕ) → far_member x ≡ far_member y → sign p x ≡ sign p y
same-end Absent x y e = refl
same-end Unplugged x y e = refl
same-end Up None None e = refl
same-end Up None (Some b) e = absurd cc
same-end Up (Some a) None e = absurd cc
same-end Up (Some a) (Some b) e = let same : decimal a ≡ decimal b = cc in rw same refl
same-end Down None None e = refl
same-end Down None (Some b) e = absurd cc
same-end Down (Some a) None e = absurd cc
same-end Down (Some a) (Some b) e = let same : decimal a ≡ decimal b = cc in rw same refl

same-sign : (p q : PortStatus) (x y : Option ℕ) → port_value p x ≡ port_value q y → sign p x ≡ sign q y
same-sign p q x y e =
    let word : status_word p ≡ status_word q = cc in
    let far : far_member x ≡ far_member y = cc in
    same-end p x y far ∙ ap (λ (s : PortStatus). sign s y) (same-status p q word)

same-signs :
    (ps qs : List PortStatus) (es fs : List (Option ℕ)) → length es ≡ length ps → length fs ≡ length qs →
    row_items ps es ≡ row_items qs fs → signs ps es ≡ signs qs fs
same-signs [] [] es fs a b e = refl
same-signs [] (q ∷ qs) es [] a b e = absurd (omega (arith, b))
same-signs [] (q ∷ qs) es (f ∷ fs) a b e = absurd cc
same-signs (p ∷ ps) [] [] fs a b e = absurd (omega (arith, a))
same-signs (p ∷ ps) [] (x ∷ es) fs a b e = absurd cc
same-signs (p ∷ ps) (q ∷ qs) [] fs a b e = absurd (omega (arith, a))
same-signs (p ∷ ps) (q ∷ qs) (x ∷ es) [] a b e = absurd (omega (arith, b))
same-signs (p ∷ ps) (q ∷ qs) (x ∷ es) (f ∷ fs) a b e =
    let port : port_value p x ≡ port_value q f = cc in
    let rest : row_items ps es ≡ row_items qs fs = cc in
    ap (λ (s : List ℕ). s ++ signs ps es) (same-sign p q x f port)
    ∙ ap (λ (s : List ℕ). sign q f ++ s) (same-signs ps qs es fs (omega (arith, a)) (omega (arith, b)) rest)

same-line :
    (id : ℕ) (n m : Node) (es fs : List (Option ℕ)) → length es ≡ length n.ports → length fs ≡ length m.ports →
    row_value id n es ≡ row_value id m fs → node_line id n es None ≡ node_line id m fs None
unfolding node_line attrs_text rest_of_attrs field
same-line id n m es fs a b e =
    let link : n.attrs.link ≡ m.attrs.link = cc in
    let gap : decimal n.attrs.gap ≡ decimal m.attrs.gap = cc in
    let speed : decimal n.attrs.speed ≡ decimal m.attrs.speed = cc in
    let contender : n.attrs.contender ≡ m.attrs.contender = cc in
    let power : decimal n.attrs.power ≡ decimal m.attrs.power = cc in
    let initiated : n.attrs.initiated ≡ m.attrs.initiated = cc in
    let rows : row_items n.ports es ≡ row_items m.ports fs = cc in
    rw (link, gap, speed, contender, power, initiated, same-signs n.ports m.ports es fs a b rows) refl

same-lines :
    (id : ℕ) (ns ms : List Node) (es fs : List (List (Option ℕ))) → Rows ns es → Rows ms fs →
    rows_items id ns es ≡ rows_items id ms fs →
    (lines_from id ns es [] ≡ lines_from id ms fs []) × (length ns ≡ length ms)
same-lines id [] [] es fs a b e = (refl, refl)
same-lines id [] (m ∷ ms) es [] a b e = absurd b
same-lines id [] (m ∷ ms) es (f ∷ fs) a b e = absurd cc
same-lines id (n ∷ ns) [] [] fs a b e = absurd a
same-lines id (n ∷ ns) [] (x ∷ es) fs a b e = absurd cc
same-lines id (n ∷ ns) (m ∷ ms) [] fs a b e = absurd a
same-lines id (n ∷ ns) (m ∷ ms) (x ∷ es) [] a b e = absurd b
same-lines id (n ∷ ns) (m ∷ ms) (x ∷ es) (f ∷ fs) a b e =
    let value : row_value id n x ≡ row_value id m f = cc in
    let rest : rows_items (id + 1) ns es ≡ rows_items (id + 1) ms fs = cc in
    let line = same-line id n m x f a.0 b.0 value in
    let more = same-lines (id + 1) ns ms es fs a.1 b.1 rest in (
      ap (λ (s : List ℕ). s ++ lines_from (id + 1) ns es []) line
          ∙ ap (λ (s : List ℕ). node_line id m f None ++ s) more.0,
      omega (arith, more.1),
    )

same-irm : (one other : Option ℕ) → manager_value one ≡ manager_value other → irm one ≡ irm other
same-irm None None e = refl
same-irm None (Some b) e = absurd cc
same-irm (Some a) None e = absurd cc
same-irm (Some a) (Some b) e = let same : decimal a ≡ decimal b = cc in rw same refl

same-last :
    (count tally : ℕ) (one other : Option ℕ) → count ≡ tally → manager_value one ≡ manager_value other →
    last_line count one ≡ last_line tally other
unfolding last_line
same-last count tally one other long e = rw (long, same-irm one other e) refl

-- ---- all

rows-are : (t : Tree) → node_items t [] 0 (walk t) ≡ rows_items 0 (walk t) (ends t)
rows-are t = nodes-are t 0 (walk t) (ends t) same (tree-rows 0 63 t)
  where
    same : (k : ℕ) → slice_get (ends t) (0 + k) ≡ slice_get (ends t) k
    same k = let on : 0 + k ≡ k = omega arith in ap (λ (j : ℕ). slice_get (ends t) j) on

pub values-tell : ValuesTellTexts
values-tell t u e =
    let nodes : node_items t [] 0 (walk t) ≡ node_items u [] 0 (walk u) = cc in
    let manager : manager_value (elected t) ≡ manager_value (elected u) = cc in
    let lines = same-lines 0 (walk t) (walk u) (ends t) (ends u) (tree-rows 0 63 t) (tree-rows 0 63 u) (sym (rows-are t) ∙ nodes ∙ rows-are u) in
    ap (λ (s : List ℕ). s ++ last_line (length (walk t)) (elected t)) lines.0
    ∙ ap (λ (s : List ℕ). lines_from 0 (walk u) (ends u) [] ++ s) (same-last (length (walk t)) (length (walk u)) (elected t) (elected u) lines.1 manager)
