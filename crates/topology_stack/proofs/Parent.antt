-- The parents of a bus tree's nodes, from the parents that a tree keeps.
use Rattle.std.proofs.Common.{◌≡◌, ℕ, zero, suc, ◌+◌, ◌<◌, Option, Some, List, [], ◌∷◌, ◌++◌, length, refl, sym, ap, subst, ◌∙◌, arith, length-append}
use Rattle.std.specs.Prelude.{slice_get, IsSomeAnd}
use Rattle.quad_lanes.proofs.Lemmas.{item_at}
use Rattle.self_id.specs.declared.node.PortStatus.{PortStatus}
use Rattle.self_id.specs.declared.node.PortStatus.TheVariants.{Absent, Unplugged, Up, Down}
use Rattle.self_id.specs.Node.{Node, ups}
use Rattle.topology_stack.specs.Tree.{Tree, branch, Slots, no_more, absent, unplugged, up, down, statuses, node_of, walk, walk_below, IsPart, AreParts, IsBusTree}
use Rattle.topology_stack.specs.Far.{Far, IsUpAt, IsParent}
use Rattle.topology_stack.specs.Stored.{Stored}
use Rattle.topology_stack.proofs.Ends.{end_at, far_is, length-children}

-- ---- slots that lead up

up_slot : (ps : List PortStatus) → 0 < ups ps → (slot : ℕ) × (slice_get ps slot ≡ Some Up)
up_slot [] some = absurd (omega (arith, some))
up_slot (Absent ∷ ps) some = let r = up_slot ps some in (suc r.0, r.1)
up_slot (Unplugged ∷ ps) some = let r = up_slot ps some in (suc r.0, r.1)
up_slot (Up ∷ ps) some = (0, refl)
up_slot (Down ∷ ps) some = let r = up_slot ps some in (suc r.0, r.1)

some_up : (ps : List PortStatus) (slot : ℕ) → slice_get ps slot ≡ Some Up → 0 < ups ps
some_up [] slot e = absurd cc
some_up (Absent ∷ ps) zero e = absurd cc
some_up (Absent ∷ ps) (suc slot) e = some_up ps slot e
some_up (Unplugged ∷ ps) zero e = absurd cc
some_up (Unplugged ∷ ps) (suc slot) e = some_up ps slot e
some_up (Up ∷ ps) slot e = omega arith
some_up (Down ∷ ps) zero e = absurd cc
some_up (Down ∷ ps) (suc slot) e = some_up ps slot e

-- each node below the root has one
abbrev AllUp : List Node → Type 0
AllUp ns = (i : ℕ) (n : Node) → slice_get ns i ≡ Some n → ups n.ports ≡ 1

both : (ms ns : List Node) → AllUp ms → AllUp ns → AllUp (ms ++ ns)
both [] ns a b i n e = b i n e
both (m ∷ ms) ns a b zero n e = a zero n e
both (m ∷ ms) ns a b (suc i) n e = both ms ns (λ j k f. a (suc j) k f) b i n e

alone : (m : Node) → ups m.ports ≡ 1 → AllUp (m ∷ [])
alone m h zero n e = let same : m ≡ n = cc in subst (λ (x : Node). ups x.ports ≡ 1) same h
alone m h (suc i) n e = absurd cc

mutual
  part_up : (t : Tree) → IsPart t → AllUp (walk t)
  part_up (branch a s) h = both (walk_below s) (node_of a s ∷ []) (λ j m. below_up s h.2 j m) (alone (node_of a s) h.1)

  below_up : (s : Slots) → AreParts s → AllUp (walk_below s)
  below_up no_more h i n e = absurd cc
  below_up (absent s) h i n e = below_up s h i n e
  below_up (unplugged s) h i n e = below_up s h i n e
  below_up (up s) h i n e = below_up s h i n e
  below_up (down t s) h i n e = both (walk t) (walk_below s) (λ j m. part_up t h.0 j m) (λ j m. below_up s h.1 j m) i n e

before_last : (ms : List Node) (m : Node) (i : ℕ) → i < length ms →
    slice_get (ms ++ m ∷ []) i ≡ slice_get ms i
before_last [] m i lt = absurd (omega (arith, lt))
before_last (x ∷ xs) m zero lt = refl
before_last (x ∷ xs) m (suc i) lt = before_last xs m i (omega (arith, lt))

at_last : (ms : List Node) (m : Node) → slice_get (ms ++ m ∷ []) (length ms) ≡ Some m
at_last [] m = refl
at_last (x ∷ xs) m = at_last xs m

same_id : (x y : ℕ) → Some (Some x) ≡ Some (Some y) → x ≡ y
same_id x y e = cc

one_up : (t : Tree) (id : ℕ) (n : Node) → IsBusTree t → id + 1 < length (walk t) →
    slice_get (walk t) id ≡ Some n → ups n.ports ≡ 1
one_up (branch a s) id n bus lt e =
    let len = length-append (walk_below s) (node_of a s ∷ []) in
    below_up s bus.whole.2 id n (sym (before_last (walk_below s) (node_of a s) id (omega (arith, lt, len))) ∙ e)

-- the root has none
pub no_parent : (t : Tree) (id parent : ℕ) → IsBusTree t → id + 1 ≡ length (walk t) →
    IsParent t id parent → ⊥
no_parent (branch a s) id parent bus last h =
    let len = length-append (walk_below s) (node_of a s ∷ []) in
    let place : id ≡ length (walk_below s) = omega (arith, last, len) in
    let at : slice_get (walk (branch a s)) id ≡ Some (node_of a s) = ap (λ (i : ℕ). slice_get (walk (branch a s)) i) place ∙ at_last (walk_below s) (node_of a s) in
    let is_up : slice_get (statuses s) h.slot ≡ Some Up = subst (λ (o : Option Node). IsSomeAnd o (λ (m : Node). slice_get m.ports h.slot ≡ Some Up)) at h.is_up in
    omega (arith, some_up (statuses s) h.slot is_up, bus.whole.1)

-- ---- what is kept

-- the end of each slot that leads up is the parent that is kept
up_end : (t : Tree) (ns : List Node) (ps : List ℕ) (ks : List (List ℕ)) (id slot p : ℕ) →
    Stored t ns ps ks → id < length ns → slice_get ps id ≡ Some p → IsUpAt t id slot →
    Far t id slot (Some p)
up_end t ns ps ks id slot p h lt ep is_up =
    let n = item_at ns id lt in
    let k = item_at ks id (omega (arith, lt, length-children t ns ps ks h)) in
    let at : slice_get (walk t) id ≡ Some n.0 = ap (λ (x : List Node). slice_get x id) (sym h.walk_is) ∙ n.1 in
    let here : slice_get n.0.ports slot ≡ Some Up = subst (λ (o : Option Node). IsSomeAnd o (λ (m : Node). slice_get m.ports slot ≡ Some Up)) at is_up in
    far_is t ns ps ks id slot n.0 p k.0 (Some p) h n.1 ep k.1 (end_at n.0.ports p k.0 slot Up here)

pub is_parent : (t : Tree) (ns : List Node) (ps : List ℕ) (ks : List (List ℕ)) (id p : ℕ) →
    Stored t ns ps ks → id + 1 < length ns → slice_get ps id ≡ Some p → IsParent t id p
is_parent t ns ps ks id p h lt ep =
    let n = item_at ns id (omega (arith, lt)) in
    let at : slice_get (walk t) id ≡ Some n.0 = ap (λ (x : List Node). slice_get x id) (sym h.walk_is) ∙ n.1 in
    let one = one_up t id n.0 h.bus (omega (arith, lt, ap length h.walk_is)) at in
    let slot = up_slot n.0.ports (omega (arith, one)) in
    let is_up : IsUpAt t id slot.0 = subst (λ (o : Option Node). IsSomeAnd o (λ (m : Node). slice_get m.ports slot.0 ≡ Some Up)) (sym at) slot.1 in
    record { slot = slot.0; is_up = is_up; far = up_end t ns ps ks id slot.0 p h (omega (arith, lt)) ep is_up }

pub one_parent : (t : Tree) (ns : List Node) (ps : List ℕ) (ks : List (List ℕ)) (id p q : ℕ) →
    Stored t ns ps ks → id < length ns → slice_get ps id ≡ Some p → IsParent t id q → p ≡ q
one_parent t ns ps ks id p q h lt ep is =
    let far = up_end t ns ps ks id is.slot p h lt ep is.is_up in
    let same : Some far.of_node ≡ Some is.far.of_node = sym far.node ∙ is.far.node in
    let lists : far.of_node ≡ is.far.of_node = cc in
    same_id p q (sym far.slot_end ∙ ap (λ (x : List (Option ℕ)). slice_get x is.slot) lists ∙ is.far.slot_end)
