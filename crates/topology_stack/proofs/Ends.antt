-- The ends of slots, from the parents and children that a tree keeps.
use Rattle.std.proofs.Common.{◌≡◌, ℕ, zero, suc, ◌+◌, ◌-◌, ◌<◌, Option, Some, None, List, [], ◌∷◌, ◌++◌, length, get_or, take, refl, sym, ap, subst, ◌∙◌, ◌↔◌, inl, inr, arith}
use Rattle.std.specs.Prelude.{slice_get, IsSomeAnd}
use Rattle.std.proofs.lemmas.Option.{slice_get-get_or, same_Some}
use Rattle.self_id.specs.declared.node.PortStatus.{PortStatus}
use Rattle.self_id.specs.declared.node.PortStatus.TheVariants.{Absent, Unplugged, Up, Down}
use Rattle.self_id.specs.Node.{Node, downs}
use Rattle.topology_stack.specs.Tree.{Tree, branch, Slots, no_more, absent, unplugged, up, down, statuses, node_of, walk, walk_below}
use Rattle.topology_stack.specs.Far.{slot_ends, ends_from, ends_below, ends, Far, IsLoose}
use Rattle.topology_stack.specs.Stored.{parents_from, parents_below, child_ids, children_from, children_below, ends_of, all_ends, Stored}
use Rattle.topology_stack.proofs.Linking.{length-child_ids, length-parents_from, length-parents_below, length-children_from, length-children_below}

-- ---- slot by slot

slot_ends_are : (s : Slots) (from parent : ℕ) →
    ends_of parent (child_ids from s) (statuses s) ≡ slot_ends from parent s
slot_ends_are no_more from parent = refl
slot_ends_are (absent s) from parent = ap (λ (x : List (Option ℕ)). None ∷ x) (slot_ends_are s from parent)
slot_ends_are (unplugged s) from parent = ap (λ (x : List (Option ℕ)). None ∷ x) (slot_ends_are s from parent)
slot_ends_are (up s) from parent = ap (λ (x : List (Option ℕ)). Some parent ∷ x) (slot_ends_are s from parent)
slot_ends_are (down t s) from parent = ap (λ (x : List (Option ℕ)). Some (from + length (walk t) - 1) ∷ x) (slot_ends_are s (from + length (walk t)) parent)

pub length-slot_ends : (from parent : ℕ) (s : Slots) → length (slot_ends from parent s) ≡ length (statuses s)
length-slot_ends from parent no_more = refl
length-slot_ends from parent (absent s) = ap suc (length-slot_ends from parent s)
length-slot_ends from parent (unplugged s) = ap suc (length-slot_ends from parent s)
length-slot_ends from parent (up s) = ap suc (length-slot_ends from parent s)
length-slot_ends from parent (down t s) = ap suc (length-slot_ends (from + length (walk t)) parent s)

-- what stands at the end of a slot
abbrev pub end_with : PortStatus → ℕ → Option ℕ → Option ℕ
end_with Absent parent child = None
end_with Unplugged parent child = None
end_with Up parent child = Some parent
end_with Down parent child = child

pub end_at : (ps : List PortStatus) (parent : ℕ) (children : List ℕ) (i : ℕ) (p : PortStatus) →
    slice_get ps i ≡ Some p →
    slice_get (ends_of parent children ps) i ≡ Some (end_with p parent (slice_get children (downs (take i ps))))
end_at [] parent children i p e = absurd cc
end_at (Absent ∷ ps) parent children zero p e = let same : Absent ≡ p = cc in rw (← same) refl
end_at (Absent ∷ ps) parent children (suc i) p e = end_at ps parent children i p e
end_at (Unplugged ∷ ps) parent children zero p e = let same : Unplugged ≡ p = cc in rw (← same) refl
end_at (Unplugged ∷ ps) parent children (suc i) p e = end_at ps parent children i p e
end_at (Up ∷ ps) parent children zero p e = let same : Up ≡ p = cc in rw (← same) refl
end_at (Up ∷ ps) parent children (suc i) p e = end_at ps parent children i p e
end_at (Down ∷ ps) parent [] zero p e = let same : Down ≡ p = cc in rw (← same) refl
end_at (Down ∷ ps) parent [] (suc i) p e = end_at ps parent [] i p e
end_at (Down ∷ ps) parent (k ∷ children) zero p e = let same : Down ≡ p = cc in rw (← same) refl
end_at (Down ∷ ps) parent (k ∷ children) (suc i) p e =
    let next : downs (take i ps) + 1 ≡ suc (downs (take i ps)) = omega arith in
    rw next (end_at ps parent children i p e)

-- ---- node by node

all_ends-append : (ms ns : List Node) (ps qs : List ℕ) (ks ls : List (List ℕ)) →
    length ps ≡ length ms → length ks ≡ length ms →
    all_ends (ms ++ ns) (ps ++ qs) (ks ++ ls) ≡ all_ends ms ps ks ++ all_ends ns qs ls
all_ends-append [] ns [] qs [] ls d e = refl
all_ends-append [] ns [] qs (k ∷ ks) ls d e = absurd (omega arith)
all_ends-append [] ns (p ∷ ps) qs ks ls d e = absurd (omega arith)
all_ends-append (m ∷ ms) ns [] qs ks ls d e = absurd (omega arith)
all_ends-append (m ∷ ms) ns (p ∷ ps) qs [] ls d e = absurd (omega arith)
all_ends-append (m ∷ ms) ns (p ∷ ps) qs (k ∷ ks) ls d e = ap (λ (x : List (List (Option ℕ))). ends_of p k m.ports ∷ x) (all_ends-append ms ns ps qs ks ls (omega arith) (omega arith))

mutual
  all_ends_are : (t : Tree) (from parent : ℕ) →
      all_ends (walk t) (parents_from from parent t) (children_from from t) ≡ ends_from from parent t
  all_ends_are (branch a s) from parent =
      all_ends-append (walk_below s) (node_of a s ∷ []) (parents_below from (from + length (walk_below s)) s) (parent ∷ []) (children_below from s) (child_ids from s ∷ [])
      (length-parents_below from (from + length (walk_below s)) s) (length-children_below from s)
      ∙ ap (λ (x : List (List (Option ℕ))). x ++ ends_of parent (child_ids from s) (statuses s) ∷ []) (all_ends_below s from (from + length (walk_below s)))
      ∙ ap (λ (x : List (Option ℕ)). ends_below from (from + length (walk_below s)) s ++ x ∷ []) (slot_ends_are s from parent)

  all_ends_below : (s : Slots) (from id : ℕ) →
      all_ends (walk_below s) (parents_below from id s) (children_below from s) ≡ ends_below from id s
  all_ends_below no_more from id = refl
  all_ends_below (absent s) from id = all_ends_below s from id
  all_ends_below (unplugged s) from id = all_ends_below s from id
  all_ends_below (up s) from id = all_ends_below s from id
  all_ends_below (down t s) from id =
      all_ends-append (walk t) (walk_below s) (parents_from from id t) (parents_below (from + length (walk t)) id s) (children_from from t) (children_below (from + length (walk t)) s)
      (length-parents_from from id t) (length-children_from from t)
      ∙ ap (λ (x : List (List (Option ℕ))). x ++ all_ends (walk_below s) (parents_below (from + length (walk t)) id s) (children_below (from + length (walk t)) s)) (all_ends_are t from id)
      ∙ ap (λ (x : List (List (Option ℕ))). ends_from from id t ++ x) (all_ends_below s (from + length (walk t)) id)

-- the ends of a tree are those of what it keeps
pub ends_are : (t : Tree) → all_ends (walk t) (parents_from 0 63 t) (children_from 0 t) ≡ ends t
ends_are t = all_ends_are t 0 63

pub all_ends_at : (ns : List Node) (ps : List ℕ) (ks : List (List ℕ)) (i : ℕ) (n : Node) (p : ℕ) (k : List ℕ) →
    slice_get ns i ≡ Some n → slice_get ps i ≡ Some p → slice_get ks i ≡ Some k →
    slice_get (all_ends ns ps ks) i ≡ Some (ends_of p k n.ports)
all_ends_at [] ps ks i n p k en ep ek = absurd cc
all_ends_at (m ∷ ns) [] ks i n p k en ep ek = absurd cc
all_ends_at (m ∷ ns) (q ∷ ps) [] i n p k en ep ek = absurd cc
all_ends_at (m ∷ ns) (q ∷ ps) (l ∷ ks) zero n p k en ep ek =
    let a : m ≡ n = cc in
    let b : q ≡ p = cc in
    let c : l ≡ k = cc in
    rw (a, b, c) refl
all_ends_at (m ∷ ns) (q ∷ ps) (l ∷ ks) (suc i) n p k en ep ek = all_ends_at ns ps ks i n p k en ep ek

-- what is found at the other end of a slot by what a tree keeps
pub far_is : (t : Tree) (ns : List Node) (ps : List ℕ) (ks : List (List ℕ)) (id slot : ℕ) (n : Node) (p : ℕ) (k : List ℕ) (r : Option ℕ) →
    Stored t ns ps ks →
    slice_get ns id ≡ Some n → slice_get ps id ≡ Some p → slice_get ks id ≡ Some k → slice_get (ends_of p k n.ports) slot ≡ Some r → Far t id slot r
far_is t ns ps ks id slot n p k r h en ep ek e =
    let whole : all_ends ns ps ks ≡ ends t = rw (h.walk_is, h.above, h.below) (ends_are t) in
    record { of_node = ends_of p k n.ports; node = ap (λ (x : List (List (Option ℕ))). slice_get x id) (sym whole) ∙ all_ends_at ns ps ks id n p k en ep ek; slot_end = e }

-- all three lists have one length
pub length-parents : (t : Tree) (ns : List Node) (ps : List ℕ) (ks : List (List ℕ)) →
    Stored t ns ps ks → length ps ≡ length ns
length-parents t ns ps ks h = ap length h.above ∙ length-parents_from 0 63 t ∙ sym (ap length h.walk_is)

pub length-children : (t : Tree) (ns : List Node) (ps : List ℕ) (ks : List (List ℕ)) →
    Stored t ns ps ks → length ks ≡ length ns
length-children t ns ps ks h = ap length h.below ∙ length-children_from 0 t ∙ sym (ap length h.walk_is)

-- ---- each node has as many children as slots that are down

abbrev Enough : List Node → List (List ℕ) → Type 0
Enough ns ks = (i : ℕ) (n : Node) (k : List ℕ) → slice_get ns i ≡ Some n → slice_get ks i ≡ Some k → length k ≡ downs n.ports

both : (ms ns : List Node) (ks ls : List (List ℕ)) → length ks ≡ length ms → Enough ms ks →
    Enough ns ls → Enough (ms ++ ns) (ks ++ ls)
both [] ns [] ls len a b i n k en ek = b i n k en ek
both [] ns (l ∷ ks) ls len a b i n k en ek = absurd (omega arith)
both (m ∷ ms) ns [] ls len a b i n k en ek = absurd (omega arith)
both (m ∷ ms) ns (l ∷ ks) ls len a b zero n k en ek = a zero n k en ek
both (m ∷ ms) ns (l ∷ ks) ls len a b (suc i) n k en ek = both ms ns ks ls (omega arith) (λ j x y. a (suc j) x y) b i n k en ek

alone : (m : Node) (l : List ℕ) → length l ≡ downs m.ports → Enough (m ∷ []) (l ∷ [])
alone m l e zero n k en ek =
    let a : m ≡ n = cc in
    let b : l ≡ k = cc in
    rw (← a, ← b) e
alone m l e (suc i) n k en ek = absurd cc

mutual
  enough : (t : Tree) (from : ℕ) → Enough (walk t) (children_from from t)
  enough (branch a s) from =
      both (walk_below s) (node_of a s ∷ []) (children_below from s) (child_ids from s ∷ []) (length-children_below from s) (λ j m l. enough_below s from j m l) (alone (node_of a s) (child_ids from s) (length-child_ids from s))

  enough_below : (s : Slots) (from : ℕ) → Enough (walk_below s) (children_below from s)
  enough_below no_more from i n k en ek = absurd cc
  enough_below (absent s) from i n k en ek = enough_below s from i n k en ek
  enough_below (unplugged s) from i n k en ek = enough_below s from i n k en ek
  enough_below (up s) from i n k en ek = enough_below s from i n k en ek
  enough_below (down t s) from i n k en ek =
      both (walk t) (walk_below s) (children_from from t) (children_below (from + length (walk t)) s) (length-children_from from t) (λ j m l. enough t from j m l) (λ j m l. enough_below s (from + length (walk t)) j m l) i n k en ek

pub kids_enough : (t : Tree) (ns : List Node) (ps : List ℕ) (ks : List (List ℕ)) (i : ℕ) (n : Node) (k : List ℕ) →
    Stored t ns ps ks → slice_get ns i ≡ Some n → slice_get ks i ≡ Some k → length k ≡ downs n.ports
kids_enough t ns ps ks i n k h en ek = enough t 0 i n k (ap (λ (x : List Node). slice_get x i) (sym h.walk_is) ∙ en) (ap (λ (x : List (List ℕ)). slice_get x i) (sym h.below) ∙ ek)

-- a slot that is down has a child
pub fewer_before : (ps : List PortStatus) (i : ℕ) → slice_get ps i ≡ Some Down →
    downs (take i ps) < downs ps
fewer_before [] i e = absurd cc
fewer_before (Absent ∷ ps) zero e = absurd cc
fewer_before (Absent ∷ ps) (suc i) e = fewer_before ps i e
fewer_before (Unplugged ∷ ps) zero e = absurd cc
fewer_before (Unplugged ∷ ps) (suc i) e = fewer_before ps i e
fewer_before (Up ∷ ps) zero e = absurd cc
fewer_before (Up ∷ ps) (suc i) e = fewer_before ps i e
fewer_before (Down ∷ ps) zero e = omega arith
fewer_before (Down ∷ ps) (suc i) e = omega (arith, fewer_before ps i e)

pub status_at : (ps : List PortStatus) (i : ℕ) (p d : PortStatus) → i < length ps →
    get_or ps i d ≡ p → slice_get ps i ≡ Some p
status_at ps i p d lt e = slice_get-get_or ps i d lt ∙ ap (λ (q : PortStatus). Some q) e

-- ---- loose slots

pub loose : (ps : List PortStatus) (i : ℕ) (p : PortStatus) → slice_get ps i ≡ Some p → IsLoose p →
    IsSomeAnd (slice_get ps i) IsLoose
loose ps i p e h = subst (λ (o : Option PortStatus). IsSomeAnd o IsLoose) (sym e) h

is_loose : (ps : List PortStatus) (i : ℕ) (p : PortStatus) → slice_get ps i ≡ Some p →
    IsSomeAnd (slice_get ps i) IsLoose → IsLoose p
is_loose ps i p e h = subst (λ (o : Option PortStatus). IsSomeAnd o IsLoose) e h

pub up_is_tied : (ps : List PortStatus) (i : ℕ) → slice_get ps i ≡ Some Up →
    IsSomeAnd (slice_get ps i) IsLoose → ⊥
up_is_tied ps i e h = elim (is_loose ps i Up e h) [
  | inl f ↦ cc
  | inr f ↦ cc
]

pub down_is_tied : (ps : List PortStatus) (i : ℕ) → slice_get ps i ≡ Some Down →
    IsSomeAnd (slice_get ps i) IsLoose → ⊥
down_is_tied ps i e h = elim (is_loose ps i Down e h) [
  | inl f ↦ cc
  | inr f ↦ cc
]

pub loose_at : (X : Type 0) (ns : List Node) (id slot : ℕ) (n : Node) (ps : List PortStatus) →
    slice_get ns id ≡ Some n → ps ≡ n.ports → (X ↔ IsSomeAnd (slice_get ps slot) IsLoose) →
    X ↔ IsSomeAnd (slice_get ns id) (λ (m : Node). IsSomeAnd (slice_get m.ports slot) IsLoose)
loose_at X ns id slot n ps e same h =
    subst (λ (o : Option Node). X ↔ IsSomeAnd o (λ (m : Node). IsSomeAnd (slice_get m.ports slot) IsLoose)) (sym e)
    (subst (λ (qs : List PortStatus). X ↔ IsSomeAnd (slice_get qs slot) IsLoose) same h)

-- ---- one end

-- one thing stands at the other end of a slot
pub one_end : (t : Tree) (id slot : ℕ) (q r : Option ℕ) → Far t id slot q → Far t id slot r → q ≡ r
one_end t id slot q r f g =
    let same : f.of_node ≡ g.of_node = same_Some f.of_node g.of_node (sym f.node ∙ g.node) in
    same_Some q r (sym f.slot_end ∙ ap (λ (x : List (Option ℕ)). slice_get x slot) same ∙ g.slot_end)
