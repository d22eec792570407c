-- What is read is explained: a bus tree emits the list, or the list has the fault.
use Rattle.std.proofs.Common.{◌≡◌, ℕ, zero, suc, ◌+◌, ◌-◌, ◌<◌, ◌≤◌, Bool, true, false, cond, eqb, ltb, ◌&&◌, List, [], ◌∷◌, ◌++◌, length, drop, Result, Ok, Err, refl, sym, ap, subst, ◌∙◌, append_assoc, arith, length-append}
use Rattle.std.proofs.lemmas.List.{append-nil}
use Rattle.std.proofs.lemmas.Bool.{and_parts, eqb-true, ltb-true, ltb-false}
use Rattle.self_id.specs.declared.node.PortStatus.{PortStatus}
use Rattle.self_id.specs.declared.fault.GroupFault.{GroupFault}
use Rattle.self_id.specs.declared.standard.Standard.{Standard}
use Rattle.self_id.specs.Node.{Node, IsNode, IsOf, ups, downs}
use Rattle.self_id.specs.Group.{group}
use Rattle.self_id.proofs.Lemmas.{read_at, group-read_at, refused-read_at, length-group}
use Rattle.topology_stack.specs.declared.fault.TreeFault.{TreeFault}
use Rattle.topology_stack.specs.declared.fault.TreeFault.TheVariants.{Group, TooFewChildren, TreesLeft}
use Rattle.topology_stack.specs.Tree.{Label, Tree, branch, Slots, node_of, walk, walk_below, AreParts, IsWhole, AreOf, IsBusTreeOf, groups, emits}
use Rattle.topology_stack.specs.codings.Code.{label_of, build}
use Rattle.topology_stack.specs.Forest.{AreWaiting, walks}
use Rattle.topology_stack.specs.Refused.{GoesOn, GroupNext, Refused}
use Rattle.topology_stack.proofs.ReadFrom.{in_group, ended, read_from, read}
use Rattle.topology_stack.proofs.Stack.{Builds, built, walks-with_parts, AreWaiting-with_parts, groups-snoc, AreOf-snoc}

-- a bus tree emits the list, and the nodes are its walk
pub record Emitted (standard : Standard) (l : List ℕ) (ns : List Node) (t : Tree) : Type 0 where
  pub bus : IsBusTreeOf standard t
  pub nodes : ns ≡ walk t
  pub list : l ≡ emits t

abbrev pub Explained : Standard → List ℕ → Result (List Node) TreeFault → Type 0
Explained standard l (Ok ns) = (t : Tree) × Emitted standard l ns t
Explained standard l (Err f) = Refused standard l f

-- where reading stands: before the rest are the groups of these trees
pub record Stands (standard : Standard) (l : List ℕ) (at found : ℕ) (ns : List Node) (rest : List ℕ) (ts : List Tree) : Type 0 where
  pub waiting : AreWaiting ts
  pub are_of : AreOf standard ns
  pub count : found ≡ length ts
  pub nodes : ns ≡ walks ts
  pub parts : l ≡ groups 0 ns ++ rest
  pub place : at ≡ length (groups 0 ns)

explained_if : (standard : Standard) (l : List ℕ) (b : Bool) (x y : Result (List Node) TreeFault) →
    (b ≡ true → Explained standard l x) → (b ≡ false → Explained standard l y) →
    Explained standard l (cond b x y)
explained_if standard l true x y f g = f refl
explained_if standard l false x y f g = g refl

explained_group : (standard : Standard) (l : List ℕ) (r : Result Node GroupFault) (f : Node → Result (List Node) TreeFault) →
    ((e : GroupFault) → r ≡ Err e → Refused standard l (Group e)) → ((n : Node) → r ≡ Ok n → Explained standard l (f n)) → Explained standard l (in_group r f)
explained_group standard l (Ok n) f g h = h n refl
explained_group standard l (Err e) f g h = g e refl

abbrev make : Label → List PortStatus → Node
make a ps = record { attrs = a.attrs; ports = ps; kept_a = a.kept_a; kept_b = a.kept_b }

-- what a node makes of the latest trees
pub record Grows (n : Node) (ts : List Tree) (s : Slots) (us : List Tree) : Type 0 where
  pub node : node_of (label_of n) s ≡ n
  pub nodes : walks us ++ walk (branch (label_of n) s) ≡ walks ts ++ n ∷ []
  pub parts : AreParts s
  pub waiting : AreWaiting us
  pub count : length us + downs n.ports ≡ length ts

pub grows : (n : Node) (ts : List Tree) (s : Slots) (us : List Tree) → Builds n.ports ts (s, us) →
    AreWaiting ts → Grows n ts s us
grows n ts s us b waiting =
    let node : node_of (label_of n) s ≡ n = ap (λ (ps : List PortStatus). make (label_of n) ps) b.same in
    let before : walks us ++ walk_below s ≡ walks ts = sym (walks-with_parts s us) ∙ ap walks b.parts in
    let both = AreWaiting-with_parts s us (subst AreWaiting (sym b.parts) waiting) in
    record {
      node = node;
      nodes = sym (append_assoc (walks us) (walk_below s) (node_of (label_of n) s ∷ [])) ∙ ap (λ (x : List Node). x ++ node_of (label_of n) s ∷ []) before ∙ ap (λ (m : Node). walks ts ++ m ∷ []) node;
      parts = both.0;
      waiting = both.1;
      count = b.count;
    }

-- ---- after a root

root_explained : (standard : Standard) (room at found : ℕ) (ns : List Node) (rest l : List ℕ) (t : Tree) →
    IsBusTreeOf standard t → ns ≡ walk t → l ≡ groups 0 ns ++ rest → at ≡ length (groups 0 ns) →
    Explained standard l (read_from standard room at found true ns rest)
unfolding read_from
root_explained standard zero at found ns [] l t bus nodes parts place = (t, record { bus = bus; nodes = nodes; list = parts ∙ append-nil (groups 0 ns) ∙ ap (groups 0) nodes })
root_explained standard (suc room) at found ns [] l t bus nodes parts place = (t, record { bus = bus; nodes = nodes; list = parts ∙ append-nil (groups 0 ns) ∙ ap (groups 0) nodes })
root_explained standard zero at found ns (q ∷ qs) l t bus nodes parts place = (t, q ∷ qs, bus, parts ∙ ap (λ (x : List Node). groups 0 x ++ q ∷ qs) nodes, omega arith, place ∙ ap (λ (x : List Node). length (groups 0 x)) nodes)
root_explained standard (suc room) at found ns (q ∷ qs) l t bus nodes parts place = (t, q ∷ qs, bus, parts ∙ ap (λ (x : List Node). groups 0 x ++ q ∷ qs) nodes, omega arith, place ∙ ap (λ (x : List Node). length (groups 0 x)) nodes)

-- ---- before a root

end_explained : (standard : Standard) (at found : ℕ) (ns : List Node) (l : List ℕ) (ts : List Tree) →
    Stands standard l at found ns [] ts → length ns ≤ 63 → Explained standard l (ended at false ns)
end_explained standard at found [] l ts h small = h.parts
end_explained standard at found (n ∷ ns) l ts h small = (
  ts,
  record { waiting = h.waiting; are_of = subst (AreOf standard) h.nodes h.are_of; emitted = h.parts ∙ append-nil (groups 0 (n ∷ ns)) ∙ ap (groups 0) h.nodes },
  omega (arith, ap length h.nodes),
  omega (arith, small, ap length h.nodes),
  h.place ∙ ap length (sym (h.parts ∙ append-nil (groups 0 (n ∷ ns)))),
)

goes_on : (standard : Standard) (at found : ℕ) (ns : List Node) (rest l : List ℕ) (ts : List Tree) (most : ℕ) →
    Stands standard l at found ns rest ts → 0 < length rest → length ns ≤ most →
    GoesOn standard l ts (groups 0 ns) rest at most
goes_on standard at found ns rest l ts most h more small = record {
  forest = record { waiting = h.waiting; are_of = subst (AreOf standard) h.nodes h.are_of; emitted = ap (groups 0) h.nodes };
  parts = h.parts;
  more = more;
  place = h.place;
  few = omega (arith, small, ap length h.nodes);
}

group_explained : (standard : Standard) (at found : ℕ) (ns : List Node) (rest l : List ℕ) (ts : List Tree) (e : GroupFault) →
    Stands standard l at found ns rest ts → 0 < length rest → length ns ≤ 62 →
    read_at standard at (length ns) rest ≡ Err e → Refused standard l (Group e)
group_explained standard at found ns rest l ts e h more small fault =
    let same : length ns ≡ length (walks ts) = ap length h.nodes in (
      ts,
      groups 0 ns,
      rest,
      at,
      goes_on standard at found ns rest l ts 62 h more small,
      refused-read_at standard at (length (walks ts)) rest e more (ap (λ (k : ℕ). read_at standard at k rest) (sym same) ∙ fault),
    )

-- the list with one more node
record After (standard : Standard) (l : List ℕ) (ns : List Node) (n : Node) (qs : List ℕ) : Type 0 where
  is_node : IsNode n
  is_of : IsOf standard n
  parts : l ≡ groups 0 (ns ++ n ∷ []) ++ qs
  front : l ≡ groups 0 ns ++ (group n (length ns) ++ qs)

after_node : (standard : Standard) (at found : ℕ) (ns : List Node) (rest qs l : List ℕ) (ts : List Tree) (n : Node) →
    Stands standard l at found ns rest ts → IsNode n → IsOf standard n →
    rest ≡ group n (length ns) ++ qs → After standard l ns n qs
after_node standard at found ns rest qs l ts n h is is_of whole =
    let front : l ≡ groups 0 ns ++ (group n (length ns) ++ qs) = h.parts ∙ ap (λ (x : List ℕ). groups 0 ns ++ x) whole in
    record { is_node = is; is_of = is_of; front = front; parts = front ∙ sym (append_assoc (groups 0 ns) (group n (length ns)) qs) ∙ ap (λ (x : List ℕ). x ++ qs) (sym (groups-snoc ns n)) }

place_after : (at : ℕ) (ns : List Node) (n : Node) → at ≡ length (groups 0 ns) →
    at + length (group n (length ns)) ≡ length (groups 0 (ns ++ n ∷ []))
place_after at ns n place = omega (arith, place, ap length (groups-snoc ns n), length-append (groups 0 ns) (group n (length ns)))

-- a root: all trees that waited are below it
root_found : (standard : Standard) (room at next found : ℕ) (ns : List Node) (rest qs l : List ℕ) (ts : List Tree) (n : Node) (s : Slots) (us : List Tree) →
    Stands standard l at found ns rest ts → next ≡ length (groups 0 (ns ++ n ∷ [])) → length ns ≤ 62 → Grows n ts s us → After standard l ns n qs → ups n.ports ≡ 0 → found ≤ downs n.ports →
    Explained standard l (read_from standard room next (found - downs n.ports + 1) true (ns ++ n ∷ []) qs)
root_found standard room at next found ns rest qs l ts n s [] h place small g a no_up all_below =
    let nodes : ns ++ n ∷ [] ≡ walk (branch (label_of n) s) = ap (λ (x : List Node). x ++ n ∷ []) h.nodes ∙ sym g.nodes in
    let whole : IsWhole (branch (label_of n) s) = (subst IsNode (sym g.node) a.is_node, ap (λ (m : Node). ups m.ports) g.node ∙ no_up, g.parts) in
    let are : AreOf standard (walk (branch (label_of n) s)) = subst (AreOf standard) nodes (AreOf-snoc standard ns n h.are_of a.is_of) in
    root_explained standard room next (found - downs n.ports + 1) (ns ++ n ∷ []) qs l (branch (label_of n) s)
    (record { bus = record { whole = whole; small = omega (arith, small, ap length nodes, length-append ns (n ∷ [])); one_standard = (standard, are) }; nodes = are }) nodes a.parts place
root_found standard room at next found ns rest qs l ts n s (u ∷ us) h place small g a no_up all_below = absurd (omega (arith, g.count, h.count))

-- any other node waits itself
part_found : (standard : Standard) (at next found : ℕ) (ns : List Node) (rest qs l : List ℕ) (ts : List Tree) (n : Node) (s : Slots) (us : List Tree) →
    Stands standard l at found ns rest ts → next ≡ length (groups 0 (ns ++ n ∷ [])) → Grows n ts s us → After standard l ns n qs → ups n.ports ≡ 1 →
    Stands standard l next (found - downs n.ports + 1) (ns ++ n ∷ []) qs (branch (label_of n) s ∷ us)
part_found standard at next found ns rest qs l ts n s us h place g a one = record {
  waiting = ((subst IsNode (sym g.node) a.is_node, ap (λ (m : Node). ups m.ports) g.node ∙ one, g.parts), g.waiting);
  are_of = AreOf-snoc standard ns n h.are_of a.is_of;
  count = omega (arith, g.count, h.count);
  nodes = ap (λ (x : List Node). x ++ n ∷ []) h.nodes ∙ sym g.nodes;
  parts = a.parts;
  place = place;
}

pub root_test : (x y : Bool) → (x && y) ≡ false → x ≡ true → y ≡ false
root_test true y e f = e
root_test false y e f = absurd cc

by_bool : {A : Type 0} (b : Bool) → (b ≡ true → A) → (b ≡ false → A) → A
by_bool true f g = f refl
by_bool false f g = g refl

pub ups_one : (k : ℕ) → k ≤ 1 → eqb k 0 ≡ false → k ≡ 1
ups_one zero le e = absurd cc
ups_one (suc zero) le e = refl
ups_one (suc (suc k)) le e = absurd (omega arith)

node_next : (standard : Standard) (at found : ℕ) (ns : List Node) (rest qs l : List ℕ) (ts : List Tree) (n : Node) →
    Stands standard l at found ns rest ts → length ns ≤ 62 → After standard l ns n qs →
    GroupNext standard l ts n at found (downs n.ports)
node_next standard at found ns rest qs l ts n h small a = record {
  front = groups 0 ns;
  rest = qs;
  goes_on = record {
    forest = record { waiting = h.waiting; are_of = subst (AreOf standard) h.nodes h.are_of; emitted = ap (groups 0) h.nodes };
    parts = a.front ∙ ap (λ (k : ℕ). groups 0 ns ++ (group n k ++ qs)) (ap length h.nodes);
    more = omega (arith, length-append (group n (length (walks ts))) qs, (length-group n (length (walks ts)) a.is_node).0);
    place = h.place;
    few = omega (arith, small, ap length h.nodes);
  };
  is_node = a.is_node;
  is_of = a.is_of;
  found_is = h.count;
  wanted_is = refl;
}

-- a whole group is read
node_explained : (standard : Standard) (room at found : ℕ) (ns : List Node) (rest qs l : List ℕ) (ts : List Tree) (n : Node) →
    Stands standard l at found ns rest ts → room + length ns ≡ 62 → After standard l ns n qs →
    ((next count : ℕ) (ms : List Node) (us : List Tree) → Stands standard l next count ms qs us → room + length ms ≡ 63 → Explained standard l (read_from standard room next count false ms qs)) →
    Explained standard l (cond (ltb found (downs n.ports)) (Err (TooFewChildren at found (downs n.ports)))
    (cond (eqb (ups n.ports) 0 && ltb (downs n.ports) found) (Err (TreesLeft at found (downs n.ports)))
    (read_from standard room (at + length (group n (length ns))) (found - downs n.ports + 1) (eqb (ups n.ports) 0) (ns ++ n ∷ []) qs)))
node_explained standard room at found ns rest qs l ts n h full a goes =
    let place : at + length (group n (length ns)) ≡ length (groups 0 (ns ++ n ∷ [])) = place_after at ns n h.place in
    explained_if standard l (ltb found (downs n.ports)) _ _
    (λ few. (ts, n, node_next standard at found ns rest qs l ts n h (omega arith) a, ltb-true _ _ few))
    (λ enough.
    let b = built n.ports ts (omega (arith, ltb-false _ _ enough, h.count)) in
    let g = grows n ts (build n.ports ts).0 (build n.ports ts).1 b h.waiting in
    explained_if standard l (eqb (ups n.ports) 0 && ltb (downs n.ports) found) _ _
    (λ left. let both = and_parts _ _ left in (ts, n, node_next standard at found ns rest qs l ts n h (omega arith) a, eqb-true _ _ both.0, ltb-true _ _ both.1))
    (λ all. by_bool (eqb (ups n.ports) 0)
    (λ root. rw root (root_found standard room at (at + length (group n (length ns))) found ns rest qs l ts n (build n.ports ts).0 (build n.ports ts).1 h place (omega arith) g a (eqb-true _ _ root) (ltb-false _ _ (root_test _ _ all root))))
    (λ no_root. rw no_root (goes (at + length (group n (length ns))) (found - downs n.ports + 1) (ns ++ n ∷ []) (branch (label_of n) (build n.ports ts).0 ∷ (build n.ports ts).1)
    (part_found standard at (at + length (group n (length ns))) found ns rest qs l ts n (build n.ports ts).0 (build n.ports ts).1 h place g a (ups_one _ a.is_node.one_parent no_root)) (omega (arith, length-append ns (n ∷ [])))))))

pub sound : (standard : Standard) (room at found : ℕ) (ns : List Node) (rest l : List ℕ) (ts : List Tree) →
    Stands standard l at found ns rest ts → room + length ns ≡ 63 →
    Explained standard l (read_from standard room at found false ns rest)
unfolding read_from
sound standard zero at found ns [] l ts h full = end_explained standard at found ns l ts h (omega arith)
sound standard (suc room) at found ns [] l ts h full = end_explained standard at found ns l ts h (omega arith)
sound standard zero at found ns (q ∷ qs) l ts h full =
    (ts, groups 0 ns, q ∷ qs, goes_on standard at found ns (q ∷ qs) l ts 63 h (omega arith) (omega arith), omega (arith, ap length h.nodes))
sound standard (suc room) at found ns (q ∷ qs) l ts h full =
    let small : length ns ≤ 62 = omega arith in
    explained_group standard l (read_at standard at (length ns) (q ∷ qs)) _
    (λ e fault. group_explained standard at found ns (q ∷ qs) l ts e h (omega arith) small fault)
    (λ n is. let k = group-read_at standard at (length ns) (q ∷ qs) n is in
    let a = after_node standard at found ns (q ∷ qs) (drop (length (group n (length ns))) (q ∷ qs)) l ts n h k.0 k.1 k.2 in
    node_explained standard room at found ns (q ∷ qs) (drop (length (group n (length ns))) (q ∷ qs)) l ts n h (omega arith) a
    (λ next count ms us stands size. sound standard room next count ms (drop (length (group n (length ns))) (q ∷ qs)) l us stands size))

-- what is read is explained
pub read_sound : (standard : Standard) (l : List ℕ) → Explained standard l (read standard l)
read_sound standard l = sound standard 63 0 0 [] l l [] (record { waiting = tt; are_of = tt; count = refl; nodes = refl; parts = refl; place = refl }) refl
