-- The trees below the root of a bus, and the trees that wait if the root gets a parent.
use Rattle.std.proofs.Common.{◌≡◌, ◌≤◌, ◌⊎◌, inl, inr, ℕ, zero, suc, ◌+◌, List, [], ◌∷◌, ◌++◌, length, refl, sym, ap, subst, ◌∙◌, append_assoc, append-nil, arith, length-append}
use Rattle.self_id.specs.declared.node.PortStatus.{PortStatus}
use Rattle.self_id.specs.declared.node.PortStatus.TheVariants.{Absent, Unplugged, Up, Down}
use Rattle.self_id.specs.Node.{Node, node_with, IsNode, ups, downs}
use Rattle.topology_stack.specs.Tree.{Label, Tree, branch, Slots, no_more, absent, unplugged, up, down, statuses, node_of, walk, walk_below, IsPart, AreParts}
use Rattle.topology_stack.specs.Forest.{AreWaiting, walks}

-- ---- the trees below slots, by rising slot

abbrev pub below : Slots → List Tree
below no_more = []
below (absent s) = below s
below (unplugged s) = below s
below (up s) = below s
below (down t s) = t ∷ below s

-- their walks one after the other
abbrev pub walk_all : List Tree → List Node
walk_all [] = []
walk_all (t ∷ ts) = walk t ++ walk_all ts

pub walk_all-below : (s : Slots) → walk_all (below s) ≡ walk_below s
walk_all-below no_more = refl
walk_all-below (absent s) = walk_all-below s
walk_all-below (unplugged s) = walk_all-below s
walk_all-below (up s) = walk_all-below s
walk_all-below (down t s) = ap (λ (ns : List Node). walk t ++ ns) (walk_all-below s)

pub length-below : (s : Slots) → length (below s) ≡ downs (statuses s)
length-below no_more = refl
length-below (absent s) = length-below s
length-below (unplugged s) = length-below s
length-below (up s) = length-below s
length-below (down t s) = omega (arith, length-below s)

pub waiting-below : (s : Slots) → AreParts s → AreWaiting (below s)
waiting-below no_more h = tt
waiting-below (absent s) h = waiting-below s h
waiting-below (unplugged s) h = waiting-below s h
waiting-below (up s) h = waiting-below s h
waiting-below (down t s) h = (h.0, waiting-below s h.1)

-- ---- slots with these statuses, and these trees below them

abbrev pub fill : List PortStatus → List Tree → Slots
fill [] ts = no_more
fill (Absent ∷ ps) ts = absent (fill ps ts)
fill (Unplugged ∷ ps) ts = unplugged (fill ps ts)
fill (Up ∷ ps) ts = up (fill ps ts)
fill (Down ∷ ps) [] = absent (fill ps [])
fill (Down ∷ ps) (t ∷ ts) = down t (fill ps ts)

pub statuses-fill : (ps : List PortStatus) (ts : List Tree) → downs ps ≡ length ts → statuses (fill ps ts) ≡ ps
statuses-fill [] ts e = refl
statuses-fill (Absent ∷ ps) ts e = ap (λ (l : List PortStatus). Absent ∷ l) (statuses-fill ps ts e)
statuses-fill (Unplugged ∷ ps) ts e = ap (λ (l : List PortStatus). Unplugged ∷ l) (statuses-fill ps ts e)
statuses-fill (Up ∷ ps) ts e = ap (λ (l : List PortStatus). Up ∷ l) (statuses-fill ps ts e)
statuses-fill (Down ∷ ps) [] e = absurd (omega (arith, e))
statuses-fill (Down ∷ ps) (t ∷ ts) e = ap (λ (l : List PortStatus). Down ∷ l) (statuses-fill ps ts (omega (arith, e)))

pub walk-fill : (ps : List PortStatus) (ts : List Tree) → downs ps ≡ length ts → walk_below (fill ps ts) ≡ walk_all ts
walk-fill [] [] e = refl
walk-fill [] (t ∷ ts) e = absurd (omega (arith, e))
walk-fill (Absent ∷ ps) ts e = walk-fill ps ts e
walk-fill (Unplugged ∷ ps) ts e = walk-fill ps ts e
walk-fill (Up ∷ ps) ts e = walk-fill ps ts e
walk-fill (Down ∷ ps) [] e = absurd (omega (arith, e))
walk-fill (Down ∷ ps) (t ∷ ts) e = ap (λ (ns : List Node). walk t ++ ns) (walk-fill ps ts (omega (arith, e)))

pub parts-fill : (ps : List PortStatus) (ts : List Tree) → AreWaiting ts → AreParts (fill ps ts)
parts-fill [] ts h = tt
parts-fill (Absent ∷ ps) ts h = parts-fill ps ts h
parts-fill (Unplugged ∷ ps) ts h = parts-fill ps ts h
parts-fill (Up ∷ ps) ts h = parts-fill ps ts h
parts-fill (Down ∷ ps) [] h = parts-fill ps [] h
parts-fill (Down ∷ ps) (t ∷ ts) h = (h.0, parts-fill ps ts h.1)

-- ---- the latest of trees that wait, of which the last one comes first

pub record Latest (count : ℕ) (ts : List Tree) : Type 0 where
  pub before : List Tree
  pub taken : List Tree
  pub walked : walks ts ≡ walks before ++ walk_all taken
  pub rest : AreWaiting before
  pub waiting : AreWaiting taken
  pub left : length before + count ≡ length ts
  pub many : count ≡ length taken

walk_all-append : (ts : List Tree) (t : Tree) → walk_all (ts ++ t ∷ []) ≡ walk_all ts ++ walk t
walk_all-append [] t = append-nil (walk t)
walk_all-append (u ∷ ts) t = ap (λ (ns : List Node). walk u ++ ns) (walk_all-append ts t) ∙ sym (append_assoc (walk u) (walk_all ts) (walk t))

waiting-append : (ts : List Tree) (t : Tree) → AreWaiting ts → IsPart t → AreWaiting (ts ++ t ∷ [])
waiting-append [] t h is = (is, tt)
waiting-append (u ∷ ts) t h is = (h.0, waiting-append ts t h.1 is)

pub latest : (count : ℕ) (ts : List Tree) → AreWaiting ts → count ≤ length ts → Latest count ts
latest zero ts h enough = record {
  before = ts;
  taken = [];
  walked = sym (append-nil (walks ts));
  rest = h;
  waiting = tt;
  left = omega arith;
  many = refl;
}
latest (suc count) [] h enough = absurd (omega (arith, enough))
latest (suc count) (t ∷ ts) h enough =
    let k = latest count ts h.1 (omega (arith, enough)) in
    record {
      before = k.before;
      taken = k.taken ++ t ∷ [];
      walked =
          ap (λ (ns : List Node). ns ++ walk t) k.walked
          ∙ append_assoc (walks k.before) (walk_all k.taken) (walk t)
          ∙ ap (λ (ns : List Node). walks k.before ++ ns) (sym (walk_all-append k.taken t));
      rest = k.rest;
      waiting = waiting-append k.taken t k.waiting h.0;
      left = omega (arith, k.left);
      many = omega (arith, k.many, length-append k.taken (t ∷ []));
    }

-- ---- a node that has a parent, behind trees that it may take

-- a part whose node this is
record PartOf (m : Node) (ts : List Tree) : Type 0 where
  t : Tree
  is_part : IsPart t
  walked : walk t ≡ walk_all ts ++ m ∷ []

part_of : (m : Node) (ts : List Tree) → AreWaiting ts → IsNode m → ups m.ports ≡ 1 → downs m.ports ≡ length ts → PartOf m ts
part_of m ts h is_node one all =
    let a : Label = record { attrs = m.attrs; kept_a = m.kept_a; kept_b = m.kept_b } in
    let s : Slots = fill m.ports ts in
    let same : statuses s ≡ m.ports = statuses-fill m.ports ts all in
    let whole : node_of a s ≡ m = ap (λ (ps : List PortStatus). node_with m.attrs ps m.kept_a m.kept_b) same in
    record {
      t = branch a s;
      is_part = (subst IsNode (sym whole) is_node, ap ups same ∙ one, parts-fill m.ports ts h);
      walked = ap (λ (ns : List Node). ns ++ node_of a s ∷ []) (walk-fill m.ports ts all) ∙ ap (λ (n : Node). walk_all ts ++ n ∷ []) whole;
    }

-- the trees that wait then
pub record Waits (ts : List Tree) (m : Node) : Type 0 where
  pub all : List Tree
  pub waiting : AreWaiting all
  pub walked : walks all ≡ walk_all ts ++ m ∷ []

-- it takes all of the trees, or all but the first
pub waits : (m : Node) (ts : List Tree) → AreWaiting ts → IsNode m → ups m.ports ≡ 1 →
    (downs m.ports ≡ length ts) ⊎ (downs m.ports + 1 ≡ length ts) → Waits ts m
waits m ts h is_node one (inl all) =
    let p = part_of m ts h is_node one all in
    record { all = p.t ∷ []; waiting = (p.is_part, tt); walked = p.walked }
waits m [] h is_node one (inr fewer) = absurd (omega (arith, fewer))
waits m (t ∷ ts) h is_node one (inr fewer) =
    let p = part_of m ts h.1 is_node one (omega (arith, fewer)) in
    record {
      all = p.t ∷ t ∷ [];
      waiting = (p.is_part, (h.0, tt));
      walked = ap (λ (ns : List Node). walk t ++ ns) p.walked ∙ sym (append_assoc (walk t) (walk_all ts) (m ∷ []));
    }
