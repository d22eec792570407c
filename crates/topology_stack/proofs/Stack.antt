-- Slots with their children, and the latest trees of a stack.
use Rattle.std.proofs.Common.{◌≡◌, ℕ, suc, ◌+◌, ◌≤◌, List, [], ◌∷◌, ◌++◌, length, refl, sym, ap, ◌∙◌, append_assoc, arith}
use Rattle.std.proofs.lemmas.List.{append-nil}
use Rattle.self_id.specs.declared.node.PortStatus.{PortStatus}
use Rattle.self_id.specs.declared.node.PortStatus.TheVariants.{Absent, Unplugged, Up, Down}
use Rattle.self_id.specs.declared.standard.Standard.{Standard}
use Rattle.self_id.specs.Node.{Node, IsOf, downs}
use Rattle.self_id.specs.Group.{group}
use Rattle.topology_stack.specs.Tree.{Tree, Slots, no_more, absent, unplugged, up, down, statuses, walk, walk_below, AreParts, AreOf, groups}
use Rattle.topology_stack.specs.codings.Code.{with_child, build, with_parts}
use Rattle.topology_stack.specs.Forest.{AreWaiting, walks}

-- what build makes of enough trees
pub record Builds (ps : List PortStatus) (ts : List Tree) (b : Slots × List Tree) : Type 0 where
  pub same : statuses b.0 ≡ ps
  pub parts : with_parts b.0 b.1 ≡ ts
  pub count : length b.1 + downs ps ≡ length ts

child_built : (ps : List PortStatus) (ts : List Tree) (s : Slots) (us : List Tree) →
    Builds ps ts (s, us) → downs ps + 1 ≤ length ts → Builds (Down ∷ ps) ts (with_child (s, us))
child_built ps ts s [] b enough = absurd (omega (arith, b.count))
child_built ps ts s (u ∷ us) b enough = record { same = ap (λ (x : List PortStatus). Down ∷ x) b.same; parts = b.parts; count = omega (arith, b.count) }

pub built : (ps : List PortStatus) (ts : List Tree) → downs ps ≤ length ts →
    Builds ps ts (build ps ts)
built [] ts enough = record { same = refl; parts = refl; count = omega arith }
built (Absent ∷ ps) ts enough = let b = built ps ts enough in record { same = ap (λ (x : List PortStatus). Absent ∷ x) b.same; parts = b.parts; count = b.count }
built (Unplugged ∷ ps) ts enough = let b = built ps ts enough in record { same = ap (λ (x : List PortStatus). Unplugged ∷ x) b.same; parts = b.parts; count = b.count }
built (Up ∷ ps) ts enough = let b = built ps ts enough in record { same = ap (λ (x : List PortStatus). Up ∷ x) b.same; parts = b.parts; count = b.count }
built (Down ∷ ps) ts enough = child_built ps ts (build ps ts).0 (build ps ts).1 (built ps ts (omega arith)) enough

pub walks-with_parts : (s : Slots) (ts : List Tree) →
    walks (with_parts s ts) ≡ walks ts ++ walk_below s
walks-with_parts no_more ts = sym (append-nil (walks ts))
walks-with_parts (absent s) ts = walks-with_parts s ts
walks-with_parts (unplugged s) ts = walks-with_parts s ts
walks-with_parts (up s) ts = walks-with_parts s ts
walks-with_parts (down t s) ts = walks-with_parts s (t ∷ ts) ∙ append_assoc (walks ts) (walk t) (walk_below s)

pub AreWaiting-with_parts : (s : Slots) (ts : List Tree) → AreWaiting (with_parts s ts) →
    AreParts s × AreWaiting ts
AreWaiting-with_parts no_more ts h = (tt, h)
AreWaiting-with_parts (absent s) ts h = AreWaiting-with_parts s ts h
AreWaiting-with_parts (unplugged s) ts h = AreWaiting-with_parts s ts h
AreWaiting-with_parts (up s) ts h = AreWaiting-with_parts s ts h
AreWaiting-with_parts (down t s) ts h = let k = AreWaiting-with_parts s (t ∷ ts) h in ((k.1.0, k.0), k.1.1)

pub length-with_parts : (s : Slots) (ts : List Tree) →
    length (with_parts s ts) ≡ length ts + downs (statuses s)
length-with_parts no_more ts = omega arith
length-with_parts (absent s) ts = length-with_parts s ts
length-with_parts (unplugged s) ts = length-with_parts s ts
length-with_parts (up s) ts = length-with_parts s ts
length-with_parts (down t s) ts = omega (arith, length-with_parts s (t ∷ ts))

pub groups-append : (id : ℕ) (ms ns : List Node) →
    groups id (ms ++ ns) ≡ groups id ms ++ groups (id + length ms) ns
groups-append id [] ns = let e : id + 0 ≡ id = omega arith in rw e refl
groups-append id (m ∷ ms) ns =
    let e : id + 1 + length ms ≡ id + suc (length ms) = omega arith in
    ap (λ (x : List ℕ). group m id ++ x) (groups-append (id + 1) ms ns ∙ ap (λ (k : ℕ). groups (id + 1) ms ++ groups k ns) e)
    ∙ sym (append_assoc (group m id) (groups (id + 1) ms) (groups (id + suc (length ms)) ns))

-- one more node
pub groups-snoc : (ns : List Node) (n : Node) →
    groups 0 (ns ++ n ∷ []) ≡ groups 0 ns ++ group n (length ns)
groups-snoc ns n =
    let e : 0 + length ns ≡ length ns = omega arith in
    groups-append 0 ns (n ∷ []) ∙ ap (λ (x : List ℕ). groups 0 ns ++ x) (append-nil (group n (0 + length ns)) ∙ ap (group n) e)

-- ---- nodes of one standard

pub AreOf-append : (standard : Standard) (xs ys : List Node) → AreOf standard xs →
    AreOf standard ys → AreOf standard (xs ++ ys)
AreOf-append standard [] ys a b = b
AreOf-append standard (x ∷ xs) ys a b = (a.0, AreOf-append standard xs ys a.1 b)

pub AreOf-parts : (standard : Standard) (xs ys : List Node) → AreOf standard (xs ++ ys) →
    AreOf standard xs × AreOf standard ys
AreOf-parts standard [] ys h = (tt, h)
AreOf-parts standard (x ∷ xs) ys h = let both = AreOf-parts standard xs ys h.1 in ((h.0, both.0), both.1)

-- one more node
pub AreOf-snoc : (standard : Standard) (xs : List Node) (n : Node) → AreOf standard xs →
    IsOf standard n → AreOf standard (xs ++ n ∷ [])
AreOf-snoc standard xs n a is = AreOf-append standard xs (n ∷ []) a (is, tt)
