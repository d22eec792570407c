-- What the loop that links nodes keeps: nodes of which only their number is kept.
use Rattle.std.proofs.Common.{◌≡◌, ℕ, ◌+◌, ◌-◌, Bool, true, false, cond, Option, Some, None, List, [], ◌∷◌, ◌++◌, length, refl, sym, ap, subst, ◌∙◌, arith}
use Rattle.std.specs.Option.{option_or}
use Rattle.self_id.specs.declared.standard.Standard.{Standard}
use Rattle.self_id.specs.Node.{Node}
use Rattle.topology_stack.specs.Tree.{Tree, walk, IsBusTreeOf, emits}
use Rattle.topology_stack.specs.Elect.{is_candidate, highest_from}
use Rattle.topology_stack.specs.Links.{Linking}
use Rattle.topology_stack.specs.Stored.{Stored}
use Rattle.topology_stack.proofs.Lemmas.{Joining, some_node, stored}
use Rattle.c_records.specs.Shown.{id_or_none, IsBusRecord}
use Rattle.heapless_c.specs.Reading.{IsLinked}

pub record Joined (standard : Standard) (quads : List ℕ) (at found : ℕ) (rooted : Bool) (nodes : ℕ) (manager : Option ℕ)
    (roots parents : List ℕ) (children : List (List ℕ)) : Type 0 where
  pub ns : List Node
  pub joining : Joining standard quads at found rooted ns roots parents children
  pub count : nodes ≡ length ns
  pub highest : manager ≡ highest_from 0 ns

take_or : (b : Bool) (id : ℕ) (x y : Option ℕ) → option_or (cond b (Some id) x) y ≡ cond b (Some id) (option_or x y)
take_or true id x y = refl
take_or false id x y = refl

next_id : (b : Bool) (id k : ℕ) (x : Option ℕ) → id ≡ k → cond b (Some id) x ≡ cond b (Some k) x
next_id b id k x e = ap (λ (i : ℕ). cond b (Some i) x) e

-- one more node is a later candidate, or it isn't one
highest_snoc : (id : ℕ) (ns : List Node) (n : Node) →
    highest_from id (ns ++ n ∷ []) ≡ cond (is_candidate n) (Some (id + length ns)) (highest_from id ns)
highest_snoc id [] n = next_id (is_candidate n) id (id + 0) None (omega arith)
highest_snoc id (m ∷ ns) n =
    ap (λ (x : Option ℕ). option_or x (cond (is_candidate m) (Some id) None)) (highest_snoc (id + 1) ns n)
    ∙ take_or (is_candidate n) (id + 1 + length ns) (highest_from (id + 1) ns) (cond (is_candidate m) (Some id) None)
    ∙ next_id (is_candidate n) (id + 1 + length ns) (id + length (m ∷ ns)) (highest_from id (m ∷ ns)) (omega arith)

pub later_highest : (ns : List Node) (n : Node) (nodes : ℕ) (before after : Option ℕ) → nodes ≡ length ns →
    before ≡ highest_from 0 ns → after ≡ cond (is_candidate n) (Some nodes) before →
    after ≡ highest_from 0 (ns ++ n ∷ [])
later_highest ns n nodes before after count is e =
    e ∙ ap (λ (x : Option ℕ). cond (is_candidate n) (Some nodes) x) is ∙ next_id (is_candidate n) nodes (0 + length ns) (highest_from 0 ns) (omega (arith, count)) ∙ sym (highest_snoc 0 ns n)

abbrev make : List ℕ → List ℕ → List (List ℕ) → Linking
make w a b = record { waiting = w; above = a; below = b }

-- at the end of a list that a bus tree emits
pub linked_tree : (standard : Standard) (quads : List ℕ) (at found : ℕ) (rooted : Bool) (nodes : ℕ) (manager : Option ℕ)
    (roots parents : List ℕ) (children : List (List ℕ)) {last : ℕ} →
    (j : Joined standard quads at found rooted nodes manager roots parents children) →
    ((t : Tree) × IsBusTreeOf standard t × (j.ns ≡ walk t) × (emits t ≡ quads)) → last ≡ id_or_none manager →
    (t : Tree) × IsBusRecord t (record { nodes = nodes; root = nodes - 1; manager = last })
    × IsLinked standard quads parents children t
linked_tree standard quads at found rooted nodes manager roots parents children j (t, bus, is, e) told =
    let count : nodes ≡ length (walk t) = j.count ∙ ap length is in
    let kept = stored t j.ns (make roots parents children) bus.bus is j.joining.links.are in (
      t,
      record { nodes = count; root = omega (arith, count, some_node t); manager = told ∙ ap id_or_none (j.highest ∙ ap (highest_from 0) is) },
      record { bus = bus; emitted = e; stored = subst (λ (ns : List Node). Stored t ns parents children) is kept },
    )
