use Rattle.std.proofs.Common.{◌≡◌, ℕ, ◌-◌, List, [], ◌∷◌, ◌++◌, length, take, drop, ap, sym, subst, ◌∙◌, arith, length-drop}
use Rattle.std.specs.Prelude.{slice_index_or}
use Rattle.std.proofs.lemmas.List.{take_all}
use Rattle.self_id.specs.Node.{Node, downs}
use Rattle.topology_stack.specs.Tree.{Tree, walk}
use Rattle.bus_manager.specs.declared.paths.Reach.{Reach}
use Rattle.bus_manager.specs.Hops.{IsHops}
use Rattle.bus_manager.specs.codings.Reach.{above}
use Rattle.bus_manager.proofs.Longest.{reach, is_hops, small}
use Rattle.bus_manager.proofs.Waiting.{Waiting, start, next, end}
use Rattle.bus_manager.proofs.paths.hops.Goals as goal

tail_is : (k : ℕ) (ws : List Reach) → take (length ws - k) (drop k ws) ≡ drop k ws
tail_is k ws = take_all (length ws - k) (drop k ws) (omega (arith, length-drop k ws))

pub loop-id-init : goal.loop-id-init
loop-id-init c = subst (Waiting c.args.tree.now 0) (sym c.new-waiting.ensures) (start c.args.tree.now)

pub loop-id-preserved : goal.loop-id-preserved
loop-id-preserved c =
    let k = c.saturating_sub-start.result in
    let ports = c.as_slice.ensures.value ∙ ap (λ (n : Node). n.ports) c.behind-tree.view_is in
    let children : c.count_down-children.result ≡ downs c.node.result.now.ports = c.count_down-children.ensures.value ∙ ap downs ports in
    let from : k ≡ length c.loop-id.waiting.items - downs c.node.result.now.ports = omega (arith, c.saturating_sub-start.ensures, c.len.ensures.value, children) in
    let new : c.above-reach.result ≡ above (drop k c.loop-id.waiting.items) =
    c.above-reach.ensures.value ∙ ap (λ (ws : List Reach). above (take (length ws - k) (drop k ws))) c.deref.ensures.0 ∙ ap above (tail_is k c.loop-id.waiting.items)
    in
    next c.args.tree.now c.loop-id.id k c.loop-id.waiting.items c.push.new.self.items c.node.result.now c.above-reach.result c.loop-id.invariant c.node.ensures from new
    (c.push.ensures.items ∙ ap (λ (ws : List Reach). ws ++ c.above-reach.result ∷ []) c.truncate.ensures.items)

abbrev first_of : List Reach → ℕ
first_of ws = (slice_index_or ws 0 (record { depth = 0; longest = 0 })).longest

first : (t : Tree) (id : ℕ) (ws items : List Reach) → Waiting t id items → ws ≡ items →
    id ≡ length (walk t) → first_of ws ≡ (reach t).longest
first t id ws items h same done = ap first_of (same ∙ end t items (subst (λ (k : ℕ). Waiting t k items) done h))

pub returns-clause-longest : goal.returns-clause-longest
returns-clause-longest c =
    let done : c.loop-id.id ≡ length (walk c.args.tree.now) = omega (arith, c.len-id-end.ensures.value, c.loop-id-test.false, c.loop-id.auto.id-end) in
    let e = first c.args.tree.now c.loop-id.id c.deref-2.result.now c.loop-id.waiting.items c.loop-id.invariant c.deref-2.ensures.0 done in
    subst (IsHops c.args.tree.now) (sym e) (is_hops c.args.tree.now)

pub returns-clause-few : goal.returns-clause-few
returns-clause-few c =
    let done : c.loop-id.id ≡ length (walk c.args.tree.now) = omega (arith, c.len-id-end.ensures.value, c.loop-id-test.false, c.loop-id.auto.id-end) in
    let e = first c.args.tree.now c.loop-id.id c.deref-2.result.now c.loop-id.waiting.items c.loop-id.invariant c.deref-2.ensures.0 done in
    omega (arith, e, (small c.args.tree.now).1, c.len-id-end.ensures.value, c.len-id-end.ensures.few)
