use Rattle.std.proofs.Common.{◌≡◌, ◌+◌, ◌*◌, length, ◌∷◌, ap, sym, ◌∙◌, arith}
use Rattle.std.proofs.lemmas.Grind.{common_steps}
use Rattle.topology_stack.specs.Tree.{walk, emits}
use Rattle.topology_map.specs.Map.{counts_of}
use Rattle.self_id.specs.Group.{node_count}
use Rattle.topology_map.proofs.Emitted.{length-emits, node_count-emits}
use Rattle.topology_map.proofs.Parts.{sealed_map}
use Rattle.topology_map.proofs.map.image.Goals as goal

pub overflow_cast-as_slice : goal.overflow_cast-as_slice
overflow_cast-as_slice c =
    let few = length-emits c.args.tree.now c.len-nodes.ensures.valid in
    let e = ap length (c.as_slice.ensures ∙ c.in_ok-list.ensures) in
    omega (arith, few, e)

pub overflow_add-from : goal.overflow_add-from
overflow_add-from c =
    let few = length-emits c.args.tree.now c.len-nodes.ensures.valid in
    let e = ap length (c.as_slice.ensures ∙ c.in_ok-list.ensures) in
    omega (arith, few, e, c.from.ensures, c.len-nodes.ensures.few)

pub seal-requires : goal.seal-requires
seal-requires c =
    let few = length-emits c.args.tree.now c.len-nodes.ensures.valid in
    let e : c.as_slice-3.result.now ≡ c.args.generation ∷ (c.from.result * 65536 + length c.as_slice.result.now) ∷ emits c.args.tree.now = grind (arith, common_steps) in
    omega (arith, few, ap length e)

pub returns : goal.returns
returns c =
    let list = emits c.args.tree.now in
    let e : c.as_slice-3.result.now ≡ c.args.generation ∷ (c.from.result * 65536 + length c.as_slice.result.now) ∷ list = grind (arith, common_steps) in
    let many : length (walk c.args.tree.now) ≡ node_count list = sym (node_count-emits c.args.tree.now c.len-nodes.ensures.valid) in
    let long = ap length (c.as_slice.ensures ∙ c.in_ok-list.ensures) in
    let counts : c.from.result * 65536 + length c.as_slice.result.now ≡ counts_of list = omega (arith, many, long, c.from.ensures, c.len-nodes.ensures.value) in
    sealed_map c.seal.result c.as_slice-3.result.now c.args.generation (length (walk c.args.tree.now)) list (e ∙ ap (λ n. c.args.generation ∷ n ∷ list) counts) many c.seal.ensures
