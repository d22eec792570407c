use Rattle.std.proofs.Common.{◌≡◌, ◌∙◌, ◌++◌, Some, sym, ap}
use Rattle.std.specs.Prelude.{slice_get}
use Rattle.self_id.specs.declared.node.Attrs.{Attrs}
use Rattle.self_id.specs.Node.{Node}
use Rattle.bus_json.specs.codings.Written.{attrs_tokens}
use Rattle.bus_json.proofs.Nodes.{node_written}
use Rattle.bus_json.proofs.bus.put_node.Goals as goal

pub returns : goal.returns
returns c = λ n is.
    let some : Some c.node.result.now ≡ Some n = sym c.node.ensures ∙ is in
    let same : c.node.result.now ≡ n = cc in
    node_written c.args.tree.now c.args.id n (slice_get c.args.names.now c.args.id) c.args.out.now _ _ _ _ _ _ _ _ c.in_ok-open_object.ensures
    (rw c.from.ensures at c.in_ok-number_member.ensures) c.in_ok-put_name.ensures
    (c.in_ok-put_attrs.ensures
    ∙ ap (λ (a : Attrs). c.put_name.new.out ++ attrs_tokens a) (ap (λ (m : Node). m.attrs) (c.behind-tree.view_is ∙ same)))
    c.in_ok-key.ensures c.in_ok-open_list.ensures (c.in_ok-put_ports.ensures n is) c.in_ok-close_object.ensures
