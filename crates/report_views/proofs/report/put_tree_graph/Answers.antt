use Rattle.std.proofs.Common.{◌≡◌, ◌∙◌, ap, length, sym}
use Rattle.std.proofs.lemmas.List.{length-map}
use Rattle.self_id.specs.declared.standard.Standard.TheVariants.{Ieee2000}
use Rattle.topology_stack.specs.Tree.{Tree, walk}
use Rattle.script_text.specs.ReportText.{name_of}
use Rattle.report_views.proofs.report.put_tree_graph.Goals as goal

pub put_named_tree-requires : goal.put_named_tree-requires
put_named_tree-requires c =
    let same : c.requires.tree ≡ c.in_ok-tree.tree =
    c.one_tree.ensures Ieee2000 c.requires.tree c.in_ok-tree.tree c.requires.valid c.in_ok-tree.ensures.tree.0
    (c.requires.emitted ∙ sym (c.in_ok-tree.ensures.tree.1 ∙ c.as_slice.ensures)) in
    ap length (c.as_slice-2.ensures ∙ c.in_ok-by_id.ensures) ∙ length-map c.args.order.now (name_of c.args.names.now)
    ∙ c.requires.whole ∙ ap (λ (t : Tree). length (walk t)) same
