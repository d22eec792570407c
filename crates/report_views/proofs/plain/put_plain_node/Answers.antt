use Rattle.std.proofs.Common.{◌≡◌, ◌∙◌, append_assoc}
use Rattle.script_text.specs.ReportText.{name_of}
use Rattle.report_views.specs.PlainGraph.{plain_node}
use Rattle.report_views.proofs.NameAt.{name-at}
use Rattle.report_views.proofs.plain.put_plain_node.Goals as goal

pub returns : goal.returns
unfolding plain_node
returns c =
    let name : c.as_bytes.result.now ≡ name_of c.args.names.now c.args.node =
    c.as_bytes.ensures.value ∙ name-at c.args.names.now c.args.node c.index-names-node.result _ c.requires c.index-names-node.is in
    simp (c.in_ok-extend_from_slice-3.ensures.items, c.label_end.ensures, c.in_ok-extend_from_slice-2.ensures.items, name, c.in_ok-extend_from_slice.ensures.items, c.in_ok-put_field.ensures, c.from.ensures, append_assoc)
