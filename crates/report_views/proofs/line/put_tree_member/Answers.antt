use Rattle.std.proofs.Common.{◌∙◌, ◌++◌, ap, refl}
use Rattle.std.specs.Prelude.{codes}
use Rattle.json.specs.Json.{object, no_members, member}
use Rattle.json.specs.Tree.{members_tokens}
use Rattle.bus_json.specs.Bus.{tree_members}
use Rattle.script_text.specs.ReportText.{Names, names_in}
use Rattle.report_views.proofs.Components.{tree_written}
use Rattle.report_views.proofs.line.put_tree_member.Goals as goal

pub returns : goal.returns
returns c =
    let tree = c.in_ok-tree.tree in
    let names : Names = names_in c.args.names.now c.args.order.now in
    record {
      members = member (codes "tree") (object (tree_members names tree)) no_members;
      told = record { tree = tree; valid = c.in_ok-tree.ensures.tree.0; emitted = c.in_ok-tree.ensures.tree.1 ∙ c.as_slice.ensures; is = refl };
      is = tree_written names tree c.args.out.now c.key.new.self c.open_object.new.self c.put_tree.new.out c.close_object.new.self c.in_ok-key.ensures c.in_ok-open_object.ensures
          (c.in_ok-put_tree.ensures ∙ ap (λ (ns : Names). c.open_object.new.self ++ members_tokens (tree_members ns tree)) (c.as_slice-2.ensures ∙ c.in_ok-by_id.ensures))
          c.in_ok-close_object.ensures;
    }
