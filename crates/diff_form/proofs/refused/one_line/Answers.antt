use Rattle.std.proofs.Common.{◌≡◌, ◌∙◌, List, [], ◌∷◌, ◌++◌, ap, append_assoc}
use Rattle.std.specs.Prelude.{codes}
use Rattle.json.specs.Token.{Token}
use Rattle.json.specs.Json.{array, no_items, item, no_members, member}
use Rattle.json.specs.Print.{print}
use Rattle.json.specs.Tree.{json_tokens}
use Rattle.bus_json.specs.Bus.{with_schema}
use Rattle.diff_form.specs.Difference.{refused_item}
use Rattle.diff_form.proofs.refused.one_line.Goals as goal

pub returns : goal.returns
returns c =
    let v = with_schema (member (codes "captures") (array (item (refused_item c.args.name.now c.args.fault) no_items)) no_members) in
    let e : c.close_object.new.self ≡ json_tokens v = simp (c.in_ok-close_object.ensures, c.in_ok-close_list.ensures, c.in_ok-put_item.ensures, c.in_ok-open_list.ensures, c.in_ok-key.ensures, c.in_ok-open_schema.ensures, c.new-out.ensures, append_assoc) in
    c.in_ok-line.ensures.line ∙ ap (λ (ts : List Token). print ts ++ 10 ∷ []) e
