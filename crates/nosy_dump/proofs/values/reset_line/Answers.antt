use Rattle.std.proofs.Common.{◌≡◌, ◌∙◌, ℕ, List, [], ◌∷◌, ◌++◌, ap, subst, append_assoc}
use Rattle.json.specs.Token.{Token}
use Rattle.json.specs.Print.{print}
use Rattle.json.specs.Tree.{json_tokens}
use Rattle.log_line.specs.declared.line.Origin.TheVariants.{Core}
use Rattle.reset_list.specs.Json.{IsListTold}
use Rattle.bus_json.proofs.Lemmas.{json_line_of}
use Rattle.nosy_dump.specs.Json.{reset_value}
use Rattle.nosy_dump.proofs.Shallow.{reset_shallow}
use Rattle.nosy_dump.proofs.values.reset_line.Goals as goal

pub returns-clause-told : goal.returns-clause-told
returns-clause-told c =
    let m = c.in_ok-tree.ensures.0 in
    let e : c.put_list.new.out ≡ json_tokens (reset_value c.args.number c.args.reset.now m) =
    simp (
      c.in_ok-tree.ensures.2,
      c.in_ok-number_member-3.ensures,
      c.from.ensures,
      c.in_ok-number_member-2.ensures,
      c.in_ok-number_member.ensures,
      c.in_ok-open_schema.ensures,
      c.new-out.ensures,
      append_assoc,
    ) in
    record {
      members = m;
      told = subst (λ (l : List ℕ). IsListTold c.args.standard Core l m c.in_ok-tree.tree)
          c.as_slice.ensures c.in_ok-tree.ensures.1;
      text_is = c.in_ok-text.ensures.line ∙ ap (λ (ts : List Token). print ts ++ 10 ∷ []) e;
    }

pub returns-clause-json : goal.returns-clause-json
returns-clause-json c =
    let m = c.in_ok-tree.ensures.0 in
    let e : c.put_list.new.out ≡ json_tokens (reset_value c.args.number c.args.reset.now m) =
    simp (
      c.in_ok-tree.ensures.2,
      c.in_ok-number_member-3.ensures,
      c.from.ensures,
      c.in_ok-number_member-2.ensures,
      c.in_ok-number_member.ensures,
      c.in_ok-open_schema.ensures,
      c.new-out.ensures,
      append_assoc,
    ) in
    json_line_of (reset_value c.args.number c.args.reset.now m) _ _ e c.into_line.ensures.reads_back
    (reset_shallow _ c.args.number c.args.reset.now _ _ m _ c.in_ok-tree.ensures.1)
    c.in_ok-text.ensures.line
