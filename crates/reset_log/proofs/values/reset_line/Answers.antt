use Rattle.std.proofs.Common.{◌≡◌, ◌∙◌, ℕ, List, [], ◌∷◌, ◌++◌, ap, subst, append_assoc}
use Rattle.std.specs.Option.{option_copied}
use Rattle.json.specs.Token.{Token}
use Rattle.json.specs.Print.{print}
use Rattle.json.specs.Tree.{json_tokens}
use Rattle.reset_list.specs.Json.{IsListTold}
use Rattle.reset_log.specs.Json.{reset_value}
use Rattle.reset_log.proofs.Tokens.{head_written}
use Rattle.bus_json.proofs.Lemmas.{json_line_of}
use Rattle.reset_log.proofs.Shallow.{reset_shallow}
use Rattle.reset_log.proofs.values.reset_line.Goals as goal

pub returns-clause-told : goal.returns-clause-told
returns-clause-told c =
    let m = c.in_ok-tree.ensures.0 in
    let b = option_copied c.args.before in
    let e : c.put_list.new.out ≡ json_tokens (reset_value c.args.number b c.args.reset.now m) = simp (c.in_ok-tree.ensures.2, c.in_ok-put_head.ensures, c.in_ok-open_schema.ensures, c.new-out.ensures, head_written c.args.number b c.args.reset.now m, append_assoc) in
    record {
      members = m;
      told = subst (λ (l : List ℕ). IsListTold c.args.standard c.args.reset.now.origin l m c.in_ok-tree.tree) c.as_slice.ensures c.in_ok-tree.ensures.1;
      text_is = c.in_ok-text.ensures.line ∙ ap (λ (ts : List Token). print ts ++ 10 ∷ []) e;
    }

pub returns-clause-json : goal.returns-clause-json
returns-clause-json c =
    let m = c.in_ok-tree.ensures.0 in
    let b = option_copied c.args.before in
    let e : c.put_list.new.out ≡ json_tokens (reset_value c.args.number b c.args.reset.now m) = simp (c.in_ok-tree.ensures.2, c.in_ok-put_head.ensures, c.in_ok-open_schema.ensures, c.new-out.ensures, head_written c.args.number b c.args.reset.now m, append_assoc) in
    json_line_of (reset_value c.args.number b c.args.reset.now m) _ _ e c.into_line.ensures.reads_back (reset_shallow _ c.args.number b c.args.reset.now _ _ m _ c.in_ok-tree.ensures.1) c.in_ok-text.ensures.line
