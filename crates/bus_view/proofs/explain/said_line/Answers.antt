use Rattle.std.proofs.Common.{◌≡◌, List, refl, subst, append_assoc}
use Rattle.json.specs.Token.{Token}
use Rattle.json.specs.Lex.{tokens}
use Rattle.json.specs.Print.{print}
use Rattle.json.specs.Tree.{json_tokens}
use Rattle.bus_json.proofs.Lemmas.{reads_back}
use Rattle.bus_view.specs.Explained.{explained_value}
use Rattle.bus_view.proofs.Told.{explained_shallow}
use Rattle.bus_view.proofs.explain.said_line.Goals as goal

pub returns-clause-json : goal.returns-clause-json
returns-clause-json c =
    let v = explained_value c.args.line c.args.kind.now c.args.said.now in
    let e : c.close_object.new.self ≡ json_tokens v = simp (c.in_ok-close_object.ensures, c.in_ok-put_said.ensures, c.in_ok-open_object.ensures, c.in_ok-key.ensures, c.in_ok-open_schema.ensures, c.new-out.ensures, append_assoc) in
    record {
      value = v;
      text_is = refl;
      read_back = reads_back v (subst (λ (ts : List Token). tokens (print ts) ≡ ts) e c.into_line.ensures.reads_back) (explained_shallow c.args.line c.args.kind.now c.args.said.now);
    }
