use Rattle.std.proofs.Common.{◌≡◌, List, subst, append_assoc}
use Rattle.json.specs.Token.{Token}
use Rattle.json.specs.Lex.{tokens}
use Rattle.json.specs.Print.{print}
use Rattle.json.specs.Tree.{json_tokens}
use Rattle.bus_json.specs.Refusal.{line_refusal_value}
use Rattle.bus_json.proofs.ReadBack.{reads_back, line_shallow}
use Rattle.bus_json.proofs.refusal.line_refusal.Goals as goal

pub returns-clause-reads_back : goal.returns-clause-reads_back
returns-clause-reads_back c =
    let v = line_refusal_value c.args.line c.args.kind.now in
    let e : c.close_object.new.self ≡ json_tokens v = simp (c.in_ok-close_object.ensures, c.in_ok-put_line.ensures, c.in_ok-open_object.ensures, c.in_ok-key.ensures, c.in_ok-open_schema.ensures, c.new-out.ensures, append_assoc) in
    reads_back v (subst (λ (ts : List Token). tokens (print ts) ≡ ts) e c.into_line.ensures.reads_back)
    (line_shallow c.args.line c.args.kind.now)
