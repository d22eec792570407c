use Rattle.std.proofs.Common.{◌≡◌, List, subst}
use Rattle.json.specs.Token.{Token}
use Rattle.json.specs.Lex.{tokens}
use Rattle.json.specs.Print.{print}
use Rattle.json.specs.Tree.{json_tokens}
use Rattle.bus_json.specs.Bus.{bus_value}
use Rattle.bus_json.proofs.ReadBack.{bus_shallow, reads_back}
use Rattle.bus_json.proofs.bus.bus_line.Goals as goal

pub returns-clause-reads_back : goal.returns-clause-reads_back
returns-clause-reads_back c =
    let v = bus_value c.args.tree.now in
    let e : c.put_tree.new.out ≡ json_tokens v = simp (c.in_ok-put_tree.ensures, c.in_ok-open_schema.ensures, c.new-out.ensures) in
    reads_back v (subst (λ (ts : List Token). tokens (print ts) ≡ ts) e c.into_line.ensures.reads_back)
    (bus_shallow c.args.tree.now)
