use Rattle.std.proofs.Common.{◌≡◌, List, subst, append_assoc}
use Rattle.json.specs.Token.{Token}
use Rattle.json.specs.Lex.{tokens}
use Rattle.json.specs.Print.{print}
use Rattle.json.specs.Tree.{json_tokens}
use Rattle.bus_json.specs.Refusal.{fault_value}
use Rattle.bus_json.proofs.ReadBack.{reads_back, fault_shallow}
use Rattle.bus_json.proofs.refusal.refusal_line.Goals as goal

pub returns-clause-reads_back : goal.returns-clause-reads_back
returns-clause-reads_back c =
    let v = fault_value c.args.fault in
    let e : c.put_refusal.new.out ≡ json_tokens v = simp (c.in_ok-put_refusal.ensures, c.in_ok-open_schema.ensures, c.new-out.ensures, append_assoc) in
    reads_back v (subst (λ (ts : List Token). tokens (print ts) ≡ ts) e c.into_line.ensures.reads_back)
    (fault_shallow c.args.fault)
