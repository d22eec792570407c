use Rattle.std.proofs.Common.{◌≡◌, List, subst}
use Rattle.json.specs.Token.{Token}
use Rattle.json.specs.Lex.{tokens}
use Rattle.json.specs.Print.{print}
use Rattle.json.specs.Tree.{json_tokens}
use Rattle.bus_json.proofs.Lemmas.{reads_back}
use Rattle.diff_json.specs.Changes.{changes_value}
use Rattle.diff_json.proofs.ReadBack.{changes_shallow}
use Rattle.diff_json.proofs.changes.changes_line.Goals as goal

pub returns-clause-reads_back : goal.returns-clause-reads_back
returns-clause-reads_back c =
    let v = changes_value c.args.changes.now in
    let e : c.put_changes.new.out ≡ json_tokens v = simp (c.in_ok-put_changes.ensures, c.in_ok-open_schema.ensures, c.new-out.ensures) in
    reads_back v (subst (λ (ts : List Token). tokens (print ts) ≡ ts) e c.into_line.ensures.reads_back)
    (changes_shallow c.args.changes.now)
