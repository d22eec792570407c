use Rattle.std.proofs.Common.{◌≡◌, ◌∙◌, List, [], ◌∷◌, ◌++◌, ap, append_assoc, subst}
use Rattle.json.specs.Token.{Token}
use Rattle.json.specs.Lex.{tokens}
use Rattle.json.specs.Print.{print}
use Rattle.json.specs.Tree.{json_tokens}
use Rattle.bus_json.proofs.Lemmas.{reads_back}
use Rattle.settle.specs.declared.report.Part.{Part}
use Rattle.report_views.specs.ReportJson.{AreComponents, report_value}
use Rattle.report_views.proofs.Shallow.{report_shallow}
use Rattle.report_views.proofs.line.report_line.Goals as goal

pub returns : goal.returns
returns c =
    let report = c.args.report.now in
    let parts = c.in_ok-put_components.ensures in
    let v = report_value c.args.number report.turn parts.items in
    let e : c.close_object.new.self ≡ json_tokens v =
    simp (c.in_ok-close_object.ensures, parts.is, c.in_ok-open_list.ensures, c.in_ok-key.ensures, c.in_ok-number_member-2.ensures, c.in_ok-number_member.ensures, c.in_ok-open_schema.ensures, c.new-out.ensures, c.from.ensures, c.from-2.ensures, append_assoc) in
    let are = subst (λ (ps : List Part). AreComponents c.args.names.now ps parts.items) c.as_slice.ensures parts.told in
    record {
      line_is = record {
        components = parts.items;
        are = are;
        is = c.in_ok-line.ensures.line ∙ ap (λ (ts : List Token). print ts ++ 10 ∷ []) e;
      };
      read_back = reads_back v (subst (λ (ts : List Token). tokens (print ts) ≡ ts) e c.into_line.ensures.reads_back)
          (report_shallow c.args.names.now report.parts parts.items c.args.number report.turn are);
    }
