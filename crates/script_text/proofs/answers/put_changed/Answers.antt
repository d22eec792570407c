use Rattle.std.proofs.Common.{◌++◌, ◌∙◌, List, ℕ, codes, ap, append_assoc}
use Rattle.topology_stack.specs.Hex.{hex}
use Rattle.script_text.specs.ReportText.{numbered}
use Rattle.script_text.specs.CommandText.{changed_words}
use Rattle.script_text.proofs.answers.put_changed.Goals as goal

pub returns : goal.returns
unfolding changed_words
returns c =
    let out = c.args.out.now.items in
    let word : List ℕ = codes " changed 0x" in
    let digits : List ℕ = hex 3 c.args.offset in
    let old : List ℕ = numbered (codes " ") c.args.old in
    c.in_ok-put_numbered.ensures
    ∙ ap (λ (n : ℕ). c.put_hex.new.out.items ++ numbered (codes " ") n) c.from.ensures
    ∙ ap (λ (l : List ℕ). l ++ old) (c.in_ok-put_hex.ensures ∙ ap (λ (l : List ℕ). l ++ digits) c.in_ok-extend_from_slice.ensures.items)
    ∙ append_assoc (out ++ word) digits old
    ∙ append_assoc out word (digits ++ old)
