use Rattle.std.proofs.Common.{◌≡◌, ℕ, List, refl, subst}
use Rattle.std.proofs.lemmas.Bool.{both_ways}
use Rattle.topology_stack.specs.Refused.{Refused}
use Rattle.topology_stack.specs.Reader.{IsLasting}
use Rattle.heapless_c.specs.Reader.{refused, incomplete}
use Rattle.heapless_c.proofs.Lasting.{all_taken, lasts_on, not_long}
use Rattle.heapless_c.proofs.reader.tell_fault.Goals as goal

pub returns-then-is_lasting : goal.returns-then-is_lasting
returns-then-is_lasting c = λ s kept list e h.
    let lasting : IsLasting c.args.found = c.is_lasting.ensures.0 c.if-is_lasting.true in
    refused c.args.found (lasts_on s list kept c.args.found e h lasting) lasting c.tree_record.ensures refl

pub returns-else-is_lasting : goal.returns-else-is_lasting
returns-else-is_lasting c = λ s kept list e h.
    let ends : IsLasting c.args.found → ⊥ = λ l. both_ways c.is_lasting.result c.if-is_lasting.false (c.is_lasting.ensures.1 l) in
    let all : kept ≡ list = all_taken list kept e (not_long s kept c.args.found h ends) in
    incomplete c.args.found (subst (λ (l : List ℕ). Refused s l c.args.found) all h) ends c.tree_record.ensures refl
