use Rattle.std.proofs.Common.{◌≡◌, ◌≤◌, ℕ, true, refl, ap, ◌∙◌, map, take, List, length, arith}
use Rattle.std.proofs.lemmas.Grind.{common_steps}
use Rattle.cabling.specs.declared.visits.Visit.{Visit}
use Rattle.cabling.specs.codings.Visits.{at_root}
use Rattle.cabling.specs.Sees.{SmallTree}
use Rattle.cabling.proofs.Cores.{core_within}
use Rattle.cabling.proofs.Waiting.{node_of, nodes-visits}
use Rattle.cabling.proofs.wiring.Cabling.walk_from.Goals as goal

take_whole : (vs : List Visit) (n : ℕ) → length vs ≤ n → take n vs ≡ vs
take_whole vs n h = grind (arith, common_steps)

pub returns-then-not-is_empty-clause-cyclic : goal.returns-then-not-is_empty-clause-cyclic
returns-then-not-is_empty-clause-cyclic c = λ core is. ((λ e. absurd cc), λ empty. let t : c.is_empty.result ≡ true = c.is_empty.ensures.1 (λ x h. empty x (core_within c.args.self.now c.args.root c.core_of-core.result core c.core_of-core.ensures.core is x h)) in absurd cc)

pub returns-clause-walk : goal.returns-clause-walk
returns-clause-walk c = λ label.
    let s : SmallTree c.args.self.now label c.args.root = c.core_of-core.ensures.small_trees (c.is_empty.ensures.0 c.if-not-is_empty.false) label in
    let all : c.loop-visit.walk ≡ map node_of c.visits-visits.result =
    c.loop-visit.invariant ∙ ap (λ (vs : List Visit). map node_of vs) (take_whole c.as_slice-visit-items.result.now c.loop-visit.visit-index c.loop-visit-test.false ∙ c.as_slice-visit-items.ensures.value) in
    record {
      tree = s.tree;
      seen = s.seen;
      order = all ∙ ap (λ (vs : List Visit). map node_of vs) (c.visits-visits.ensures label s.tree s.seen) ∙ nodes-visits c.args.self.now (at_root c.args.root) s.tree;
    }

pub returns-clause-cyclic : goal.returns-clause-cyclic
returns-clause-cyclic c = λ core is. ((λ e x h. c.is_empty.ensures.0 c.if-not-is_empty.false x (core_within c.args.self.now c.args.root core c.core_of-core.result is c.core_of-core.ensures.core x h)), λ empty. refl)
