-- What a list is told as nests a few levels deep.
use Rattle.std.proofs.Common.{◌≤◌, ℕ, Option, List, [], sym, subst, arith}
use Rattle.self_id.specs.declared.standard.Standard.{Standard}
use Rattle.topology_stack.specs.Tree.{Tree}
use Rattle.json.specs.Json.{Members}
use Rattle.json.specs.Tree.{members_depth}
use Rattle.bus_json.proofs.Lemmas.{tree_shallow, refusal_shallow}
use Rattle.log_line.specs.declared.line.Origin.{Origin}
use Rattle.reset_list.specs.Json.{IsListTold, told_refused, told_heard}

pub told_shallow : (standard : Standard) (origin : Origin) (list : List ℕ) (members : Members) (heard : Option Tree) →
    IsListTold standard origin list members heard → members_depth members ≤ 4
told_shallow standard origin list ms heard (told_refused f un e none) =
    subst (λ (m : Members). members_depth m ≤ 4) (sym e) (omega (arith, refusal_shallow f))
told_shallow standard origin list ms heard (told_heard t is e some) =
    subst (λ (m : Members). members_depth m ≤ 4) (sym e) (tree_shallow [] t)
