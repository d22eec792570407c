use Rattle.std.proofs.Common.{◌≡◌, ℕ, ◌-◌, List, [], ◌∷◌, ◌++◌, length, subst, arith}
use Rattle.std.proofs.Math.ListN.{set}
use Rattle.std.proofs.lemmas.List.{set-append_right}
use Rattle.self_id.specs.Node.{Node}
use Rattle.self_id.specs.Group.{StandsAt}
use Rattle.topology_stack.proofs.reading.read_behind.Goals as goal

-- the last node, written anew
last_set : (ns : List Node) (blank n : Node) (id : ℕ) → id ≡ length ns →
    set (ns ++ blank ∷ []) id n ≡ ns ++ n ∷ []
last_set ns blank n id e =
    let none : id - length ns ≡ 0 = omega arith in
    let le : length ns ≡ length ns = omega arith in
    rw (set-append_right ns (blank ∷ []) (length ns) id n le (omega arith), none)

pub returns-clause-found : goal.returns-clause-found
returns-clause-found c =
    let id : c.len-id.result ≡ length c.args.nodes.now.items = omega (arith, c.len-id.ensures) in
    let P : ℕ → Type 0 = λ k. StandsAt c.args.standard c.args.quads.now c.args.at k
    c.read_group_into.new.node c.in_ok-after.after in
    record {
      node = c.read_group_into.new.node;
      stands = subst P id c.in_ok-after.ensures.found;
      behind = rw c.in_ok-push.ensures.items
          (last_set c.args.nodes.now.items c.blank.result c.read_group_into.new.node c.len-id.result id);
    }
