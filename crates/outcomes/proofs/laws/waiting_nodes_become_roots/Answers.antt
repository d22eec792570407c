use Rattle.std.proofs.Common.{◌^◌, ◌<◌, arith}
use Rattle.outcomes.proofs.forced.ForcedRoot.{up, late, others, walk}
use Rattle.outcomes.proofs.forced.ForcedRoot as forced
use Rattle.outcomes.proofs.forced.Towards.{faces-up, no-draws}
use Rattle.outcomes.proofs.settled.Components.{small-forced}
use Rattle.outcomes.proofs.laws.waiting_nodes_become_roots.Goals as goal

pub returns-clause-root : goal.returns-clause-root
returns-clause-root c = λ holds w node set root k f h.
    let small : set < 2 ^ 63 = small-forced c.components_exist.ensures w node set root f in
    record {
      is_root = forced.root holds w f.lawful node set f.no_loop.core f.component f.no_loop.is_core f.no_loop.empty small f.fresh root f.alone f.enough k (omega (arith, h));
      late = late holds w f.lawful node set f.no_loop.core f.component f.no_loop.is_core f.no_loop.empty small f.fresh root f.alone f.enough k (omega (arith, h));
      parents = others holds w f.lawful node set f.no_loop.core f.component f.no_loop.is_core f.no_loop.empty small f.fresh root f.alone f.enough k (omega (arith, h));
    }

pub returns-clause-walk : goal.returns-clause-walk
returns-clause-walk c = λ holds w node set root k f acyclic h.
    let small : set < 2 ^ 63 = small-forced c.components_exist.ensures w node set root f in
    walk holds w f.lawful node set f.no_loop.core f.component f.no_loop.is_core f.no_loop.empty small f.fresh root f.alone f.enough k (omega (arith, h)) acyclic

pub returns-clause-ways : goal.returns-clause-ways
returns-clause-ways c = λ holds w node set root f.
    let small : set < 2 ^ 63 = small-forced c.components_exist.ensures w node set root f in
    let u = up holds w f.lawful node set f.no_loop.core f.component f.no_loop.is_core f.no_loop.empty small f.fresh root f.alone f.enough in
    (u.0, u.1, faces-up holds w f.lawful node set f.no_loop.core f.component f.no_loop.is_core f.no_loop.empty small f.fresh root f.alone f.enough)

pub returns-clause-undrawn : goal.returns-clause-undrawn
returns-clause-undrawn c = λ holds w node set root i k x y f.
    let small : set < 2 ^ 63 = small-forced c.components_exist.ensures w node set root f in
    no-draws holds w f.lawful node set f.no_loop.core f.component f.no_loop.is_core f.no_loop.empty small f.fresh root f.alone f.enough i k x y
