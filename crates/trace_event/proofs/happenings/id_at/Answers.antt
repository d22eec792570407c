use Rattle.std.proofs.Common.{refl, [], ◌++◌}
use Rattle.std.specs.Prelude.{codes}
use Rattle.trace_event.specs.Event.{name_word, numbered}
use Rattle.trace_event.proofs.Chain.{row}
use Rattle.trace_event.proofs.happenings.id_at.Goals as goal

pub returns-in_err-next-clause-only : goal.returns-in_err-next-clause-only
returns-in_err-next-clause-only c = λ node id next is fits.
    let s1 = c.in_ok-node.ensures.only node ((numbered (codes " phy_ID ") id) ++ (codes "\n")) next (row (name_word c.args.text.now node) (numbered (codes " phy_ID ") id) (codes "\n") is.line) is.names refl in
    let s2 = c.in_ok-id.ensures.only id (codes "\n") next s1 fits refl in
    absurd (c.in_err-next.ensures.only [] next s2)
