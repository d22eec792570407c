use Rattle.std.proofs.lemmas.Result.{IfOk-weaker}
use Rattle.flawed_capture.proofs.Changed.{no_packets, goes_on, other_one, other_end, other_both}
use Rattle.flawed_capture.proofs.change.changed.Goals as goal
use Rattle.flawed_capture.proofs.change.changed.Goals.{in_default-via-in-NoRoot+else-not-is_last, in_default-via-in_default}

pub returns-in-Empty-clause-sure : goal.returns-in-Empty-clause-sure
returns-in-Empty-clause-sure c = λ a b nodes bus enough comes. no_packets c.args.standard c.args.flaw c.new.result.items c.in-Empty.is c.new.ensures.items

pub returns-in-Cut-clause-sure : goal.returns-in-Cut-clause-sure
returns-in-Cut-clause-sure c = λ a b.
    IfOk-weaker c.ended.result _ _ (λ spoilt parts. λ nodes bus enough comes.
    other_end c.args.standard c.args.flaw nodes c.args.at c.other_quad-quad.result c.args.list.now spoilt.items c.in-Cut.is bus parts c.other_quad-quad.ensures.other comes)
    c.ended.ensures.parts

pub returns-in-AfterRoot-clause-sure : goal.returns-in-AfterRoot-clause-sure
returns-in-AfterRoot-clause-sure c = λ a b.
    IfOk-weaker c.behind_root.result _ _ (λ spoilt behind. λ nodes bus enough comes.
    goes_on c.args.standard c.args.flaw nodes c.args.at c.args.word c.args.list.now spoilt.items c.in-AfterRoot.is bus behind comes)
    c.behind_root.ensures.behind

pub returns-in_default-clause-sure : goal.returns-in_default-clause-sure
returns-in_default-clause-sure c = λ a b.
    IfOk-weaker c.with_other.result _ _ (λ spoilt parts. λ nodes bus enough comes. elim c.in_default.branch [
      | in_default-via-in-NoRoot+else-not-is_last w ↦
          let is = w.in-NoRoot.is in
          other_one c.args.standard c.args.flaw nodes c.args.at c.other_quad-quad.result c.args.list.now spoilt.items a b (λ e. cc) (λ e. cc) (λ e. cc) (λ e. cc) bus c.other_quad-quad.ensures.other parts comes
      | in_default-via-in_default w ↦
          other_one c.args.standard c.args.flaw nodes c.args.at c.other_quad-quad.result c.args.list.now spoilt.items a b w.in_default.not-Empty w.in_default.not-Cut w.in_default.not-AfterRoot w.in_default.not-TooMany bus c.other_quad-quad.ensures.other parts comes
    ])
    c.with_other.ensures

pub returns-in-TooMany-clause-sure : goal.returns-in-TooMany-clause-sure
returns-in-TooMany-clause-sure c = λ a b.
    IfOk-weaker c.with_both.result _ _ (λ spoilt parts. λ nodes bus enough comes.
    other_both c.args.standard c.args.flaw nodes c.args.at c.other_quad-quad.result c.args.word c.args.list.now spoilt.items c.in-TooMany.is bus parts enough c.other_quad-quad.ensures.other comes)
    c.with_both.ensures.parts
