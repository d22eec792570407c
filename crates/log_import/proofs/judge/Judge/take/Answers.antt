use Rattle.std.proofs.Common.{◌∙◌, ℕ, ◌+◌, Some, sym, ap, subst}
use Rattle.std.specs.BTreeMap.{BTreeMap, Updates}
use Rattle.std.specs.Ordering.{nat_cmp}
use Rattle.std.specs.Option.{option_copied}
use Rattle.reset_log.specs.declared.cards.Known.{Known}
use Rattle.log_import.specs.codings.Standing.{plain}
use Rattle.log_import.proofs.Steps.{passed, second, counted}
use Rattle.log_import.proofs.judge.Judge.take.Goals as goal

pub returns-then-is_repeated-clause-found : goal.returns-then-is_repeated-clause-found
returns-then-is_repeated-clause-found c =
    passed c.args.pending.now (option_copied c.get-before.result) c.args.self.now c.get-before.ensures.value
    (sym c.is_repeated.ensures ∙ c.if-is_repeated.true)

pub returns-then-second-clause-found : goal.returns-then-second-clause-found
returns-then-second-clause-found c =
    second c.args.pending.now (option_copied c.get-before.result) c.args.self.now c.get-before.ensures.value
    c.in_ok-heard.heard (sym c.is_repeated.ensures ∙ c.if-is_repeated.false) c.in_ok-heard.ensures c.keep.new.self
    c.in_ok-keep.ensures.last (sym c.is_second-second.ensures ∙ c.if-second.true) c.keep.ensures.wanted
    c.keep.ensures.counted c.requires

pub returns-clause-found : goal.returns-clause-found
returns-clause-found c =
    counted c.args.pending.now (option_copied c.get-before.result) c.args.self.now c.get-before.ensures.value
    c.in_ok-heard.heard (sym c.is_repeated.ensures ∙ c.if-is_repeated.false) c.in_ok-heard.ensures c.count.new.self
    c.count.result
    (subst (λ (m : BTreeMap ℕ Known). Updates nat_cmp c.args.self.now.last m c.args.pending.now.reset.card (Some (plain c.args.pending.now.reset c.in_ok-heard.heard))) (sym c.count.ensures.last) c.in_ok-keep.ensures.last)
    (sym c.is_second-second.ensures ∙ c.if-second.false) (c.count.ensures.wanted ∙ c.keep.ensures.wanted)
    (λ e. sym c.keep.ensures.wanted ∙ c.count.ensures.found e ∙ ap (λ (n : ℕ). n + 1) c.keep.ensures.counted)
    (λ e. ((c.count.ensures.more e).0 ∙ ap (λ (n : ℕ). n + 1) c.keep.ensures.counted, (c.count.ensures.more e).1))
