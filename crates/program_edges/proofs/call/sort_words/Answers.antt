use Rattle.std.proofs.Common.{◌≡◌, ◌∙◌, ◌+◌, List, ap, subst, sym, ◌++◌, length}
use Rattle.std.specs.Prelude.{min, String}
use Rattle.std.specs.Global.{Global}
use Rattle.program_edges.specs.Words.{AreNoOptions}
use Rattle.program_edges.proofs.Sorted.{sorted, no_options}
use Rattle.program_edges.proofs.call.sort_words.Goals as goal

pub returns-clause-sorted : goal.returns-clause-sorted
returns-clause-sorted c =
    let count : c.own_count-plain.result ≡ min (c.args.behind + 1) (length c.in_ok-parted.parted.plain.items) =
    c.own_count-plain.ensures.value ∙ ap (min (c.args.behind + 1)) (c.len.ensures ∙ c.in_ok-parted.parted.plain.ok.0) in
    sorted c.args.behind _ _ _ _ _ _ _ c.in_ok-parted.ensures.plain c.in_ok-parted.ensures.options count
    (c.in_ok-append.ensures.items ∙ ap (λ (l : List (String Global)). l ++ c.sort_unstable.new.self.items) c.in_ok-files.ensures.items)
    c.in_ok-files.ensures.tail c.sort_unstable.ensures.permutation c.sort_unstable.ensures.sorted

-- the files are what is dropped of the words that are no options
pub returns-clause-named : goal.returns-clause-named
returns-clause-named c =
    subst (AreNoOptions c.args.words.items) (sym (returns-clause-sorted c).files_are) (no_options c.args.behind c.args.words.items)
