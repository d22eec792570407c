use Rattle.std.proofs.Common.{◌≡◌, ◌++◌, drop}
use Rattle.json.specs.Tree.{items_tokens}
use Rattle.diff_json.specs.Changes.{change_items}
use Rattle.diff_json.proofs.changes.put_items.Given as goal

-- what is written so far, and then the changes that are left, are all changes
abbrev pub invariant-loop-change : goal.invariant-loop-change
invariant-loop-change l =
    l.out ++ items_tokens (change_items (drop l.change-index l.changes))
    ≡ l.fn.out ++ items_tokens (change_items l.changes)
