-- The text of a plan: its nodes and numbers.
use Rattle.std.specs.Prelude.{ℕ, List, [], ◌∷◌, ◌++◌, codes}
use Rattle.root_plan.specs.declared.choice.RootPlan.{RootPlan}
use Rattle.script_text.specs.ReportText.{Names, spaced, numbered}

-- ` NAME NAME`, for nodes in this order
abbrev pub all_in : Names → List ℕ → List ℕ
all_in names [] = []
all_in names (node ∷ nodes) = spaced names node ++ all_in names nodes

-- ` hops H gap G far F`
unfoldable pub plan_numbers : RootPlan → List ℕ
plan_numbers plan =
    numbered (codes " hops ") plan.hops
    ++ (numbered (codes " gap ") plan.gap ++ numbered (codes " far ") plan.far)

-- `plan NAME root NAME`: the name of the bus manager, and the node that is to be root
unfoldable pub plan_nodes : Names → List ℕ → ℕ → List ℕ
plan_nodes names name root = codes "plan " ++ (name ++ (codes " root" ++ spaced names root))

-- `plan NAME root NAME hops H gap G far F expect NAME NAME`
abbrev pub plan_line : Names → List ℕ → ℕ → RootPlan → List ℕ → List ℕ
plan_line names name root plan expected =
    plan_nodes names name root
    ++ (plan_numbers plan ++ (codes " expect" ++ (all_in names expected ++ codes "\n")))
