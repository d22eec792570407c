-- The text of a report.
use Rattle.std.specs.Prelude.{◌≡◌, ℕ, zero, suc, ◌<◌, ◌==◌, List, [], ◌∷◌, ◌++◌, All, length, map, slice_get, unwrap_or, cond, codes, decimal}
use Rattle.std.specs.Int.{bit_at}
use Rattle.self_id.specs.declared.standard.Standard.TheVariants.{Ieee2000}
use Rattle.topology_stack.specs.Tree.{Tree, IsBusTreeOf, walk, emits}
use Rattle.topology_stack.specs.Text.{tree_text}
use Rattle.cabling.specs.NodeSet.{Nodes, Holds}
use Rattle.settle.specs.declared.report.Outcome.{Outcome}
use Rattle.settle.specs.declared.report.Outcome.TheVariants as reported
use Rattle.settle.specs.declared.report.Part.{Part}
use Rattle.settle.specs.declared.report.Report.{Report}

-- the names of all nodes by their numbers
abbrev pub Names : Type 0
Names = List (List ℕ)

-- the name of a node
abbrev pub name_of : Names → ℕ → List ℕ
name_of names node = unwrap_or (slice_get names node) []

-- ` NAME`
unfoldable pub spaced : Names → ℕ → List ℕ
spaced names node = codes " " ++ name_of names node

-- ` NAME NAME`, for the nodes of a set that are below a number
abbrev pub spaced_below : Names → Nodes → ℕ → List ℕ
spaced_below names set zero = []
spaced_below names set (suc node) =
    spaced_below names set node ++ cond (bit_at set node == 1) (spaced names node) []

-- for all of its nodes
unfoldable pub all_spaced : Names → Nodes → List ℕ
all_spaced names set = spaced_below names set 63

-- a word and a number
unfoldable pub numbered : List ℕ → ℕ → List ℕ
numbered word n = word ++ decimal n

-- `report K turn T`
unfoldable pub report_line : ℕ → ℕ → List ℕ
report_line number turn =
    numbered (codes "report ") number ++ (numbered (codes " turn ") turn ++ codes "\n")

-- `component rounds R changed C nodes`
unfoldable pub counts : ℕ → ℕ → List ℕ
counts rounds changed =
    codes "component"
    ++ (numbered (codes " rounds ") rounds ++ (numbered (codes " changed ") changed ++ codes " nodes"))

-- `component rounds R changed C nodes NAME NAME`
unfoldable pub component_line : Names → Part → List ℕ
component_line names part =
    counts part.rounds part.changed ++ (all_spaced names part.nodes ++ codes "\n")

-- `tree root NAME`
unfoldable pub root_line : Names → ℕ → List ℕ
root_line names root = codes "tree root" ++ (spaced names root ++ codes "\n")

-- `contention NAME NAME`
unfoldable pub contention_line : Names → ℕ → ℕ → List ℕ
contention_line names a b =
    codes "contention" ++ (spaced names a ++ (spaced names b ++ codes "\n"))

-- `loop NAME NAME`
unfoldable pub loop_line : Names → Nodes → List ℕ
loop_line names core = codes "loop" ++ (all_spaced names core ++ codes "\n")

-- the names of nodes in this order
abbrev pub names_in : Names → List ℕ → Names
names_in names order = map (name_of names) order

-- the line of the root, and the text of the tree that emits the list, with its names by ID
pub record IsTreeText (names : Names) (root : ℕ) (list order : List ℕ) (text : List ℕ) : Type 0 where
  pub tree : Tree
  pub valid : IsBusTreeOf Ieee2000 tree
  pub emitted : emits tree ≡ list
  pub is : text ≡ root_line names root ++ tree_text tree (names_in names order)

-- what a component came to
abbrev pub IsOutcomeText : Names → Outcome → List ℕ → Type 0
IsOutcomeText names (reported.Tree root list order) text = IsTreeText names root list order text
IsOutcomeText names (reported.Contention a b) text = text ≡ contention_line names a b
IsOutcomeText names (reported.Loop core) text = text ≡ loop_line names core

-- a component's line, and what it came to
pub record IsPartText (names : Names) (part : Part) (text : List ℕ) : Type 0 where
  pub outcome : List ℕ
  pub told : IsOutcomeText names part.outcome outcome
  pub is : text ≡ component_line names part ++ outcome

-- one text after the other, each of its part
pub data ArePartTexts (names : Names) : List Part → List ℕ → Type 0 where
  none : ArePartTexts names [] []
  more :
      (parts : List Part) (before : List ℕ) (part : Part) (text : List ℕ) →
      ArePartTexts names parts before → IsPartText names part text →
      ArePartTexts names (parts ++ part ∷ []) (before ++ text)

pub record IsReportText (names : Names) (number : ℕ) (report : Report) (text : List ℕ) : Type 0 where
  pub parts : List ℕ
  pub told : ArePartTexts names report.parts parts
  pub is : text ≡ report_line number report.turn ++ parts

-- ---- what a report has to be for that

-- each node of a set has a name
abbrev pub AreNamed : Names → Nodes → Type 0
AreNamed names set = (node : ℕ) → Holds set node → node < length names

-- the list is a bus tree's, whose nodes the order has, and each has a name
pub record IsNamedTree (names : Names) (root : ℕ) (list order : List ℕ) : Type 0 where
  pub tree : Tree
  pub valid : IsBusTreeOf Ieee2000 tree
  pub emitted : emits tree ≡ list
  pub whole : length order ≡ length (walk tree)
  pub top : root < length names
  pub nodes : All (λ node. node < length names) order

abbrev pub IsNamedOutcome : Names → Outcome → Type 0
IsNamedOutcome names (reported.Tree root list order) = IsNamedTree names root list order
IsNamedOutcome names (reported.Contention a b) = (a < length names) × (b < length names)
IsNamedOutcome names (reported.Loop core) = AreNamed names core

pub record IsNamedPart (names : Names) (part : Part) : Type 0 where
  pub nodes : AreNamed names part.nodes
  pub outcome : IsNamedOutcome names part.outcome

-- each node of a report has a name, and each of its trees is a bus tree
abbrev pub IsNamedReport : Names → Report → Type 0
IsNamedReport names report = All (IsNamedPart names) report.parts
