-- The kinds of fault of a capture, and when bytes have a fault of a kind.
use Rattle.std.specs.Prelude.{◌≡◌, ℕ, List}
use Rattle.self_id.specs.declared.fault.GroupFault as group
use Rattle.self_id.specs.declared.fault.GroupFault.{GroupFault}
use Rattle.self_id.specs.declared.standard.Standard.{Standard}
use Rattle.topology_stack.specs.declared.fault.TreeFault as tree
use Rattle.topology_stack.specs.declared.fault.TreeFault.{TreeFault}
use Rattle.topology_stack.specs.Refused.{Refused}
use Rattle.topology_stack.specs.Tree.{Tree}
use Rattle.capture_reading.specs.declared.fault.CaptureFault as capture
use Rattle.capture_reading.specs.declared.fault.CaptureFault.{CaptureFault}
use Rattle.capture_reading.specs.Capture.{Spells, CaptureRefused}
use Rattle.capture_reading.specs.Line.{refusal_of}
use Rattle.flawed_capture.specs.declared.flaw.Flaw.{Flaw}
use Rattle.flawed_capture.specs.declared.flaw.Flaw.TheVariants.{BadLength, BadInverse, NotSelfId, WrongId, BadOrder, Cut, TwoParents, Empty, TooFewChildren, TreesLeft, AfterRoot, NoRoot, TooMany}

-- the kind of a group's fault
abbrev pub of_group : GroupFault → Flaw
of_group (group.TheVariants.NotSelfId at) = NotSelfId
of_group (group.TheVariants.WrongId at found wanted) = WrongId
of_group (group.TheVariants.BadOrder at) = BadOrder
of_group (group.TheVariants.Cut at) = Cut
of_group (group.TheVariants.TwoParents at) = TwoParents

-- the kind of a list's fault
abbrev pub of_tree : TreeFault → Flaw
of_tree (tree.TheVariants.Group f) = of_group f
of_tree tree.TheVariants.Empty = Empty
of_tree (tree.TheVariants.TooFewChildren at found wanted) = TooFewChildren
of_tree (tree.TheVariants.TreesLeft at found wanted) = TreesLeft
of_tree (tree.TheVariants.AfterRoot at) = AfterRoot
of_tree (tree.TheVariants.NoRoot at) = NoRoot
of_tree (tree.TheVariants.TooMany at) = TooMany

-- the kind of a capture's fault
abbrev pub of_capture : CaptureFault → Flaw
of_capture (capture.TheVariants.BadLength pair) = BadLength
of_capture (capture.TheVariants.BadInverse pair) = BadInverse
of_capture (capture.TheVariants.Tree f) = of_tree f

-- by a standard the list is refused by a fault of this kind
pub record HasListFlaw (standard : Standard) (list : List ℕ) (flaw : Flaw) : Type 0 where
  pub fault : TreeFault
  pub refused : Refused standard list fault
  pub kind : flaw ≡ of_tree fault

-- by a standard the bytes are refused by a fault of this kind
pub record HasFlaw (standard : Standard) (bytes : List ℕ) (flaw : Flaw) : Type 0 where
  pub fault : CaptureFault
  pub refused : CaptureRefused standard bytes fault
  pub kind : flaw ≡ of_capture fault

-- the bytes are the capture of the list of a bus tree
abbrev pub IsOfATree : Standard → List ℕ → Type 0
IsOfATree standard bytes = (t : Tree) × Spells standard bytes t

-- a group's fault as one of a capture
abbrev pub group_fault : GroupFault → CaptureFault
group_fault f = capture.TheVariants.Tree (tree.TheVariants.Group f)

-- a fault of each kind
abbrev pub some_fault : Flaw → CaptureFault
some_fault BadLength = capture.TheVariants.BadLength 0
some_fault BadInverse = capture.TheVariants.BadInverse 0
some_fault NotSelfId = group_fault (group.TheVariants.NotSelfId 0)
some_fault WrongId = group_fault (group.TheVariants.WrongId 0 0 0)
some_fault BadOrder = group_fault (group.TheVariants.BadOrder 0)
some_fault Cut = group_fault (group.TheVariants.Cut 0)
some_fault TwoParents = group_fault (group.TheVariants.TwoParents 0)
some_fault Empty = capture.TheVariants.Tree tree.TheVariants.Empty
some_fault TooFewChildren = capture.TheVariants.Tree (tree.TheVariants.TooFewChildren 0 0 0)
some_fault TreesLeft = capture.TheVariants.Tree (tree.TheVariants.TreesLeft 0 0 0)
some_fault AfterRoot = capture.TheVariants.Tree (tree.TheVariants.AfterRoot 0)
some_fault NoRoot = capture.TheVariants.Tree (tree.TheVariants.NoRoot 0)
some_fault TooMany = capture.TheVariants.Tree (tree.TheVariants.TooMany 0)

-- the word by which `busconf read` names a kind, as it names a fault of the kind
abbrev pub flaw_word : Flaw → List ℕ
flaw_word flaw = (refusal_of (some_fault flaw)).kind

-- all faults of a kind have its word
abbrev pub FaultsHaveTheirKindsWord : Type 0
FaultsHaveTheirKindsWord =
    (fault : CaptureFault) → (refusal_of fault).kind ≡ flaw_word (of_capture fault)

-- how many nodes a list shows at least that has a fault of this kind
abbrev pub least_nodes : Flaw → ℕ
least_nodes TreesLeft = 2
least_nodes TooMany = 63
least_nodes flaw = 0
