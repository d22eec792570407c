-- The line of a fault: `refused pair P KIND`, and behind some kinds ` found F wanted W`.
use Rattle.std.specs.Prelude.{ℕ, List, [], ◌++◌, codes, decimal, Option, Some, None}
use Rattle.self_id.specs.declared.fault.GroupFault.TheVariants.{NotSelfId, WrongId, BadOrder, Cut, TwoParents}
use Rattle.topology_stack.specs.declared.fault.TreeFault.TheVariants.{Group, Empty, TooFewChildren, TreesLeft, AfterRoot, NoRoot, TooMany}
use Rattle.capture_reading.specs.declared.fault.CaptureFault.{CaptureFault}
use Rattle.capture_reading.specs.declared.fault.CaptureFault.TheVariants.{BadLength, BadInverse, Tree}
use Rattle.capture_reading.specs.declared.refusal.Counts.{Counts}

-- why a capture is refused, as each text on it says: the pair at fault, the kind of its fault, and what was found
-- and wanted, where both are known
pub record Refusal : Type 0 where
  pub pair : ℕ
  pub kind : List ℕ
  pub counts : Option Counts

abbrev pub plain : ℕ → List ℕ → Refusal
plain pair kind = record { pair = pair; kind = kind; counts = None }

abbrev pub counted : ℕ → List ℕ → ℕ → ℕ → Refusal
counted pair kind found wanted =
    record { pair = pair; kind = kind; counts = Some (record { found = found; wanted = wanted }) }

-- of a fault
abbrev pub refusal_of : CaptureFault → Refusal
refusal_of (BadLength pair) = plain pair (codes "BadLength")
refusal_of (BadInverse pair) = plain pair (codes "BadInverse")
refusal_of (Tree (Group (NotSelfId at))) = plain at (codes "NotSelfId")
refusal_of (Tree (Group (WrongId at found wanted))) = counted at (codes "WrongId") found wanted
refusal_of (Tree (Group (BadOrder at))) = plain at (codes "BadOrder")
refusal_of (Tree (Group (Cut at))) = plain at (codes "Cut")
refusal_of (Tree (Group (TwoParents at))) = plain at (codes "TwoParents")
refusal_of (Tree Empty) = plain 0 (codes "Empty")
refusal_of (Tree (TooFewChildren at found wanted)) =
    counted at (codes "TooFewChildren") found wanted
refusal_of (Tree (TreesLeft at found wanted)) = counted at (codes "TreesLeft") found wanted
refusal_of (Tree (AfterRoot at)) = plain at (codes "AfterRoot")
refusal_of (Tree (NoRoot at)) = plain at (codes "NoRoot")
refusal_of (Tree (TooMany at)) = plain at (codes "TooMany")

-- ` found F wanted W`, where they are known
abbrev pub counts_words : Option Counts → List ℕ
counts_words None = []
counts_words (Some c) = codes " found " ++ (decimal c.found ++ (codes " wanted " ++ decimal c.wanted))

abbrev pub refusal_line : Refusal → List ℕ
refusal_line r =
    codes "refused pair " ++ (decimal r.pair ++ (codes " " ++ (r.kind ++ (counts_words r.counts ++ codes "\n"))))

-- the line of a fault
unfoldable pub fault_line : CaptureFault → List ℕ
fault_line f = refusal_line (refusal_of f)
