-- The list of a reset is judged as `busconf read`, or by IEEE Std 1394-1995 `busconf read95`, judges its capture.
use Rattle.std.specs.Prelude.{◌≡◌, ◌↔◌, ℕ, ◌^◌, ◌<◌, All, Option, List, codes}
use Rattle.quad_lanes.specs.Capture.{capture}
use Rattle.quad_lanes.specs.Pairs.{bytes_of}
use Rattle.self_id.specs.declared.standard.Standard.{Standard}
use Rattle.topology_stack.specs.Tree.{Tree}
use Rattle.log_line.specs.declared.line.Origin.{Origin}
use Rattle.log_line.specs.declared.line.Origin.TheVariants.{Controller, Core}
use Rattle.capture_reading.specs.declared.fault.CaptureFault.{CaptureFault}
use Rattle.capture_reading.specs.Capture.{Spells, CaptureRefused}
use Rattle.view_text.specs.Drawing.{IsDrawing}
use Rattle.reset_list.specs.Hear.{IsHeard, IsUnheard}
use Rattle.reset_list.specs.Shown.{WasDrawn, IsBody}

-- the capture of a list: a controller's pairs are one as they stand, and the kernel's packets have no inverses yet
abbrev pub capture_by : Origin → List ℕ → List ℕ
capture_by Controller list = bytes_of list
capture_by Core list = capture list

-- a list is heard as the tree that its capture spells
abbrev pub ListsAreHeardAsRead : Type 0
ListsAreHeardAsRead =
    (standard : Standard) (origin : Origin) (list : List ℕ) (t : Tree) → All (λ q. q < 2 ^ 32) list →
    IsHeard standard origin list t ↔ Spells standard (capture_by origin list) t

-- and it has the fault for which its capture is refused
abbrev pub ListsAreRefusedAsRead : Type 0
ListsAreRefusedAsRead =
    (standard : Standard) (origin : Origin) (list : List ℕ) (f : CaptureFault) →
    All (λ q. q < 2 ^ 32) list →
    IsUnheard standard origin list f ↔ CaptureRefused standard (capture_by origin list) f

-- ---- a bus that is as before

-- some drawing is that of both trees
abbrev pub AreDrawnAlike : Option Tree → Tree → Type 0
AreDrawnAlike before t = (drawing : List ℕ) × WasDrawn before drawing × IsDrawing t drawing

-- that a bus is as before is said exactly where its tree has the drawing of the tree before
abbrev pub AsBeforeIsAsDrawn : Type 0
AsBeforeIsAsDrawn =
    (before : Option Tree) (t : Tree) (text by_node : List ℕ) → IsBody before t text by_node →
    (text ≡ codes "as before\n") ↔ AreDrawnAlike before t
