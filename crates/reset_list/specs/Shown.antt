-- What is shown of a reset's list: the bus, that it is as before, what changed, or the fault.
use Rattle.std.specs.Prelude.{◌≡◌, ℕ, Option, Some, None, List, [], ◌++◌, codes}
use Rattle.self_id.specs.declared.standard.Standard.{Standard}
use Rattle.topology_stack.specs.Tree.{Tree, walk}
use Rattle.view_text.specs.Drawing.{IsDrawing}
use Rattle.log_line.specs.declared.line.Origin.{Origin}
use Rattle.capture_reading.specs.declared.fault.CaptureFault.{CaptureFault}
use Rattle.reset_list.specs.Hear.{IsHeard, IsUnheard}
use Rattle.reset_list.specs.Texts.{refused, numbers, changes, node_changes, initiators}
use Rattle.reset_list.specs.Sentence.{IsRefusalShown}

-- this is the drawing of the tree before, if there was one
abbrev pub WasDrawn : Option Tree → List ℕ → Type 0
WasDrawn before drawing = (old : Tree) × (before ≡ Some old) × IsDrawing old drawing

-- the tree before, if there was one, has another drawing
abbrev pub WasOther : Option Tree → List ℕ → Type 0
WasOther before drawing =
    (old : Tree) → before ≡ Some old →
    (other : List ℕ) × IsDrawing old other × (other ≡ drawing → ⊥)

-- the drawing of a tree, and behind it what changed node by node; or that it is as before
pub data IsBody (before : Option Tree) (t : Tree) (text by_node : List ℕ) : Type 0 where
  the_same : (drawing : List ℕ) → IsDrawing t drawing → WasDrawn before drawing →
      text ≡ codes "as before\n" → by_node ≡ [] → IsBody before t text by_node
  drawn : IsDrawing t text → WasOther before text → by_node ≡ node_changes before t →
      IsBody before t text by_node

-- what is shown of a tree behind the head of its reset: its numbers, its drawing, what changed, and who
-- began the reset
pub record IsTreeShown (head : List ℕ) (before : Option Tree) (t : Tree) (text : List ℕ) :
    Type 0 where
  pub body : List ℕ
  pub by_node : List ℕ
  pub is_body : IsBody before t body by_node
  pub text_is :
      text ≡ head ++ (numbers t ++ (body ++ (changes before t
      ++ (by_node ++ initiators 0 (walk t)))))

-- what is shown of a reset's list behind the reset's head, where this tree was there before, and the
-- tree that it is heard as, if it is
pub data IsListShown (standard : Standard) (origin : Origin) (head list : List ℕ)
    (before : Option Tree) (text : List ℕ) (heard : Option Tree) : Type 0 where
  is_refused : (f : CaptureFault) → IsUnheard standard origin list f →
      IsRefusalShown standard origin head list f text → heard ≡ None →
      IsListShown standard origin head list before text heard
  is_heard : (t : Tree) → IsHeard standard origin list t → IsTreeShown head before t text →
      heard ≡ Some t → IsListShown standard origin head list before text heard

-- what is shown of it in one line: behind the reset's head the numbers of the bus, or the line of the fault
pub data IsListShort (standard : Standard) (origin : Origin) (head list : List ℕ)
    (text : List ℕ) (heard : Option Tree) : Type 0 where
  short_refused : (f : CaptureFault) → IsUnheard standard origin list f →
      text ≡ refused head f → heard ≡ None → IsListShort standard origin head list text heard
  short_heard : (t : Tree) → IsHeard standard origin list t →
      text ≡ head ++ numbers t → heard ≡ Some t → IsListShort standard origin head list text heard
