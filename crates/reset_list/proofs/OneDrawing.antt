-- Whether the tree before has a drawing.
use Rattle.std.proofs.Common.{◌≡◌, ◌↔◌, ℕ, Bool, true, false, Option, Some, List, subst}
use Rattle.std.specs.Prelude.{IsTrue}
use Rattle.topology_stack.specs.Tree.{Tree}
use Rattle.view_text.specs.Drawing.{IsDrawing}
use Rattle.reset_list.specs.Shown.{WasDrawn, WasOther}

same_tree : (before : Option Tree) (t u : Tree) → before ≡ Some t → before ≡ Some u → t ≡ u
same_tree before t u x y = cc

pub was_drawn : (before : Option Tree) (old : Tree) (a b : List ℕ) (same : Bool) →
    before ≡ Some old → IsDrawing old a → IsTrue same ↔ (a ≡ b) → same ≡ true → WasDrawn before b
was_drawn before old a b same is draws test e =
    (old, is, subst (λ (text : List ℕ). IsDrawing old text) (test.0 e) draws)

pub was_other : (before : Option Tree) (old : Tree) (a b : List ℕ) (same : Bool) →
    before ≡ Some old → IsDrawing old a → IsTrue same ↔ (a ≡ b) → same ≡ false → WasOther before b
was_other before old a b same is draws test e = λ tree it.
    (a, subst (λ (t : Tree). IsDrawing t a) (same_tree before old tree is it) draws, λ f. apart (test.1 f))
  where
    apart : IsTrue same → ⊥
    apart f = cc
