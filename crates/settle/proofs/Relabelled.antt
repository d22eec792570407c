-- Trees that are seen with different labels have their nodes in one order.
use Rattle.std.proofs.Common.{◌≡◌, ℕ, ◌+◌, List, [], ◌∷◌, ◌++◌, Option, Some, None, refl, ◌∙◌, ap}
use Rattle.topology_stack.specs.Tree.{Label, Tree, branch, Slots, unplugged, up, down}
use Rattle.cabling.specs.declared.cable.End.{End}
use Rattle.cabling.specs.Wiring.{Wiring, ports_of}
use Rattle.cabling.specs.Sees.{Sees, SeesFrom, numbers, numbers_below}

mutual
  pub one-order :
      (c : Wiring) (label other : ℕ → Label) (x : ℕ) (from : Option ℕ) (t u : Tree) →
      Sees c label x from t → Sees c other x from u → numbers c x t ≡ numbers c x u
  one-order c label other x from (branch a s) (branch b r) h k = ap (λ (ns : List ℕ). ns ++ x ∷ []) (one-below c label other from 0 (ports_of c x) s r h.2 k.2)

  one-below :
      (c : Wiring) (label other : ℕ → Label) (from : Option ℕ) (p : ℕ) (ports : List (Option End))
      (s r : Slots) → SeesFrom c label from p ports s → SeesFrom c other from p ports r →
      numbers_below c ports s ≡ numbers_below c ports r
  one-below c label other from p [] s r h k = refl
  one-below c label other from p (None ∷ ports) (unplugged s) (unplugged r) h k = one-below c label other from (p + 1) ports s r h k
  one-below c label other from p (None ∷ ports) (unplugged s) r h k = absurd k
  one-below c label other from p (Some far ∷ ports) (up s) (up r) h k = one-below c label other from (p + 1) ports s r h.1 k.1
  one-below c label other from p (Some far ∷ ports) (up s) (down u r) h k = absurd (k.0 h.0)
  one-below c label other from p (Some far ∷ ports) (down t s) (up r) h k = absurd (h.0 k.0)
  one-below c label other from p (Some far ∷ ports) (down t s) (down u r) h k =
      ap (λ (ns : List ℕ). ns ++ numbers_below c ports s) (one-order c label other far.node (Some far.port) t u h.1 k.1)
      ∙ ap (λ (ns : List ℕ). numbers c far.node u ++ ns) (one-below c label other from (p + 1) ports s r h.2 k.2)
  one-below c label other from p (Some far ∷ ports) (up s) r h k = absurd k
  one-below c label other from p (Some far ∷ ports) (down t s) r h k = absurd k
  one-below c label other from p ports s r h k = absurd h
