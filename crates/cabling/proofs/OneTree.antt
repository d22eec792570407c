-- One tree at most is seen from a root.
use Rattle.std.proofs.Common.{◌≡◌, ℕ, ◌+◌, List, [], ◌∷◌, Option, Some, None, length, refl, sym, ◌∙◌, ap, arith}
use Rattle.topology_stack.specs.Tree.{Label, Tree, branch, Slots, no_more, absent, unplugged, up, down, statuses}
use Rattle.cabling.specs.declared.cable.End.{End}
use Rattle.cabling.specs.Wiring.{Wiring, ports_of}
use Rattle.cabling.specs.Sees.{Sees, SeesFrom}

mutual
  pub one-tree : (c : Wiring) (label : ℕ → Label) (x : ℕ) (from : Option ℕ) (t u : Tree) →
      Sees c label x from t → Sees c label x from u → t ≡ u
  one-tree c label x from (branch a s) (branch b r) h k =
      let same : a ≡ b = h.0 ∙ sym k.0 in
      rw (same, one-slots c label from 0 (ports_of c x) s r h.2 k.2 (h.1 ∙ sym k.1)) refl

  one-slots : (c : Wiring) (label : ℕ → Label) (from : Option ℕ) (p : ℕ) (ports : List (Option End)) (s r : Slots) →
      SeesFrom c label from p ports s → SeesFrom c label from p ports r →
      length (statuses s) ≡ length (statuses r) → s ≡ r
  one-slots c label from p [] no_more no_more h k l = refl
  one-slots c label from p [] no_more (absent r) h k l = absurd (omega (arith, l))
  one-slots c label from p [] (absent s) no_more h k l = absurd (omega (arith, l))
  one-slots c label from p [] (absent s) (absent r) h k l = ap absent (one-slots c label from (p + 1) [] s r h k (omega (arith, l)))
  one-slots c label from p [] no_more r h k l = absurd k
  one-slots c label from p [] (absent s) r h k l = absurd k
  one-slots c label from p (None ∷ ports) (unplugged s) (unplugged r) h k l = ap unplugged (one-slots c label from (p + 1) ports s r h k (omega (arith, l)))
  one-slots c label from p (None ∷ ports) (unplugged s) r h k l = absurd k
  one-slots c label from p (Some far ∷ ports) (up s) (up r) h k l = ap up (one-slots c label from (p + 1) ports s r h.1 k.1 (omega (arith, l)))
  one-slots c label from p (Some far ∷ ports) (up s) (down u r) h k l = absurd (k.0 h.0)
  one-slots c label from p (Some far ∷ ports) (down t s) (up r) h k l = absurd (h.0 k.0)
  one-slots c label from p (Some far ∷ ports) (down t s) (down u r) h k l =
      rw (one-tree c label far.node (Some far.port) t u h.1 k.1, one-slots c label from (p + 1) ports s r h.2 k.2 (omega (arith, l))) refl
  one-slots c label from p (Some far ∷ ports) (up s) r h k l = absurd k
  one-slots c label from p (Some far ∷ ports) (down t s) r h k l = absurd k
  one-slots c label from p ports s r h k l = absurd h
