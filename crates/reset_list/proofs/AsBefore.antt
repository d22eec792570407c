-- A bus is as before exactly where its tree has the drawing of the tree before.
use Rattle.std.proofs.Common.{◌≡◌, ◌∙◌, ℕ, List, [], ◌∷◌, refl, ap, arith}
use Rattle.std.specs.Prelude.{codes}
use Rattle.topology_stack.specs.Tree.{Tree, branch}
use Rattle.view_text.specs.Packet.{field}
use Rattle.view_text.specs.Node.{title}
use Rattle.view_text.specs.Drawing.{IsDrawing, drawing}
use Rattle.view_text.proofs.Lemmas.{same_drawing}
use Rattle.reset_list.specs.Shown.{the_same, drawn}
use Rattle.reset_list.specs.Judged.{AreDrawnAlike, AsBeforeIsAsDrawn}

first_of : List ℕ → ℕ
first_of [] = 0
first_of (c ∷ text) = c

-- a drawing begins with the word `node`
begins : (t : Tree) (hops gap : ℕ) → first_of (drawing t hops gap) ≡ 110
unfolding first_of title field
begins (branch a s) hops gap = refl

no_words : (t : Tree) (text : List ℕ) → IsDrawing t text → text ≡ codes "as before\n" → ⊥
unfolding first_of
no_words t text d e =
    let n : first_of text ≡ 110 = ap first_of d.text_is ∙ begins t d.hops d.root.attrs.gap in
    let a : first_of text ≡ 97 = ap first_of e in
    apart (first_of text) n a
  where
    apart : (c : ℕ) → c ≡ 110 → c ≡ 97 → ⊥
    apart c n a = omega (arith, n, a)

pub as_drawn : AsBeforeIsAsDrawn
as_drawn before t text by_node (the_same d draws was e none) = ((λ x. (d, was, draws)), (λ x. e))
as_drawn before t text by_node (drawn draws other e) = ((λ x. absurd (no_words t text draws x)), back)
  where
    back : AreDrawnAlike before t → text ≡ codes "as before\n"
    back (d, was, again) =
        let o = other was.0 was.1 in
        absurd (o.2 (same_drawing was.0 o.0 d o.1 was.2 ∙ same_drawing t d text again draws))
