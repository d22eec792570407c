-- Each tree has a drawing, and one.
use Rattle.std.proofs.Common.{◌≡◌, ◌∙◌, ◌-◌, inl, inr, ℕ, List, length, refl, sym, ap, arith}
use Rattle.std.proofs.lemmas.Option.{slice_get_cases}
use Rattle.self_id.specs.Node.{Node}
use Rattle.topology_stack.specs.Tree.{Tree, walk}
use Rattle.topology_stack.proofs.Lemmas.{some_node}
use Rattle.bus_manager.specs.Hops.{IsHops}
use Rattle.bus_manager.proofs.Lemmas.{is_hops, one_hops}
use Rattle.view_text.specs.Drawing.{IsDrawing, IsRoot, drawing}

some-root : (t : Tree) → (root : Node) × IsRoot t root
some-root t = elim (slice_get_cases (walk t) (length (walk t) - 1)).1 [
  | inl n ↦ (n.0, n.2)
  | inr none ↦ absurd (omega (arith, none.0, some_node t))
]

some-drawing-with : (t : Tree) (hops : ℕ) → IsHops t hops → (text : List ℕ) × IsDrawing t text
some-drawing-with t hops are =
    let root = some-root t in (
      drawing t hops root.0.attrs.gap,
      record { hops = hops; root = root.0; are_hops = are; is_root = root.1; text_is = refl },
    )

pub some-drawing : (t : Tree) → (text : List ℕ) × IsDrawing t text
some-drawing t = some-drawing-with t _ (is_hops t)

one_root : (t : Tree) (m n : Node) → IsRoot t m → IsRoot t n → m ≡ n
one_root t m n x y = cc

pub same_drawing : (t : Tree) (a b : List ℕ) → IsDrawing t a → IsDrawing t b → a ≡ b
same_drawing t a b x y =
    x.text_is ∙ ap (λ (h : ℕ). drawing t h x.root.attrs.gap) (one_hops t x.hops y.hops x.are_hops y.are_hops)
    ∙ ap (λ (n : Node). drawing t y.hops n.attrs.gap) (one_root t x.root y.root x.is_root y.is_root) ∙ sym y.text_is
