-- The five nodes in a line and in a star settle to trees.
use Rattle.std.proofs.Common.{◌≡◌, ℕ, Bool, true, false, List, [], ◌∷◌, map, Option, Some, None, refl}
use Rattle.outcomes.proofs.Common.{Attrs, group, Label, Tree, Slots, branch, no_more, absent, unplugged, up, down, Ready, enter, on_signal, tick, Wiring, turn, turns_after, attrs_now, IsTree, attrs, at}
use Rattle.cable_world.proofs.Lemmas.{Summary, summary_of, tree-settled}
use Rattle.convergence.proofs.Lemmas.{line, star}

-- a link, S400 and no contender, where every node began the last reset
abbrev plain : Label
plain = record { attrs = record (attrs true 2 false) { initiated = true }; kept_a = 0; kept_b = 0 }

-- behind the fourth port seven slots are absent
abbrev rest : Slots
rest = absent (absent (absent (absent (absent (absent (absent no_more))))))

abbrev leaf : Tree
leaf = branch plain (up (unplugged (unplugged (unplugged rest))))

abbrev five_attrs : List Attrs
five_attrs = plain.attrs ∷ plain.attrs ∷ plain.attrs ∷ plain.attrs ∷ plain.attrs ∷ []

-- a node that has identified itself, with its parent port, which ports lead to children, and its ID
abbrev row : List ℕ → Option ℕ → List Bool → ℕ → Summary
row list parent children id = record { phase = Ready; draws = 0; parent = parent; children = children; id = Some id; list = list }

-- ---- the line

abbrev line_cables : Wiring
line_cables =
    (Some (at 1 0) ∷ None ∷ None ∷ None ∷ [])
    ∷ (Some (at 0 0) ∷ Some (at 2 0) ∷ None ∷ None ∷ [])
    ∷ (Some (at 1 1) ∷ Some (at 3 0) ∷ None ∷ None ∷ [])
    ∷ (Some (at 2 1) ∷ Some (at 4 0) ∷ None ∷ None ∷ [])
    ∷ (Some (at 3 1) ∷ None ∷ None ∷ None ∷ [])
    ∷ []

abbrev line_tree : Tree
line_tree =
    branch plain (down (branch plain (down leaf (up (unplugged (unplugged rest)))))
    (down (branch plain (up (down leaf (unplugged (unplugged rest)))))
    (unplugged (unplugged rest))))

abbrev line_list : List ℕ
line_list =
    0x807f8097 ∷ 0x80810000 ∷ 0x817f80e7 ∷ 0x81810000 ∷ 0x827f8097 ∷ 0x82810000 ∷
    0x837f80b7 ∷ 0x83810000 ∷ 0x847f80f7 ∷ 0x84810000 ∷ []

abbrev line_rows : List Summary
line_rows =
    row line_list (Some 0) (false ∷ false ∷ false ∷ false ∷ []) 0 ∷
    row line_list (Some 1) (true ∷ false ∷ false ∷ false ∷ []) 1 ∷
    row line_list None (true ∷ true ∷ false ∷ false ∷ []) 4 ∷
    row line_list (Some 0) (false ∷ true ∷ false ∷ false ∷ []) 3 ∷
    row line_list (Some 0) (false ∷ false ∷ false ∷ false ∷ []) 2 ∷ []

line-cables : (turns_after 275 line).cabling ≡ line_cables
unfolding turn turns_after enter tick on_signal group
line-cables = refl

line-attrs : attrs_now (turns_after 275 line) ≡ five_attrs
unfolding turn turns_after enter tick on_signal group
line-attrs = refl

line-told : map summary_of (turns_after 275 line).nodes ≡ line_rows
unfolding turn turns_after enter tick on_signal group
line-told = refl

line-settled : IsTree (turns_after 275 line) 31 2 line_tree
unfolding group
line-settled =
    tree-settled (turns_after 275 line) 31 2 line_tree line_cables five_attrs line_rows line-cables line-attrs line-told refl refl (
      refl,
      refl,
      (
        (λ e. absurd cc),
        (refl, refl, ((λ e. absurd cc), (refl, refl, (refl, tt)), (refl, tt))),
        ((λ e. absurd cc), (refl, refl, (refl, ((λ e. absurd cc), (refl, refl, (refl, tt)), tt))), tt),
      ),
    )
    refl (
      ((λ ne. refl), refl, refl),
      (
        ((λ ne. refl), refl, refl),
        (
          ((λ ne. refl), refl, refl),
          (
            ((λ ne. refl), refl, refl),
            (((λ ne. absurd (ne refl)), refl, refl), tt),
          ),
        ),
      ),
    )

-- ---- the star

abbrev star_cables : Wiring
star_cables =
    (Some (at 1 0) ∷ Some (at 2 0) ∷ Some (at 3 0) ∷ Some (at 4 0) ∷ [])
    ∷ (Some (at 0 0) ∷ None ∷ None ∷ None ∷ [])
    ∷ (Some (at 0 1) ∷ None ∷ None ∷ None ∷ [])
    ∷ (Some (at 0 2) ∷ None ∷ None ∷ None ∷ [])
    ∷ (Some (at 0 3) ∷ None ∷ None ∷ None ∷ [])
    ∷ []

abbrev star_tree : Tree
star_tree = branch plain (down leaf (down leaf (down leaf (down leaf rest))))

abbrev star_list : List ℕ
star_list =
    0x807f8097 ∷ 0x80810000 ∷ 0x817f8097 ∷ 0x81810000 ∷ 0x827f8097 ∷ 0x82810000 ∷
    0x837f8097 ∷ 0x83810000 ∷ 0x847f80ff ∷ 0x84830000 ∷ []

abbrev star_leaf : ℕ → Summary
star_leaf = row star_list (Some 0) (false ∷ false ∷ false ∷ false ∷ [])

abbrev star_rows : List Summary
star_rows =
    row star_list None (true ∷ true ∷ true ∷ true ∷ []) 4 ∷
    star_leaf 0 ∷ star_leaf 1 ∷ star_leaf 2 ∷ star_leaf 3 ∷ []

star-cables : (turns_after 272 star).cabling ≡ star_cables
unfolding turn turns_after enter tick on_signal group
star-cables = refl

star-attrs : attrs_now (turns_after 272 star) ≡ five_attrs
unfolding turn turns_after enter tick on_signal group
star-attrs = refl

star-told : map summary_of (turns_after 272 star).nodes ≡ star_rows
unfolding turn turns_after enter tick on_signal group
star-told = refl

star-settled : IsTree (turns_after 272 star) 31 0 star_tree
unfolding group
star-settled =
    tree-settled (turns_after 272 star) 31 0 star_tree star_cables five_attrs star_rows star-cables star-attrs star-told refl refl (
      refl,
      refl,
      (
        (λ e. absurd cc),
        (refl, refl, (refl, tt)),
        (
          (λ e. absurd cc),
          (refl, refl, (refl, tt)),
          ((λ e. absurd cc), (refl, refl, (refl, tt)), ((λ e. absurd cc), (refl, refl, (refl, tt)), tt)),
        ),
      ),
    )
    refl (
      ((λ ne. refl), refl, refl),
      (
        ((λ ne. refl), refl, refl),
        (
          ((λ ne. refl), refl, refl),
          (
            ((λ ne. refl), refl, refl),
            (((λ ne. absurd (ne refl)), refl, refl), tt),
          ),
        ),
      ),
    )
