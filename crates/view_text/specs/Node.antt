-- A node and a cable in words.
use Rattle.std.specs.Prelude.{ℕ, zero, suc, ◌==◌, if◌then◌else◌, Option, Some, None, List, [], ◌++◌, codes}
use Rattle.self_id.specs.declared.node.Attrs.{Attrs}
use Rattle.topology_stack.specs.Text.{truth}
use Rattle.view_text.specs.Packet.{field}

abbrev pub root_mark : ℕ → ℕ → List ℕ
root_mark id root = if id == root then codes " root" else []

abbrev pub irm_mark : ℕ → Option ℕ → List ℕ
irm_mark id None = []
irm_mark id (Some irm) = if id == irm then codes " irm" else []

-- `node ID`, and behind it ` root` and ` irm`
unfoldable pub title : ℕ → ℕ → Option ℕ → List ℕ
title id root irm = field (codes "node ") id ++ (root_mark id root ++ irm_mark id irm)

-- `link L contender C power P`
unfoldable pub link_words : Attrs → List ℕ
link_words a =
    field (codes "link ") (truth a.link) ++ (field (codes " contender ") (truth a.contender)
    ++ field (codes " power ") a.power)

-- `initiated I speed S gap G`
unfoldable pub gap_words : Attrs → List ℕ
gap_words a =
    field (codes "initiated ") (truth a.initiated) ++ (field (codes " speed ") a.speed
    ++ field (codes " gap ") a.gap)

-- the speed of a cable by its code
abbrev pub speed_word : ℕ → List ℕ
speed_word zero = codes "S100"
speed_word (suc zero) = codes "S200"
speed_word (suc (suc n)) = codes "S400"
