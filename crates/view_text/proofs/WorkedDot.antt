-- Worked rows of DOT.
use Rattle.std.proofs.Common.{◌≡◌, true, false, List, [], ◌∷◌, refl}
use Rattle.std.specs.Prelude.{codes}
use Rattle.view_text.specs.Dot.{word, numeral, quoted, Statement, of_graph, node, edge, IsDot, nodes_of, edges_of, is_word, is_numeral, is_quotable}

-- a quote ends a string, unless it stands behind a backslash; and a backslash has something behind it
bare-quote : is_quotable false (codes "a\"b") ≡ false
bare-quote = refl

escaped-quote : is_quotable false (codes "a\\\"b\\\\") ≡ true
escaped-quote = refl

last-backslash : is_quotable false (codes "a\\") ≡ false
last-backslash = refl

-- words of the language name nothing, in capitals neither, and a digit begins no word
keyword : is_word (codes "SubGraph") ≡ false
keyword = refl

digit-first : is_word (codes "1n") ≡ false
digit-first = refl

name-like : is_word (codes "nodes_1") ≡ true
name-like = refl

numbers : is_numeral (codes "-2.50") ≡ true
numbers = refl

two-points : is_numeral (codes "1.2.3") ≡ false
two-points = refl

-- a graph of two nodes and an edge
abbrev statements : List Statement
statements =
    of_graph (record { key = word (codes "rankdir"); value = word (codes "LR") })
    ∷ node (word (codes "a")) []
    ∷ node (quoted (codes "the \\\"b\\\"")) (record { key = word (codes "width"); value = numeral (codes "1.5") } ∷ [])
    ∷ edge (word (codes "a")) (quoted (codes "the \\\"b\\\"")) (record { key = word (codes "style"); value = word (codes "bold") }
    ∷ record { key = word (codes "label"); value = quoted (codes "x, y") } ∷ [])
    ∷ []

whole :
    IsDot (word (codes "g")) statements
    (codes "graph g {\n  rankdir=LR;\n  a [];\n  \"the \\\"b\\\"\" [width=1.5];\n  a -- \"the \\\"b\\\"\" [style=bold, label=\"x, y\"];\n}\n")
whole = record { name_is = refl; are = refl; text_is = refl }

its-nodes : nodes_of statements ≡ word (codes "a") ∷ quoted (codes "the \\\"b\\\"") ∷ []
its-nodes = refl

its-edges : edges_of statements ≡ (word (codes "a"), quoted (codes "the \\\"b\\\"")) ∷ []
its-edges = refl
