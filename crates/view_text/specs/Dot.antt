-- Graphs in DOT, the language of Graphviz (graphviz.org/doc/info/lang.html). Of that language this is used: an
-- undirected graph with a name, whose statements stand in braces, a line each, and end in `;`. A statement sets
-- an attribute of the graph, or those of all nodes or edges that follow, or it is a node or an edge with
-- attributes. They stand in brackets, with commas between them. What is named and what is set is an ID of DOT: a
-- word, a numeral or a quoted string.
use Rattle.std.specs.Prelude.{◌≡◌, ℕ, Bool, true, false, not, cond, ◌==◌, ◌&&◌, ◌||◌, IsTrue, List, [], ◌∷◌, ◌++◌, map, bytes_eq, codes}
use Rattle.std.specs.Char.{is_ascii_digit, is_ascii_alphabetic, to_ascii_lowercase}
use Rattle.std.specs.Str.{all_ascii_digits}

-- ---- IDs

pub data Id : Type 0 where
  word : List ℕ → Id
  numeral : List ℕ → Id
  quoted : List ℕ → Id

-- a quoted string stands between quotes
abbrev pub id_text : Id → List ℕ
id_text (word name) = name
id_text (numeral digits) = digits
id_text (quoted text) = 34 ∷ (text ++ 34 ∷ [])

-- the words of the language, which name nothing in whatever case
abbrev pub is_one_of : List ℕ → List (List ℕ) → Bool
is_one_of name [] = false
is_one_of name (w ∷ ws) = bytes_eq (map to_ascii_lowercase name) w || is_one_of name ws

abbrev pub is_keyword : List ℕ → Bool
is_keyword name = is_one_of name
    (codes "node" ∷ codes "edge" ∷ codes "graph" ∷ codes "digraph" ∷ codes "subgraph"
    ∷ codes "strict" ∷ [])

-- letters, digits and underlines, of which the first is no digit
abbrev pub is_letter : ℕ → Bool
is_letter c = is_ascii_alphabetic c || (c == 95)

abbrev pub are_word_characters : List ℕ → Bool
are_word_characters [] = true
are_word_characters (c ∷ cs) = (is_letter c || is_ascii_digit c) && are_word_characters cs

abbrev pub is_word : List ℕ → Bool
is_word [] = false
is_word (c ∷ cs) = (is_letter c && are_word_characters cs) && not (is_keyword (c ∷ cs))

-- a digit and more of them, behind a minus or not, and perhaps a point and digits behind it
abbrev pub is_rest : List ℕ → Bool
is_rest [] = true
is_rest (c ∷ cs) = cond (c == 46) (all_ascii_digits cs) (is_ascii_digit c && is_rest cs)

abbrev pub is_amount : List ℕ → Bool
is_amount [] = false
is_amount (c ∷ cs) = is_ascii_digit c && is_rest cs

abbrev pub is_numeral : List ℕ → Bool
is_numeral [] = false
is_numeral (c ∷ cs) = cond (c == 45) (is_amount cs) (is_amount (c ∷ cs))

-- no quote but behind a backslash, which has a character behind it; `behind` says that one comes before
abbrev pub is_quotable : Bool → List ℕ → Bool
is_quotable behind [] = not behind
is_quotable true (c ∷ cs) = is_quotable false cs
is_quotable false (c ∷ cs) = not (c == 34) && is_quotable (c == 92) cs

abbrev pub is_id : Id → Bool
is_id (word name) = is_word name
is_id (numeral digits) = is_numeral digits
is_id (quoted text) = is_quotable false text

-- ---- statements

-- `key=value`
pub record Attribute : Type 0 where
  pub key : Id
  pub value : Id

pub data Statement : Type 0 where
  of_graph : Attribute → Statement
  of_nodes : List Attribute → Statement
  of_edges : List Attribute → Statement
  node : Id → List Attribute → Statement
  edge : Id → Id → List Attribute → Statement

abbrev pub attribute_text : Attribute → List ℕ
attribute_text a = id_text a.key ++ (codes "=" ++ id_text a.value)

abbrev pub more_attributes : List Attribute → List ℕ
more_attributes [] = []
more_attributes (a ∷ rest) = codes ", " ++ (attribute_text a ++ more_attributes rest)

abbrev pub attributes_text : List Attribute → List ℕ
attributes_text [] = codes " []"
attributes_text (a ∷ rest) =
    codes " [" ++ (attribute_text a ++ (more_attributes rest ++ codes "]"))

abbrev pub statement_text : Statement → List ℕ
statement_text (of_graph a) = attribute_text a
statement_text (of_nodes given) = codes "node" ++ attributes_text given
statement_text (of_edges given) = codes "edge" ++ attributes_text given
statement_text (node id given) = id_text id ++ attributes_text given
statement_text (edge one other given) =
    id_text one ++ (codes " -- " ++ (id_text other ++ attributes_text given))

abbrev pub statement_line : Statement → List ℕ
statement_line s = codes "  " ++ (statement_text s ++ codes ";\n")

abbrev pub statement_lines : List Statement → List ℕ
statement_lines [] = []
statement_lines (s ∷ rest) = statement_line s ++ statement_lines rest

-- ---- graphs

abbrev pub are_attributes : List Attribute → Bool
are_attributes [] = true
are_attributes (a ∷ rest) = (is_id a.key && is_id a.value) && are_attributes rest

abbrev pub is_statement : Statement → Bool
is_statement (of_graph a) = is_id a.key && is_id a.value
is_statement (of_nodes given) = are_attributes given
is_statement (of_edges given) = are_attributes given
is_statement (node id given) = is_id id && are_attributes given
is_statement (edge one other given) = (is_id one && is_id other) && are_attributes given

abbrev pub are_statements : List Statement → Bool
are_statements [] = true
are_statements (s ∷ rest) = is_statement s && are_statements rest

-- a text is a graph of this name with these statements
pub record IsDot (name : Id) (statements : List Statement) (text : List ℕ) : Type 0 where
  pub name_is : IsTrue (is_id name)
  pub are : IsTrue (are_statements statements)
  pub text_is :
      text
      ≡ codes "graph "
      ++ (id_text name ++ (codes " {\n" ++ (statement_lines statements ++ codes "}\n")))

-- a text is a graph
pub record IsDotText (text : List ℕ) : Type 0 where
  pub name : Id
  pub statements : List Statement
  pub is : IsDot name statements text

-- the nodes that a graph has, in the order of their statements
abbrev pub nodes_of : List Statement → List Id
nodes_of [] = []
nodes_of (of_graph a ∷ rest) = nodes_of rest
nodes_of (of_nodes given ∷ rest) = nodes_of rest
nodes_of (of_edges given ∷ rest) = nodes_of rest
nodes_of (node id given ∷ rest) = id ∷ nodes_of rest
nodes_of (edge one other given ∷ rest) = nodes_of rest

-- and its edges, each with its two nodes
abbrev pub edges_of : List Statement → List (Id × Id)
edges_of [] = []
edges_of (of_graph a ∷ rest) = edges_of rest
edges_of (of_nodes given ∷ rest) = edges_of rest
edges_of (of_edges given ∷ rest) = edges_of rest
edges_of (node id given ∷ rest) = edges_of rest
edges_of (edge one other given ∷ rest) = (one, other) ∷ edges_of rest
