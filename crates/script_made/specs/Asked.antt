-- The words that ask for something that is made for a number of nodes and a seed.
use Rattle.std.specs.Prelude.{◌≡◌, ℕ, ◌≤◌, List, [], ◌∷◌, Some}
use Rattle.script_lines.specs.Number.{number_of}

-- a name, 1 to 63 nodes, and a seed, each a number as scripts have them
pub record AreMadeWords (name : List ℕ) (nodes seed : ℕ) (words : List (List ℕ)) : Type 0 where
  pub nodes_word : List ℕ
  pub seed_word : List ℕ
  pub words_are : words ≡ name ∷ nodes_word ∷ seed_word ∷ []
  pub nodes_are : number_of nodes_word ≡ Some nodes
  pub some_nodes : 1 ≤ nodes
  pub few_nodes : nodes ≤ 63
  pub seed_is : number_of seed_word ≡ Some seed
