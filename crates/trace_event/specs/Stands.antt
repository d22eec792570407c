-- What stands at a place of a text.
use Rattle.std.specs.Prelude.{◌≡◌, ℕ, ◌+◌, ◌≤◌, List, ◌++◌, length, take, drop}
use Rattle.topology_stack.specs.Name.{IsName}
use Rattle.trace_event.specs.declared.event.Part.{Part}

-- at this place of a text stands exactly this word, and the next place is the one behind it
pub record Stands (text : List ℕ) (at : ℕ) (word : List ℕ) (next : ℕ) : Type 0 where
  pub is : drop at text ≡ word ++ drop next text
  pub next_is : next ≡ at + length word
  pub inside : next ≤ length text

-- the bytes of a part of a text
abbrev pub bytes_of : List ℕ → Part → List ℕ
bytes_of text p = take p.len (drop p.start text)

-- a part of a text is the name of a node
pub record IsNameIn (text : List ℕ) (p : Part) : Type 0 where
  pub name : IsName (bytes_of text p)
  pub within : p.start + p.len ≤ length text
