-- Whether a word is a name.
use Rattle.std.specs.Prelude.{ℕ, ◌==◌, ◌||◌, ◌&&◌, nat_le, Bool, false, List, [], ◌∷◌, length, IsTrue, ◌↔◌}
use Rattle.std.specs.List.{list_all}
use Rattle.topology_stack.specs.Name.{IsName}

-- a to z
abbrev pub is_letter : ℕ → Bool
is_letter c = nat_le 97 c && nat_le c 122

-- a to z, 0 to 9 and the underline
abbrev pub is_name_char : ℕ → Bool
is_name_char c = is_letter c || (nat_le 48 c && nat_le c 57) || (c == 95)

-- 1 to 16 letters, digits and underlines, of which the first is a letter
unfoldable pub is_name : List ℕ → Bool
is_name [] = false
is_name (c ∷ cs) = is_letter c && nat_le (length (c ∷ cs)) 16 && list_all is_name_char (c ∷ cs)

-- the test finds the names that the definition of names says
abbrev pub NamesAreTested : Type 0
NamesAreTested = (word : List ℕ) → IsTrue (is_name word) ↔ IsName word
