-- The characters of a name are ASCII.
use Rattle.std.proofs.Common.{◌<◌, inl, inr, ℕ, List, arith}
use Rattle.std.specs.Str.{IsUtf8}
use Rattle.std.proofs.lemmas.Str.{IsUtf8-from_ascii}
use Rattle.std.proofs.lemmas.Str.Ascii.{IsAscii-from_all}
use Rattle.topology_stack.specs.Name.{IsName, IsNameChar}

small : (c : ℕ) → IsNameChar c → c < 128
small c (inl letter) = omega (arith, letter.1)
small c (inr (inl digit)) = omega (arith, digit.1)
small c (inr (inr line)) = omega (arith, line)

pub name_utf8 : (name : List ℕ) → IsName name → IsUtf8 name
name_utf8 name is = IsUtf8-from_ascii name (IsAscii-from_all name (λ k d lt. small _ (is.chars k d lt)))
