-- The test of names says what the definition of names says.
use Rattle.std.proofs.Common.{◌≡◌, ℕ, ◌≤◌, List, [], ◌∷◌, length, true, arith}
use Rattle.std.proofs.lemmas.Bool.Decides.{nat_tests}
use Rattle.std.specs.Prelude.{nat_le}
use Rattle.std.specs.List.{list_all}
use Rattle.std.proofs.lemmas.List.Sums.{AllPass-from_list_all, list_all-from_AllPass}
use Rattle.topology_stack.specs.Name.{IsName, IsNameChar, IsLetter}
use Rattle.script_lines.specs.Name.{is_letter, is_name_char, is_name}

pub letter : (c : ℕ) → is_letter c ≡ true → IsLetter c
letter c h = grind (arith, nat_tests)

pub letter_back : (c : ℕ) → IsLetter c → is_letter c ≡ true
letter_back c h = grind (arith, nat_tests)

pub name_char : (c : ℕ) → is_name_char c ≡ true → IsNameChar c
name_char c h = grind (arith, nat_tests)

pub name_char_back : (c : ℕ) → IsNameChar c → is_name_char c ≡ true
name_char_back c h = grind (arith, nat_tests)

le_of_test : (m n : ℕ) → nat_le m n ≡ true → m ≤ n
le_of_test m n h = grind (arith, nat_tests)

pub name_of_test : (word : List ℕ) → is_name word ≡ true → IsName word
unfolding is_name
name_of_test [] h = absurd (cc)
name_of_test (c ∷ cs) h =
    let tests : (is_letter c ≡ true) × (nat_le (length (c ∷ cs)) 16 ≡ true)
    × (list_all is_name_char (c ∷ cs) ≡ true) = grind (arith, nat_tests) in
    record {
      first = letter c tests.0;
      chars = λ k d inside. name_char _ (AllPass-from_list_all is_name_char (c ∷ cs) tests.2 k d inside);
      few = le_of_test (length (c ∷ cs)) 16 tests.1;
    }

pub test_of_name : (word : List ℕ) → IsName word → is_name word ≡ true
unfolding is_name
test_of_name [] h = absurd h.first
test_of_name (c ∷ cs) h =
    let first : is_letter c ≡ true = letter_back c h.first in
    let few : nat_le (length (c ∷ cs)) 16 ≡ true = grind (arith, nat_tests, h.few) in
    let chars : list_all is_name_char (c ∷ cs) ≡ true =
    list_all-from_AllPass is_name_char (c ∷ cs)
    (λ k d inside. name_char_back _ (h.chars k d inside)) in
    grind (arith, nat_tests)
