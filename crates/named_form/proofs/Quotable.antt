-- What comes before a mention can stand in quotes, if the file of names has no fault.
use Rattle.std.proofs.Common.{◌≡◌, ℕ, ◌+◌, ◌==◌, ◌&&◌, not, Bool, true, false, Option, Some, None, List, [], ◌∷◌, length, refl, subst, arith}
use Rattle.std.specs.Prelude.{codes, nat_le, if◌then◌else◌}
use Rattle.std.specs.List.{list_all}
use Rattle.std.proofs.lemmas.Bool.{and_from, and_parts}
use Rattle.std.proofs.lemmas.Bool.Decides.{nat_tests}
use Rattle.view_text.specs.Dot.{is_quotable}
use Rattle.view_text.proofs.Lemmas.{quotable_more}
use Rattle.named_form.specs.File.{said_in, name_in, is_permitted, is_name, names_id, name_of, line_fault, fault_from}
use Rattle.named_form.specs.Mentions.{mentioned, before_mention}

permitted : (c : ℕ) → is_permitted c ≡ true → (not (c == 34) ≡ true) × ((c == 92) ≡ false)
permitted c h = (grind (arith, nat_tests), grind (arith, nat_tests))

characters : (cs : List ℕ) → list_all is_permitted cs ≡ true → is_quotable false cs ≡ true
characters [] h = refl
characters (c ∷ cs) h =
    let p = and_parts (is_permitted c) (list_all is_permitted cs) h in
    let q = permitted c p.0 in
    and_from (not (c == 34)) (is_quotable (c == 92) cs) q.0 (rw q.1 (characters cs p.1))

name_quotable : (name : List ℕ) → is_name name ≡ true → is_quotable false name ≡ true
name_quotable name h =
    let p = and_parts (not (length name == 0)) (nat_le (length name) 64 && list_all is_permitted name) h in
    characters name (and_parts (nat_le (length name) 64) (list_all is_permitted name) p.1).1

-- ---- the names of a file

named_line : (line : List ℕ) (id : ℕ) → line_fault line ≡ None → names_id id line ≡ true →
    is_name (name_in (said_in line)) ≡ true
named_line line id h n = grind (arith, nat_tests)

first_line : (number : ℕ) (line : List ℕ) (lines : List (List ℕ)) → fault_from number (line ∷ lines) ≡ None →
    (line_fault line ≡ None) × (fault_from (number + 1) lines ≡ None)
first_line number line lines h = (grind (arith, nat_tests), grind (arith, nat_tests))

found_line : (b : Bool) (first name : List ℕ) (later : Option (List ℕ)) → (b ≡ true → is_quotable false first ≡ true) →
    (later ≡ Some name → is_quotable false name ≡ true) → (if b then Some first else later) ≡ Some name →
    is_quotable false name ≡ true
found_line true first name later here there e =
    let same : first ≡ name = cc in subst (λ (x : List ℕ). is_quotable false x ≡ true) same (here refl)
found_line false first name later here there e = there e

-- a name that is found in a file without a fault
found_quotable : (number : ℕ) (lines : List (List ℕ)) (id : ℕ) (name : List ℕ) → fault_from number lines ≡ None →
    name_of id lines ≡ Some name → is_quotable false name ≡ true
found_quotable number [] id name h e = cc
found_quotable number (line ∷ lines) id name h e =
    let p = first_line number line lines h in
    found_line (names_id id line) (name_in (said_in line)) name (name_of id lines)
    (λ x. name_quotable (name_in (said_in line)) (named_line line id p.0 x)) (found_quotable (number + 1) lines id name p.1) e

-- ---- what comes before a mention

pub before_quotable : (lines : List (List ℕ)) (text : List ℕ) → fault_from 1 lines ≡ None →
    is_quotable false (before_mention lines text) ≡ true
before_quotable lines text h = go (mentioned text) refl
  where
    of_name : (id : ℕ) (found : Option (List ℕ)) → mentioned text ≡ Some id → name_of id lines ≡ found →
        is_quotable false (before_mention lines text) ≡ true
    of_name id None e f = rw (e, f) refl
    of_name id (Some name) e f = rw (e, f) (quotable_more false name (codes ": ") (found_quotable 1 lines id name h f) refl)

    go : (m : Option ℕ) → mentioned text ≡ m → is_quotable false (before_mention lines text) ≡ true
    go None e = rw e refl
    go (Some id) e = of_name id (name_of id lines) e refl
