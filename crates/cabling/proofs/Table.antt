-- Counts of ports and a set of cables determine the table of far ends.
use Rattle.std.proofs.Common.{◌≡◌, ℕ, suc, Option, Some, None, List, [], ◌∷◌, length, get_or, refl, sym, ap, ◌∙◌, inl, inr, arith}
use Rattle.cabling.specs.declared.cable.End.{End}
use Rattle.cabling.specs.Wiring.{Wiring, ports_of, far, IsCabling, HasTheSame}
use Rattle.cabling.proofs.Ends.{same_length, same_ports}

-- lists with as many items, and the same at each place, are one
same_list : {X : Type 0} (d : X) (xs ys : List X) → length xs ≡ length ys →
    ((i : ℕ) → get_or xs i d ≡ get_or ys i d) → xs ≡ ys
same_list d [] [] n e = refl
same_list d [] (y ∷ ys) n e = absurd (omega (arith, n))
same_list d (x ∷ xs) [] n e = absurd (omega (arith, n))
same_list {X} d (x ∷ xs) (y ∷ ys) n e =
    ap (λ (z : X). z ∷ xs) (e 0) ∙ ap (λ (zs : List X). y ∷ zs) (same_list d xs ys (omega (arith, n)) (λ i. e (suc i)))

-- a cable of the one is in the other, from the same end
joins : (c d : Wiring) (a b : End) → IsCabling d → HasTheSame c d → far c a ≡ Some b →
    far d a ≡ Some b
joins c d a b is h e = elim ((h.cables a b).0 (inl e)) [ inl f ↦ f | inr f ↦ is.both_ways b a f ]

joins_back : (c d : Wiring) (a b : End) → IsCabling c → HasTheSame c d → far d a ≡ Some b →
    far c a ≡ Some b
joins_back c d a b is h e = elim ((h.cables a b).1 (inl e)) [ inl f ↦ f | inr f ↦ is.both_ways b a f ]

same_far : (c d : Wiring) (e : End) → IsCabling c → IsCabling d → HasTheSame c d → far c e ≡ far d e
same_far c d e is_c is_d h = go (far c e) (far d e) refl refl
  where
    go : (x y : Option End) → far c e ≡ x → far d e ≡ y → far c e ≡ far d e
    go None None p q = p ∙ sym q
    go (Some a) y p q = p ∙ sym (joins c d e a is_d h p)
    go None (Some b) p q = joins_back c d e b is_c h q ∙ sym q

pub one-table : (c d : Wiring) → IsCabling c → IsCabling d → HasTheSame c d → c ≡ d
one-table c d is_c is_d h =
    let rows : (x : ℕ) → ports_of c x ≡ ports_of d x = λ x.
    same_list None (ports_of c x) (ports_of d x) (same_ports d c x h.ports) (λ p. same_far c d (record { node = x; port = p }) is_c is_d h) in
    same_list [] c d (same_length d c h.ports) rows
