-- The pulls of a valid advice, taken out one after the other.
use Rattle.std.proofs.Common.{◌≡◌, ◌≢◌, ℕ, ◌+◌, ◌<◌, inl, inr, List, [], ◌∷◌, ◌++◌, Some, length, slice_get, take, drop, suc, get_or, refl, sym, ap, subst, ◌∙◌}
use Rattle.std.proofs.lemmas.List.{append_assoc}
use Rattle.cabling.specs.declared.cable.End.{End}
use Rattle.cabling.specs.declared.cable.Cable.{Cable}
use Rattle.cabling.specs.Wiring.{Wiring, IsCabling, far}
use Rattle.cabling.specs.Change.{TakenOut}
use Rattle.cabling.proofs.Lemmas.{none_some, one_other}
use Rattle.loop_advice.specs.Cables.{turned, Lists, HasNoneTwice, IsCableOf}
use Rattle.loop_advice.specs.Certificate.{IsCertificate}
use Rattle.loop_advice.specs.Pulled.{ArePulled}
use Rattle.loop_advice.proofs.Listed.{lists_left, lists_right, lists_last, lists_turned, lists_at, read_at, take_next, parted, once_parts}
use Rattle.loop_advice.proofs.Marking.{cable}

same-ends : (x : Cable) (a b : End) → a ≡ x.a → b ≡ x.b → cable a b ≡ x
same-ends x a b e f = ap (λ (p : End). cable p b) e ∙ ap (λ (p : End). cable x.a p) f

-- ---- one cable more

-- no cable was pulled yet
pub pulled-none : (c : Wiring) → ArePulled c c []
pulled-none c = record { ports = refl; left = λ a b. (λ e. (e, λ l. l), λ h. h.0) }

-- of those that are left one more was
pub pulled-next :
    (old mid new : Wiring) (xs : List Cable) (x : Cable) → IsCabling old → ArePulled old mid xs →
    TakenOut mid new x.a x.b → ArePulled old new (xs ++ x ∷ [])
pulled-next old mid new xs x is p t = record {
  ports = t.others.ports ∙ p.ports;
  left = λ a b. (to a b, from a b);
}
  where
    at-old : (far old x.a ≡ Some x.b) × (Lists xs x → ⊥)
    at-old = (p.left x.a x.b).0 t.joined

    back : far mid x.b ≡ Some x.a
    back = (p.left x.b x.a).1 (is.both_ways x.a x.b at-old.0, λ l. at-old.1 (lists_turned xs (turned x) l))

    to : (a b : End) → far new a ≡ Some b → (far old a ≡ Some b) × (Lists (xs ++ x ∷ []) (cable a b) → ⊥)
    to a b e =
        let not_a : a ≢ x.a = λ f. none_some (far new a) b (ap (far new) f ∙ t.free_a) e in
        let not_b : a ≢ x.b = λ f. none_some (far new a) b (ap (far new) f ∙ t.free_b) e in
        let before = (p.left a b).0 (sym (t.others.others a not_a not_b) ∙ e) in (
          before.0,
          λ l. elim (lists_last xs x (cable a b) l) [
            | inl h ↦ before.1 h
            | inr s ↦ elim s [
              | inl same ↦ not_a (ap (λ (z : Cable). z.a) same)
              | inr other ↦ not_b (ap (λ (z : Cable). z.a) other)
            ]
          ],
        )

    from : (a b : End) → (far old a ≡ Some b) × (Lists (xs ++ x ∷ []) (cable a b) → ⊥) → far new a ≡ Some b
    from a b h =
        let at : far mid a ≡ Some b = (p.left a b).1 (h.0, λ l. h.1 (lists_left xs (x ∷ []) (cable a b) l)) in
        let not_a : a ≢ x.a = λ f. h.1 (lists_right xs (x ∷ []) (cable a b) (inl (inl (same-ends x a b f (one_other (far mid a) b x.b at (ap (far mid) f ∙ t.joined)))))) in
        let not_b : a ≢ x.b = λ f. h.1 (lists_right xs (x ∷ []) (cable a b) (inl (inr (same-ends (turned x) a b f (one_other (far mid a) b x.a at (ap (far mid) f ∙ back)))))) in
        t.others.others a not_a not_b ∙ at

-- ---- the pulls of an advice

-- the next of the pulls is still plugged in
pub still-plugged :
    (old mid : Wiring) (node : ℕ) (pulls kept : List Cable) (i : ℕ) (d : Cable) →
    IsCertificate old node pulls kept → ArePulled old mid (take i pulls) → i < length pulls →
    far mid (get_or pulls i d).a ≡ Some (get_or pulls i d).b
still-plugged old mid node pulls kept i d valid p inside =
    let x : Cable = get_or pulls i d in
    let at = read_at pulls i d inside in
    let of : IsCableOf old valid.component x = (valid.each.all x).0 (lists_left pulls kept x (lists_at pulls i x at)) in
    (p.left x.a x.b).1 (of.joined, λ l. once_parts (take i pulls) x (drop (suc i) pulls ++ kept) (subst HasNoneTwice (split x at) valid.each.once) l)
  where
    split : (x : Cable) → slice_get pulls i ≡ Some x → pulls ++ kept ≡ take i pulls ++ x ∷ (drop (suc i) pulls ++ kept)
    split x at = ap (λ (ys : List Cable). ys ++ kept) (parted pulls i x at) ∙ append_assoc (take i pulls) (x ∷ drop (suc i) pulls) kept

pub pulled-step :
    (old mid new : Wiring) (node : ℕ) (pulls kept : List Cable) (i : ℕ) (d : Cable) (b : End) →
    IsCabling old → IsCertificate old node pulls kept → ArePulled old mid (take i pulls) →
    i < length pulls → TakenOut mid new (get_or pulls i d).a b →
    ArePulled old new (take (i + 1) pulls)
pulled-step old mid new node pulls kept i d b is valid p inside t =
    let x : Cable = get_or pulls i d in
    let end : b ≡ x.b = one_other (far mid x.a) b x.b t.joined (still-plugged old mid node pulls kept i d valid p inside) in
    subst (λ (ys : List Cable). ArePulled old new ys) (sym (take_next pulls i x (read_at pulls i d inside)))
    (pulled-next old mid new (take i pulls) x is p (subst (λ (e : End). TakenOut mid new x.a e) end t))
