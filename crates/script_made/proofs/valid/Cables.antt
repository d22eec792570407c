-- The cables of a made script: each one joins a free end to a node that has no cable yet, and where
-- one was pulled it is put back.
use Rattle.std.proofs.Common.{◌≡◌, ◌≢◌, ◌∙◌, inl, inr, ℕ, zero, suc, ◌<◌, Some, None, get_or, sym, subst, ap, arith}
use Rattle.std.proofs.lemmas.Bool.{cases_eq}
use Rattle.std.proofs.lemmas.List.Elements.{All-append}
use Rattle.std.specs.List.{All}
use Rattle.cabling.specs.declared.cable.End as cable
use Rattle.cabling.specs.Wiring.{Wiring, far, IsCabling}
use Rattle.cabling.specs.Change.{Added, TakenOut}
use Rattle.cabling.proofs.Lemmas.{cases_end, none_some}
use Rattle.rand_pcg.specs.Lcg.{Lcg}
use Rattle.script_made.specs.declared.made.End.{End}
use Rattle.script_made.specs.Made.{end, added_ends, free_ends, end_of}
use Rattle.script_made.proofs.MadeSize.{Near, free-near, end-near}
use Rattle.script_made.proofs.valid.FreeEnds.{place, inside, end-is, staying, free-is, of-staying, not-taken}

-- an end as the cabling names it
abbrev pub at : End → cable.End
at e = record { node = e.node; port = e.port }

-- port 0 of a node
abbrev pub first : ℕ → cable.End
first node = at (end node 0)

abbrev pub IsFree : Wiring → End → Type 0
IsFree c e = far c (at e) ≡ None

-- the first so many cables are plugged, and no others
pub record ArePlugged (g : Lcg) (k : ℕ) (c : Wiring) : Type 0 where
  pub joined : (j : ℕ) → j < k → far c (first (suc j)) ≡ Some (at (end_of g j))
  pub bare : (e : End) → k < e.node → IsFree c e
  pub free : All (IsFree c) (free_ends g k)

pub none-plugged : (g : Lcg) (c : Wiring) → ((e : cable.End) → far c e ≡ None) → ArePlugged g 0 c
none-plugged g c none = record {
  joined = λ j less. absurd (omega (arith, less));
  bare = λ e above. none (at e);
  free = λ j d less. none (at (get_or (free_ends g 0) j d));
}

-- ---- one cable more

-- the end that is taken is free
pub taken-free : (g : Lcg) (k : ℕ) (c : Wiring) → ArePlugged g k c → IsFree c (end_of g k)
taken-free g k c h =
    subst (IsFree c) (sym (end-is g k)) (h.free (place g k) (end 0 0) (inside g k))

other-node : (a b : cable.End) → a.node ≢ b.node → a ≢ b
other-node a b apart same = apart (ap (λ (e : cable.End). e.node) same)

module _ (g : Lcg) (k : ℕ) (old new : Wiring) (h : ArePlugged g k old)
    (added : Added old new (at (end_of g k)) (first (suc k))) where
  -- what isn't at the cable is what it was
  same-at : (e : cable.End) → e ≢ at (end_of g k) → e ≢ first (suc k) → far new e ≡ far old e
  same-at e a b = added.others.others e a b

  joined-then : (j : ℕ) → j < suc k → far new (first (suc j)) ≡ Some (at (end_of g j))
  joined-then j less = elim (cases_eq j k) [
    | inl same ↦ rw same added.back
    | inr other ↦
        let before : far old (first (suc j)) ≡ Some (at (end_of g j)) =
        h.joined j (omega (arith, less, other)) in
        let a : first (suc j) ≢ at (end_of g k) = λ same.
        none_some (far old (first (suc j))) (at (end_of g j)) (ap (far old) same ∙ added.free_a) before in
        let b : first (suc j) ≢ first (suc k) = λ same.
        none_some (far old (first (suc j))) (at (end_of g j)) (ap (far old) same ∙ added.free_b) before in
        same-at (first (suc j)) a b ∙ before
  ]

  bare-then : (e : End) → suc k < e.node → IsFree new e
  bare-then e above =
      let near : Near k (end_of g k) = end-near g k in
      same-at (at e)
      (other-node (at e) (at (end_of g k)) (λ same. absurd (omega (arith, above, near.node, same))))
      (other-node (at e) (first (suc k)) (λ same. absurd (omega (arith, above, same))))
      ∙ h.bare e (omega (arith, above))

  stays-free : All (IsFree new) (staying g k)
  stays-free j d less =
      let e : End = get_or (staying g k) j d in
      let near : Near k e = of-staying (Near k) (free_ends g k) (place g k) (free-near g k) j d less in
      let was : IsFree old e = of-staying (IsFree old) (free_ends g k) (place g k) h.free j d less in
      same-at (at e)
      (λ same. not-taken g k j d less (ap (λ (x : cable.End). end x.node x.port) same))
      (other-node (at e) (first (suc k)) (λ same. absurd (omega (arith, near.node, same))))
      ∙ was

  added-free : (port : ℕ) → 0 < port → IsFree new (end (suc k) port)
  added-free port some =
      let near : Near k (end_of g k) = end-near g k in
      let e : End = end (suc k) port in
      same-at (at e)
      (other-node (at e) (at (end_of g k)) (λ same. absurd (omega (arith, near.node, same))))
      (λ same. absurd (omega (arith, some, ap (λ (x : cable.End). x.port) same)))
      ∙ h.bare e (omega arith)

  adds-free : All (IsFree new) (added_ends (suc k))
  adds-free zero d less = added-free 1 (omega arith)
  adds-free (suc zero) d less = added-free 2 (omega arith)
  adds-free (suc (suc j)) d less = absurd (omega (arith, less))

  pub one-more : ArePlugged g (suc k) new
  one-more = record {
    joined = joined-then;
    bare = bare-then;
    free =
        subst (All (IsFree new)) (sym (free-is g k))
        (All-append (IsFree new) (staying g k) (added_ends (suc k)) stays-free adds-free);
  }

-- ---- a cable is pulled and put back

-- each end has the far end that it had
pub put-back :
    (c pulled again : Wiring) (a b : cable.End) → IsCabling c → TakenOut c pulled a b →
    Added pulled again b a → (e : cable.End) → far again e ≡ far c e
put-back c pulled again a b is taken added e = elim (cases_end e a) [
  | inl at-a ↦ rw at-a (added.back ∙ sym taken.joined)
  | inr not-a ↦ elim (cases_end e b) [
    | inl at-b ↦ rw at-b (added.joined ∙ sym (is.both_ways a b taken.joined))
    | inr not-b ↦
        added.others.others e not-b not-a ∙ taken.others.others e not-a not-b
  ]
]
