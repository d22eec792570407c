-- What an act leaves of what is known: it touches some nodes, and the clocks of those are set after it.
use Rattle.std.proofs.Common.{◌≡◌, ◌∙◌, ◌<◌, ◌↔◌, ◌⊎◌, inl, inr, ℕ, List, [], All, length, map, get_or, slice_set, ap, sym, subst, arith}
use Rattle.std.proofs.lemmas.Bool.{cases_eq}
use Rattle.std.proofs.lemmas.List.{get_or-map, get_or-set_same, get_or-set_other, length-map, length-set}
use Rattle.cabling.specs.NodeSet.{Holds, IsEmpty, AgreeBut}
use Rattle.cable_world.specs.Wire.{Wire}
use Rattle.cable_world.specs.running.ActEnds.{AreSameBut}
use Rattle.cable_world.specs.running.Rest.{AreAtRest}
use Rattle.world_agenda.specs.Agenda.{AreAtBut, Knows}
use Rattle.world_agenda.specs.Live.{HasLive}
use Rattle.world_agenda.proofs.Blend.{some-at}

-- ---- clocks

-- those of the others stand at the turn at which all stood
pub at-untouched :
    {N : Type 0} → (clock : N → ℕ) (set turns : ℕ) (old new : List N) → length new ≡ length old → AreSameBut (Holds set) old new →
    All (λ n. clock n ≡ turns) old → AreAtBut set turns (map clock new)
at-untouched clock set turns old new long same all = λ k within out.
    let inside : k < length new = omega (arith, within, length-map new clock) in
    let x = some-at new k inside in
    get_or-map clock new k x.0 0 inside ∙ ap clock (same k x.0 out) ∙ all k x.0 (omega (arith, inside, long))

-- one more is set
pub at-less :
    (left less at turns : ℕ) (clocks : List ℕ) → AgreeBut left less at → at < length clocks → AreAtBut left turns clocks →
    AreAtBut less turns (slice_set clocks at turns)
at-less left less at turns clocks agree inside h = λ k within out. elim (cases_eq k at) [
  | inl e ↦ ap (λ i. get_or (slice_set clocks at turns) i 0) e ∙ get_or-set_same clocks at turns 0 inside
  | inr ne ↦
      get_or-set_other clocks at k turns 0 ne
      ∙ h k (omega (arith, within, length-set clocks at turns)) (λ has. out ((agree k ne).1 has))
]

-- all are
pub at-all :
    {N : Type 0} → (clock : N → ℕ) (left turns : ℕ) (nodes : List N) → IsEmpty left → AreAtBut left turns (map clock nodes) →
    All (λ n. clock n ≡ turns) nodes
at-all clock left turns nodes none h = λ k d inside.
    sym (get_or-map clock nodes k d 0 inside) ∙ h k (omega (arith, inside, length-map nodes clock)) (none k)

-- ---- what the agenda says, and of which nodes the wires are live

pub known-touched :
    {N : Type 0} → (end : N → ℕ) (soon set joined next : ℕ) (old new : List N) (ends : List ℕ) →
    ((k : ℕ) → Holds joined k ↔ (Holds soon k ⊎ Holds set k)) → map end old ≡ ends → length new ≡ length old →
    ((k : ℕ) → Holds set k → k < length old) → AreSameBut (Holds set) old new → Knows soon next ends → Knows joined next (map end new)
known-touched end soon set joined next old new ends is was long near same h =
    let many : length ends ≡ length old = sym (ap length was) ∙ length-map old end in
    record {
      near = λ k has. elim ((is k).0 has) [
        | inl so ↦ let less = h.near k so in omega (arith, less, many, long, length-map new end)
        | inr so ↦ let less = near k so in omega (arith, less, long, length-map new end)
      ];
      idles = λ k within out.
          let inside : k < length new = omega (arith, within, length-map new end) in
          let x = some-at new k inside in
          let now : get_or (map end new) k 0 ≡ get_or ends k 0 =
          get_or-map end new k x.0 0 inside ∙ ap end (same k x.0 (λ so. out ((is k).1 (inr so))))
          ∙ sym (get_or-map end old k x.0 0 (omega (arith, inside, long))) ∙ ap (λ es. get_or es k 0) was in
          let then = h.idles k (omega (arith, inside, many, long)) (λ so. out ((is k).1 (inl so))) in
          omega (arith, then, now);
    }

pub live-touched :
    (live set joined : ℕ) (wires new : List (List Wire)) → ((k : ℕ) → Holds joined k ↔ (Holds live k ⊎ Holds set k)) →
    length new ≡ length wires → ((k : ℕ) → Holds set k → k < length wires) → AreSameBut (Holds set) wires new → HasLive live wires → HasLive joined new
live-touched live set joined wires new is long near same h = record {
  near = λ k has. elim ((is k).0 has) [
    | inl so ↦ let less = h.near k so in omega (arith, less, long)
    | inr so ↦ let less = near k so in omega (arith, less, long)
  ];
  rest = λ k out. subst AreAtRest (sym (same k [] (λ so. out ((is k).1 (inr so))))) (h.rest k (λ so. out ((is k).1 (inl so))));
}
