-- Sets that have the nodes whose wires are live.
use Rattle.std.proofs.Common.{◌≡◌, ℕ, ◌<◌, ◌≤◌, ◌↔◌, inl, inr, List, [], All, length, map, get_or, slice_set, sym, subst, ◌∙◌, ap, arith}
use Rattle.std.proofs.lemmas.Bool.{cases_eq, cases_lt}
use Rattle.std.proofs.lemmas.List.{get_or_default, get_or_past, get_or-map, get_or-set_other, length-map, length-set}
use Rattle.cabling.specs.NodeSet.{Holds, IsWithin, AgreeBut}
use Rattle.port_state.specs.declared.signal.Signal.{Signal}
use Rattle.cable_world.specs.Wire.{Wire, arrives, stays}
use Rattle.cable_world.specs.Still.{IsSilent, AreSilent, hold_less}
use Rattle.cable_world.specs.running.Hearing.{Arriving}
use Rattle.cable_world.specs.running.Rest.{AreAtRest, AreNone}
use Rattle.world_agenda.specs.Live.{RestBut, GiveNoneBut, HasLive, HasGivers}
use Rattle.world_agenda.proofs.Rest.{rest-stays, rest-passes, rest-arrives}

-- ---- rows that aren't live, in a turn

row-kept :
    (f : List Wire → List Wire) (set : ℕ) (wires : List (List Wire)) → ((row : List Wire) → AreAtRest row → f row ≡ row) → RestBut set wires →
    (k : ℕ) (e : List Wire) → k < length wires → (Holds set k → ⊥) → get_or wires k e ≡ get_or (map f wires) k e
row-kept f set wires keeps rest k e inside out =
    get_or_default wires k e [] inside ∙ sym (keeps (get_or wires k []) (rest k out)) ∙ sym (get_or-map f wires k [] e inside)

pub row-stays :
    (d set : ℕ) (wires : List (List Wire)) → RestBut set wires → (k : ℕ) (e : List Wire) → k < length wires → (Holds set k → ⊥) →
    get_or wires k e ≡ get_or (map (map (stays d)) wires) k e
row-stays d set wires rest = row-kept (map (stays d)) set wires (rest-stays d) rest

pub row-passes :
    (n set : ℕ) (wires : List (List Wire)) → RestBut set wires → (k : ℕ) (e : List Wire) → k < length wires → (Holds set k → ⊥) →
    get_or wires k e ≡ get_or (map (map (hold_less n)) wires) k e
row-passes n set wires rest = row-kept (map (hold_less n)) set wires (rest-passes n) rest

-- rows of tables whose rows are as long
pub rows-as-long :
    {A B : Type 0} → (table : List (List A)) (wires : List (List B)) (k : ℕ) → map length table ≡ map length wires → k < length table → k < length wires →
    length (get_or table k []) ≡ length (get_or wires k [])
rows-as-long table wires k same inside within =
    sym (get_or-map length table k [] 0 inside) ∙ ap (λ ns. get_or ns k 0) same ∙ get_or-map length wires k [] 0 within

pub as-many :
    {A B : Type 0} → (table : List (List A)) (wires : List (List B)) → map length table ≡ map length wires → length table ≡ length wires
as-many table wires same = sym (length-map table length) ∙ ap length same ∙ length-map wires length

pub row-arrives :
    (d live givers : ℕ) (wires : List (List Wire)) (table : Arriving) → map length table ≡ map length wires → RestBut live wires → GiveNoneBut givers table →
    (k : ℕ) (e : List (List Signal)) → k < length table → (Holds live k → ⊥) → (Holds givers k → ⊥) →
    get_or table k e ≡ get_or (map (map (arrives d)) wires) k e
row-arrives d live givers wires table same rest none k e inside out off =
    let within : k < length wires = omega (arith, inside, as-many table wires same) in
    get_or_default table k e [] inside
    ∙ rest-arrives d (get_or wires k []) (get_or table k []) (rest k out) (none k off) (rows-as-long table wires k same inside within)
    ∙ sym (get_or-map (map (arrives d)) wires k [] e within)

-- a row of a table that a call goes over row by row
pub row-made :
    {X Y : Type 0} → (f : X → Y) (old : List X) (k : ℕ) (row : X) (new d : Y) → k < length old → row ≡ get_or old k row → new ≡ f row →
    new ≡ get_or (map f old) k d
row-made f old k row new d inside at is = is ∙ ap f at ∙ sym (get_or-map f old k row d inside)

-- what an entry has by one default, it has by another
pub at-place :
    {X : Type 0} → (P : X → Type 0) (xs : List X) (j k : ℕ) (d e : X) → k < length xs → j ≡ k → P (get_or xs k d) → P (get_or xs j e)
at-place P xs j k d e inside same p = subst P (sym (ap (λ i. get_or xs i e) same ∙ get_or_default xs k e d inside)) p

-- where each row that is live is silent
pub all-silent :
    (wires : List (List Wire)) → ((k : ℕ) → All IsSilent (get_or wires k [])) → AreSilent wires
all-silent wires h = λ k e inside. subst (λ row. All IsSilent row) (sym (get_or_default wires k e [] inside)) (h k)

-- ---- the set

pub taken-in : (old new k : ℕ) → AgreeBut old new k → Holds new k → IsWithin old new
taken-in old new k agree there j has = elim (cases_eq j k) [
  | inl e ↦ subst (λ (i : ℕ). Holds new i) (sym e) there
  | inr ne ↦ (agree j ne).1 has
]

-- one row is written anew
pub live-set :
    (old new k : ℕ) (wires : List (List Wire)) (row d : List Wire) → k < length wires → IsWithin old new → AgreeBut old new k →
    ((Holds new k → ⊥) → AreAtRest (get_or (slice_set wires k row) k d)) → HasLive old wires → HasLive new (slice_set wires k row)
live-set old new k wires row d inside kept agree rest h = record {
  near = λ j has. elim (cases_eq j k) [
    | inl e ↦ omega (arith, e, inside, length-set wires k row)
    | inr ne ↦ let less = h.near j ((agree j ne).0 has) in omega (arith, less, length-set wires k row)
  ];
  rest = λ j out. elim (cases_eq j k) [
    | inl e ↦ at-place AreAtRest (slice_set wires k row) j k d [] (omega (arith, inside, length-set wires k row)) e
        (rest (λ has. out (subst (λ (i : ℕ). Holds new i) (sym e) has)))
    | inr ne ↦ subst AreAtRest (sym (get_or-set_other wires k j row [] ne)) (h.rest j (λ has. out (kept j has)))
  ];
}

-- all the nodes that there are

none-past : (set n k : ℕ) → ((j : ℕ) → Holds set j ↔ j < n) → (Holds set k → ⊥) → n ≤ k
none-past set n k is out = elim (cases_lt k n) [
  | inl less ↦ absurd (out ((is k).1 less))
  | inr more ↦ more
]

pub all-live :
    (live n : ℕ) (wires : List (List Wire)) → ((k : ℕ) → Holds live k ↔ k < n) → length wires ≡ n → HasLive live wires
all-live live n wires is w = record {
  near = λ k has. let less = (is k).0 has in omega (arith, less, w);
  rest = λ k out. subst AreAtRest (sym (get_or_past wires k [] (omega (arith, none-past live n k is out, w)))) (λ j v inside. absurd (omega (arith, inside)));
}

pub all-give :
    (givers n : ℕ) (table : Arriving) → ((k : ℕ) → Holds givers k ↔ k < n) → length table ≡ n → HasGivers givers table
all-give givers n table is t = record {
  near = λ k has. let less = (is k).0 has in omega (arith, less, t);
  none = λ k out. subst AreNone (sym (get_or_past table k [] (omega (arith, none-past givers n k is out, t)))) (λ j ss inside. absurd (omega (arith, inside)));
}

-- turns pass in which nothing is under way
pub live-passes :
    (n live : ℕ) (wires new : List (List Wire)) → new ≡ map (map (hold_less n)) wires → HasLive live wires → HasLive live new
live-passes n live wires new is h =
    let rows = map (map (hold_less n)) wires in
    let long : length rows ≡ length wires = length-map wires (map (hold_less n)) in
    subst (HasLive live) (sym is) (record {
      near = λ k has. let less = h.near k has in omega (arith, less, long);
      rest = λ k out. elim (cases_lt k (length wires)) [
        | inl inside ↦ subst AreAtRest (row-passes n live wires h.rest k [] inside out) (h.rest k out)
        | inr past ↦ subst AreAtRest (sym (get_or_past rows k [] (omega (arith, past, long)))) (λ j v within. absurd (omega (arith, within)))
      ];
    })
