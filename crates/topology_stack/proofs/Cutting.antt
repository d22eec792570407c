-- Lists that stand one behind the other.
use Rattle.std.proofs.Common.{◌≡◌, ℕ, zero, suc, ◌+◌, ◌-◌, ◌<◌, ◌≤◌, Some, List, [], ◌∷◌, ◌++◌, length, get_or, take, drop, refl, sym, ap, ◌∙◌, arith, length-drop, length-append}
use Rattle.std.specs.Prelude.{slice_get}
use Rattle.std.proofs.lemmas.List.{take_all, take-append-le, drop_at, drop-append-le, length-take}
use Rattle.topology_stack.specs.Links.{cut, Rises, total}

pub length-cut : (ids : List ℕ) (start : ℕ) (ends : List ℕ) →
    length (cut ids start ends) ≡ length ends
length-cut ids start [] = refl
length-cut ids start (end ∷ ends) = ap suc (length-cut ids end ends)

-- in all they have the elements behind the start
pub total-cut : (ids : List ℕ) (start : ℕ) (ends : List ℕ) → Rises (length ids) start ends →
    total (cut ids start ends) + start ≡ length ids
total-cut ids start [] r = omega arith
total-cut ids start (end ∷ ends) r = omega (arith, r.0, r.1, total-cut ids end ends r.2, length-take (end - start) (drop start ids), length-drop start ids)

-- one list more
pub cut-more : (ids more : List ℕ) (start : ℕ) (ends : List ℕ) → Rises (length ids) start ends →
    cut (ids ++ more) start (ends ++ (length ids + length more) ∷ []) ≡ cut ids start ends ++ more ∷ []
cut-more ids more start [] r =
    let rest : drop start (ids ++ more) ≡ more = drop_at ids more start (sym r) in
    let count : length ids + length more - start ≡ length more = omega (arith, r) in
    rw (rest, count, take_all (length more) more (omega arith)) refl
cut-more ids more start (end ∷ ends) r =
    let rest : drop start (ids ++ more) ≡ drop start ids ++ more = drop-append-le start ids more (omega (arith, r.0, r.1)) in
    let part : take (end - start) (drop start ids ++ more) ≡ take (end - start) (drop start ids) = take-append-le (end - start) (drop start ids) more (omega (arith, r.0, r.1, length-drop start ids)) in
    rw (rest, part, cut-more ids more end ends r.2) refl

pub rises-more : (count more start : ℕ) (ends : List ℕ) → Rises count start ends →
    Rises (count + more) start (ends ++ (count + more) ∷ [])
rises-more count more start [] r = (omega (arith, r), omega arith, refl)
rises-more count more start (end ∷ ends) r = (r.0, omega (arith, r.1), rises-more count more end ends r.2)

-- where a list begins
abbrev pub start_of : ℕ → List ℕ → ℕ → ℕ
start_of start ends zero = start
start_of start ends (suc k) = get_or ends k 0

-- one of the lists
pub record Part (ids : List ℕ) (start : ℕ) (ends : List ℕ) (k : ℕ) : Type 0 where
  pub low : start_of start ends k ≤ get_or ends k 0
  pub high : get_or ends k 0 ≤ length ids
  pub is : slice_get (cut ids start ends) k ≡ Some (take (get_or ends k 0 - start_of start ends k) (drop (start_of start ends k) ids))

pub part : (ids : List ℕ) (start : ℕ) (ends : List ℕ) (k : ℕ) → k < length ends →
    Rises (length ids) start ends → Part ids start ends k
part ids start [] k lt r = absurd (omega arith)
part ids start (end ∷ ends) zero lt r = record { low = r.0; high = r.1; is = refl }
part ids start (end ∷ ends) (suc zero) lt r = let p = part ids end ends 0 (omega arith) r.2 in record { low = p.low; high = p.high; is = p.is }
part ids start (end ∷ ends) (suc (suc k)) lt r = let p = part ids end ends (suc k) (omega arith) r.2 in record { low = p.low; high = p.high; is = p.is }

-- the list of a node but the first
pub record Later (ids ends : List ℕ) (id : ℕ) (lists : List (List ℕ)) : Type 0 where
  pub inside : id < length ends
  pub low : get_or ends (id - 1) 0 ≤ get_or ends id 0
  pub high : get_or ends id 0 ≤ length ids
  pub is : slice_get lists id ≡ Some (take (get_or ends id 0 - get_or ends (id - 1) 0) (drop (get_or ends (id - 1) 0) ids))

pub later : (ids ends : List ℕ) (id : ℕ) (lists : List (List ℕ)) → cut ids 0 ends ≡ lists →
    Rises (length ids) 0 ends → (id ≡ 0 → ⊥) → id < length lists → Later ids ends id lists
later ids ends zero lists e r some lt = absurd (some refl)
later ids ends (suc k) lists e r some lt =
    let count : suc k < length ends = omega (arith, length-cut ids 0 ends, ap length e) in
    let p = part ids 0 ends (suc k) count r in
    let before : suc k - 1 ≡ k = omega arith in
    record { inside = count; low = rw before p.low; high = p.high; is = rw (← e, before) p.is }

-- room for the IDs of one list more, and for its end
pub has_room : (ids ends more : List ℕ) (lists : List (List ℕ)) → cut ids 0 ends ≡ lists →
    Rises (length ids) 0 ends → total lists + length more ≤ 63 → length ids + length more ≤ 63
has_room ids ends more lists e r room = omega (arith, total-cut ids 0 ends r, ap total e)

pub has_end : (ids ends : List ℕ) (lists : List (List ℕ)) → cut ids 0 ends ≡ lists →
    length lists < 63 → length ends < 63
has_end ids ends lists e room = omega (arith, length-cut ids 0 ends, ap length e)

-- one list more stands behind the others
pub record Pushed (ids ends more : List ℕ) (lists : List (List ℕ)) : Type 0 where
  pub few : length ids ≤ 63
  pub rises : Rises (length ids) 0 ends
  pub is : cut ids 0 ends ≡ lists ++ more ∷ []

pub pushed : (ids ends more ids' ends' : List ℕ) (lists : List (List ℕ)) →
    cut ids 0 ends ≡ lists → Rises (length ids) 0 ends → total lists + length more ≤ 63 →
    ids' ≡ ids ++ more → ends' ≡ ends ++ length ids' ∷ [] →
    Pushed ids' ends' more lists
pushed ids ends more ids' ends' lists e r room is at =
    let count : length ids' ≡ length ids + length more = omega (arith, ap length is, length-append ids more) in
    let ends_is : ends' ≡ ends ++ (length ids + length more) ∷ [] = at ∙ ap (λ (n : ℕ). ends ++ n ∷ []) count in
    record {
      few = omega (arith, count, total-cut ids 0 ends r, ap total e);
      rises = rw (count, ends_is) (rises-more (length ids) (length more) 0 ends r);
      is = rw (is, ends_is, ← e) (cut-more ids more 0 ends r);
    }
