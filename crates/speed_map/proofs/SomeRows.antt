-- Between two nodes of a bus there is a path: up from the first to a node that has the other below it,
-- and down from there. So each byte of a speed map has its value.
use Rattle.std.proofs.Common.{◌≡◌, ℕ, zero, suc, ◌+◌, ◌-◌, ◌*◌, ◌/◌, ◌%◌, ◌<◌, ◌≤◌, inl, inr, min, List, [], length, map, refl, sym, ap, subst, ◌∙◌, arith}
use Rattle.std.specs.List.{range_with_len}
use Rattle.std.proofs.lemmas.Bool.{cases_lt}
use Rattle.std.proofs.lemmas.List.FromFn.{get_or-map-range_with_len, length-map-range_with_len}
use Rattle.topology_stack.specs.Tree.{Tree, walk, IsBusTree}
use Rattle.speed_map.specs.Path.{speed_at, path_speed}
use Rattle.speed_map.specs.Rows.{IsSpeed, cell}
use Rattle.speed_map.specs.SomeRows.{PathsExist, RowsExist}
use Rattle.speed_map.specs.codings.Sweep.{first_of, IsUnder, IsDown, Leads}
use Rattle.speed_map.proofs.Facts.{InChild, HasParent, first_le, parent_in, in_child, first_of_root, has_parent}
use Rattle.speed_map.proofs.Steps.{down_one, leads_down, leads_one}

-- ---- paths

-- down to a node of the subtree
down : (fuel : ℕ) (t : Tree) (id to : ℕ) → id < fuel → id < length (walk t) → IsUnder t to id →
    (speed : ℕ) × IsDown t id to speed
down zero t id to less within u = absurd (omega (arith, less))
down (suc fuel) t id to less within u = elim (cases_lt to id) [
  | inl below ↦
      let c : InChild t id to = in_child t id to within u below in
      let rest = down fuel t c.k to (omega (arith, c.before, less)) (omega (arith, c.before, within)) c.under in
      (min rest.0 (speed_at t id), down_one t id c.slot c.k to rest.0 (speed_at t id) (min rest.0 (speed_at t id)) c.far c.before c.under rest.1 refl refl)
  | inr above ↦
      let same : id ≡ to = omega (arith, above, u.high) in
      (speed_at t id, record { ids = []; path = same; down_all = tt; speed_is = refl })
]

-- to a node outside of the subtree, by the parent
over :
    (t : Tree) (id to : ℕ) → IsBusTree t → id < length (walk t) → to < length (walk t) → (IsUnder t to id → ⊥) →
    ((k : ℕ) → id < k → k < length (walk t) → (speed : ℕ) × Leads t k to speed) → (speed : ℕ) × Leads t id to speed
over t id to bus within there out above = elim (cases_lt (id + 1) (length (walk t))) [
  | inl lt ↦
      let p : HasParent t id = has_parent t id bus lt in
      let q = parent_in t id p.slot p.k lt p.far p.after in
      let rest = above p.k p.after q.0 in
      let cap : ℕ = speed_at t id in
      (min rest.0 cap, leads_one t id p.slot p.k to rest.0 cap (min rest.0 cap) p.far p.after q.0 q.1 (first_le t id within) out rest.1 refl refl)
  | inr top ↦
      let root : length (walk t) - 1 ≡ id = omega (arith, top, within) in
      let first : first_of t id ≡ 0 = ap (first_of t) (sym root) ∙ first_of_root t in
      absurd (out (record { low = omega (arith, first); high = omega (arith, there, top) }))
]

-- to any node
leads : (fuel : ℕ) (t : Tree) (id to : ℕ) → IsBusTree t → length (walk t) < fuel + id →
    id < length (walk t) → to < length (walk t) → (speed : ℕ) × Leads t id to speed
leads zero t id to bus less within there = absurd (omega (arith, less, within))
leads (suc fuel) t id to bus less within there =
    let above : (k : ℕ) → id < k → k < length (walk t) → (speed : ℕ) × Leads t k to speed
    = λ k after inside. leads fuel t k to bus (omega (arith, less, after)) inside there in
    elim (cases_lt to (first_of t id)) [
      | inl before ↦ over t id to bus within there (λ u. let low = u.low in omega (arith, low, before)) above
      | inr low ↦ elim (cases_lt id to) [
        | inl behind ↦ over t id to bus within there (λ u. let high = u.high in omega (arith, high, behind)) above
        | inr high ↦
            let d = down (id + 1) t id to (omega arith) within (record { low = low; high = high }) in
            (d.0, leads_down t id to d.0 within d.1)
      ]
    ]

pub some_path : PathsExist
some_path t from to bus within there =
    let l = leads (length (walk t) + 1) t from to bus (omega arith) within there in
    record { ids = l.1.ids; is = l.1.path }

-- ---- rows

-- the byte for one node in the row of another
record Byte (t : Tree) (from to : ℕ) : Type 0 where
  byte : ℕ
  speed : from < length (walk t) → to < length (walk t) → IsSpeed t from to byte
  none : length (walk t) ≤ to → byte ≡ 0

byte_of : (t : Tree) (from to : ℕ) → IsBusTree t → Byte t from to
byte_of t from to bus = elim (cases_lt from (length (walk t))) [
  | inl within ↦ elim (cases_lt to (length (walk t))) [
    | inl there ↦
        let p = some_path t from to bus within there in
        record {
          byte = path_speed t from p.ids;
          speed = λ a b. record { ids = p.ids; path = p.is; speed_is = refl };
          none = λ past. absurd (omega (arith, past, there));
        }
    | inr past ↦ record { byte = 0; speed = λ a b. absurd (omega (arith, b, past)); none = λ h. refl }
  ]
  | inr past ↦ record { byte = 0; speed = λ a b. absurd (omega (arith, a, past)); none = λ h. refl }
]

pub some_rows : RowsExist
some_rows t bus =
    let n : ℕ = length (walk t) in
    let at : ℕ → ℕ = λ i. (byte_of t (i / 64) (i % 64) bus).byte in
    let rows : List ℕ = map at (range_with_len 0 (64 * n)) in
    let cell_is : (from to : ℕ) → from < n → to < 64 → cell rows from to ≡ (byte_of t from to bus).byte
    = λ from to within small.
    let row : (64 * from + to) / 64 ≡ from = omega (arith, small) in
    let place : (64 * from + to) % 64 ≡ to = omega (arith, small) in
    get_or-map-range_with_len at 0 (64 * n) (64 * from + to) (64 * from + to) 0 (omega (arith, within, small)) (omega arith)
    ∙ ap (λ (x : ℕ). (byte_of t x ((64 * from + to) % 64) bus).byte) row
    ∙ ap (λ (x : ℕ). (byte_of t from x bus).byte) place in
    let few = bus.small in
    record {
      rows = rows;
      are = record {
        size = length-map-range_with_len at 0 (64 * n);
        speeds = λ from to within there. subst (IsSpeed t from to) (sym (cell_is from to within (omega (arith, there, few)))) ((byte_of t from to bus).speed within there);
        zeros = λ from to within past small. cell_is from to within small ∙ (byte_of t from to bus).none past;
      };
    }
