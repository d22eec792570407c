-- Steps of single nodes between two turns, and when lists changed.
use Rattle.std.proofs.Common.{◌≡◌, ◌≢◌, ◌==◌, ℕ, zero, suc, ◌+◌, ◌<◌, Bool, true, false, List, [], ◌∷◌, map, length, Some, slice_get, slice_set, slice_index_or, get_or, refl, sym, subst, ◌∙◌, ap, arith, if◌then◌else◌}
use Rattle.std.specs.Option.{IsSomeAnd}
use Rattle.std.specs.Prelude.{nat_eq}
use Rattle.std.specs.Cmp.Lexicographic.{pointwise}
use Rattle.std.proofs.lemmas.Bool.{eq-eqb, ne_eqb}
use Rattle.std.proofs.lemmas.List.{map-set, length-map, get_or_default}
use Rattle.cabling.specs.Wiring.{Wiring}
use Rattle.std.specs.Int.{bit_at}
use Rattle.port_state.specs.Config.{ConfigPacket}
use Rattle.port_state.specs.declared.timing.Timing.{Timing}
use Rattle.port_state.specs.Machine.{PortNode, NodeStep, node_set_config}
use Rattle.cable_world.specs.Wire.{Wire}
use Rattle.cable_world.specs.World.{CableWorld, NodeSet}
use Rattle.cable_world.specs.Turn.{wires_after_sends, same_list, last_changes}
use Rattle.cable_world.specs.Act.{put_step, step_at, with_step, note_changes, change_in_set}
use Rattle.cable_world.specs.running.NodeActs.{note_step, note_both}
use Rattle.cable_world.specs.Parts.{world_record}
use Rattle.cable_world.proofs.Options.{some-same}
use Rattle.cable_world.proofs.tables.TablesInSteps.{not-replaced}

-- ---- when lists changed

same-text : (xs : List ℕ) → pointwise nat_eq xs xs ≡ true
same-text [] = refl
same-text (x ∷ xs) = rw (eq-eqb x x refl) (same-text xs)

pub same-itself : (x : PortNode) → same_list x x ≡ true
same-itself x = same-text x.state.list.items

pub changes-none : (t : ℕ) (nodes : List PortNode) (changed : List ℕ) →
    last_changes t nodes nodes changed ≡ changed
changes-none t [] changed = refl
changes-none t (x ∷ nodes) [] = refl
changes-none t (x ∷ nodes) (c ∷ changed) =
    ap (λ b. (if b then c else t) ∷ last_changes t nodes nodes changed) (same-itself x) ∙ ap (λ cs. c ∷ cs) (changes-none t nodes changed)

pub change-one :
    (t : ℕ) (nodes : List PortNode) (changed : List ℕ) (k : ℕ) (x y : PortNode) (c : ℕ) → length changed ≡ length nodes →
    slice_get nodes k ≡ Some x → c ≡ get_or changed k c →
    slice_set changed k (if same_list x y then c else t) ≡ last_changes t nodes (slice_set nodes k y) changed
change-one t [] changed k x y c e at here = absurd cc
change-one t (n ∷ nodes) [] k x y c e at here = absurd (omega (arith, e))
change-one t (n ∷ nodes) (b ∷ changed) zero x y c e at here =
    ap (λ z. (if same_list z y then c else t) ∷ changed) (sym (some-same n x at))
    ∙ ap (λ z. (if same_list n y then z else t) ∷ changed) here
    ∙ ap (λ cs. (if same_list n y then b else t) ∷ cs) (sym (changes-none t nodes changed))
change-one t (n ∷ nodes) (b ∷ changed) (suc k) x y c e at here =
    ap (λ z. (if z then b else t) ∷ slice_set changed k (if same_list x y then c else t)) (sym (same-itself n))
    ∙ ap (λ cs. (if same_list n n then b else t) ∷ cs) (change-one t nodes changed k x y c (omega (arith, e)) at here)

-- ---- one step

pub from-some :
    {M : Type 0} → (f : M → PortNode) (P : PortNode → Type 0) (ms : List M) (k : ℕ) (m : M) →
    IsSomeAnd (slice_get (map f ms) k) P → m ≡ get_or ms k m → P (f m)
from-some f P [] k m h at = absurd h
from-some f P (n ∷ ms) zero m h at = subst (λ z. P (f z)) (sym at) h
from-some f P (n ∷ ms) (suc k) m h at = from-some f P ms k m h at

there :
    {M : Type 0} → (f : M → PortNode) (ms : List M) (k : ℕ) (m : M) → k < length ms → m ≡ get_or ms k m →
    slice_get (map f ms) k ≡ Some (f m)
there f [] k m h at = absurd (omega arith)
there f (n ∷ ms) zero m h at = ap (λ z. Some (f z)) (sym at)
there f (n ∷ ms) (suc k) m h at = there f ms k m (omega arith) at

pub step-is :
    {M : Type 0} → (f : M → PortNode) (step : PortNode → NodeStep) (d : ℕ) (longest : Timing) (c : Wiring) (t : ℕ) (ms : List M) (wires : List (List Wire))
    (changed : List ℕ) (k : ℕ) (m n : M) (row new : List Wire) (last at : ℕ) →
    k < length ms → length wires ≡ length ms → length changed ≡ length ms →
    m ≡ get_or ms k m → row ≡ get_or wires k row → last ≡ get_or changed k last →
    f n ≡ (step (f m)).node → new ≡ wires_after_sends 0 (step (f m)).sends row → at ≡ (if same_list (f m) (f n) then last else t) →
    world_record d longest c (map f (slice_set ms k n)) (slice_set wires k new) (slice_set changed k at) t
    ≡ note_step k step (world_record d longest c (map f ms) wires changed t)
step-is f step d longest c t ms wires changed k m n row new last at h rows long is_m is_row is_last node sent note =
    let w : CableWorld = world_record d longest c (map f ms) wires changed t in
    let nodes : List PortNode = map f ms in
    let y : PortNode = (step (f m)).node in
    let at_k : slice_get nodes k ≡ Some (f m) = there f ms k m h is_m in
    let nodes_are : map f (slice_set ms k n) ≡ slice_set nodes k y = map-set f ms k n ∙ ap (slice_set nodes k) node in
    let old_row : row ≡ slice_index_or wires k [] = is_row ∙ get_or_default wires k row [] (omega (arith, h, rows)) in
    let wires_are : slice_set wires k new ≡ slice_set wires k (wires_after_sends 0 (step (f m)).sends (slice_index_or wires k [])) =
    ap (slice_set wires k) (sent ∙ ap (wires_after_sends 0 (step (f m)).sends) old_row) in
    let noted : slice_set changed k at ≡ last_changes t nodes (slice_set nodes k y) changed =
    ap (slice_set changed k) (note ∙ ap (λ z. if same_list (f m) z then last else t) node)
    ∙ change-one t nodes changed k (f m) y last (omega (arith, long, length-map ms f)) at_k is_last in
    rw (nodes_are, wires_are, noted) (sym (ap (λ o. note_changes w (step_at o k step w)) at_k))

-- ---- two steps

two-changes :
    (t : ℕ) (nodes : List PortNode) (changed : List ℕ) (a b : ℕ) (y z : PortNode) → a ≢ b →
    last_changes t (slice_set nodes a y) (slice_set (slice_set nodes a y) b z) (last_changes t nodes (slice_set nodes a y) changed)
    ≡ last_changes t nodes (slice_set (slice_set nodes a y) b z) changed
two-changes t [] changed a b y z apart = refl
two-changes t (x ∷ nodes) [] zero zero y z apart = absurd (apart refl)
two-changes t (x ∷ nodes) [] zero (suc b) y z apart = refl
two-changes t (x ∷ nodes) [] (suc a) zero y z apart = refl
two-changes t (x ∷ nodes) [] (suc a) (suc b) y z apart = refl
two-changes t (x ∷ nodes) (c ∷ changed) zero zero y z apart = absurd (apart refl)
two-changes t (x ∷ nodes) (c ∷ changed) zero (suc b) y z apart =
    let n : ℕ = if same_list x y then c else t in
    ap (λ q. (if q then n else t) ∷ last_changes t nodes (slice_set nodes b z) (last_changes t nodes nodes changed)) (same-itself y)
    ∙ ap (λ cs. n ∷ last_changes t nodes (slice_set nodes b z) cs) (changes-none t nodes changed)
two-changes t (x ∷ nodes) (c ∷ changed) (suc a) zero y z apart =
    let tail : List ℕ = last_changes t nodes (slice_set nodes a y) changed in
    ap (λ q. (if same_list x z then (if q then c else t) else t) ∷ last_changes t (slice_set nodes a y) (slice_set nodes a y) tail) (same-itself x)
    ∙ ap (λ cs. (if same_list x z then c else t) ∷ cs) (changes-none t (slice_set nodes a y) tail)
two-changes t (x ∷ nodes) (c ∷ changed) (suc a) (suc b) y z apart =
    let second : List PortNode = slice_set (slice_set nodes a y) b z in
    let tail : List ℕ = last_changes t (slice_set nodes a y) second (last_changes t nodes (slice_set nodes a y) changed) in
    ap (λ q. (if q then (if same_list x x then c else t) else t) ∷ tail) (same-itself x)
    ∙ ap (λ cs. (if same_list x x then c else t) ∷ cs) (two-changes t nodes changed a b y z (λ e. apart (ap suc e)))

module _ (r s : PortNode → NodeStep) (m n : ℕ) (w : CableWorld) (x : PortNode) (at_m : slice_get w.nodes m ≡ Some x) (apart : m ≢ n) where
  first : CableWorld
  first = put_step m (r x) w

  noted : note_step m r w ≡ note_changes w (put_step m (r x) w)
  noted = ap (λ o. note_changes w (step_at o m r w)) at_m

  -- the other node is as before
  pub node-then : slice_get (note_step m r w).nodes n ≡ slice_get w.nodes n
  node-then = ap (λ (v : CableWorld). slice_get v.nodes n) noted ∙ not-replaced w.nodes m n (r x).node (λ e. apart (sym e))

  pub both : (y : PortNode) → slice_get w.nodes n ≡ Some y →
      note_step n s (note_step m r w) ≡ note_both m r n s w
  both y at_n =
      let v : CableWorld = note_changes w (put_step m (r x) w) in
      let then_n : slice_get (slice_set w.nodes m (r x).node) n ≡ Some y = not-replaced w.nodes m n (r x).node (λ e. apart (sym e)) ∙ at_n in
      let last : CableWorld = put_step n (s y) (put_step m (r x) w) in
      ap (note_step n s) noted
      ∙ ap (λ o. note_changes v (step_at o n s v)) then_n
      ∙ ap (λ q. record last { changed = q }) (two-changes w.turns w.nodes w.changed m n (r x).node (s y).node apart)
      ∙ sym (ap (λ o. note_changes w (step_at o n s (put_step m (r x) w))) then_n)
      ∙ sym (ap (λ o. note_changes w (with_step n s (step_at o m r w))) at_m)

-- ---- a packet for the nodes of a set

pub told-length : (set : NodeSet) (f : PortNode → PortNode) (j : ℕ) (nodes : List PortNode) →
    length (change_in_set set f j nodes) ≡ length nodes
told-length set f j [] = refl
told-length set f j (x ∷ nodes) = ap suc (told-length set f (j + 1) nodes)

pub told-at :
    (set : NodeSet) (f : PortNode → PortNode) (j k : ℕ) (nodes : List PortNode) (hears : Bool) (x d : PortNode) → k < length nodes →
    x ≡ get_or nodes k x → (bit_at set (j + k) == 1) ≡ hears →
    (if hears then f x else x) ≡ get_or (change_in_set set f j nodes) k d
told-at set f j k [] hears x d h at is = absurd (omega arith)
told-at set f j zero (y ∷ nodes) hears x d h at is =
    let z : j + 0 ≡ j = omega arith in
    ap (λ b. if b then f x else x) (sym is) ∙ ap (λ n. if bit_at set n == 1 then f x else x) z ∙ ap (λ q. if bit_at set j == 1 then f q else q) at
told-at set f j (suc k) (y ∷ nodes) hears x d h at is =
    let z : j + 1 + k ≡ j + suc k = omega arith in
    told-at set f (j + 1) k nodes hears x d (omega arith) at (ap (λ n. bit_at set n == 1) z ∙ is)

pub is-told : (set k : ℕ) (hears : Bool) →
    (hears ≡ true → bit_at set k ≡ 1) × (bit_at set k ≡ 1 → hears ≡ true) →
    (bit_at set (0 + k) == 1) ≡ hears
is-told set k true h =
    let z : 0 + k ≡ k = omega arith in
    eq-eqb (bit_at set (0 + k)) 1 (ap (bit_at set) z ∙ h.0 refl)
is-told set k false h =
    let z : 0 + k ≡ k = omega arith in
    ne_eqb (bit_at set (0 + k)) 1 (λ e. false-true (h.1 (ap (bit_at set) (sym z) ∙ e)))
  where
    false-true : false ≡ true → ⊥
    false-true e = cc

-- a packet changes no list
pub told-lists :
    (set : NodeSet) (p : ConfigPacket) (t j : ℕ) (nodes after : List PortNode) (changed : List ℕ) →
    last_changes t (change_in_set set (node_set_config p) j nodes) after changed ≡ last_changes t nodes after changed
told-lists set p t j [] after changed = refl
told-lists set p t j (x ∷ nodes) [] changed = refl
told-lists set p t j (x ∷ nodes) (y ∷ after) [] = refl
told-lists set p t j (x ∷ nodes) (y ∷ after) (c ∷ changed) =
    ap (λ q. (if q then c else t) ∷ last_changes t (change_in_set set (node_set_config p) (j + 1) nodes) after changed) (one (bit_at set j == 1))
    ∙ ap (λ cs. (if same_list x y then c else t) ∷ cs) (told-lists set p t (j + 1) nodes after changed)
  where
    one : (b : Bool) → same_list (if b then node_set_config p x else x) y ≡ same_list x y
    one true = refl
    one false = refl
