-- When lists last changed, by number.
use Rattle.std.proofs.Common.{◌≡◌, ◌≢◌, ℕ, zero, suc, ◌+◌, ◌&&◌, ◌==◌, Bool, true, false, List, [], ◌∷◌, Some, slice_get, if◌then◌else◌, refl, sym, ◌∙◌, ap, subst}
use Rattle.std.specs.Prelude.{nat_eq}
use Rattle.std.specs.Cmp.Lexicographic.{pointwise}
use Rattle.std.proofs.lemmas.Bool.{eqb-true, eq-eqb}
use Rattle.port_state.specs.Config.{config_packet}
use Rattle.port_state.specs.Machine.{PortNode}
use Rattle.cable_world.specs.declared.act.Act.TheVariants.{Plug, Pull, Reset, Config}
use Rattle.cable_world.specs.World.{CableWorld}
use Rattle.cable_world.specs.Turn.{same_list, last_changes, turn}
use Rattle.cable_world.specs.Act.{plug, pull, reset, configure, note_changes}
use Rattle.cable_world.proofs.Lemmas.{some-same}
use Rattle.world_laws.specs.LastChanges.{NoteChanges, TurnsNoteChanges, ActsNoteChanges}

-- ---- lists that compare equal

equal-items : (xs ys : List ℕ) → pointwise nat_eq xs ys ≡ true → xs ≡ ys
equal-items [] [] h = refl
equal-items [] (y ∷ ys) h = absurd cc
equal-items (x ∷ xs) [] h = absurd cc
equal-items (x ∷ xs) (y ∷ ys) h = go (x == y) refl (equal-items xs ys) h
  where
    go :
        (b : Bool) → (x == y) ≡ b → (pointwise nat_eq xs ys ≡ true → xs ≡ ys) →
        (b && pointwise nat_eq xs ys) ≡ true → x ∷ xs ≡ y ∷ ys
    go true e rest both = ap (λ z. z ∷ xs) (eqb-true x y e) ∙ ap (λ zs. y ∷ zs) (rest both)
    go false e rest both = absurd cc

items-equal : (xs ys : List ℕ) → xs ≡ ys → pointwise nat_eq xs ys ≡ true
items-equal xs ys e = subst (λ zs. pointwise nat_eq xs zs ≡ true) e (itself xs)
  where
    itself : (xs : List ℕ) → pointwise nat_eq xs xs ≡ true
    itself [] = refl
    itself (x ∷ xs) = rw (eq-eqb x x refl) (itself xs)

-- ---- by number

changes-at :
    (now : ℕ) (before after : List PortNode) (changed : List ℕ) (k : ℕ) (x y : PortNode) (c : ℕ) →
    slice_get before k ≡ Some x → slice_get after k ≡ Some y → slice_get changed k ≡ Some c →
    slice_get (last_changes now before after changed) k ≡ Some (if same_list x y then c else now)
changes-at now [] after changed k x y c at_x at_y at_c = absurd cc
changes-at now (u ∷ before) [] changed k x y c at_x at_y at_c = absurd cc
changes-at now (u ∷ before) (v ∷ after) [] k x y c at_x at_y at_c = absurd cc
changes-at now (u ∷ before) (v ∷ after) (d ∷ changed) zero x y c at_x at_y at_c =
    ap (λ (z : PortNode). Some (if same_list z v then d else now)) (some-same u x at_x)
    ∙ ap (λ (z : PortNode). Some (if same_list x z then d else now)) (some-same v y at_y)
    ∙ ap (λ (z : ℕ). Some (if same_list x y then z else now)) (some-same d c at_c)
changes-at now (u ∷ before) (v ∷ after) (d ∷ changed) (suc k) x y c at_x at_y at_c = changes-at now before after changed k x y c at_x at_y at_c

noted :
    (now : ℕ) (w v : CableWorld) → v.changed ≡ last_changes now w.nodes v.nodes w.changed →
    NoteChanges now w v
noted now w v e k x y c at_x at_y at_c = record {
  same = λ items. here ∙ ap (λ (b : Bool). Some (if b then c else now)) (items-equal x.state.list.items y.state.list.items items) ∙ sym at_c;
  other = λ items. here ∙ go (same_list x y) refl items;
}
  where
    here : slice_get v.changed k ≡ Some (if same_list x y then c else now)
    here = ap (λ (l : List ℕ). slice_get l k) e ∙ changes-at now w.nodes v.nodes w.changed k x y c at_x at_y at_c

    go :
        (b : Bool) → same_list x y ≡ b → x.state.list.items ≢ y.state.list.items →
        Some (if b then c else now) ≡ Some now
    go true same apart = absurd (apart (equal-items x.state.list.items y.state.list.items same))
    go false same apart = refl

pub turns-note : TurnsNoteChanges
unfolding turn
turns-note w = noted (w.turns + 1) w (turn w) refl

noted-by : (w u v : CableWorld) → v ≡ note_changes w u → NoteChanges w.turns w v
noted-by w u v e = subst (NoteChanges w.turns w) (sym e) (noted w.turns w (note_changes w u) refl)

pub acts-note : ActsNoteChanges
acts-note (Plug a b) w v e = noted-by w (plug a b w) v e
acts-note (Pull a) w v e = noted-by w (pull a w) v e
acts-note (Reset node) w v e = noted-by w (reset node w) v e
acts-note (Config from root_id force gap) w v e = noted-by w (configure e.0 from (config_packet root_id force gap) w) v e.2
