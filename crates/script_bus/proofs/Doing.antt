-- What comes of a command, by the act that it says.
use Rattle.std.proofs.Common.{◌≡◌, ◌≤◌, ◌⊎◌, inl, inr, ℕ, true, false, List, Option, Some, None, is_some, refl, sym, ap, subst, arith}
use Rattle.std.specs.Prelude.{Result, Ok, Err, IfOk, IfSome, IsSome, unwrap_or}
use Rattle.std.specs.Option.{ForSome, ok_or}
use Rattle.port_state.specs.Config.{config_packet}
use Rattle.cable_world.specs.Act.{IsConfigPacket}
use Rattle.cable_world.proofs.Lemmas.{some-same}
use Rattle.script_lines.specs.declared.kind.Kind.{Kind}
use Rattle.script_lines.specs.declared.kind.LineStop.{LineStop}
use Rattle.script_lines.specs.declared.kind.LineStop.TheVariants.{Fault, Memory}
use Rattle.script_told.specs.Bus.{Bus, ReportedTree, node_named, tree_with}
use Rattle.script_told.specs.Step.{LineAnswer, AtNamedNode, AtTree, Named, Settled}
use Rattle.script_bus.specs.Running.{Stops}

-- ---- answers

pub ok-then :
    {A E : Type 0} → (r : Result A E) (P Q : A → Type 0) → ((x : A) → P x → Q x) → IfOk r P →
    IfOk r Q
ok-then (Ok x) P Q f h = f x h
ok-then (Err e) P Q f h = tt

pub stops-as :
    (P Q : LineAnswer → Type 0) → ((answer : LineAnswer) → P answer → Q answer) →
    (stop : LineStop) → Stops P stop → Stops Q stop
stops-as P Q f (Fault kind) h = f (Err kind) h
stops-as P Q f (Memory none) h = tt

-- ---- what has to be there first

abbrev number : Result ℕ LineStop → ℕ
number (Ok n) = n
number (Err stop) = 0

abbrev is-there : Result ℕ LineStop → Type 0
is-there (Ok n) = Unit {0}
is-there (Err stop) = ⊥

pub named :
    (bus : Bus) (name : List ℕ) (node : ℕ) (Comes : ℕ → LineAnswer → Type 0) (r : LineAnswer) →
    Ok node ≡ ok_or (node_named bus.notes.names name) (Fault Kind.NoNode) → Comes node r →
    Named bus name Comes r
named bus name node Comes r e h = go (node_named bus.notes.names name) e
  where
    go : (o : Option ℕ) → Ok node ≡ ok_or o (Fault Kind.NoNode) → AtNamedNode o Comes r
    go None e = absurd (subst is-there e tt)
    go (Some k) e = subst (λ n. Comes n r) (ap number e) h

pub settled :
    (bus : Bus) (node : ℕ) (tree : ReportedTree) (Comes : ReportedTree → LineAnswer → Type 0)
    (r : LineAnswer) → tree_with node bus.notes ≡ Some tree → Comes tree r →
    Settled bus node Comes r
settled bus node tree Comes r e h = subst (λ (o : Option ReportedTree). AtTree o Comes r) (sym e) h

-- ---- configuration packets

never : false ≡ true → ⊥
never e = cc

six-bits : (gap : Option ℕ) → IfSome gap (λ g. g ≤ 63) → ForSome gap (λ g. g ≤ 63)
six-bits None h = λ g e. absurd cc
six-bits (Some x) h = λ g e. omega (arith, h, some-same x g e)

pub config-fits :
    (root_id gap : Option ℕ) → IfSome root_id (λ id. id ≤ 62) → IfSome gap (λ g. g ≤ 63) →
    IsSome root_id ⊎ IsSome gap →
    IsConfigPacket (config_packet (unwrap_or root_id 0) (is_some root_id) gap)
config-fits None None root few some = elim some [ inl h ↦ absurd (never h) | inr h ↦ absurd (never h) ]
config-fits None (Some g) root few some = record { bits = record { root_bits = omega arith; gap_bits = six-bits (Some g) few }; says = refl }
config-fits (Some id) gap root few some = record { bits = record { root_bits = omega (arith, root); gap_bits = six-bits gap few }; says = refl }
