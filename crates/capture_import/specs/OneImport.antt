-- An input names one list, or it is refused.
use Rattle.std.specs.Prelude.{◌≡◌, ℕ, List}
use Rattle.capture_import.specs.Import.{Names, IsRefused}
use Rattle.capture_import.specs.declared.taken.Taken.{Taken}
use Rattle.capture_import.specs.declared.fault.ImportFault.{ImportFault}

-- no input names two lists, nor is it taken for two things
abbrev pub NoInputNamesTwoLists : Type 0
NoInputNamesTwoLists =
    (input : List ℕ) (t u : Taken) (a b : List ℕ) → Names input t a → Names input u b →
    (t.container ≡ u.container) × (t.layout ≡ u.layout) × (t.order ≡ u.order) × (a ≡ b)

-- no input that names a list is refused
abbrev pub NoInputIsNamedAndRefused : Type 0
NoInputIsNamedAndRefused =
    (input : List ℕ) (t : Taken) (list : List ℕ) (f : ImportFault) → Names input t list →
    IsRefused input f → ⊥

-- no input is refused for two faults
abbrev pub NoInputHasTwoFaults : Type 0
NoInputHasTwoFaults =
    (input : List ℕ) (f g : ImportFault) → IsRefused input f → IsRefused input g → f ≡ g
