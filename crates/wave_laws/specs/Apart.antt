-- The values of a variable are apart: who reads one knows what it is the value of.
use Rattle.std.specs.Prelude.{◌≡◌, ℕ, ◌^◌, ◌≤◌, ◌<◌, Option}
use Rattle.std.specs.Option.{ForSome}
use Rattle.port_state.specs.declared.signal.Level.{Level}
use Rattle.port_state.specs.declared.signal.Phase.{Phase}
use Rattle.script_trace.specs.waves.Value.{number, state_value, id_value, level_value, role_value}

-- numbers of so many binary digits
abbrev pub NumbersAreApart : Type 0
NumbersAreApart =
    (digits m n : ℕ) → m < 2 ^ digits → n < 2 ^ digits → number digits m ≡ number digits n → m ≡ n

abbrev pub StatesAreApart : Type 0
StatesAreApart = (p q : Phase) → state_value p ≡ state_value q → p ≡ q

-- no ID is above 62
abbrev pub IdsAreApart : Type 0
IdsAreApart =
    (a b : Option ℕ) → ForSome a (λ i. i ≤ 62) → ForSome b (λ i. i ≤ 62) →
    id_value a ≡ id_value b → a ≡ b

-- that of a child, of the parent or of neither
abbrev pub RolesAreApart : Type 0
RolesAreApart = (m n : ℕ) → m ≤ 2 → n ≤ 2 → role_value m ≡ role_value n → m ≡ n

abbrev pub LevelsAreApart : Type 0
LevelsAreApart = (l m : Level) → level_value l ≡ level_value m → l ≡ m
