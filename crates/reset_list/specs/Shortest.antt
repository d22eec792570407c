-- For how long ports had no node, by what happened to each of them at the resets of a log.
use Rattle.std.specs.Prelude.{◌≡◌, ℕ, ◌==◌, Bool, Option, Some, None, List, [], ◌∷◌, ◌++◌, map, filter, All}
use Rattle.std.specs.List.{filter_map, flat_map, cons_option}
use Rattle.topology_stack.specs.Tree.{Tree}
use Rattle.view_text.specs.declared.cable.Cable.{Cable}
use Rattle.bus_diff.specs.Listed.{changes_along}
use Rattle.reset_list.specs.declared.losses.Loss.{Loss}
use Rattle.reset_list.specs.Losses.{lost_cable, new_cable}
use Rattle.reset_list.specs.Lost.{Step, losses_after, Lost, lost_at, is_lost}
use Rattle.reset_list.specs.Times.{between, shorter}

-- At a reset of a card a port loses the node that hung on it, a port has a node again, or what its bus was before
-- isn't known.
pub data Happening : Type 0 where
  loses : (card : ℕ) → Cable → (time : Option ℕ) → Happening
  regains : (card : ℕ) → Cable → (time : Option ℕ) → Happening
  unsure : (card : ℕ) → Happening

abbrev pub happened_between : ℕ → (time : Option ℕ) → Option Tree → Option Tree → List Happening
happened_between card time None new = unsure card ∷ []
happened_between card time (Some old) None = []
happened_between card time (Some old) (Some new) =
    map (λ c. regains card c time) (filter_map new_cable (changes_along old new))
    ++ map (λ c. loses card c time) (filter_map lost_cable (changes_along old new))

abbrev pub happened_in : Step → List Happening
happened_in s = happened_between s.card s.time s.old s.new

abbrev pub concerns : Lost → Happening → Bool
concerns l (loses card c time) = is_lost (lost_at card c) l
concerns l (regains card c time) = is_lost (lost_at card c) l
concerns l (unsure card) = l.card == card

-- what happened to a port, in order
abbrev pub happened_to : Lost → List Step → List Happening
happened_to l steps = filter (concerns l) (flat_map happened_in steps)

-- how long a port has no node that loses it and then has one again
abbrev pub away : Happening → Happening → Option ℕ
away (loses card c time) (loses other d later) = None
away (loses card c time) (regains other d later) = between time later
away (loses card c time) (unsure other) = None
away (regains card c time) h = None
away (unsure card) h = None

-- of each two that stand side by side
abbrev pub times_away : List Happening → List ℕ
times_away [] = []
times_away (h ∷ []) = []
times_away (h ∷ (i ∷ hs)) = cons_option (away h i) (times_away (i ∷ hs))

abbrev pub least : List ℕ → Option ℕ
least [] = None
least (t ∷ ts) = shorter (Some t) (least ts)

abbrev pub port_of : Loss → Lost
port_of l = record { card = l.card; node = l.node; port = l.port }

abbrev pub IsShortest : List Step → Loss → Type 0
IsShortest steps l = l.shortest ≡ least (times_away (happened_to (port_of l) steps))

-- Of each port that lost a node the shortest time is kept for which it had none, where one is known.
abbrev pub ShortestIsKept : Type 0
ShortestIsKept = (steps : List Step) → All (IsShortest steps) (losses_after [] steps)
