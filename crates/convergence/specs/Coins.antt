-- What a node knows of the coins that it drew since its last reset.
use Rattle.std.specs.Prelude.{◌≡◌, ◌⊎◌, ℕ, ◌+◌, ◌<◌, ◌≤◌, Bool, true, min, nat_le}
use Rattle.std.specs.Int.{bit_at}
use Rattle.port_state.specs.declared.signal.Phase.TheVariants.{Contend}
use Rattle.port_state.specs.declared.states.NodeState.{NodeState}
use Rattle.port_state.specs.Contention.{draws_with}
use Rattle.cable_world.specs.Phases.{is_before_tree}

-- ---- draws

-- the last coin, as the wait shows it
abbrev pub last_coin : NodeState → Bool
last_coin x = nat_le x.timing.long x.view.wait

-- a node drew its last coin after so many draws, of which the first were these
pub record AddsDraw (draws first : ℕ) (x : NodeState) : Type 0 where
  pub count : x.view.draws ≡ min (draws + 1) 65535
  pub coins : x.view.first_draws ≡ draws_with (last_coin x) draws first

pub record DrewTheSame (x y : NodeState) : Type 0 where
  pub draws : x.view.draws ≡ y.view.draws
  pub first_draws : x.view.first_draws ≡ y.view.first_draws

-- both drew their last coin after the same draws
pub record DrewTogether (x y : NodeState) : Type 0 where
  pub draws : ℕ
  pub first : ℕ
  pub here : AddsDraw draws first x
  pub there : AddsDraw draws first y

-- ---- a node

-- what a node knows of its own draws
pub record KnowsCoins (x : NodeState) : Type 0 where
  pub fresh : is_before_tree x.view.phase ≡ true → x.view.draws ≡ 0
  pub undrawn : x.view.draws ≡ 0 → x.view.first_draws ≡ 0
  pub counts : x.view.draws ≤ 65535
  pub drawn : x.view.phase ≡ Contend → 1 ≤ x.view.draws
  pub waits : x.view.phase ≡ Contend → x.view.timer < x.view.wait
  pub shows :
      x.view.phase ≡ Contend →
      (x.view.wait ≡ x.timing.short) ⊎ (x.view.wait ≡ x.timing.long)

-- ---- two nodes

-- draw number j is the same at both, for each j below 32 with j + 1 below both counts
abbrev pub DrawsAgree : NodeState → NodeState → Type 0
DrawsAgree x y =
    (j : ℕ) → j < 32 → j + 1 < x.view.draws → j + 1 < y.view.draws →
    bit_at x.view.first_draws j ≡ bit_at y.view.first_draws j
