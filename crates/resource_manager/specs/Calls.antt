-- What every list of calls keeps, told by the calls and their answers alone.
use Rattle.std.specs.Prelude.{◌≡◌, ◌≢◌, ℕ, ◌+◌, ◌<◌, ◌≤◌, ◌==◌, ◌⊎◌, List, IsSomeAnd, slice_get, sum_by, if◌then◌else◌}
use Rattle.std.specs.Int.{bit_at}
use Rattle.resource_manager.specs.declared.register.Register.TheVariants.{BusManagerId, BandwidthAvailable}
use Rattle.resource_manager.specs.declared.access.Access.{Access}
use Rattle.resource_manager.specs.declared.access.Access.TheVariants.{Lock, Reset, Allocate, Release}
use Rattle.resource_manager.specs.declared.access.Answer.{Answer}
use Rattle.resource_manager.specs.declared.access.Answer.TheVariants.{Replied, Done}
use Rattle.resource_manager.specs.Register.{Values, layout}
use Rattle.resource_manager.specs.Channel.{register_of, place_of, seen_of, bit_of}
use Rattle.resource_manager.specs.Response.{complete}

-- whether a call grants the channel, 1 or 0: it is an allocation of the channel that was done
abbrev pub grants_of : ℕ → Access → Answer → ℕ
grants_of channel (Allocate seen given units) Done = if given == channel then 1 else 0
grants_of channel access answer = 0

-- whether a call gives the channel back, 1 or 0
abbrev pub releases_of : ℕ → Access → Answer → ℕ
releases_of channel (Release seen given units) Done = if given == channel then 1 else 0
releases_of channel access answer = 0

-- the units of bandwidth that a call grants, and that it gives back
abbrev pub units_granted : Access → Answer → ℕ
units_granted (Allocate seen channel units) Done = units
units_granted access answer = 0

abbrev pub units_released : Access → Answer → ℕ
units_released (Release seen channel units) Done = units
units_released access answer = 0

-- the call grants the channel
abbrev pub Grants : ℕ → Access → Answer → Type 0
Grants channel access answer = grants_of channel access answer ≡ 1

-- the call frees the channel: a bus reset, a release of it, or a lock by hand that took effect on
-- its register and left its bit 1
abbrev pub Frees : ℕ → Access → Answer → Type 0
Frees channel Reset Done = Unit {0}
Frees channel (Release seen given units) Done = given ≡ channel
Frees channel (Lock offset kind arg value) (Replied reply) =
    (offset ≡ (layout (register_of channel)).offset)
    × (reply ≡ complete arg)
    × (bit_at value (place_of channel) ≡ 1)
Frees channel access answer = ⊥

-- the call changed the bandwidth or the channels, and was neither a grant nor a release: a bus
-- reset, or a lock that took effect on another register than BUS_MANAGER_ID
abbrev pub IsByHand : Access → Answer → Type 0
IsByHand Reset Done = Unit {0}
IsByHand (Lock offset kind arg value) (Replied reply) =
    (offset ≢ (layout BusManagerId).offset) × (reply ≡ complete arg)
IsByHand access answer = ⊥

-- What one call does to the channels.
pub record MovesChannels (old new : Values) (access : Access) (answer : Answer) : Type 0 where
  -- a channel is granted where it is free, and is held then
  pub granted :
      (channel : ℕ) → Grants channel access answer →
      (bit_of (seen_of old) channel ≡ 1) × (bit_of (seen_of new) channel ≡ 0)
  -- a channel is free after a call that frees it
  pub freed :
      (channel : ℕ) → channel < 64 → Frees channel access answer →
      bit_of (seen_of new) channel ≡ 1
  -- a held channel stays held over every other call
  pub held :
      (channel : ℕ) → channel < 64 → bit_of (seen_of old) channel ≡ 0 →
      Frees channel access answer ⊎ (bit_of (seen_of new) channel ≡ 0)

-- a fact of call number k, from 0
abbrev pub At : List (Access × Answer) → ℕ → (Access → Answer → Type 0) → Type 0
At calls k fact = IsSomeAnd (slice_get calls k) (λ call. fact call.0 call.1)

-- a channel that was granted isn't granted again before a call between the two frees it
abbrev pub FreedBetweenGrants : List (Access × Answer) → Type 0
FreedBetweenGrants calls =
    (channel i j : ℕ) → i < j → At calls i (Grants channel) → At calls j (Grants channel) →
    (k : ℕ) × ((i < k) × (k < j) × At calls k (Frees channel))

-- a channel that is held at first isn't granted before a call frees it
abbrev pub FreedBeforeGrant : Values → List (Access × Answer) → Type 0
FreedBeforeGrant values calls =
    (channel j : ℕ) → channel < 64 → bit_of (seen_of values) channel ≡ 0 →
    At calls j (Grants channel) →
    (k : ℕ) × ((k < j) × At calls k (Frees channel))

-- a number of each call, over all calls
abbrev pub total : (Access → Answer → ℕ) → List (Access × Answer) → ℕ
total number calls = sum_by (λ call. number call.0 call.1) calls

-- Bandwidth and channels are neither lost nor made: what is left and what was granted is what there
-- was and what was given back, and no more bandwidth is left than a bus reset would restore.
pub record Conserves (old new : Values) (calls : List (Access × Answer)) : Type 0 where
  pub bandwidth :
      new.bandwidth_available + total units_granted calls
      ≡ old.bandwidth_available + total units_released calls
  pub within :
      old.bandwidth_available ≤ (layout BandwidthAvailable).initial →
      new.bandwidth_available ≤ (layout BandwidthAvailable).initial
  pub channels :
      (channel : ℕ) → channel < 64 →
      bit_of (seen_of new) channel + total (grants_of channel) calls
      ≡ bit_of (seen_of old) channel + total (releases_of channel) calls
