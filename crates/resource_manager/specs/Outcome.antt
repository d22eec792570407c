-- What an attempt to take or to give back a channel and bandwidth comes to, one line an answer.
use Rattle.std.specs.Prelude.{◌≡◌, ◌↔◌, ℕ, ◌+◌, ◌<◌, ◌≤◌, Option, None, Some}
use Rattle.resource_manager.specs.declared.register.Register.TheVariants.{BandwidthAvailable}
use Rattle.resource_manager.specs.declared.grant.Seen.{Seen}
use Rattle.resource_manager.specs.declared.grant.GrantFault.{GrantFault}
use Rattle.resource_manager.specs.declared.grant.GrantFault.TheVariants.{NoChannel, NoBandwidth, Changed}
use Rattle.resource_manager.specs.Register.{Values, layout}
use Rattle.resource_manager.specs.Channel.{seen_of, word_of, bit_of}
use Rattle.resource_manager.specs.Grant.{allocate_fault, release_fault, IsFirstChanged}

-- the channel was seen free, or held
abbrev pub WasFree : Seen → ℕ → Type 0
WasFree seen channel = bit_of seen channel ≡ 1

abbrev pub WasHeld : Seen → ℕ → Type 0
WasHeld seen channel = bit_of seen channel ≡ 0

-- the bandwidth and the channel's register still have the values that were seen
abbrev pub IsAsSeen : Values → Seen → ℕ → Type 0
IsAsSeen values seen channel =
    ((seen_of values).bandwidth ≡ seen.bandwidth)
    × (word_of (seen_of values) channel ≡ word_of seen channel)

-- of an allocation
abbrev pub AllocationComesTo : Values → Seen → ℕ → ℕ → Option GrantFault → Type 0
AllocationComesTo values seen channel units (Some NoChannel) = WasHeld seen channel
AllocationComesTo values seen channel units (Some (NoBandwidth left)) =
    WasFree seen channel × (seen.bandwidth < units) × (left ≡ seen.bandwidth)
AllocationComesTo values seen channel units (Some (Changed offset old)) =
    WasFree seen channel × (units ≤ seen.bandwidth) × IsFirstChanged values seen channel offset old
AllocationComesTo values seen channel units None =
    WasFree seen channel × (units ≤ seen.bandwidth) × IsAsSeen values seen channel

-- the units would bring the bandwidth past what a bus reset restores
abbrev pub IsTooMuch : Seen → ℕ → Type 0
IsTooMuch seen units = (layout BandwidthAvailable).initial < seen.bandwidth + units

-- there is room for the units below what a bus reset restores
abbrev pub HasRoom : Seen → ℕ → Type 0
HasRoom seen units = seen.bandwidth + units ≤ (layout BandwidthAvailable).initial

-- of a release
abbrev pub ReleaseComesTo : Values → Seen → ℕ → ℕ → Option GrantFault → Type 0
ReleaseComesTo values seen channel units (Some NoChannel) = WasFree seen channel
ReleaseComesTo values seen channel units (Some (NoBandwidth left)) =
    WasHeld seen channel × IsTooMuch seen units × (left ≡ seen.bandwidth)
ReleaseComesTo values seen channel units (Some (Changed offset old)) =
    WasHeld seen channel × HasRoom seen units × IsFirstChanged values seen channel offset old
ReleaseComesTo values seen channel units None =
    WasHeld seen channel × HasRoom seen units × IsAsSeen values seen channel

-- each attempt comes to one answer, and it is the one that the calls give
abbrev pub AllocationsComeToOne : Type 0
AllocationsComeToOne =
    (values : Values) (seen : Seen) (channel units : ℕ) (answer : Option GrantFault) →
    AllocationComesTo values seen channel units answer
    ↔ (answer ≡ allocate_fault values seen channel units)

abbrev pub ReleasesComeToOne : Type 0
ReleasesComeToOne =
    (values : Values) (seen : Seen) (channel units : ℕ) (answer : Option GrantFault) →
    ReleaseComesTo values seen channel units answer
    ↔ (answer ≡ release_fault values seen channel units)
