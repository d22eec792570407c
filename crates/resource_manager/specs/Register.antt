-- The four registers of the isochronous resource manager (IEEE Std 1394-1995, 8.3.2.3.6 to
-- 8.3.2.3.8): BUS_MANAGER_ID, BANDWIDTH_AVAILABLE, CHANNELS_AVAILABLE_HI and .._LO.
use Rattle.std.specs.Prelude.{ℕ, ◌^◌, ◌%◌, ◌<◌, ◌==◌, Option, [], ◌∷◌, find}
use Rattle.resource_manager.specs.declared.register.Register.{Register}
use Rattle.resource_manager.specs.declared.register.Register.TheVariants.{BusManagerId, BandwidthAvailable, ChannelsAvailableHi, ChannelsAvailableLo}

-- where a register stands, how many of its low bits exist, and the value that a bus reset restores
pub record Layout : Type 0 where
  pub offset : ℕ
  pub width : ℕ
  pub initial : ℕ

-- the table of the registers
abbrev pub layout : Register → Layout
layout BusManagerId = record { offset = 0x21C; width = 6; initial = 0x3F }
layout BandwidthAvailable = record { offset = 0x220; width = 13; initial = 4915 }
layout ChannelsAvailableHi = record { offset = 0x224; width = 32; initial = 0xFFFFFFFF }
layout ChannelsAvailableLo = record { offset = 0x228; width = 32; initial = 0xFFFFFFFF }

-- the register at an offset, if there is one
abbrev pub register_at : ℕ → Option Register
register_at offset = find
    (λ register. offset == (layout register).offset)
    (BusManagerId ∷ BandwidthAvailable ∷ ChannelsAvailableHi ∷ ChannelsAvailableLo ∷ [])

-- what a register keeps of a new value: the bits that it has
abbrev pub cut : Register → ℕ → ℕ
cut register value = value % 2 ^ (layout register).width

-- the values of the four registers
pub record Values : Type 0 where
  pub bus_manager_id : ℕ
  pub bandwidth_available : ℕ
  pub channels_available_hi : ℕ
  pub channels_available_lo : ℕ

-- each register within its width
pub record IsWithinWidths (values : Values) : Type 0 where
  pub bus_manager_id : values.bus_manager_id < 2 ^ (layout BusManagerId).width
  pub bandwidth_available : values.bandwidth_available < 2 ^ (layout BandwidthAvailable).width
  pub channels_available_hi : values.channels_available_hi < 2 ^ (layout ChannelsAvailableHi).width
  pub channels_available_lo : values.channels_available_lo < 2 ^ (layout ChannelsAvailableLo).width

-- the value of one register
abbrev pub value_of : Values → Register → ℕ
value_of values BusManagerId = values.bus_manager_id
value_of values BandwidthAvailable = values.bandwidth_available
value_of values ChannelsAvailableHi = values.channels_available_hi
value_of values ChannelsAvailableLo = values.channels_available_lo

-- the values with that of one register replaced
abbrev pub with_value : Values → Register → ℕ → Values
with_value values BusManagerId value = record values { bus_manager_id = value }
with_value values BandwidthAvailable value = record values { bandwidth_available = value }
with_value values ChannelsAvailableHi value = record values { channels_available_hi = value }
with_value values ChannelsAvailableLo value = record values { channels_available_lo = value }

-- the values after a bus reset
abbrev pub initial_values : Values
initial_values = record {
  bus_manager_id = (layout BusManagerId).initial;
  bandwidth_available = (layout BandwidthAvailable).initial;
  channels_available_hi = (layout ChannelsAvailableHi).initial;
  channels_available_lo = (layout ChannelsAvailableLo).initial;
}
