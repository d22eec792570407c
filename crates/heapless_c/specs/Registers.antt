-- The records of an isochronous resource manager.
-- Statuses: 0 ok, 1 refused, 7 out of range.
use Rattle.std.specs.Prelude.{◌≡◌, ◌≢◌, ℕ, ◌≤◌, ◌<◌, Option, None, Some}
use Rattle.resource_manager.specs.declared.register.Register.TheVariants.{BusManagerId, BandwidthAvailable, ChannelsAvailableHi, ChannelsAvailableLo}
use Rattle.resource_manager.specs.declared.registers.Reply.{Reply}
use Rattle.resource_manager.specs.declared.grant.Seen.{Seen}
use Rattle.resource_manager.specs.declared.grant.GrantFault.{GrantFault}
use Rattle.resource_manager.specs.declared.grant.GrantFault.TheVariants.{NoChannel, NoBandwidth, Changed}
use Rattle.resource_manager.specs.Register.{Values, cut}
use Rattle.heapless_c.specs.declared.records.RegistersRecord.{RegistersRecord}
use Rattle.heapless_c.specs.declared.records.ReplyRecord.{ReplyRecord}
use Rattle.heapless_c.specs.declared.records.SeenRecord.{SeenRecord}
use Rattle.heapless_c.specs.declared.records.GrantRecord.{GrantRecord}

abbrev pub registers_record : Values → RegistersRecord
registers_record v = record {
  bus_manager_id = v.bus_manager_id;
  bandwidth_available = v.bandwidth_available;
  channels_available_hi = v.channels_available_hi;
  channels_available_lo = v.channels_available_lo;
}

-- the values of a record, each cut to its register's width
abbrev pub values_in : RegistersRecord → Values
values_in r = record {
  bus_manager_id = cut BusManagerId r.bus_manager_id;
  bandwidth_available = cut BandwidthAvailable r.bandwidth_available;
  channels_available_hi = cut ChannelsAvailableHi r.channels_available_hi;
  channels_available_lo = cut ChannelsAvailableLo r.channels_available_lo;
}

abbrev pub reply_record : Reply → ReplyRecord
reply_record r = record { value = r.value; rcode = r.rcode }

abbrev pub seen_record : Seen → SeenRecord
seen_record s = record { bandwidth = s.bandwidth; hi = s.hi; lo = s.lo }

abbrev pub seen_in : SeenRecord → Seen
seen_in s = record { bandwidth = s.bandwidth; hi = s.hi; lo = s.lo }

abbrev pub grant_record : GrantFault → GrantRecord
grant_record NoChannel = record { detail = 0; now = 0; kind = 1 }
grant_record (NoBandwidth left) = record { detail = left; now = 0; kind = 2 }
grant_record (Changed offset old) = record { detail = offset; now = old; kind = 3 }

-- what comes of an allocation or a release with this fault, or of one that leaves these values
pub data AnswersGrant (channel units : ℕ) (fault : Option GrantFault) (done : Values)
    (before after : RegistersRecord) (told_before told : GrantRecord) (status : ℕ) : Type 0 where
  granted : channel ≤ 63 → units ≤ 4915 → fault ≡ None → after ≡ registers_record done →
      told ≡ told_before → status ≡ 0 →
      AnswersGrant channel units fault done before after told_before told status
  refused : (f : GrantFault) → channel ≤ 63 → units ≤ 4915 → fault ≡ Some f → after ≡ before →
      told ≡ grant_record f → status ≡ 1 →
      AnswersGrant channel units fault done before after told_before told status
  out_of_range : ((channel ≤ 63) × (units ≤ 4915) → ⊥) → after ≡ before → told ≡ told_before →
      status ≡ 7 → AnswersGrant channel units fault done before after told_before told status

-- what comes of an attempt of a node to become bus manager
pub data Attempts (id : ℕ) (held : Values) (before after : RegistersRecord) (told_before told : ℕ)
    (status : ℕ) : Type 0 where
  won : id ≤ 62 → held.bus_manager_id ≡ 63 →
      after ≡ registers_record (record held { bus_manager_id = id }) → told ≡ id → status ≡ 0 →
      Attempts id held before after told_before told status
  lost : id ≤ 62 → held.bus_manager_id ≢ 63 → after ≡ before → told ≡ held.bus_manager_id →
      status ≡ 1 → Attempts id held before after told_before told status
  no_node : 62 < id → after ≡ before → told ≡ told_before → status ≡ 7 →
      Attempts id held before after told_before told status
