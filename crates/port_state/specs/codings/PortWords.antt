-- Ports that are kept in words: bit k of each word is about port k. No public contract cites this
-- file.
use Rattle.std.specs.Prelude.{ℕ, ◌^◌, ◌<◌, Bool, true, false, not, ◌&&◌, ◌==◌, List, map, Option, None, Some, if◌then◌else◌}
use Rattle.std.specs.Int.{bit_at, trailing_zeros, w16}
use Rattle.std.specs.List.{range_with_len}
use Rattle.port_state.specs.declared.signal.Level.{Level}
use Rattle.port_state.specs.declared.signal.Level.TheVariants as level
use Rattle.port_state.specs.declared.ports.PortView.{PortView}
use Rattle.port_state.specs.Ports.{is_idle}
use Rattle.port_state.specs.Resetting.{is_calm}
use Rattle.port_state.specs.declared.port_words.Words.{Words}

-- whether a word has bit k
abbrev pub has_bit : ℕ → ℕ → Bool
has_bit word k = bit_at word k == 1

-- the two bits of a level
abbrev pub level_high : Level → Bool
level_high level.Reset = false
level_high level.Idle = false
level_high level.Parent = true
level_high level.Child = true

abbrev pub level_low : Level → Bool
level_low level.Reset = false
level_low level.Idle = true
level_low level.Parent = false
level_low level.Child = true

-- the level of two bits, the higher one first
abbrev pub level_of_bits : Bool → Bool → Level
level_of_bits false false = level.Reset
level_of_bits false true = level.Idle
level_of_bits true false = level.Parent
level_of_bits true true = level.Child

-- what the words say of port k
abbrev pub port_at : Words → ℕ → PortView
port_at w k = record {
  connected = has_bit w.connected k;
  shown = level_of_bits (has_bit w.high k) (has_bit w.low k);
  child = has_bit w.child k;
  asked = has_bit w.asked k;
  named = has_bit w.named k;
}

-- what they say of so many ports
abbrev pub ports_of : ℕ → Words → List PortView
ports_of count w = map (port_at w) (range_with_len 0 count)

-- what they say of 16 ports, there or not
unfoldable pub all_ports : Words → List PortView
all_ports w = ports_of 16 w

-- the lowest bit of a word
abbrev pub lowest_bit : ℕ → Option ℕ
lowest_bit word = if word == 0 then None else Some (trailing_zeros w16 word)

-- no word has a bit for a port that isn't there
pub record FitsPorts (count : ℕ) (w : Words) : Type 0 where
  pub connected : w.connected < 2 ^ count
  pub high : w.high < 2 ^ count
  pub low : w.low < 2 ^ count
  pub child : w.child < 2 ^ count
  pub asked : w.asked < 2 ^ count
  pub named : w.named < 2 ^ count

-- a connected port that shows neither Idle nor Parent, and one that leads to a child which doesn't
-- show Idle
abbrev pub is_restless : PortView → Bool
is_restless p = p.connected && not (is_calm p.shown)

abbrev pub has_waiting_child : PortView → Bool
has_waiting_child p = p.connected && (p.child && not (is_idle p.shown))
