-- The capture with a flaw that a seed makes: the bus and the places that are tried come of its words.
use Rattle.std.specs.Prelude.{◌≡◌, ℕ, ◌+◌, ◌-◌, ◌*◌, ◌/◌, ◌%◌, ◌<◌, ◌==◌, if◌then◌else◌, List, [], ◌∷◌, ◌++◌, length, take, slice_set, slice_index, bit_xor}
use Rattle.rand_pcg.specs.Lcg.{Lcg}
use Rattle.quad_lanes.specs.Capture.{capture}
use Rattle.self_id.specs.declared.standard.Standard.{Standard}
use Rattle.flawed_capture.specs.declared.flaw.Flaw.{Flaw}
use Rattle.flawed_capture.specs.declared.flaw.Flaw.TheVariants.{BadLength, BadInverse, Cut, Empty, AfterRoot, NoRoot, TooMany}
use Rattle.flawed_capture.specs.Draws.{word, behind, behind_all}
use Rattle.flawed_capture.specs.Flaw.{HasFlaw}
use Rattle.flawed_capture.specs.Other.{other_by}
use Rattle.flawed_capture.specs.SeededBus.{made_bus}
use Rattle.flawed_capture.specs.Spoilt.{IsListOfBus}

-- ---- the change at a place, where a word says what the kind leaves open

abbrev pub list_by : Flaw → List ℕ → ℕ → ℕ → ℕ → List ℕ
list_by Empty list at quad w = []
list_by Cut list at quad w = take (at + 1) (slice_set list at quad)
list_by NoRoot list at quad w =
    if at + 1 == length list then slice_set list at quad else take (at + 1) list
list_by AfterRoot list at quad w =
    if at + 1 == length list then list ++ w ∷ [] else slice_set list at quad
list_by TooMany list at quad w = slice_set list at quad ++ w ∷ []
list_by flaw list at quad w = slice_set list at quad

-- the change of a byte leaves no byte as it is
abbrev pub byte_by : ℕ → ℕ → ℕ
byte_by byte w = bit_xor byte (w / 8 % 255 + 1)

unfoldable pub bytes_by : Standard → Flaw → List ℕ → ℕ → ℕ → List ℕ
bytes_by standard BadLength list at w = take (8 * at + 1 + w % 7) (capture list)
bytes_by standard BadInverse list at w =
    let place = 8 * at + w % 8 in
    slice_set (capture list) place (byte_by (slice_index (capture list) place) w)
bytes_by standard flaw list at w =
    capture (list_by flaw list at (other_by flaw standard (slice_index list at) w) w)

-- ---- the places

-- where the search begins: at the first packet, the middle, the last, or any
unfoldable pub first_place : ℕ → ℕ → ℕ
first_place count w =
    if w % 4 == 0 then 0 else if w % 4 == 1 then count / 2
    else if w % 4 == 2 then count - 1 else w / 4 % count

-- the bytes of a list with the change that is tried at a step, each step with a word of its own
unfoldable pub tried : Standard → Flaw → List ℕ → Lcg → ℕ → List ℕ
tried standard flaw list g step =
    bytes_by standard flaw list ((first_place (length list) (word g) + step) % length list)
    (word (behind_all step (behind g)))

-- the first change of a list that has the flaw
pub record IsFirstFlaw (standard : Standard) (flaw : Flaw) (list : List ℕ) (g : Lcg)
    (bytes : List ℕ) : Type 0 where
  pub step : ℕ
  pub none_before : (k : ℕ) → k < step → HasFlaw standard (tried standard flaw list g k) flaw → ⊥
  pub bytes_are : bytes ≡ tried standard flaw list g step

-- the capture that a seed makes of a number of nodes
pub record IsOfSeed (standard : Standard) (nodes : ℕ) (flaw : Flaw) (seed : ℕ) (bytes : List ℕ) :
    Type 0 where
  pub bus : IsListOfBus standard nodes (made_bus standard nodes seed).list
  pub first :
      IsFirstFlaw standard flaw (made_bus standard nodes seed).list
      (made_bus standard nodes seed).words bytes
