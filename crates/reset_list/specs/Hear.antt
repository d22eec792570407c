-- What a list is heard as: the tree that emits it, or its fault.
use Rattle.std.specs.Prelude.{◌≡◌, ◌≢◌, ℕ, ◌/◌, ◌%◌, List, length, Some, None}
use Rattle.quad_lanes.specs.Pairs.{firsts, first_bad_pair}
use Rattle.self_id.specs.declared.standard.Standard.{Standard}
use Rattle.topology_stack.specs.Tree.{Tree, IsBusTreeOf, emits}
use Rattle.topology_stack.specs.Refused.{Refused}
use Rattle.log_line.specs.declared.line.Origin.{Origin}
use Rattle.log_line.specs.declared.line.Origin.TheVariants.{Controller, Core}
use Rattle.capture_reading.specs.declared.fault.CaptureFault.{CaptureFault}
use Rattle.capture_reading.specs.declared.fault.CaptureFault.TheVariants.{BadLength, BadInverse, Tree as OfTree}

-- quadlets and their inverses, of which these are the first ones
pub record ArePairs (list quads : List ℕ) : Type 0 where
  pub whole : length list % 2 ≡ 0
  pub good : first_bad_pair list ≡ None
  pub quads_are : quads ≡ firsts list

-- the packets' quadlets of a list
abbrev pub AreQuads : Origin → List ℕ → List ℕ → Type 0
AreQuads Controller list quads = ArePairs list quads
AreQuads Core list quads = quads ≡ list

-- a list by its origin is what the bus tree of a standard emits
abbrev pub IsHeard : Standard → Origin → List ℕ → Tree → Type 0
IsHeard standard origin list t =
    (quads : List ℕ) × AreQuads origin list quads × IsBusTreeOf standard t × (emits t ≡ quads)

-- the fault that a list has by its origin and a standard: it ends within a pair, a pair is bad, or
-- the packets' quadlets are of no bus tree
abbrev pub IsUnheard : Standard → Origin → List ℕ → CaptureFault → Type 0
IsUnheard standard Controller list (BadLength pair) =
    (length list % 2 ≢ 0) × (pair ≡ length list / 2)
IsUnheard standard Core list (BadLength pair) = ⊥
IsUnheard standard Controller list (BadInverse pair) =
    (length list % 2 ≡ 0) × (first_bad_pair list ≡ Some pair)
IsUnheard standard Core list (BadInverse pair) = ⊥
IsUnheard standard origin list (OfTree f) =
    (quads : List ℕ) × AreQuads origin list quads × Refused standard quads f

-- the fault is that of a list of packets' quadlets
abbrev pub IsTreeFault : Standard → List ℕ → CaptureFault → Type 0
IsTreeFault standard quads (BadLength pair) = ⊥
IsTreeFault standard quads (BadInverse pair) = ⊥
IsTreeFault standard quads (OfTree f) = Refused standard quads f
