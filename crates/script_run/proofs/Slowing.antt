-- The clock of a node that is kept is slow: the draft is that of the definition, and its nodes suit a bus.
use Rattle.std.proofs.Common.{◌≡◌, ◌<◌, ◌∙◌, ℕ, true, List, [], Option, Some, All, map, length, get_or, set, refl, sym, subst, ap}
use Rattle.std.specs.Prelude.{Ok, slice_get, slice_set}
use Rattle.std.specs.Option.{option_map}
use Rattle.std.proofs.lemmas.List.{length-map, map-set}
use Rattle.std.proofs.lemmas.Option.{slice_get-map, slice_get_read, slice_get-get_or}
use Rattle.port_state.specs.declared.timing.Timing.{Timing}
use Rattle.port_state.specs.declared.ranges.TimeRanges.{TimeRanges}
use Rattle.port_state.specs.Clock.{every, is_even}
use Rattle.port_state.specs.Machine.{PortNode}
use Rattle.phy_machine.specs.declared.any.AnyMachine.{AnyMachine}
use Rattle.phy_machine.specs.Any.{any_node}
use Rattle.cable_world.proofs.Lemmas.{each-node}
use Rattle.script_lines.specs.Clock.{gap_of, before_first, clock_said, slow_ranges}
use Rattle.script_told.specs.Fitting.{IsFitting}
use Rattle.script_told.specs.Script.{Draft, declaring, slows_node}
use Rattle.script_told.proofs.Lemmas.{IsSoundDraft, slowed-draft}
use Rattle.script_run.specs.declared.draft.Draft as kept
use Rattle.script_run.specs.codings.Declaring.{IsDraft, draft_now}

-- a machine of the draft, with an even clock, and what it becomes
pub record IsSlowed
    (draft : kept.Draft) (number ppm : ℕ) (first : Option ℕ) (old new : AnyMachine) (ranges : TimeRanges) :
    Type 0 where
  pub inside : number < length draft.machines.items
  pub at : old ≡ get_or draft.machines.items number old
  pub even : is_even (any_node old).clock ≡ true
  pub new_is : any_node new ≡ record (any_node old) { clock = clock_said ppm first }
  pub judged : slow_ranges draft.delay draft.times.ranges (any_node old).state.timing (gap_of ppm) ≡ Ok ranges

pub is-slowed :
    (draft : kept.Draft) (number ppm gap before : ℕ) (first : Option ℕ) (old new : AnyMachine) (t : Timing) (ranges : TimeRanges) →
    number < length draft.machines.items → old ≡ get_or draft.machines.items number old →
    is_even (any_node old).clock ≡ true → gap ≡ gap_of ppm → before ≡ before_first gap first →
    any_node new ≡ record (any_node old) { clock = every gap before } → t ≡ (any_node old).state.timing →
    Ok ranges ≡ slow_ranges draft.delay draft.times.ranges t gap → IsSlowed draft number ppm first old new ranges
is-slowed draft number ppm gap before first old new t ranges inside at even gap-is before-is new-is t-is judged = record {
  inside = inside;
  at = at;
  even = even;
  new_is =
      new-is
      ∙ ap (λ (k : ℕ). record (any_node old) { clock = every gap k }) (before-is ∙ ap (λ (g : ℕ). before_first g first) gap-is)
      ∙ ap (λ (g : ℕ). record (any_node old) { clock = every g (before_first (gap_of ppm) first) }) gap-is;
  judged = sym (judged
      ∙ ap (λ (u : Timing). slow_ranges draft.delay draft.times.ranges u gap) t-is
      ∙ ap (slow_ranges draft.delay draft.times.ranges (any_node old).state.timing) gap-is);
}

-- the draft then
abbrev pub after : Draft → List PortNode → TimeRanges → Draft
after draft nodes ranges = record draft {
  times = record draft.times { ranges = ranges };
  nodes = nodes;
  slowed = true;
}

slows-so :
    (draft : Draft) (ppm : ℕ) (first : Option ℕ) (number : ℕ) (x : PortNode) (ranges : TimeRanges) →
    slice_get draft.nodes number ≡ Some x → is_even x.clock ≡ true →
    slow_ranges draft.delay draft.times.ranges x.state.timing (gap_of ppm) ≡ Ok ranges →
    slows_node draft ppm first number (slice_get draft.nodes number)
    ≡ Ok (declaring (after draft (slice_set draft.nodes number (record x { clock = clock_said ppm first })) ranges), [])
slows-so draft ppm first number x ranges at even judged = rw (at, even, judged) refl

-- the nodes of the machines
at-node : (items : List AnyMachine) (number : ℕ) (m : AnyMachine) → number < length items →
    m ≡ get_or items number m → slice_get (map any_node items) number ≡ Some (any_node m)
at-node items number m inside at =
    slice_get-map any_node items number ∙ ap (option_map any_node) (slice_get_read items (length items) number m refl inside at)

pub set-nodes : (items : List AnyMachine) (number : ℕ) (m : AnyMachine) (x : PortNode) → any_node m ≡ x →
    map any_node (set items number m) ≡ slice_set (map any_node items) number x
set-nodes items number m x e = map-set any_node items number m ∙ ap (slice_set (map any_node items) number) e

-- what is kept is sound where the definition's draft is, and the other way round
pub to-sound : (draft : kept.Draft) → IsDraft draft → IsSoundDraft (draft_now draft)
to-sound draft h = record {
  some_delay = h.some_delay;
  short_delay = h.short_delay;
  few = rw (length-map draft.machines.items any_node) h.few;
  same = h.named ∙ sym (length-map draft.machines.items any_node);
  fitting = h.ranges;
  forced = h.forced;
  slack = h.slack;
  powered = each-node (IsFitting draft.delay draft.times.ranges) any_node draft.machines.items h.nodes;
}

each-machine : (items : List AnyMachine) (P : PortNode → Type 0) →
    ((k : ℕ) (x : PortNode) → slice_get (map any_node items) k ≡ Some x → P x) → All (λ m. P (any_node m)) items
each-machine items P h i m inside =
    h i (any_node (get_or items i m)) (slice_get-map any_node items i ∙ ap (option_map any_node) (slice_get-get_or items i m inside))

pub from-sound : (draft : kept.Draft) → IsSoundDraft (draft_now draft) → IsDraft draft
from-sound draft h = record {
  some_delay = h.some_delay;
  short_delay = h.short_delay;
  ranges = h.fitting;
  forced = h.forced;
  slack = h.slack;
  few = rw (← length-map draft.machines.items any_node) h.few;
  named = h.same ∙ length-map draft.machines.items any_node;
  nodes = each-machine draft.machines.items (IsFitting draft.delay draft.times.ranges) h.powered;
}

-- ---- what follows

module _
    (draft : kept.Draft) (number ppm : ℕ) (first : Option ℕ) (old new : AnyMachine) (ranges : TimeRanges)
    (s : IsSlowed draft number ppm first old new ranges) where
  abbrev there : List PortNode
  there = slice_set (map any_node draft.machines.items) number (record (any_node old) { clock = clock_said ppm first })

  stood : slice_get (map any_node draft.machines.items) number ≡ Some (any_node old)
  stood = at-node draft.machines.items number old s.inside s.at

  pub slowed-nodes : map any_node (set draft.machines.items number new) ≡ there
  slowed-nodes = set-nodes draft.machines.items number new (record (any_node old) { clock = clock_said ppm first }) s.new_is

  pub slowed-done : (nodes : List PortNode) → nodes ≡ there →
      slows_node (draft_now draft) ppm first number (slice_get (map any_node draft.machines.items) number)
      ≡ Ok (declaring (after (draft_now draft) nodes ranges), [])
  slowed-done nodes e =
      slows-so (draft_now draft) ppm first number (any_node old) ranges stood s.even s.judged
      ∙ ap (λ (ns : List PortNode). Ok (declaring (after (draft_now draft) ns ranges), [])) (sym e)

  pub slowed-sound : IsDraft draft → (nodes : List PortNode) → nodes ≡ there →
      IsSoundDraft (after (draft_now draft) nodes ranges)
  slowed-sound h nodes e =
      subst (λ (ns : List PortNode). IsSoundDraft (after (draft_now draft) ns ranges)) (sym e)
      (slowed-draft (draft_now draft) number (any_node old) (gap_of ppm) (before_first (gap_of ppm) first) ranges (to-sound draft h) stood s.judged)
