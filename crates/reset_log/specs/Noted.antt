-- What is noted behind the lines of a log so far: of each card its last reset, and what is counted.
use Rattle.std.specs.Prelude.{ℕ, ◌+◌, ◌-◌, ◌%◌, ◌==◌, ◌&&◌, nat_le, not, Bool, true, false, is_some, if◌then◌else◌, Option, Some, None, List, [], ◌∷◌, ◌++◌, map}
use Rattle.std.specs.BTreeMap.{is_at, insert_entry}
use Rattle.std.specs.Map.{lookup, remove_entry}
use Rattle.std.specs.Ordering.{nat_cmp}
use Rattle.topology_stack.specs.Tree.{Tree}
use Rattle.log_line.specs.declared.line.Origin.{Origin}
use Rattle.log_line.specs.declared.line.Origin.TheVariants.{Controller, Core}
use Rattle.log_line.specs.declared.line.Reset.{Reset}
use Rattle.reset_log.specs.declared.cards.Known.{Known}
use Rattle.reset_list.specs.declared.counts.Counts.{Counts}
use Rattle.reset_list.specs.declared.counts.Tally.{Tally}
use Rattle.reset_list.specs.declared.losses.Loss.{Loss}
use Rattle.reset_list.specs.declared.form.LogForm.{LogForm}
use Rattle.reset_list.specs.declared.form.LogForm.TheVariants.{Text, Short, Json}
use Rattle.log_line.specs.declared.line.Begun.{Begun}
use Rattle.reset_log.specs.declared.notes.Pending.{Pending}
use Rattle.reset_list.specs.Update.{first_of, updated}
use Rattle.reset_list.specs.Counts.{counted, tallied_by}
use Rattle.reset_list.specs.Losses.{losses_by}
use Rattle.reset_list.specs.Times.{between}

pub record Noted : Type 0 where
  pub cards : List Known
  pub counts : Counts
  pub tallies : List Tally
  -- which ports lost the node that hung on them, in the short form
  pub losses : List Loss
  -- by card, the reset that waits for its packets
  pub pending : List (ℕ × Pending)

abbrev pub nothing : Noted
nothing = record {
  cards = [];
  counts = record { resets = 0; refused = 0 };
  tallies = [];
  losses = [];
  pending = [];
}

-- ---- the card's reset before

abbrev pub is_of : ℕ → Known → Bool
is_of card k = k.card == card

abbrev pub last_of : ℕ → List Known → Option Known
last_of card ks = first_of (is_of card) ks

abbrev pub same_origin : Origin → Origin → Bool
same_origin Controller Controller = true
same_origin Controller Core = false
same_origin Core Controller = false
same_origin Core Core = true

-- it is a second or more before the card's last reset: the machine was booted in between
abbrev pub is_back : Option ℕ → Option ℕ → Bool
is_back None now = false
is_back (Some past) None = false
is_back (Some past) (Some now) = nat_le (now + 1000000) past

abbrev pub is_anew : Known → Reset → Bool
is_anew k r = is_back k.time r.time

-- it is the card's last reset by its other event
abbrev pub is_second : Option Known → Reset → Bool
is_second None r = false
is_second (Some k) r =
    not (is_anew k r) && ((k.generation == r.generation) && not (same_origin k.origin r.origin))

-- and that one was heard
abbrev pub is_repeated : Option Known → Reset → Bool
is_repeated None r = false
is_repeated (Some k) r = is_second (Some k) r && k.is_heard

-- how many resets are missing between two generations, which begin again after 255; of one generation that
-- comes again nothing is known
abbrev pub but_all : ℕ → ℕ
but_all n = if n == 255 then 0 else n

unfoldable pub skipped : ℕ → ℕ → ℕ
skipped old new = but_all ((new % 256 + (255 - old % 256)) % 256)

-- behind a boot generations begin anew
abbrev pub missing : Option Known → Reset → ℕ
missing None r = 0
missing (Some k) r =
    if is_second (Some k) r then 0
    else (if is_anew k r then 0 else skipped k.generation r.generation)

-- how long the card's reset before is past
abbrev pub since : Option Known → Reset → Option ℕ
since None r = None
since (Some k) r = if is_second (Some k) r then None else between k.time r.time

-- the tree that a reset's is compared with: none where resets are missing between, or a boot came
abbrev pub compared : Option Known → Reset → Option Tree
compared None r = None
compared (Some k) r = if (missing (Some k) r == 0) && not (is_anew k r) then k.tree else None

-- ---- behind a reset

abbrev pub or_before : Option Tree → Option Tree → Option Tree
or_before None before = before
or_before (Some t) before = Some t

abbrev pub known_by : Reset → Option Tree → Option Known → Known
known_by r heard before = record {
  card = r.card;
  generation = r.generation;
  origin = r.origin;
  time = r.time;
  is_heard = is_some heard;
  tree = or_before heard (compared before r);
}

-- the short form counts them alone; each tree is compared with that before it
abbrev pub losses_in : LogForm → Reset → Option Known → Option Tree → List Loss → List Loss
losses_in (Text standard) r before heard ls = ls
losses_in (Short standard) r before heard ls =
    losses_by r.card r.time (compared before r) heard ls
losses_in (Json standard) r before heard ls = ls

-- behind a reset, the tree that it is heard as if it is, and whether it is refused
abbrev pub after : LogForm → Noted → Reset → Option Tree → Bool → Noted
after form n r heard refused = record {
  cards = updated (is_of r.card) (known_by r heard) n.cards;
  counts = counted (is_second (last_of r.card n.cards) r) refused n.counts;
  tallies = tallied_by r.card heard n.tallies;
  losses = losses_in form r (last_of r.card n.cards) heard n.losses;
  pending = n.pending;
}

-- behind events that were lost: no tree is known
abbrev pub forgotten : Known → Known
forgotten k = record {
  card = k.card;
  generation = k.generation;
  origin = k.origin;
  time = k.time;
  is_heard = k.is_heard;
  tree = None;
}

abbrev pub behind_loss : Noted → Noted
behind_loss n = record {
  cards = map forgotten n.cards;
  counts = n.counts;
  tallies = n.tallies;
  losses = n.losses;
  pending = n.pending;
}

-- ---- a reset whose packets have a line each

-- the reset of a card that waits for its packets, if one does
abbrev pub waits_of : ℕ → Noted → Option Pending
waits_of card n = lookup (is_at (nat_cmp card)) n.pending

abbrev pub with_pending : List (ℕ × Pending) → Noted → Noted
with_pending pending n = record {
  cards = n.cards;
  counts = n.counts;
  tallies = n.tallies;
  losses = n.losses;
  pending = pending;
}

-- none of this card waits any more
abbrev pub ended : ℕ → Noted → Noted
ended card n = with_pending (remove_entry (is_at (nat_cmp card)) n.pending) n

-- this one waits, and no other one of its card
abbrev pub waiting : Pending → Noted → Noted
waiting p n =
    with_pending (insert_entry nat_cmp (ended p.reset.card n).pending p.reset.card p) n

-- one that a line begins
abbrev pub begun_at : ℕ → Begun → Pending
begun_at number b = record {
  number = number;
  left = b.count;
  reset = record {
    origin = Core;
    time = b.time;
    card = b.card;
    generation = b.generation;
    local = b.local;
    is_error = false;
    list = [];
  };
}

-- with one packet more
abbrev pub with_packet : ℕ → Pending → Pending
with_packet quad p = record {
  number = p.number;
  left = p.left - 1;
  reset = record {
    origin = p.reset.origin;
    time = p.reset.time;
    card = p.reset.card;
    generation = p.reset.generation;
    local = p.reset.local;
    is_error = p.reset.is_error;
    list = p.reset.list ++ quad ∷ [];
  };
}
