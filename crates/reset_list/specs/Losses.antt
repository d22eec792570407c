-- Which ports lost the node that hung on them, at how many resets, and how soon they had one again: of each card, in
-- the order of first losses.
use Rattle.std.specs.Prelude.{ℕ, ◌==◌, ◌&&◌, Bool, if◌then◌else◌, Option, Some, None, List, [], ◌∷◌, map}
use Rattle.io_edges.specs.Faults.{next_count}
use Rattle.topology_stack.specs.Tree.{Tree}
use Rattle.view_text.specs.declared.cable.Cable.{Cable}
use Rattle.bus_diff.specs.declared.change.Change.{Change}
use Rattle.bus_diff.specs.declared.change.Change.TheVariants.{Went, Came, Moved, Value, Root, Manager}
use Rattle.bus_diff.specs.Listed.{changes_along}
use Rattle.reset_list.specs.declared.losses.Loss.{Loss}
use Rattle.reset_list.specs.Times.{between, shorter}
use Rattle.reset_list.specs.Update.{updated}

-- the cable that a change takes from the port of a parent: that of a node that went, or that a node left
abbrev pub lost_cable : Change → Option Cable
lost_cable (Went id cable) = cable
lost_cable (Moved pair from to) = from
lost_cable (Came id cable) = None
lost_cable (Value pair quality from to) = None
lost_cable (Root from to) = None
lost_cable (Manager from to) = None

-- the cable that a change brings to the port of a parent: that of a node that came, or to which a node moved
abbrev pub new_cable : Change → Option Cable
new_cable (Went id cable) = None
new_cable (Came id cable) = cable
new_cable (Moved pair from to) = to
new_cable (Value pair quality from to) = None
new_cable (Root from to) = None
new_cable (Manager from to) = None

abbrev pub is_loss : ℕ → Cable → Loss → Bool
is_loss card c l = (l.card == card) && ((l.node == c.parent) && (l.port == c.port))

-- ---- ports that lost their nodes

abbrev pub one_more_loss : ℕ → Cable → (now : Option ℕ) → Option Loss → Loss
one_more_loss card c now None = record {
  card = card;
  node = c.parent;
  port = c.port;
  count = 1;
  lost_at = now;
  shortest = None;
}
one_more_loss card c now (Some l) = record {
  card = card;
  node = c.parent;
  port = c.port;
  count = next_count l.count;
  lost_at = now;
  shortest = l.shortest;
}

abbrev pub lost_if : ℕ → (now : Option ℕ) → Option Cable → List Loss → List Loss
lost_if card now None ls = ls
lost_if card now (Some c) ls = updated (is_loss card c) (one_more_loss card c now) ls

-- behind these changes of a card's bus
abbrev pub lost_by : ℕ → (now : Option ℕ) → List Change → List Loss → List Loss
lost_by card now [] ls = ls
lost_by card now (change ∷ changes) ls =
    lost_by card now changes (lost_if card now (lost_cable change) ls)

-- ---- ports that have a node again

abbrev pub with_times : (lost_at shortest : Option ℕ) → Loss → Loss
with_times lost_at shortest l = record {
  card = l.card;
  node = l.node;
  port = l.port;
  count = l.count;
  lost_at = lost_at;
  shortest = shortest;
}

abbrev pub back : (now : Option ℕ) → Loss → Loss
back now l = with_times None (shorter l.shortest (between l.lost_at now)) l

-- where it is the port that this cable leads from
abbrev pub back_on : ℕ → (now : Option ℕ) → Cable → Loss → Loss
back_on card now c l = if is_loss card c l then back now l else l

abbrev pub back_if : ℕ → (now : Option ℕ) → Option Cable → List Loss → List Loss
back_if card now None ls = ls
back_if card now (Some c) ls = map (back_on card now c) ls

-- behind these changes of a card's bus
abbrev pub back_by : ℕ → (now : Option ℕ) → List Change → List Loss → List Loss
back_by card now [] ls = ls
back_by card now (change ∷ changes) ls =
    back_by card now changes (back_if card now (new_cable change) ls)

-- ---- at resets

-- of this card it isn't known any more when a port lost its node
abbrev pub unknown : ℕ → Loss → Loss
unknown card l = if l.card == card then with_times None l.shortest l else l

-- Behind a reset of a card: where both its tree and the one before are known, what changed between them. First the
-- ports that have a node again, so that one whose node is another at one reset isn't taken to be without.
abbrev pub losses_by : ℕ → (now : Option ℕ) → Option Tree → Option Tree → List Loss → List Loss
losses_by card now None new ls = map (unknown card) ls
losses_by card now (Some old) None ls = ls
losses_by card now (Some old) (Some new) ls =
    lost_by card now (changes_along old new) (back_by card now (changes_along old new) ls)
