-- Which nodes were lost at the resets of a log, each one told, and how often each port lost one.
use Rattle.std.specs.Prelude.{◌≡◌, ℕ, ◌==◌, ◌&&◌, not, Bool, Option, Some, None, List, [], ◌∷◌, map, filter, count_by}
use Rattle.std.specs.List.{filter_map, flat_map}
use Rattle.topology_stack.specs.Tree.{Tree}
use Rattle.view_text.specs.declared.cable.Cable.{Cable}
use Rattle.bus_diff.specs.Listed.{changes_along}
use Rattle.reset_list.specs.declared.losses.Loss.{Loss}
use Rattle.reset_list.specs.Counts.{capped}
use Rattle.reset_list.specs.Losses.{lost_cable, losses_by}

-- a reset of a card: when it was, the tree before it, and its own, where they are known
pub record Step : Type 0 where
  pub card : ℕ
  pub time : Option ℕ
  pub old : Option Tree
  pub new : Option Tree

-- what is kept behind these resets
abbrev pub losses_after : List Loss → List Step → List Loss
losses_after ls [] = ls
losses_after ls (s ∷ ss) = losses_after (losses_by s.card s.time s.old s.new ls) ss

-- ---- each loss, in order

-- a card's port that lost the node that hung on it, by the node whose port it is
pub record Lost : Type 0 where
  pub card : ℕ
  pub node : ℕ
  pub port : ℕ

abbrev pub lost_at : ℕ → Cable → Lost
lost_at card c = record { card = card; node = c.parent; port = c.port }

-- what changed between two trees, where both are known, took these cables from their ports
abbrev pub lost_between : ℕ → Option Tree → Option Tree → List Lost
lost_between card None new = []
lost_between card (Some old) None = []
lost_between card (Some old) (Some new) =
    map (lost_at card) (filter_map lost_cable (changes_along old new))

abbrev pub lost_in : Step → List Lost
lost_in s = lost_between s.card s.old s.new

abbrev pub all_lost : List Step → List Lost
all_lost steps = flat_map lost_in steps

-- ---- how often each was lost

abbrev pub is_lost : Lost → Lost → Bool
is_lost l m = (m.card == l.card) && ((m.node == l.node) && (m.port == l.port))

-- all but this one
abbrev pub others : Lost → List Lost → List Lost
others l ls = filter (λ m. not (is_lost l m)) ls

-- each different one once, where it stands first
abbrev pub firsts : List Lost → List Lost
firsts [] = []
firsts (l ∷ ls) = l ∷ others l (firsts ls)

-- how often a card's port lost its node
pub record PortCount : Type 0 where
  pub card : ℕ
  pub node : ℕ
  pub port : ℕ
  pub count : ℕ

abbrev pub count_of : Loss → PortCount
count_of l = record { card = l.card; node = l.node; port = l.port; count = l.count }

-- how often it stands in a list
abbrev pub times_in : List Lost → Lost → PortCount
times_in ls l = record {
  card = l.card;
  node = l.node;
  port = l.port;
  count = capped (count_by (is_lost l) ls);
}

-- each different one, and how often
abbrev pub summary : List Lost → List PortCount
summary ls = map (times_in ls) (firsts ls)

-- Of each port that lost a node it is kept how often it did, each port once, in the order of first losses.
abbrev pub LossesAreCounted : Type 0
LossesAreCounted =
    (steps : List Step) → map count_of (losses_after [] steps) ≡ summary (all_lost steps)
