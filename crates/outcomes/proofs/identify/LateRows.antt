-- What may happen at a tick in self identify and A0: a granted node asks the next child, or names
-- itself. A lemma on such a tick has these cases, and not one for each row of the step table.
use Rattle.std.proofs.Common.{◌≡◌, ℕ, true, false, Option, Some, None, refl, sym, true≢false}
use Rattle.outcomes.proofs.Common.{Phase, SelfIdent, Ready, NodeState, is_unnamed, port_is, lowest, hears_packets, may_name, granted_row, Row, raise_timer, row_of, next_row}
use Rattle.port_state.specs.Row as row
use Rattle.cable_world.proofs.Lemmas.{choose}

pub record AsksNext (x : NodeState) (p : ℕ) : Type 0 where
  pub phase : x.view.phase ≡ SelfIdent
  pub granted : x.view.granted ≡ true
  pub next : lowest is_unnamed x.view.ports ≡ Some p
  pub unasked : port_is (λ q. q.asked) x.view.ports p ≡ false

pub record NamesNow (x : NodeState) : Type 0 where
  pub phase : x.view.phase ≡ SelfIdent
  pub granted : x.view.granted ≡ true
  pub last : lowest is_unnamed x.view.ports ≡ None
  pub room : may_name x ≡ true

pub data LateRow (x : NodeState) : Row → Type 0 where
  rests : LateRow x row.none
  asks_next : (p : ℕ) → AsksNext x p → LateRow x (row.asks_child p)
  names_now : NamesNow x → LateRow x row.names_itself

granted :
    (o : Option ℕ) (x : NodeState) → lowest is_unnamed x.view.ports ≡ o →
    x.view.phase ≡ SelfIdent → x.view.granted ≡ true → LateRow x (granted_row o x)
granted None x e f g = choose (λ r. LateRow x r) (may_name x) row.names_itself row.none (λ h. names_now (record { phase = f; granted = g; last = e; room = h })) (λ _. rests)
granted (Some p) x e f g =
    choose (λ r. LateRow x r) (port_is (λ q. q.asked) x.view.ports p) row.none (row.asks_child p) (λ _. rests)
    (λ h. asks_next p (record { phase = f; granted = g; next = e; unasked = h }))

late : (f : Phase) (x : NodeState) → x.view.phase ≡ f → hears_packets f ≡ true →
    LateRow x (row_of f x)
late SelfIdent x e h =
    choose (λ r. LateRow x r) x.view.granted (granted_row (lowest is_unnamed x.view.ports) x) row.none
    (λ g. granted (lowest is_unnamed x.view.ports) x refl e g) (λ _. rests)
late Ready x e h = rests
late f x e h = absurd (true≢false (sym h))

pub late-row :
    (x : NodeState) → hears_packets x.view.phase ≡ true → LateRow (raise_timer x) (next_row x)
late-row x h = late x.view.phase (raise_timer x) refl h
