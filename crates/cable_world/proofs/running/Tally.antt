-- What is under way on the wires of a node is counted in the first entries, and gone over behind them.
use Rattle.std.proofs.Common.{◌≡◌, ℕ, suc, ◌+◌, ◌-◌, ◌<◌, ◌≤◌, ◌⊎◌, Bool, true, false, List, [], ◌∷◌, ◌++◌, length, take, drop, slice_index, slice_set, sym, ◌∙◌, ap, inl, inr, arith, if◌then◌else◌}
use Rattle.std.proofs.Math.Seq.{drop-append-add}
use Rattle.std.proofs.lemmas.Bool.{cases_eq}
use Rattle.std.proofs.lemmas.List.{take-append-drop, length-append, get_or-set_same, get_or-set_other}
use Rattle.port_state.specs.Ports.{PortNumber}
use Rattle.port_state.specs.PortSet.{has_port}
use Rattle.cable_world.specs.declared.wire.UnderWay.{UnderWay}
use Rattle.cable_world.specs.declared.tally.Tally.{Tally}
use Rattle.cable_world.specs.running.Rows.{on_port}
use Rattle.cable_world.proofs.running.Rows.{on_port-append, none-past}

split : (p : PortNumber) (n : ℕ) (sent : List UnderWay) → on_port p sent ≡ on_port p (take n sent) ++ on_port p (drop n sent)
split p n sent = ap (on_port p) (sym (take-append-drop n sent)) ∙ on_port-append p (take n sent) (drop n sent)

pub count-split : (p : PortNumber) (n : ℕ) (sent : List UnderWay) →
    length (on_port p (take n sent)) + length (on_port p (drop n sent)) ≡ length (on_port p sent)
count-split p n sent = sym (ap length (split p n sent) ∙ length-append (on_port p (take n sent)) (on_port p (drop n sent)))

-- what is under way behind so many, of which some are known
pub signals-behind : (p : PortNumber) (n known past : ℕ) (sent : List UnderWay) → known ≡ length (on_port p (take n sent)) →
    known ≤ past → drop (past - known) (on_port p (drop n sent)) ≡ drop past (on_port p sent)
signals-behind p n known past sent is few =
    let first = on_port p (take n sent) in
    let all : length first + (past - known) ≡ past = omega (arith, is, few) in
    sym (drop-append-add first (on_port p (drop n sent)) (past - known))
    ∙ ap (λ (k : ℕ). drop k (first ++ on_port p (drop n sent))) all ∙ sym (ap (drop past) (split p n sent))

-- there are no more signals than entries
pub few-on : (p : PortNumber) (sent : List UnderWay) → length (on_port p sent) ≤ length sent
few-on p [] = omega arith
few-on p (e ∷ sent) = go (has_port e.ports p) (few-on p sent)
  where
    go : (b : Bool) → length (on_port p sent) ≤ length sent →
        length (if b then record { signal = e.signal; age = e.age } ∷ on_port p sent else on_port p sent) ≤ suc (length sent)
    go true few = omega (arith, few)
    go false few = omega (arith, few)

-- where no entry is counted, or for no port, nothing is known
pub none-known : (t : Tally) (p : PortNumber) (sent : List UnderWay) → (t.entries ≡ 0) ⊎ (16 ≤ p) →
    0 ≡ length (on_port p (take t.entries sent))
none-known t p sent (inl none) = sym (ap (λ n. length (on_port p (take n sent))) none)
none-known t p sent (inr far) = sym (ap length (none-past p (take t.entries sent) far))

-- one port more is counted
pub count-more : (port n : ℕ) (counts : List ℕ) (sent : List UnderWay) → port < length counts → n ≡ length (on_port port sent) →
    ((p : ℕ) → p < port → slice_index counts p ≡ length (on_port p sent)) →
    (p : ℕ) → p < port + 1 → slice_index (slice_set counts port n) p ≡ length (on_port p sent)
count-more port n counts sent inside is before p less = elim (cases_eq p port) [
  | inl same ↦
      ap (slice_index (slice_set counts port n)) same ∙ get_or-set_same counts port n 0 inside ∙ is
      ∙ sym (ap (λ k. length (on_port k sent)) same)
  | inr ne ↦ get_or-set_other counts port p n 0 ne ∙ before p (omega (arith, less, ne))
]
