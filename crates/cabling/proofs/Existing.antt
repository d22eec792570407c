-- Each node of a cabling has a component, and each set of nodes has a core.
use Rattle.std.proofs.Common.{◌≡◌, ℕ, zero, suc, ◌+◌, ◌-◌, ◌*◌, ◌%◌, ◌^◌, ◌<◌, inl, inr, Option, Some, None, length, subst, refl, arith, bit_and, bit_or}
use Rattle.std.specs.Int.{bit_not, w64, trailing_zeros}
use Rattle.std.proofs.lemmas.Bool.{cases_lt}
use Rattle.cabling.specs.declared.cable.End.{End}
use Rattle.cabling.specs.Wiring.{Wiring, ports_of, far, IsCabling}
use Rattle.cabling.specs.NodeSet.{Holds, IsWithin}
use Rattle.cabling.specs.Looped.{IsLooped}
use Rattle.cabling.specs.Existence.{HasComponent, HasCore}
use Rattle.cabling.proofs.Bits.{below, none_of_zero, some_node, inserted, inserted-holds, inserted-others, inserted-small, removed-small, in_union, union-small, in_first, more_than}
use Rattle.cabling.proofs.Near.{end_at, small_far, Near, near_none, near_one, near_loose, near_all}
use Rattle.cabling.proofs.Growing.{Growing, growing_first, growing_next, growing_last}
use Rattle.cabling.proofs.Cascade.{weak_or_all, Less, less_by, less_within}
use Rattle.cabling.proofs.Stripping.{more_two}

-- ---- the neighbours of a node are a set

record NearSet (c : Wiring) (node ports : ℕ) : Type 0 where
  found : ℕ
  near : Near c node ports found
  small : found < 2 ^ 63

near_next : (c : Wiring) (node port : ℕ) (x : Option End) → IsCabling c →
    far c (end_at node port) ≡ x → NearSet c node port → NearSet c node (port + 1)
near_next c node port None is e n = record {
  found = n.found;
  near = near_loose c node port n.found e n.near;
  small = n.small;
}
near_next c node port (Some end) is e n =
    let inside : end.node < 63 = small_far c (end_at node port) end is e in
    let inside_64 : end.node < 64 = omega (arith, inside) in
    record {
      found = bit_or n.found (1 * 2 ^ end.node % 2 ^ 64);
      near = near_one c node port n.found (bit_or n.found (1 * 2 ^ end.node % 2 ^ 64)) end e n.near (inserted-holds n.found end.node inside_64) (inserted-others n.found end.node inside_64);
      small = inserted-small n.found end.node n.small inside;
    }

near_to : (c : Wiring) (node ports : ℕ) → IsCabling c → NearSet c node ports
near_to c node zero is = record { found = 0; near = near_none c node 0 refl; small = omega arith }
near_to c node (suc ports) is = subst (λ (n : ℕ). NearSet c node n) (omega arith) (near_next c node ports (far c (end_at node ports)) is refl (near_to c node ports is))

-- ---- a component grows until no node waits

-- one node more is done
record Grown (c : Wiring) (node done : ℕ) : Type 0 where
  done_after : ℕ
  waiting_after : ℕ
  growing : Growing c node done_after waiting_after
  small : done_after < 2 ^ 63
  small_waiting : waiting_after < 2 ^ 63
  smaller : 2 ^ 63 - done_after < 2 ^ 63 - done

grown : (c : Wiring) (node next done waiting : ℕ) → IsCabling c → Growing c node done waiting →
    Holds waiting next → done < 2 ^ 63 → waiting < 2 ^ 63 → Grown c node done
grown c node next done waiting is g h small small_waiting =
    let inside : next < 63 = below waiting next small_waiting h in
    let inside_64 : next < 64 = omega (arith, inside) in
    let n : NearSet c next (length (ports_of c next)) = near_to c next (length (ports_of c next)) is in
    let near : ℕ = n.found in
    let after : ℕ = bit_or done (1 * 2 ^ next % 2 ^ 64) in
    let both : ℕ = bit_or waiting near in
    let left : ℕ = bit_and both (bit_not w64 after) in
    let small_after : after < 2 ^ 63 = inserted-small done next small inside in
    let small_both : both < 2 ^ 63 = union-small waiting near small_waiting n.small in
    record {
      done_after = after;
      waiting_after = left;
      growing = growing_next c node next done waiting near both after left is g h (record {
        done_now = inserted-holds done next inside_64;
        done_others = inserted-others done next inside_64;
        near_is = near_all c next (length (ports_of c next)) near n.near (omega arith);
        both_is = in_union waiting near;
        after = λ x. in_first both after x small_both small_after;
      });
      small = small_after;
      small_waiting = removed-small both (bit_not w64 after) small_both;
      smaller = more_than done after next small_after (inserted done next inside_64 (g.apart next h));
    }

grow : (fuel : ℕ) (c : Wiring) (node done waiting : ℕ) → IsCabling c → Growing c node done waiting →
    done < 2 ^ 63 → waiting < 2 ^ 63 → 2 ^ 63 - done < fuel → HasComponent c node
grow zero c node done waiting is g small small_waiting less = absurd (omega (arith, less))
grow (suc fuel) c node done waiting is g small small_waiting less = elim (cases_lt 0 waiting) [
  | inr none ↦
      let zero_is : waiting ≡ 0 = omega (arith, none) in
      record {
        set = done;
        is = growing_last c node done waiting g (λ x h. none_of_zero x (subst (λ (n : ℕ). Holds n x) zero_is h));
        there = λ x h. g.exist x (inl h);
        small = small;
      }
  | inl some ↦
      let s : Grown c node done = grown c node (trailing_zeros w64 waiting) done waiting is g (some_node waiting some small_waiting) small small_waiting in
      grow fuel c node s.done_after s.waiting_after is s.growing s.small s.small_waiting (omega (arith, s.smaller, less))
]

pub component_exists : (c : Wiring) (node : ℕ) → IsCabling c → node < length c → HasComponent c node
component_exists c node is there =
    let inside : node < 63 = omega (arith, there, is.few_nodes) in
    let inside_64 : node < 64 = omega (arith, inside) in
    let zero_small : 0 < 2 ^ 63 = omega arith in
    let first : ℕ = bit_or 0 (1 * 2 ^ node % 2 ^ 64) in
    grow (suc (2 ^ 63)) c node 0 first is
    (growing_first c node 0 first there refl (inserted-holds 0 node inside_64) (inserted-others 0 node inside_64))
    zero_small (inserted-small 0 node zero_small inside) (omega arith)

-- ---- a core is what is left where nodes with fewer than two cables into the rest were taken away

strip : (fuel : ℕ) (c : Wiring) (set core : ℕ) → core < fuel → core < 2 ^ 63 → IsWithin core set →
    ((part : ℕ) → IsWithin part set → IsLooped c part → IsWithin part core) → HasCore c set
strip zero c set core less small within kept = absurd (omega (arith, less))
strip (suc fuel) c set core less small within kept = elim (weak_or_all c core 63 small) [
  | inr all ↦
      let looped : IsLooped c core = λ x h. all x h (λ same. omega (arith, same, below core x small h)) in
      record {
        core = core;
        is = λ node. (λ h. (core, within, looped, h), λ p. kept p.0 p.1 p.2 node p.3);
        small = small;
      }
  | inl found ↦
      let rest = less_by core found.0 small found.1.here in
      let l : Less core found.0 rest.0 = rest.1 in
      strip fuel c set rest.0 (omega (arith, l.value, less)) l.small
      (λ x h. within x (less_within core found.0 rest.0 l x h))
      (λ part inside looped x h. (l.others x (λ same. found.1.weak (more_two c part core found.0 (kept part inside looped) (looped found.0 (subst (λ (n : ℕ). Holds part n) same h))))).1 (kept part inside looped x h))
]

pub core_exists : (c : Wiring) (set : ℕ) → set < 2 ^ 63 → HasCore c set
core_exists c set small = strip (suc set) c set set (omega arith) small (λ x h. h) (λ part within looped. within)
