use Rattle.std.proofs.Common.{◌≡◌, List, ℕ, [], take, drop, length, ap, subst, length-append, rules, arith}
use Rattle.std.proofs.lemmas.List.{nil_from_length}
use Rattle.io_edges.specs.InMemory.{as_bytes}
use Rattle.io_edges.proofs.Bytes.{gives}
use Rattle.io_edges.proofs.memory.MemSourceSource.read.Goals as goal

pub returns-clause-bytes : goal.returns-clause-bytes
returns-clause-bytes c = (
  gives _ _ c.give.new.buf c.give.result c.type_inv.buf (search rules),
  λ none some.
      let all = c.deref-2.result.now in
      let short : length (drop c.self.inside.at all) ≡ 0 = omega (arith, none, some, c.give.ensures.count, c.give.ensures.len, c.self.invariant) in
      let gone : length (drop c.give.new.at all) ≡ 0 = omega (arith, short, ap length c.give.ensures.front, length-append (take c.give.result c.give.new.buf) (drop c.give.new.at all)) in
      ap as_bytes (subst (λ (xs : List ℕ). drop c.give.new.at xs ≡ []) c.deref-2.ensures.value (nil_from_length _ gone)),
)
