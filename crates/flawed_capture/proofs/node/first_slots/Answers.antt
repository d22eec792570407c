use Rattle.std.proofs.Common.{◌≡◌, ◌-◌, ℕ, ap, subst, ◌∙◌, refl, arith}
use Rattle.flawed_capture.specs.SeededNode.{Slots, first_slots}
use Rattle.flawed_capture.proofs.Seeded.{one_slot, slots_more}
use Rattle.flawed_capture.proofs.node.first_slots.Goals as goal

pub loop-slot-init : goal.loop-slot-init
loop-slot-init c = record { slots = c.new-slots.ensures.items; links = refl; words = refl }

pub loop-slot-preserved : goal.loop-slot-preserved
loop-slot-preserved c =
    let before = first_slots c.args.ports c.args.start c.args.words.now c.loop-slot.slot in
    let status_is = rw (c.saturating_sub.ensures, c.next_word.ensures.word) at c.next_status-status.ensures.status in
    let links_are = rw (c.saturating_sub.ensures, c.next_word.ensures.word) at c.next_status-status.ensures.links in
    let more = one_slot (c.args.ports - c.loop-slot.slot) c.loop-slot.links c.next_status-status.new.self
    c.loop-slot.words c.next_word.new.words c.next_status-status.result c.loop-slot.slots.items c.push.new.self.items before
    c.loop-slot.invariant.slots c.loop-slot.invariant.links c.loop-slot.invariant.words
    status_is links_are c.next_word.ensures.rest c.in_ok-push.ensures.items in
    let next = slots_more c.args.ports c.args.start c.args.words.now c.loop-slot.slot in
    record {
      slots = more.0 ∙ ap (λ (m : Slots). m.slots) next;
      links = more.1 ∙ ap (λ (m : Slots). m.links) next;
      words = more.2 ∙ ap (λ (m : Slots). m.words) next;
    }

pub returns-clause-slots : goal.returns-clause-slots
returns-clause-slots c =
    let done : c.loop-slot.slot ≡ c.args.count = omega (arith, c.loop-slot-test.false, c.loop-slot.auto.slot-end) in
    subst (λ (n : ℕ). c.loop-slot.slots.items ≡ (first_slots c.args.ports c.args.start c.args.words.now n).slots) done c.loop-slot.invariant.slots

pub returns-clause-words : goal.returns-clause-words
returns-clause-words c =
    let done : c.loop-slot.slot ≡ c.args.count = omega (arith, c.loop-slot-test.false, c.loop-slot.auto.slot-end) in
    subst (λ (n : ℕ). c.loop-slot.words ≡ (first_slots c.args.ports c.args.start c.args.words.now n).words) done c.loop-slot.invariant.words
