use Rattle.std.proofs.Common.{◌≡◌, ◌≢◌, ℕ, true, false, eqb, ◌/◌, ◌%◌, ◌^◌, List, [], ◌∷◌, ◌++◌, length, ap, sym, ◌∙◌}
use Rattle.self_id.specs.Node.{Node}
use Rattle.phy_packet.specs.Packet.{quad_of}
use Rattle.self_id.specs.Group.{eight_packet}
use Rattle.self_id.proofs.Sound.{Width, three, eleven, sixteen, nineteen, full, width_of}
use Rattle.self_id.proofs.Again.{group3, group11, group16, group19, group27}
use Rattle.self_id.proofs.writing.write_group.Goals as goal

one_push : (a b : List ℕ) (q x : ℕ) → a ≡ [] → b ≡ a ++ q ∷ [] → q ≡ x → b ≡ x ∷ []
one_push a b q x none push is = push ∙ ap (λ (l : List ℕ). l ++ q ∷ []) none ∙ ap (λ (k : ℕ). k ∷ []) is

next_push : (a b c : List ℕ) (q x : ℕ) → a ≡ c → b ≡ a ++ q ∷ [] → q ≡ x → b ≡ c ++ x ∷ []
next_push a b c q x so_far push is = push ∙ ap (λ (l : List ℕ). l ++ q ∷ []) so_far ∙ ap (λ (k : ℕ). c ++ k ∷ []) is

left : (k : ℕ) → Width k → k ≢ 3 → k ≢ 11 → k ≢ 16 → k ≢ 19 → k ≡ 27
left k (three e) a b c d = absurd (a e)
left k (eleven e) a b c d = absurd (b e)
left k (sixteen e) a b c d = absurd (c e)
left k (nineteen e) a b c d = absurd (d e)
left k (full e) a b c d = e

pub returns-then-slots-eq3 : goal.returns-then-slots-eq3
returns-then-slots-eq3 c =
    let same : length c.as_slice-slots.result.now ≡ length c.args.s.now.ports = ap length c.as_slice-slots.ensures.value ∙ ap (λ (n : Node). length n.ports) c.s.view_is in
    one_push _ _ _ _ c.requires.empty c.push.ensures c.zero_quad.ensures ∙ sym (group3 c.args.s.now c.args.id (sym same ∙ c.if-slots-eq3.true))

pub returns-then-slots-eq11 : goal.returns-then-slots-eq11
returns-then-slots-eq11 c =
    let same : length c.as_slice-slots.result.now ≡ length c.args.s.now.ports = ap length c.as_slice-slots.ensures.value ∙ ap (λ (n : Node). length n.ports) c.s.view_is in
    let zero = one_push _ _ _ _ c.requires.empty c.push-2.ensures c.zero_quad-2.ensures in
    next_push _ _ _ _ _ zero c.push-then-slots-eq11.ensures (c.eight_quad.ensures ∙ ap (λ (n : Node). quad_of (eight_packet c.args.s.now c.args.id 0 n.kept_a false)) c.s.view_is)
    ∙ sym (group11 c.args.s.now c.args.id (sym same ∙ c.if-slots-eq11.true))

pub returns-then-slots-eq16 : goal.returns-then-slots-eq16
returns-then-slots-eq16 c =
    let same : length c.as_slice-slots.result.now ≡ length c.args.s.now.ports = ap length c.as_slice-slots.ensures.value ∙ ap (λ (n : Node). length n.ports) c.s.view_is in
    let zero = one_push _ _ _ _ c.requires.empty c.push-2.ensures c.zero_quad-2.ensures in
    let first = next_push _ _ _ _ _ zero c.push-3.ensures (c.eight_quad-2.ensures ∙ ap (λ (n : Node). quad_of (eight_packet c.args.s.now c.args.id 0 n.kept_a true)) c.s.view_is) in
    next_push _ _ _ _ _ first c.push-then-slots-eq16.ensures c.five_quad.ensures ∙ sym (group16 c.args.s.now c.args.id (sym same ∙ c.if-slots-eq16.true))

pub returns-then-slots-eq19 : goal.returns-then-slots-eq19
returns-then-slots-eq19 c =
    let same : length c.as_slice-slots.result.now ≡ length c.args.s.now.ports = ap length c.as_slice-slots.ensures.value ∙ ap (λ (n : Node). length n.ports) c.s.view_is in
    let zero = one_push _ _ _ _ c.requires.empty c.push-2.ensures c.zero_quad-2.ensures in
    let first = next_push _ _ _ _ _ zero c.push-3.ensures (c.eight_quad-2.ensures ∙ ap (λ (n : Node). quad_of (eight_packet c.args.s.now c.args.id 0 n.kept_a true)) c.s.view_is) in
    next_push _ _ _ _ _ first c.push-then-slots-eq19.ensures (c.eight_quad-then-slots-eq19.ensures ∙ ap (λ (n : Node). quad_of (eight_packet c.args.s.now c.args.id 1 (n.kept_b / 2 ^ 4) false)) c.s.view_is)
    ∙ sym (group19 c.args.s.now c.args.id (sym same ∙ c.if-slots-eq19.true))

pub returns : goal.returns
returns c =
    let same : length c.as_slice-slots.result.now ≡ length c.args.s.now.ports = ap length c.as_slice-slots.ensures.value ∙ ap (λ (n : Node). length n.ports) c.s.view_is in
    let width : Width (length c.as_slice-slots.result.now) = rw c.as_slice-slots.ensures.value (width_of _ c.s.invariant.form) in
    let slots : length c.as_slice-slots.result.now ≡ 27 = left (length c.as_slice-slots.result.now) width c.if-slots-eq3.false c.if-slots-eq11.false c.if-slots-eq16.false c.if-slots-eq19.false in
    let zero = one_push _ _ _ _ c.requires.empty c.push-2.ensures c.zero_quad-2.ensures in
    let first = next_push _ _ _ _ _ zero c.push-3.ensures (c.eight_quad-2.ensures ∙ ap (λ (n : Node). quad_of (eight_packet c.args.s.now c.args.id 0 n.kept_a true)) c.s.view_is) in
    let second = next_push _ _ _ _ _ first c.push-4.ensures (c.eight_quad-3.ensures ∙ ap (λ (n : Node). quad_of (eight_packet c.args.s.now c.args.id 1 (n.kept_b / 2 ^ 4) true)) c.s.view_is) in
    next_push _ _ _ _ _ second c.push-5.ensures (c.eight_quad-4.ensures ∙ ap (λ (n : Node). quad_of (eight_packet c.args.s.now c.args.id 2 (n.kept_b / 2 % 2 ^ 3) (eqb (n.kept_b % 2) 1))) c.s.view_is)
    ∙ sym (group27 c.args.s.now c.args.id (sym same ∙ slots))
