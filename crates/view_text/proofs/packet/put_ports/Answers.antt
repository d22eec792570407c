use Rattle.std.proofs.Common.{◌≡◌, ◌∙◌, ℕ, zero, suc, ◌-◌, ◌*◌, ◌/◌, ◌%◌, ◌^◌, ◌<◌, List, ◌++◌, refl, ap, sym, arith, append_assoc, append-nil}
use Rattle.view_text.specs.Packet.{port, ports}
use Rattle.view_text.proofs.packet.put_ports.Goals as goal

port_step : (k last bits : ℕ) → 0 < k →
    ports k last bits ≡ port (last - (k - 1)) (bits / 2 ^ (2 * (k - 1)) % 4) ++ ports (k - 1) last bits
port_step zero last bits lt = absurd (omega (arith, lt))
port_step (suc q) last bits lt = let e : suc q - 1 ≡ q = omega arith in rw e refl

push_step : (out new : List ℕ) (k last bits number status : ℕ) (whole : List ℕ) → 0 < k →
    number ≡ last - (k - 1) → status ≡ bits / 2 ^ (2 * (k - 1)) % 4 →
    new ≡ out ++ port number status → out ++ ports k last bits ≡ whole →
    new ++ ports (k - 1) last bits ≡ whole
push_step out new k last bits number status whole lt m s e h =
    rw (e, m, s, append_assoc out (port (last - (k - 1)) (bits / 2 ^ (2 * (k - 1)) % 4)) (ports (k - 1) last bits))
    (ap (λ xs. out ++ xs) (sym (port_step k last bits lt)) ∙ h)

pub loop-place-preserved : goal.loop-place-preserved
loop-place-preserved c =
    push_step c.loop-place.out.items c.put_port.new.out.items c.loop-place.place c.args.last c.args.bits c.saturating_sub.result _ _ c.loop-place-test.true
    c.saturating_sub.ensures refl c.in_ok-put_port.ensures c.loop-place.invariant

pub returns : goal.returns
returns c =
    let none : c.loop-place.place ≡ 0 = omega arith in
    sym (append-nil c.loop-place.out.items) ∙ ap (λ p. c.loop-place.out.items ++ ports p c.args.last c.args.bits) (sym none) ∙ c.loop-place.invariant
