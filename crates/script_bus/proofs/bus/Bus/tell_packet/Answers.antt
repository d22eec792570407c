use Rattle.std.proofs.Common.{◌++◌, ◌∙◌, ap}
use Rattle.script_lines.specs.declared.command.Command.{Command}
use Rattle.script_bus.proofs.bus.Bus.tell_packet.Goals as goal

pub returns-clause-written : goal.returns-clause-written
returns-clause-written g c =
    c.in_ok-seen.ensures.written
    ∙ ap (λ (packet : Command). g.L.Listener.written c.args.listener.now ++ g.L.Listener.voice.command c.args.self.now.world.turns packet) c.in_ok-packet.ensures
