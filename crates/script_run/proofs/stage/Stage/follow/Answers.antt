use Rattle.std.proofs.Common.{refl}
use Rattle.script_run.proofs.Answering.{ok-all}
use Rattle.script_run.proofs.SlowClocks.{clock-unheard, on-ok}
use Rattle.script_run.proofs.stage.Stage.follow.Goals as goal

pub returns-in-Node-clause-done : goal.returns-in-Node-clause-done
returns-in-Node-clause-done g c =
    rw c.in-Node.is (ok-all _ _ (λ words did. (words.items, refl, did)) c.declare.result c.declare.ensures.done)

pub returns-in-Delay-clause-done : goal.returns-in-Delay-clause-done
returns-in-Delay-clause-done g c =
    rw c.in-Delay.is (ok-all _ _ (λ words did. (words.items, refl, did)) c.say_delay.result c.say_delay.ensures.done)

pub returns-in-Times-clause-done : goal.returns-in-Times-clause-done
returns-in-Times-clause-done g c =
    rw c.in-Times.is (ok-all _ _ (λ words did. (words.items, refl, did)) c.say_times.result c.say_times.ensures.done)

pub returns-in-Clock-clause-done : goal.returns-in-Clock-clause-done
returns-in-Clock-clause-done g c =
    rw c.in-Clock.is (ok-all _ _ (λ words did. (words.items, refl, did)) c.slow.result c.slow.ensures.done)

pub returns-in-Clock-clause-heard : goal.returns-in-Clock-clause-heard
returns-in-Clock-clause-heard g c =
    rw c.in-Clock.is (on-ok _ c.slow.result
    (clock-unheard g.L.Listener.voice c.args.self.now c.in-Clock.name c.in-Clock.ppm c.in-Clock.first c.slow.new.self (g.L.Listener.written c.args.listener.now)))
