use Rattle.convergence.proofs.loops.Cores.{core-shows, one-root, rooted-late, no-root-with-loop}
use Rattle.convergence.proofs.loops.Undecided.{after-turns}
use Rattle.convergence.proofs.laws.loops_stay_undecided.Goals as goal

pub returns-clause-core : goal.returns-clause-core
returns-clause-core c = λ w l a over set core. core-shows w l set (λ a b y h. over a b y) a core

pub returns-clause-one_root : goal.returns-clause-one_root
returns-clause-one_root c = λ w l over node set. one-root w l set (λ a b y h. over a b y) node

pub returns-clause-all_late : goal.returns-clause-all_late
returns-clause-all_late c = λ w l over node set root k x is h r. rooted-late w l set (λ a b y h. over a b y) node root is h r k x

pub returns-clause-no_root : goal.returns-clause-no_root
returns-clause-no_root c = λ w l a over node set core root k. no-root-with-loop w l set (λ a b y h. over a b y) a node core root k

pub returns-clause-after_turns : goal.returns-clause-after_turns
returns-clause-after_turns c = after-turns
