-- Why a line stops, where what it told the world was refused.
use Rattle.cable_world.specs.declared.act.ActStop.{ActStop}
use Rattle.cable_world.specs.declared.act.ActStop.TheVariants as act
use Rattle.script_lines.specs.declared.kind.LineStop.{LineStop}
use Rattle.script_lines.specs.declared.kind.LineStop.TheVariants.{Fault, Memory}
use Rattle.script_lines.specs.Refusal.{kind_of}

abbrev pub of_act : ActStop → LineStop
of_act (act.Fault fault) = Fault (kind_of fault)
of_act (act.Memory error) = Memory error
