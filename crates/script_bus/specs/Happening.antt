-- The commands in which something happens to the world, and nothing is printed.
use Rattle.std.specs.Prelude.{Bool, true, false}
use Rattle.script_lines.specs.declared.command.Command.{Command}
use Rattle.script_lines.specs.declared.command.Command.TheVariants.{Plug, Pull, Reset, Config, Hold, Turn}

abbrev pub happens : Command → Bool
happens (Plug a a_port b b_port) = true
happens (Pull name port) = true
happens (Reset name) = true
happens (Config name root_id gap) = true
happens (Hold name port turns) = true
happens (Turn count) = true
happens command = false
