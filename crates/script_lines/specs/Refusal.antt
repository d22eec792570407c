-- Which kind of fault a script has where cables refuse what its line asks.
use Rattle.cabling.specs.declared.cable.CableFault.{CableFault}
use Rattle.cabling.specs.declared.cable.CableFault.TheVariants as cable
use Rattle.script_lines.specs.declared.kind.Kind.{Kind}
use Rattle.script_lines.specs.declared.kind.Kind.TheVariants.{NoNode, NoPort, InUse, SameNode, NotPlugged}

abbrev pub kind_of : CableFault → Kind
kind_of (cable.NoNode end) = NoNode
kind_of (cable.NoPort end) = NoPort
kind_of (cable.InUse end) = InUse
kind_of (cable.SameNode node) = SameNode
kind_of (cable.NotPlugged end) = NotPlugged
