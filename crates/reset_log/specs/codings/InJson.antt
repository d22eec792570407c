-- What holds of the form for programs alone. No public contract cites this file.
use Rattle.reset_list.specs.declared.form.LogForm.{LogForm}
use Rattle.reset_list.specs.declared.form.LogForm.TheVariants.{Text, Short, Json}

-- this holds, where lines of JSON are asked for
abbrev pub IfJson : LogForm → Type 0 → Type 0
IfJson (Text standard) P = Unit {0}
IfJson (Short standard) P = Unit {0}
IfJson (Json standard) P = P
