-- Which forms read an input. No public contract cites this file.
use Rattle.std.specs.Prelude.{◌≤◌}
use Rattle.bus_view.specs.declared.form.ViewForm.{ViewForm}
use Rattle.bus_view.specs.declared.form.ViewForm.TheVariants.{Capture, Trace, Waves, DotRun, JsonRun, Script, ListOf, Explain, Resets, Nosy, OfItself}

-- the whole input is read with this form before anything is written
abbrev pub IsReadWhole : ViewForm → Type 0
IsReadWhole (Capture view standard) = Unit {0}
IsReadWhole Trace = Unit {0}
IsReadWhole Waves = Unit {0}
IsReadWhole DotRun = Unit {0}
IsReadWhole JsonRun = Unit {0}
IsReadWhole (Explain form) = Unit {0}
IsReadWhole (Script nodes seed) = ⊥
IsReadWhole (ListOf name) = Unit {0}
IsReadWhole (Resets form) = ⊥
IsReadWhole (Nosy form) = ⊥
IsReadWhole (OfItself about) = ⊥

-- the form is answered by a text that is made before anything is written, and where it asks for nodes, for
-- 1 to 63
abbrev pub IsHeld : ViewForm → Type 0
IsHeld (Capture view standard) = Unit {0}
IsHeld Trace = Unit {0}
IsHeld Waves = Unit {0}
IsHeld DotRun = Unit {0}
IsHeld JsonRun = Unit {0}
IsHeld (Explain form) = Unit {0}
IsHeld (Script nodes seed) = (1 ≤ nodes) × (nodes ≤ 63)
IsHeld (ListOf name) = Unit {0}
IsHeld (Resets form) = ⊥
IsHeld (Nosy form) = ⊥
IsHeld (OfItself about) = Unit {0}
