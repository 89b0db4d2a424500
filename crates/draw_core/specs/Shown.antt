-- The lines of a script that a drawing runs.
use Rattle.std.specs.Prelude.{nat_le, List, filter}
use Rattle.line_core.specs.declared.line.Line.{Line}
use Rattle.draw_core.specs.declared.window.Window.{Window}

-- the lines up to the window's last
abbrev pub lines_run : Window → List Line → List Line
lines_run window lines = filter (λ (l : Line). nat_le l.number window.last) lines
