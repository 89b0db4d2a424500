-- Whether output is coloured.
use Rattle.std.specs.Prelude.{ℕ, Bool, true, false, ◌&&◌, not, List, Option, Some, None, codes, if◌then◌else◌}
use Rattle.std.specs.Str.{bytes_eq}
use Rattle.fencectl_core.specs.declared.color.ColorChoice.{ColorChoice}
use Rattle.fencectl_core.specs.declared.color.ColorChoice.TheVariants.{Auto, Always, Never}

-- by itself output is coloured at a terminal, if the environment does not ask for plain text
abbrev pub is_on : ColorChoice → Bool → Bool → Bool
is_on Auto terminal plain = terminal && not plain
is_on Always terminal plain = true
is_on Never terminal plain = false

abbrev pub choice_named : List ℕ → Option ColorChoice
choice_named value =
    if bytes_eq value (codes "auto") then Some Auto
    else if bytes_eq value (codes "always") then Some Always
    else if bytes_eq value (codes "never") then Some Never
    else None
