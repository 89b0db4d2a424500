-- The word of each command, and the names that it makes, closes and looks up.
use Rattle.std.specs.Prelude.{ℕ, List, [], ◌∷◌, Option, None, Some, codes}
use Rattle.command_core.specs.declared.command.Command.{Command}
use Rattle.command_core.specs.declared.command.Command.TheVariants as command
use Rattle.command_core.specs.declared.command.Space.{Space}
use Rattle.command_core.specs.declared.command.Space.TheVariants.{Timeline, File, Buffer}

-- the first word of its line in a script
abbrev pub word_of : Command → List ℕ
word_of (command.Timeline t) = codes "timeline"
word_of (command.Inc t n) = codes "inc"
word_of (command.Value t) = codes "value"
word_of (command.Shut t) = codes "shut"
word_of (command.Fence f t p) = codes "fence"
word_of (command.Merge f a b) = codes "merge"
word_of (command.Close f) = codes "close"
word_of (command.Wait f) = codes "wait"
word_of (command.Info f) = codes "info"
word_of (command.Buffer b) = codes "buffer"
word_of (command.Add b t p u) = codes "add"
word_of (command.Import b f flags) = codes "import"
word_of (command.Export f b flags) = codes "export"
word_of (command.Test b u) = codes "test"
word_of (command.Trim b) = codes "trim"
word_of (command.Watch f cookie) = codes "watch"
word_of (command.Unwatch cookie) = codes "unwatch"
word_of (command.Show b) = codes "show"
word_of command.Report = codes "report"

-- the name that it makes if it is accepted; no other command makes one
abbrev pub made_by : Command → Option (Space × List ℕ)
made_by (command.Timeline t) = Some (Timeline, t)
made_by (command.Fence f t p) = Some (File, f)
made_by (command.Merge f a b) = Some (File, f)
made_by (command.Export f b flags) = Some (File, f)
made_by (command.Buffer b) = Some (Buffer, b)
made_by _ = None

-- the name that it closes if it is accepted; no other command closes one
abbrev pub closed_by : Command → Option (Space × List ℕ)
closed_by (command.Shut t) = Some (Timeline, t)
closed_by (command.Close f) = Some (File, f)
closed_by _ = None

abbrev pub none : List (Option (Space × List ℕ))
none = None ∷ None ∷ []

abbrev pub only : Space → List ℕ → List (Option (Space × List ℕ))
only space name = Some (space, name) ∷ None ∷ []

abbrev pub both : Space × List ℕ → Space × List ℕ → List (Option (Space × List ℕ))
both first second = Some first ∷ Some second ∷ []

-- the names that it looks up, at most two, in the order in which they are reported as missing
abbrev pub looked_up_by : Command → List (Option (Space × List ℕ))
looked_up_by (command.Timeline t) = none
looked_up_by (command.Inc t n) = only Timeline t
looked_up_by (command.Value t) = only Timeline t
looked_up_by (command.Shut t) = only Timeline t
looked_up_by (command.Fence f t p) = only Timeline t
looked_up_by (command.Merge f a b) = both (File, a) (File, b)
looked_up_by (command.Close f) = only File f
looked_up_by (command.Wait f) = only File f
looked_up_by (command.Info f) = only File f
looked_up_by (command.Buffer b) = none
looked_up_by (command.Add b t p u) = both (Buffer, b) (Timeline, t)
looked_up_by (command.Import b f flags) = both (Buffer, b) (File, f)
looked_up_by (command.Export f b flags) = only Buffer b
looked_up_by (command.Test b u) = only Buffer b
looked_up_by (command.Trim b) = only Buffer b
looked_up_by (command.Watch f cookie) = only File f
looked_up_by (command.Unwatch cookie) = none
looked_up_by (command.Show b) = only Buffer b
looked_up_by command.Report = none

-- the timeline that must be open for it; no other command needs one
abbrev pub needed_open_by : Command → Option (List ℕ)
needed_open_by (command.Inc t n) = Some t
needed_open_by (command.Shut t) = Some t
needed_open_by (command.Fence f t p) = Some t
needed_open_by _ = None
