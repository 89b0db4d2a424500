-- The world that accepted commands make: each object with all that was ever put into it, whatever a desk has dropped since.
use Rattle.std.specs.Prelude.{ℕ, ◌+◌, ◌==◌, Bool, true, false, not, if◌then◌else◌, List, [], ◌∷◌, ◌++◌, map, filter, Option, None, Some, option_map, unwrap_or}
use Rattle.std.specs.Option.{option_map_or}
use Rattle.std.specs.List.{list_any}
use Rattle.point_core.specs.declared.entry.Entry.{Entry}
use Rattle.point_core.specs.Agreement.{as_entry, point_of, all_reached}
use Rattle.point_core.specs.Named.{is_named, has_named, named, without_named}
use Rattle.resv_core.specs.Resv.{entry_of}
use Rattle.dmabuf_core.specs.Flags.{exported, imported}
use Rattle.command_core.specs.declared.command.Command.{Command}
use Rattle.command_core.specs.declared.command.Command.TheVariants as command
use Rattle.timeline_core.specs.Timeline.{Timeline, new_timeline, context_of, reach_of, raised, shut}
use Rattle.timeline_core.specs.Sums.{Increment, increment}

-- a sync file, with all that was put into it. A file made of one point lists it whether or not it is signalled
pub record MadeFile : Type 0 where
  pub name : List ℕ
  pub put : List Entry
  pub is_one_point : Bool
  pub made_at : List ℕ

-- a buffer, with all that was put into it
pub record MadeBuffer : Type 0 where
  pub name : List ℕ
  pub put : List Entry

-- a pending watch: its cookie, all that had been put into its file when it was registered, and how many watches had been
-- registered before it
pub record MadeWatch : Type 0 where
  pub cookie : ℕ
  pub put : List Entry
  pub number : ℕ

-- the timelines, files, buffers and pending watches, each by the order of making, and how many watches were ever registered
pub record World : Type 0 where
  pub timelines : List Timeline
  pub files : List MadeFile
  pub buffers : List MadeBuffer
  pub watches : List MadeWatch
  pub watches_made : ℕ

abbrev pub empty_world : World
empty_world = record { timelines = []; files = []; buffers = []; watches = []; watches_made = 0 }

abbrev pub has_file : List MadeFile → List ℕ → Bool
has_file fs name = has_named (λ (f : MadeFile). f.name) fs name

abbrev pub file_named : List MadeFile → List ℕ → Option MadeFile
file_named fs name = named (λ (f : MadeFile). f.name) fs name

-- the files without the file of that name
abbrev pub files_without : List MadeFile → List ℕ → List MadeFile
files_without fs name = without_named (λ (f : MadeFile). f.name) fs name

-- all that was put into the file of that name
abbrev pub put_set : List MadeFile → List ℕ → List Entry
put_set fs name = unwrap_or (option_map (λ (f : MadeFile). f.put) (file_named fs name)) []

abbrev pub has_made_buffer : List MadeBuffer → List ℕ → Bool
has_made_buffer bs name = has_named (λ (b : MadeBuffer). b.name) bs name

abbrev pub buffer_named : List MadeBuffer → List ℕ → Option MadeBuffer
buffer_named bs name = named (λ (b : MadeBuffer). b.name) bs name

-- all that was put into the buffer of that name
abbrev pub buffer_put_set : List MadeBuffer → List ℕ → List Entry
buffer_put_set bs name = unwrap_or (option_map (λ (b : MadeBuffer). b.put) (buffer_named bs name)) []

abbrev pub buffer_of : List ℕ → List Entry → MadeBuffer
buffer_of name put = record { name = name; put = put }

-- the buffer, with more put into it
abbrev pub with_more : List Entry → MadeBuffer → MadeBuffer
with_more es b = buffer_of b.name (b.put ++ es)

-- the buffers, with more put into the one of that name
abbrev pub put_into : List MadeBuffer → List ℕ → List Entry → List MadeBuffer
put_into bs name es = map (λ (b : MadeBuffer). if is_named (λ (b : MadeBuffer). b.name) name b then with_more es b else b) bs

abbrev pub watch_made : ℕ → List Entry → ℕ → MadeWatch
watch_made cookie put number = record { cookie = cookie; put = put; number = number }

abbrev pub has_made_watch : List MadeWatch → ℕ → Bool
has_made_watch xs cookie = list_any (λ (x : MadeWatch). x.cookie == cookie) xs

-- the watches without the watch of that cookie
abbrev pub watches_without : List MadeWatch → ℕ → List MadeWatch
watches_without xs cookie = filter (λ (x : MadeWatch). not (x.cookie == cookie)) xs

-- all that had been put into its file is reached
abbrev pub is_due : List ℕ → MadeWatch → Bool
is_due reach x = all_reached reach 0 x.put

-- the values after the timeline of that name has risen by n
abbrev pub raised_reach : World → List ℕ → ℕ → List ℕ
raised_reach w name n = reach_of (raised w.timelines name n)

-- what is reached once the timeline of that name is closed
abbrev pub shut_reach : World → List ℕ → List ℕ
shut_reach w name = reach_of (shut w.timelines name)

-- the pending watches that are due at that reach, by registration
abbrev pub due_watches : World → List ℕ → List MadeWatch
due_watches w reach = filter (is_due reach) w.watches

-- the pending watches that are not due at that reach
abbrev pub other_watches : World → List ℕ → List MadeWatch
other_watches w reach = filter (λ x. not (is_due reach x)) w.watches

-- whether a pending watch is due at that reach
abbrev pub has_due_watch : World → List ℕ → Bool
has_due_watch w reach = list_any (is_due reach) w.watches

-- the pending watches that this increment fires
abbrev pub fired_watches : World → List ℕ → ℕ → List MadeWatch
fired_watches w name n = due_watches w (raised_reach w name n)

-- the pending watches that this closing fires
abbrev pub shut_watches : World → List ℕ → List MadeWatch
shut_watches w name = due_watches w (shut_reach w name)

-- what is reached once the command is accepted, if it raises a value or closes a timeline
abbrev pub reach_by : List Timeline → Command → Option (List ℕ)
reach_by ts (command.Timeline t) = None
reach_by ts (command.Inc t n) = Some (reach_of (raised ts t n))
reach_by ts (command.Value t) = None
reach_by ts (command.Shut t) = Some (reach_of (shut ts t))
reach_by ts (command.Fence f t p) = None
reach_by ts (command.Merge f a b) = None
reach_by ts (command.Close f) = None
reach_by ts (command.Wait f) = None
reach_by ts (command.Info f) = None
reach_by ts (command.Buffer b) = None
reach_by ts (command.Add b t p u) = None
reach_by ts (command.Import b f flags) = None
reach_by ts (command.Export f b flags) = None
reach_by ts (command.Test b u) = None
reach_by ts (command.Trim b) = None
reach_by ts (command.Watch f cookie) = None
reach_by ts (command.Unwatch cookie) = None
reach_by ts (command.Show b) = None
reach_by ts command.Report = None

-- the increment that the command makes
abbrev pub increment_in : Command → List Increment
increment_in (command.Timeline t) = []
increment_in (command.Inc t n) = increment t n ∷ []
increment_in (command.Value t) = []
increment_in (command.Shut t) = []
increment_in (command.Fence f t p) = []
increment_in (command.Merge f a b) = []
increment_in (command.Close f) = []
increment_in (command.Wait f) = []
increment_in (command.Info f) = []
increment_in (command.Buffer b) = []
increment_in (command.Add b t p u) = []
increment_in (command.Import b f flags) = []
increment_in (command.Export f b flags) = []
increment_in (command.Test b u) = []
increment_in (command.Trim b) = []
increment_in (command.Watch f cookie) = []
increment_in (command.Unwatch cookie) = []
increment_in (command.Show b) = []
increment_in command.Report = []

-- whether the command fires a watch
abbrev pub fires_some : World → Command → Bool
fires_some w c = option_map_or (has_due_watch w) (reach_by w.timelines c) false

abbrev pub cookies_of : List MadeWatch → List ℕ
cookies_of xs = map (λ (x : MadeWatch). x.cookie) xs

abbrev pub with_timeline : World → List ℕ → World
with_timeline w name = record w { timelines = w.timelines ++ new_timeline name ∷ [] }

-- the timeline of that name has risen by n, and the watches that this fires are no longer pending
abbrev pub with_raised : World → List ℕ → ℕ → World
with_raised w name n = record w { timelines = raised w.timelines name n; watches = other_watches w (raised_reach w name n) }

-- the timeline of that name is closed, and the watches that this fires are no longer pending
abbrev pub with_shut : World → List ℕ → World
with_shut w name = record w { timelines = shut w.timelines name; watches = other_watches w (shut_reach w name) }

abbrev pub with_file : World → List ℕ → List Entry → Bool → World
with_file w name put is_one_point = record w {
  files = w.files ++ record { name = name; put = put; is_one_point = is_one_point; made_at = reach_of w.timelines } ∷ [];
}

abbrev pub with_buffer : World → List ℕ → World
with_buffer w name = record w { buffers = w.buffers ++ buffer_of name [] ∷ [] }

abbrev pub with_put : World → List ℕ → List Entry → World
with_put w name es = record w { buffers = put_into w.buffers name es }

-- a watch keeps the put set, whatever becomes of the file and its name
abbrev pub with_watch : World → ℕ → List Entry → World
with_watch w cookie put = record w {
  watches = w.watches ++ watch_made cookie put w.watches_made ∷ [];
  watches_made = w.watches_made + 1;
}

-- the world after an accepted command
abbrev pub after : World → Command → World
after w (command.Timeline t) = with_timeline w t
after w (command.Inc t n) = with_raised w t n
after w (command.Value t) = w
after w (command.Shut t) = with_shut w t
after w (command.Fence f t p) = with_file w f (as_entry (point_of (context_of w.timelines t) p) ∷ []) true
after w (command.Merge f a b) = with_file w f (put_set w.files a ++ put_set w.files b) false
after w (command.Close f) = record w { files = files_without w.files f }
after w (command.Wait f) = w
after w (command.Info f) = w
after w (command.Buffer b) = with_buffer w b
after w (command.Add b t p u) = with_put w b (entry_of (point_of (context_of w.timelines t) p) u ∷ [])
after w (command.Import b f flags) = with_put w b (imported flags (put_set w.files f))
after w (command.Export f b flags) = with_file w f (exported flags (buffer_put_set w.buffers b)) false
after w (command.Test b u) = w
after w (command.Trim b) = w
after w (command.Watch f cookie) = with_watch w cookie (put_set w.files f)
after w (command.Unwatch cookie) = record w { watches = watches_without w.watches cookie }
after w (command.Show b) = w
after w command.Report = w
