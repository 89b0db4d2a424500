-- Worlds that no command tells apart, now or later.
use Rattle.std.specs.Prelude.{◌≡◌, ℕ, Bool, true, if◌then◌else◌, List, [], ◌∷◌, length, map, count_by, option_map, ⊤}
use Rattle.std.specs.Prelude.{Option}
use Rattle.std.specs.List.{AllZip}
use Rattle.point_core.specs.declared.entry.Point.{Point}
use Rattle.point_core.specs.Named.{is_named}
use Rattle.point_core.specs.Agreement.{AgreesAbove}
use Rattle.timeline_core.specs.Timeline.{reach_of}
use Rattle.command_core.specs.declared.command.Command.{Command}
use Rattle.command_core.specs.declared.command.Command.TheVariants as command
use Rattle.command_core.specs.declared.answer.Answer.{Answer}
use Rattle.desk_core.specs.theorem.World.{World, MadeFile, MadeBuffer, MadeWatch, after, file_named, put_set, buffer_put_set}
use Rattle.desk_core.specs.theorem.Answer.{answer_to, is_refused, listed_points}

-- the command asks `info` only of these files, and asks for no report, whose rows are in the order of making
abbrev pub AsksOnly : (List ℕ → Bool) → Command → Type 0
AsksOnly asked (command.Info f) = asked f ≡ true
AsksOnly asked command.Report = ⊥
AsksOnly asked _ = ⊤

-- how many files there are of a name
abbrev pub file_count : World → List ℕ → ℕ
file_count w name = count_by (is_named (λ (f : MadeFile). f.name) name) w.files

-- what `info` lists of the file of a name
abbrev pub listed : World → List ℕ → Option (List Point)
listed w name = option_map listed_points (file_named w.files name)

-- the same cookie, and the same points to come
pub record IsSameWatch (reach : List ℕ) (x y : MadeWatch) : Type 0 where
  pub cookie : x.cookie ≡ y.cookie
  pub put : AgreesAbove reach x.put y.put

-- The timelines are equal. The files have the same names, in any order; buffers and watches are in the same order. Each file, buffer
-- and watch has the same pending points: at each usage the same latest pending point of each context. A file that `info` may query
-- lists the same points.
pub record AreAlike (asked : List ℕ → Bool) (w v : World) : Type 0 where
  pub timelines : w.timelines ≡ v.timelines
  pub file_counts : (name : List ℕ) → file_count w name ≡ file_count v name
  pub files_made : length w.files ≡ length v.files
  pub files : (name : List ℕ) → AgreesAbove (reach_of w.timelines) (put_set w.files name) (put_set v.files name)
  pub lists : (name : List ℕ) → asked name ≡ true → listed w name ≡ listed v name
  pub buffer_names : map (λ (b : MadeBuffer). b.name) w.buffers ≡ map (λ (b : MadeBuffer). b.name) v.buffers
  pub buffers : (name : List ℕ) → AgreesAbove (reach_of w.timelines) (buffer_put_set w.buffers name) (buffer_put_set v.buffers name)
  pub watches : AllZip (IsSameWatch (reach_of w.timelines)) w.watches v.watches
  pub watches_made : w.watches_made ≡ v.watches_made

-- the world after a command, which has changed nothing if it was refused
abbrev pub after_answer : World → Command → World
after_answer w c = if is_refused (answer_to w c) then w else after w c

-- the answers to commands, one after another
abbrev pub answers_along : World → List Command → List Answer
answers_along w [] = []
answers_along w (c ∷ cs) = answer_to w c ∷ answers_along (after_answer w c) cs
