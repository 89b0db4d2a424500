-- Worlds that are alike answer alike.
use Rattle.std.proofs.Common.{◌≡◌, ℕ, ◌+◌, Bool, true, false, ◌&&◌, ◌||◌, cond, nat_lt, nat_eq, refl, sym, ap, ◌∙◌, List, [], ◌∷◌, length, map, Option, None, Some, option_map, unwrap_or, arith, filter, count_by}
use Rattle.std.specs.List.{list_any, AllZip}
use Rattle.std.proofs.lemmas.List.Sums.{sum_by-cons}
use Rattle.std.proofs.lemmas.Bool.{lt-ltb}
use Rattle.std.proofs.lemmas.Slice.Zip.{AllZip-long}
use Rattle.point_core.specs.declared.entry.Entry.{Entry}
use Rattle.point_core.specs.Agreement.{AgreesAbove, all_reached}
use Rattle.point_core.specs.Named.{is_named}
use Rattle.point_core.specs.Reach.{IsAtLeast}
use Rattle.point_core.specs.Usage.{usage_number}
use Rattle.point_core.proofs.Agreement.{AgreesAbove-later, AgreesAbove-sym, listing-AgreesAbove}
use Rattle.point_core.proofs.Named.{has_named-same_names, length-same_names}
use Rattle.point_core.proofs.Reached.{all_reached-AgreesAbove}
use Rattle.resv_core.specs.Resv.{rows_of}
use Rattle.timeline_core.specs.Timeline.{reach_of, value_of}
use Rattle.command_core.specs.declared.command.Command.{Command}
use Rattle.command_core.specs.declared.command.Command.TheVariants as command
use Rattle.command_core.specs.declared.answer.Answer.TheVariants as answer
use Rattle.desk_core.specs.theorem.World.{World, MadeFile, MadeBuffer, MadeWatch, has_file, file_named, put_set, has_made_buffer, has_made_watch, is_due, cookies_of, raised_reach, shut_reach}
use Rattle.desk_core.specs.theorem.Answer.{answer_to, causes, first_of, reported, refused_or, is_signalled, is_full, listed_points, info_reported, number_if, show_row}
use Rattle.desk_core.specs.Sound.{IsSound}
use Rattle.desk_core.proofs.Sound.{IsAtLeast-raised, IsAtLeast-shut}
use Rattle.explore_core.specs.Alike.{AsksOnly, AreAlike, IsSameWatch}

any_if : (b any : Bool) (n : ℕ) → any ≡ nat_lt 0 n → (b || any) ≡ nat_lt 0 (cond b 1 0 + n)
any_if true any n is = sym (lt-ltb 0 (1 + n) (omega arith))
any_if false any n is = is ∙ ap (nat_lt 0) (omega arith)

-- there is one exactly if they count more than none
list_any-count : {X : Type 0} (p : X → Bool) (xs : List X) → list_any p xs ≡ nat_lt 0 (count_by p xs)
list_any-count p [] = refl
list_any-count p (x ∷ xs) = any_if (p x) (list_any p xs) (count_by p xs) (list_any-count p xs) ∙ ap (nat_lt 0) (sym (sum_by-cons (λ y. cond (p y) 1 0) x xs))

module _ {asked : List ℕ → Bool} {w v : World} (a : AreAlike asked w v) where
  pub same_has_file : (name : List ℕ) → has_file w.files name ≡ has_file v.files name
  same_has_file name =
      list_any-count (is_named (λ (f : MadeFile). f.name) name) w.files
      ∙ ap (nat_lt 0) (a.file_counts name)
      ∙ sym (list_any-count (is_named (λ (f : MadeFile). f.name) name) v.files)

  pub same_has_buffer : (name : List ℕ) → has_made_buffer w.buffers name ≡ has_made_buffer v.buffers name
  same_has_buffer name = has_named-same_names (λ (b : MadeBuffer). b.name) (λ (b : MadeBuffer). b.name) w.buffers v.buffers name a.buffer_names

  pub same_length_buffers : length w.buffers ≡ length v.buffers
  same_length_buffers = length-same_names (λ (b : MadeBuffer). b.name) (λ (b : MadeBuffer). b.name) w.buffers v.buffers a.buffer_names

  -- what is reached of a file
  pub same_reached : (name : List ℕ) → all_reached (reach_of w.timelines) 0 (put_set w.files name) ≡ all_reached (reach_of w.timelines) 0 (put_set v.files name)
  same_reached name = all_reached-AgreesAbove 0 (a.files name) (AgreesAbove-sym (a.files name))

  pub same_signalled : (name : List ℕ) → is_signalled w name ≡ is_signalled v name
  same_signalled name =
      ap (λ b. b && all_reached (reach_of w.timelines) 0 (put_set w.files name)) (same_has_file name)
      ∙ ap (λ b. has_file v.files name && b) (same_reached name)
      ∙ ap (λ ts. has_file v.files name && all_reached (reach_of ts) 0 (put_set v.files name)) a.timelines

-- watches

has_watch-same : (reach : List ℕ) (cookie : ℕ) (xs ys : List MadeWatch) → AllZip (IsSameWatch reach) xs ys → has_made_watch xs cookie ≡ has_made_watch ys cookie
has_watch-same reach cookie [] [] h = refl
has_watch-same reach cookie [] (y ∷ ys) h = absurd h
has_watch-same reach cookie (x ∷ xs) [] h = absurd h
has_watch-same reach cookie (x ∷ xs) (y ∷ ys) h =
    ap (λ k. nat_eq k cookie || has_made_watch xs cookie) h.0.cookie
    ∙ ap (λ b. nat_eq y.cookie cookie || b) (has_watch-same reach cookie xs ys h.1)

pub is_due-same : {reach later : List ℕ} (x y : MadeWatch) → IsAtLeast later reach → IsSameWatch reach x y → is_due later x ≡ is_due later y
is_due-same x y rises h =
    let agree = AgreesAbove-later rises h.put in
    all_reached-AgreesAbove 0 agree (AgreesAbove-sym agree)

cookies_by : (s t : Bool) (x y : MadeWatch) (xs ys : List MadeWatch) → s ≡ t → x.cookie ≡ y.cookie → cookies_of xs ≡ cookies_of ys → cookies_of (cond s (x ∷ xs) xs) ≡ cookies_of (cond t (y ∷ ys) ys)
cookies_by true true x y xs ys e is rest = cc
cookies_by false false x y xs ys e is rest = rest
cookies_by true false x y xs ys e is rest = absurd (cc)
cookies_by false true x y xs ys e is rest = absurd (cc)

fired-same : {reach : List ℕ} (later : List ℕ) (xs ys : List MadeWatch) → IsAtLeast later reach → AllZip (IsSameWatch reach) xs ys → cookies_of (filter (is_due later) xs) ≡ cookies_of (filter (is_due later) ys)
fired-same later [] [] rises h = refl
fired-same later [] (y ∷ ys) rises h = absurd h
fired-same later (x ∷ xs) [] rises h = absurd h
fired-same later (x ∷ xs) (y ∷ ys) rises h =
    cookies_by (is_due later x) (is_due later y) x y (filter (is_due later) xs) (filter (is_due later) ys) (is_due-same x y rises h.0) h.0.cookie (fired-same later xs ys rises h.1)

-- the rows of a buffer
rows_of-same : {reach : List ℕ} {es fs : List Entry} → AgreesAbove reach es fs → rows_of es reach ≡ rows_of fs reach
rows_of-same agree = rw (listing-AgreesAbove 0 agree, listing-AgreesAbove 1 agree, listing-AgreesAbove 2 agree, listing-AgreesAbove 3 agree) refl

module _ {asked : List ℕ → Bool} {w v : World} (a : AreAlike asked w v) where
  pub same_full : is_full w ≡ is_full v
  same_full = rw (sym (AllZip-long (IsSameWatch (reach_of w.timelines)) w.watches v.watches a.watches), a.watches_made) refl

  pub same_causes : (c : Command) → causes w c ≡ causes v c
  same_causes (command.Timeline t) = rw a.timelines refl
  same_causes (command.Inc t n) = rw a.timelines refl
  same_causes (command.Value t) = rw a.timelines refl
  same_causes (command.Shut t) = rw a.timelines refl
  same_causes (command.Fence f t p) = rw (a.timelines, same_has_file a f, a.files_made) refl
  same_causes (command.Merge f x y) = rw (same_has_file a f, same_has_file a x, same_has_file a y, a.files_made) refl
  same_causes (command.Close f) = rw (same_has_file a f) refl
  same_causes (command.Wait f) = rw (same_signalled a f, same_has_file a f) refl
  same_causes (command.Info f) = rw (same_has_file a f) refl
  same_causes (command.Buffer b) = rw (same_has_buffer a b, same_length_buffers a) refl
  same_causes (command.Add b t p u) = rw (same_has_buffer a b, a.timelines) refl
  same_causes (command.Import b f flags) = rw (same_has_buffer a b, same_has_file a f) refl
  same_causes (command.Export f b flags) = rw (same_has_buffer a b, same_has_file a f, a.files_made) refl
  same_causes (command.Test b u) = rw (same_has_buffer a b) refl
  same_causes (command.Trim b) = rw (same_has_buffer a b) refl
  same_causes (command.Watch f cookie) = rw (same_signalled a f, same_has_file a f, has_watch-same (reach_of w.timelines) cookie w.watches v.watches a.watches, same_full) refl
  same_causes (command.Unwatch cookie) = refl
  same_causes (command.Show b) = rw (same_has_buffer a b) refl
  same_causes command.Report = refl

  abbrev put_in : Option MadeFile → List Entry
  put_in o = unwrap_or (option_map (λ (f : MadeFile). f.put) o) []

  -- what is reported of a file that is asked for it
  same_info : (name : List ℕ) (f g : Option MadeFile) → f ≡ file_named w.files name → g ≡ file_named v.files name → option_map listed_points f ≡ option_map listed_points g → info_reported w name f ≡ info_reported v name g
  same_info name None None is is' same = refl
  same_info name None (Some g) is is' same = absurd (cc)
  same_info name (Some f) None is is' same = absurd (cc)
  same_info name (Some f) (Some g) is is' same =
      let points : listed_points f ≡ listed_points g = cc in
      let put : all_reached (reach_of w.timelines) 0 f.put ≡ all_reached (reach_of w.timelines) 0 g.put =
      ap (λ o. all_reached (reach_of w.timelines) 0 (put_in o)) is ∙ same_reached a name ∙ ap (λ o. all_reached (reach_of w.timelines) 0 (put_in o)) (sym is') in
      rw (put, points, a.timelines) refl

  pub same_reported : (c : Command) → AsksOnly asked c → IsSound w → reported w c ≡ reported v c
  same_reported (command.Timeline t) asks sound = rw a.timelines refl
  same_reported (command.Inc t n) asks sound =
      ap (answer.Raised (value_of w.timelines t + n)) (fired-same (raised_reach w t n) w.watches v.watches (IsAtLeast-raised w.timelines t n) a.watches) ∙ rw a.timelines refl
  same_reported (command.Value t) asks sound = rw a.timelines refl
  same_reported (command.Shut t) asks sound =
      ap (answer.Raised (value_of w.timelines t)) (fired-same (shut_reach w t) w.watches v.watches (IsAtLeast-shut w.timelines t sound.values) a.watches) ∙ rw a.timelines refl
  same_reported (command.Info f) asks sound = same_info f (file_named w.files f) (file_named v.files f) refl refl (a.lists f asks)
  same_reported (command.Test b u) asks sound =
      ap (λ r. answer.Value (number_if r)) (all_reached-AgreesAbove (usage_number u) (a.buffers b) (AgreesAbove-sym (a.buffers b))) ∙ rw a.timelines refl
  same_reported (command.Unwatch cookie) asks sound = rw (has_watch-same (reach_of w.timelines) cookie w.watches v.watches a.watches) refl
  same_reported (command.Show b) asks sound =
      ap (λ rows. answer.Show (map (show_row w.timelines) rows)) (rows_of-same (a.buffers b)) ∙ rw a.timelines refl
  same_reported command.Report asks sound = absurd asks
  same_reported _ asks sound = refl

  pub same_answer : (c : Command) → AsksOnly asked c → IsSound w → answer_to w c ≡ answer_to v c
  same_answer c asks sound =
      ap (λ cs. refused_or (first_of cs) (reported w c)) (same_causes c)
      ∙ ap (refused_or (first_of (causes v c))) (same_reported c asks sound)
