-- What is pending at a desk is within bounds that allow it.
use Rattle.std.proofs.Common.{◌≡◌, ◌⊎◌, ℕ, ◌-◌, ◌<◌, ◌≤◌, Bool, true, false, refl, sym, ap, ◌∙◌, subst, List, [], ◌++◌, length, Option, None, Some, option_map, unwrap_or, is_some, slice_get, inl, inr, arith, Contains, true≢false}
use Rattle.std.specs.Prelude.{All}
use Rattle.std.specs.List.{list_all, position_from}
use Rattle.std.proofs.lemmas.Bool.{cases_Bool, cases_lt, false≢true, leb-true}
use Rattle.std.proofs.lemmas.List.Elements.{All-contains, Contains-append_left, Contains-append_right}
use Rattle.std.proofs.lemmas.Map.Made.{is_some-lookup}
use Rattle.point_core.specs.declared.context.TheConstants.{CONTEXTS}
use Rattle.point_core.specs.declared.entry.Entry.{Entry}
use Rattle.point_core.specs.declared.entry.Point.{Point}
use Rattle.point_core.specs.declared.entry.Usage.{Usage}
use Rattle.point_core.specs.declared.entry.Usage.TheVariants.{Kernel, Write, Read, Bookkeep}
use Rattle.point_core.specs.Agreement.{as_entry, as_entries, listing, top}
use Rattle.point_core.specs.Latest.{raised_to}
use Rattle.point_core.specs.Named.{same_name}
use Rattle.point_core.specs.Reach.{is_reached, value_at}
use Rattle.point_core.specs.Usage.{usage_number}
use Rattle.point_core.proofs.Agreement.{AgreesAbove-raised, raised_to-pending, raised_to-top-above, top-listing}
use Rattle.point_core.proofs.Named.{has_named-names, is_some-named}
use Rattle.timeline_core.specs.Timeline.{Timeline, context_of, is_named, name_at, reach_of}
use Rattle.timeline_core.proofs.Places.{context_of-place, name-place}
use Rattle.syncfile_core.specs.SyncFile.{File, file_at, file_name}
use Rattle.syncfile_core.specs.Files.{has_file as has_kept_file, names_of as file_names}
use Rattle.syncfile_core.proofs.Kept.{list_all-fails}
use Rattle.resv_core.specs.Resv.{Reservation, row_of, rows_at, rows_of as table_rows}
use Rattle.dmabuf_core.specs.Buffers.{entries_of, has_buffer, table_at, names_of as buffer_names}
use Rattle.command_core.specs.declared.command.Command.{Command}
use Rattle.desk_core.specs.Keeping.{points_at}
use Rattle.desk_core.specs.Sound.{IsFilePoint, IsOfMade, IsSound}
use Rattle.desk_core.specs.theorem.Desk.{DeskState, HasHistory}
use Rattle.desk_core.specs.theorem.History.{world_of}
use Rattle.desk_core.specs.theorem.World.{World, buffer_put_set, put_set}
use Rattle.desk_core.proofs.Answering.{Keeps-stands}
use Rattle.desk_core.proofs.Buffers.{buffer_put_set-All}
use Rattle.desk_core.proofs.Keeping.{AgreesAbove-keeps, put_set-made}
use Rattle.explore_core.specs.Flow.{allows_buffer, allows_context, allows_file, allows_name, allows_point, allows_row}
use Rattle.explore_core.specs.Independence.{AreReached, Bounds, IsWithin}
use Rattle.explore_core.proofs.Flowing.{no-place}
use Rattle.explore_core.proofs.Settling.{later-one}
use Rattle.explore_core.proofs.Showing.{Contains-map, Contains-unmap, listed-Contains, or-cases}

all-there : {X : Type 0} (p : X → Bool) (xs : List X) (x : X) → list_all p xs ≡ true → Contains xs x → p x ≡ true
all-there p xs x all among = elim (cases_Bool (p x)) [
  | inl is ↦ is
  | inr isnt ↦ absurd (false≢true (sym (list_all-fails p xs among.0 x among.1 (sym among.2) isnt) ∙ all))
]

-- names of contexts

named-context : (ts : List Timeline) (name : List ℕ) → 1 ≤ context_of ts name → name_at ts (context_of ts name) ≡ Some name
named-context ts name low = by (position_from (is_named name) 0 ts) refl
  where
    by : (o : Option ℕ) → position_from (is_named name) 0 ts ≡ o → name_at ts (context_of ts name) ≡ Some name
    by None is =
        let none = no-place ts name is in
        absurd (omega (arith, none, low))
    by (Some k) is =
        let next = context_of-place ts name k is in
        let at : context_of ts name - 1 ≡ k = omega (arith, next) in
        ap (λ i. option_map (λ (t : Timeline). t.name) (slice_get ts i)) at ∙ name-place ts name k is

-- the context's timeline is allowed
is-allowed : (ts : List Timeline) (allows : List ℕ → Bool) (name : List ℕ) (ctx : ℕ) → 1 ≤ context_of ts name → ctx ≡ context_of ts name → allows_context ts allows ctx ≡ true → allows name ≡ true
is-allowed ts allows name ctx low of is = sym (ap (allows_name allows) (ap (name_at ts) of ∙ named-context ts name low)) ∙ is

-- a pending point that is allowed is of an allowed timeline
point-allowed : (ts : List Timeline) (allows : List ℕ → Bool) (name : List ℕ) (p : Point) → 1 ≤ context_of ts name → p.ctx ≡ context_of ts name → value_at (reach_of ts) (context_of ts name) < p.value
    → allows_point ts allows p ≡ true → allows name ≡ true
point-allowed ts allows name p low of above is = elim (or-cases (is_reached (reach_of ts) p) (allows_context ts allows p.ctx) is) [
  | inl reached ↦
      let below : p.value ≤ value_at (reach_of ts) (context_of ts name) = subst (λ c. p.value ≤ value_at (reach_of ts) c) of (leb-true p.value (value_at (reach_of ts) p.ctx) reached) in
      absurd (omega (arith, below, above))
  | inr allowed ↦ is-allowed ts allows name p.ctx low of allowed
]

-- a point of the context that is later than that value
later-point : (ps : List Point) (ctx floor value : ℕ) → floor < value → value ≤ raised_to floor (top (as_entries ps) 0 ctx) → (p : Point) × Contains ps p × (p.ctx ≡ ctx) × (floor < p.value)
later-point ps ctx floor value above high =
    let put = later-one (as_entries ps) ctx floor value (top (as_entries ps) 0 ctx) refl above high in
    of put.0 put.2 put.3 (Contains-unmap as_entry ps put.0 put.1)
  where
    of : (e : Entry) → e.point.ctx ≡ ctx → floor < e.point.value → (p : Point) × Contains ps p × (as_entry p ≡ e) → (p : Point) × Contains ps p × (p.ctx ≡ ctx) × (floor < p.value)
    of e at over found = (found.0, found.1, ap (λ (x : Entry). x.point.ctx) found.2 ∙ at, subst (λ (x : Entry). floor < x.point.value) (sym found.2) over)

-- files and buffers that the desk has, and others

nothing-listed : (o : Option (List Point)) → is_some o ≡ false → unwrap_or o [] ≡ []
nothing-listed None is = refl
nothing-listed (Some ps) is = absurd (true≢false is)

no-entries : (o : Option Reservation) → is_some o ≡ false → unwrap_or (option_map (λ (t : Reservation). t.entries) o) [] ≡ []
no-entries None is = refl
no-entries (Some t) is = absurd (true≢false is)

mapped : (o : Option File) → is_some (option_map (λ (f : File). f.points) o) ≡ is_some o
mapped None = refl
mapped (Some f) = refl

weak : (u : Usage) → usage_number u ≤ 3
weak Kernel = omega arith
weak Write = omega arith
weak Read = omega arith
weak Bookkeep = omega arith

in-rows : (es : List Entry) (reach : List ℕ) (p : Point) → Contains (listing es 3 reach) p → Contains (table_rows es reach) (row_of Bookkeep p)
in-rows es reach p there =
    let k = rows_at es reach Kernel in
    let w = rows_at es reach Write in
    let r = rows_at es reach Read in
    let b = rows_at es reach Bookkeep in
    let last : Contains b (row_of Bookkeep p) = Contains-map (row_of Bookkeep) (listing es 3 reach) p there in
    Contains-append_right k (w ++ (r ++ (b ++ []))) (row_of Bookkeep p)
    (Contains-append_right w (r ++ (b ++ [])) (row_of Bookkeep p)
    (Contains-append_right r (b ++ []) (row_of Bookkeep p) (Contains-append_left b [] (row_of Bookkeep p) last)))

module _ {desk : DeskState} {history : List Command} (stands : HasHistory desk history) (bounds : Bounds) where
  abbrev w : World
  w = world_of history

  abbrev reach : List ℕ
  reach = reach_of w.timelines

  sound : IsSound w
  sound = (Keeps-stands stands).sound

  file-allowed : (file : List ℕ) → list_all (allows_file bounds desk) (file_names desk.files) ≡ true → allows_file bounds desk file ≡ true
  file-allowed file all = elim (cases_Bool (has_kept_file desk.files file)) [
    | inl is ↦ all-there (allows_file bounds desk) (file_names desk.files) file all (listed-Contains file (file_names desk.files) (has_named-names file_name desk.files file ∙ is))
    | inr isnt ↦ ap (list_all (allows_point desk.timelines (bounds.file file))) (nothing-listed (option_map (λ (f : File). f.points) (file_at desk.files file)) (mapped (file_at desk.files file) ∙ is_some-named file_name desk.files file ∙ isnt))
  ]

  -- nothing is pending of a timeline that isn't allowed
  file-within : (file name : List ℕ) → allows_file bounds desk file ≡ true → bounds.file file name ≡ false → AreReached reach (put_set w.files file) (context_of w.timelines name)
  file-within file name all isnt = λ e among of.
      let ctx = context_of w.timelines name in
      let floor = value_at reach ctx in
      let ps = points_at desk.files file in
      elim (cases_lt floor e.point.value) [
        | inl above ↦
            let point = All-contains (IsFilePoint (length w.timelines)) (put_set w.files file) e (put_set-made w.timelines w.files file sound.made) among in
            let strong : usage_number e.usage ≤ 0 = rw point.usage (omega arith) in
            let put = raised_to-top-above (put_set w.files file) 0 ctx floor e among (strong, of) in
            let same = AgreesAbove-raised (AgreesAbove-keeps (Keeps-stands stands) file) 0 ctx in
            let p = later-point ps ctx floor e.point.value above (subst (λ v. e.point.value ≤ v) (sym same) put) in
            let passes : allows_point w.timelines (bounds.file file) p.0 ≡ true =
            subst (λ (ts : List Timeline). allows_point ts (bounds.file file) p.0 ≡ true) stands.holds.timelines (all-there (allows_point desk.timelines (bounds.file file)) ps p.0 all p.1) in
            let low : 1 ≤ ctx = subst (λ c. 1 ≤ c) of point.timeline.0 in
            absurd (false≢true (sym isnt ∙ point-allowed w.timelines (bounds.file file) name p.0 low p.2 p.3 passes))
        | inr reached ↦ reached
      ]

  buffer-allowed : (buffer : List ℕ) → All (λ name. allows_buffer bounds desk name ≡ true) (buffer_names desk.buffers) → (entries_of desk.buffers buffer ≡ []) ⊎ (allows_buffer bounds desk buffer ≡ true)
  buffer-allowed buffer all = elim (cases_Bool (has_buffer desk.buffers buffer)) [
    | inl is ↦ inr (All-contains (λ name. allows_buffer bounds desk name ≡ true) (buffer_names desk.buffers) buffer all (listed-Contains buffer (buffer_names desk.buffers) (sym (is_some-lookup (same_name buffer) desk.buffers) ∙ is)))
    | inr isnt ↦ inl (no-entries (table_at desk.buffers buffer) isnt)
  ]

  -- a pending point of the context is listed
  pending-listed : (es : List Entry) (ctx value : ℕ) → 1 ≤ ctx → ctx ≤ CONTEXTS → value_at reach ctx < value → value ≤ raised_to (value_at reach ctx) (top es 3 ctx)
      → (p : Point) × Contains (listing es 3 reach) p × (p.ctx ≡ ctx) × (value_at reach ctx < p.value)
  pending-listed es ctx value low few above high =
      let floor = value_at reach ctx in
      let same : raised_to floor (top (as_entries (listing es 3 reach)) 0 ctx) ≡ raised_to floor (top es 3 ctx) =
      ap (raised_to floor) (top-listing es 3 reach 0 ctx low few) ∙ raised_to-pending (omega arith) (top es 3 ctx) in
      later-point (listing es 3 reach) ctx floor value above (subst (λ v. value ≤ v) (sym same) high)

  buffer-within : (buffer name : List ℕ) → (entries_of desk.buffers buffer ≡ []) ⊎ (allows_buffer bounds desk buffer ≡ true) → bounds.buffer buffer name ≡ false
      → AreReached reach (buffer_put_set w.buffers buffer) (context_of w.timelines name)
  buffer-within buffer name allowed isnt = λ e among of.
      let ctx = context_of w.timelines name in
      let floor = value_at reach ctx in
      let es = entries_of desk.buffers buffer in
      let fs = buffer_put_set w.buffers buffer in
      elim (cases_lt floor e.point.value) [
        | inl above ↦
            let made = All-contains (IsOfMade (length w.timelines)) fs e (buffer_put_set-All (IsOfMade (length w.timelines)) w.buffers buffer sound.buffers) among in
            let put = raised_to-top-above fs 3 ctx floor e among (weak e.usage, of) in
            let high : e.point.value ≤ raised_to floor (top es 3 ctx) = subst (λ v. e.point.value ≤ v) (sym (AgreesAbove-raised (stands.holds.tables buffer) 3 ctx)) put in
            elim allowed [
              | inl none ↦ (let low : e.point.value ≤ floor = subst (λ (xs : List Entry). e.point.value ≤ raised_to floor (top xs 3 ctx)) none high in absurd (omega (arith, low, above)))
              | inr all ↦
                  let low : 1 ≤ ctx = subst (λ c. 1 ≤ c) of made.0 in
                  let few : ctx ≤ CONTEXTS = (let made' : ctx ≤ length w.timelines = subst (λ c. c ≤ length w.timelines) of made.1 in let room = sound.timelines.room in omega (arith, made', room)) in
                  let p = pending-listed es ctx e.point.value low few above high in
                  let ours : list_all (allows_row w.timelines (bounds.buffer buffer)) (table_rows es reach) ≡ true =
                  subst (λ (ts : List Timeline). list_all (allows_row ts (bounds.buffer buffer)) (table_rows es (reach_of ts)) ≡ true) stands.holds.timelines all in
                  let passes : allows_context w.timelines (bounds.buffer buffer) p.0.ctx ≡ true = all-there (allows_row w.timelines (bounds.buffer buffer)) (table_rows es reach) (row_of Bookkeep p.0) ours (in-rows es reach p.0 p.1) in
                  absurd (false≢true (sym isnt ∙ is-allowed w.timelines (bounds.buffer buffer) name p.0.ctx low p.2 passes))
            ]
        | inr reached ↦ reached
      ]

  pub is-within : list_all (allows_file bounds desk) (file_names desk.files) ≡ true → All (λ name. allows_buffer bounds desk name ≡ true) (buffer_names desk.buffers) → IsWithin bounds w
  is-within files buffers = record {
    files = λ file name isnt. file-within file name (file-allowed file files) isnt;
    buffers = λ buffer name isnt. buffer-within buffer name (buffer-allowed buffer buffers) isnt;
  }
