-- Which files are asked what they list.
use Rattle.std.proofs.Common.{◌≡◌, ℕ, zero, suc, ◌+◌, ◌<◌, Bool, true, false, ◌||◌, if◌then◌else◌, refl, sym, ap, ◌∙◌, List, [], ◌∷◌, ◌++◌, length, map, filter, take, get_or, Option, None, Some, unwrap_or, slice_get}
use Rattle.std.specs.Prelude.{All, Vec}
use Rattle.std.specs.Global.{Global}
use Rattle.std.specs.List.{list_any}
use Rattle.std.specs.Cmp.Lexicographic.{nat_list_eq_equiv}
use Rattle.std.proofs.lemmas.Bool.{false≢true}
use Rattle.std.proofs.lemmas.List.Elements.{All-nil, All-cons, All-head, All-tail}
use Rattle.std.proofs.lemmas.List.{take_more}
use Rattle.std.proofs.lemmas.Option.{same_Some, none-some, slice_get_read}
use Rattle.command_core.specs.declared.command.Command.{Command}
use Rattle.command_core.specs.declared.command.Command.TheVariants as command
use Rattle.syncfile_core.specs.Files.{names_of as file_names}
use Rattle.desk_core.specs.Keeping.{points_at}
use Rattle.desk_core.specs.theorem.Desk.{DeskState}
use Rattle.explore_core.specs.declared.look.FileLook.{FileLook}
use Rattle.explore_core.specs.declared.plan.Step.{Step}
use Rattle.explore_core.specs.Alike.{AsksOnly}
use Rattle.explore_core.specs.Covering.{MayAsk}
use Rattle.explore_core.specs.Found.{CanBeExplored}
use Rattle.explore_core.specs.Schedule.{Lines}
use Rattle.explore_core.specs.Search.{Look, asked_file, asks_for, client_asks, is_asked, is_name, has_name, Adds, is_to_come, file_look, Shows}

or-left : (a b : Bool) → a ≡ true → (a || b) ≡ true
or-left true b is = refl
or-left false b is = absurd (false≢true is)

or-right : (a b : Bool) → b ≡ true → (a || b) ≡ true
or-right true b is = refl
or-right false b is = is

asks-only : (asked : List ℕ → Bool) (c : Command) → AsksOnly (λ name. true) c → ((f : List ℕ) → asks_for f c ≡ true → asked f ≡ true) → AsksOnly asked c
asks-only asked (command.Info f) asks is = is f (nat_list_eq_equiv.refl f)
asks-only asked command.Report asks is = absurd asks
asks-only asked _ asks is = tt

any-at : {X : Type 0} (p : X → Bool) (xs : List X) (k : ℕ) (x : X) → slice_get xs k ≡ Some x → p x ≡ true → list_any p xs ≡ true
any-at p [] k x at is = absurd (none-some x at)
any-at p (y ∷ ys) zero x at is = or-left (p y) (list_any p ys) (ap p (same_Some y x at) ∙ is)
any-at p (y ∷ ys) (suc k) x at is = or-right (p y) (list_any p ys) (any-at p ys k x at is)

line-asks : (clients : List (List Step)) (o : Option (List Step)) (client place : ℕ) (step : Step) (f : List ℕ) → slice_get clients client ≡ o → slice_get (unwrap_or o []) place ≡ Some step → asks_for f step.command ≡ true
    → list_any (client_asks f) clients ≡ true
line-asks clients None client place step f is at asks = absurd (none-some step at)
line-asks clients (Some lines) client place step f is at asks =
    any-at (client_asks f) clients client lines is (any-at (λ (s : Step). asks_for f s.command) lines place step at asks)

last-ask : (asked : List ℕ → Bool) (cs : List Command) → ((f : List ℕ) → list_any (asks_for f) cs ≡ true → asked f ≡ true) → All (AsksOnly (λ name. true)) cs → All (AsksOnly asked) cs
last-ask asked [] is all = All-nil (AsksOnly asked)
last-ask asked (c ∷ cs) is all =
    All-cons (AsksOnly asked) c cs
    (asks-only asked c (All-head (AsksOnly (λ name. true)) c cs all) (λ f asks. is f (or-left (asks_for f c) (list_any (asks_for f) cs) asks)))
    (last-ask asked cs (λ f any. is f (or-right (asks_for f c) (list_any (asks_for f) cs) any)) (All-tail (AsksOnly (λ name. true)) c cs all))

pub may-ask : {plan : Lines} → CanBeExplored plan → MayAsk (is_asked plan) plan
may-ask {plan} can = record {
  lines = λ client place step at.
      asks-only (is_asked plan) step.command (can.asks.lines client place step at)
      (λ f asks. or-left (list_any (client_asks f) plan.clients) (list_any (asks_for f) plan.last) (line-asks plan.clients (slice_get plan.clients client) client place step f refl at asks));
  last = last-ask (is_asked plan) plan.last (λ f any. or-right (list_any (client_asks f) plan.clients) (list_any (asks_for f) plan.last) any) can.asks.last;
}

-- whether the plan asks, by its clients and by its commands at the end

pub any-map : {X Y : Type 0} (p : Y → Bool) (f : X → Y) (xs : List X) → list_any p (map f xs) ≡ list_any (λ x. p (f x)) xs
any-map p f [] = refl
any-map p f (x ∷ xs) = ap (λ b. p (f x) || b) (any-map p f xs)

-- the names of the files that are asked, one after another

or-nil : (b : Bool) → (b || false) ≡ b
or-nil true = refl
or-nil false = refl

or-assoc : (a b c : Bool) → ((a || b) || c) ≡ (a || (b || c))
or-assoc true b c = refl
or-assoc false b c = refl

any-push : {X : Type 0} (p : X → Bool) (xs : List X) (x : X) → list_any p (xs ++ x ∷ []) ≡ (list_any p xs || p x)
any-push p [] x = or-nil (p x)
any-push p (y ∷ ys) x = ap (λ b. p y || b) (any-push p ys x) ∙ sym (or-assoc (p y) (list_any p ys) (p x))

-- a file among the names, as they are looked through

pub has-at : (names : List (List ℕ)) (file : List ℕ) (i : ℕ) (name : List ℕ) → i < length names → name ≡ get_or names i name → is_name file name ≡ true → has_name names file ≡ true
has-at names file i name low at is = any-at (is_name file) names i name (slice_get_read names (length names) i name refl low at) is

pub has-none : (names : List (List ℕ)) (file : List ℕ) (i : ℕ) (name : List ℕ) → i < length names → name ≡ get_or names i name
    → has_name (take i names) file ≡ false → is_name file name ≡ false → has_name (take (i + 1) names) file ≡ false
has-none names file i name low at before here =
    let more = take_more names i name low ∙ ap (λ d. take i names ++ d ∷ []) (sym at) in
    ap (λ ns. has_name ns file) more ∙ any-push (is_name file) (take i names) name ∙ ap (λ b. b || is_name file name) before ∙ here

pub Adds-none : (names : List (List ℕ)) → Adds (λ name. false) names names
Adds-none names = λ name. sym (or-nil (has_name names name))

pub Adds-next : {X : Type 0} (p : List ℕ → X → Bool) (xs : List X) (i : ℕ) (x : X) (old names new : List (List ℕ)) → i < length xs → x ≡ get_or xs i x
    → Adds (λ name. list_any (p name) (take i xs)) old names → Adds (λ name. p name x) names new → Adds (λ name. list_any (p name) (take (i + 1) xs)) old new
Adds-next p xs i x old names new low at before more = λ name.
    let first = list_any (p name) (take i xs) in
    let is = take_more xs i x low ∙ ap (λ d. take i xs ++ d ∷ []) (sym at) in
    more name ∙ ap (λ b. b || p name x) (before name) ∙ or-assoc (has_name old name) first (p name x)
    ∙ ap (λ b. has_name old name || b) (sym (ap (list_any (p name)) is ∙ any-push (p name) (take i xs) x))

asks-file : (c : Command) (f name : List ℕ) → asked_file c ≡ Some f → asks_for name c ≡ is_name name f
asks-file (command.Info g) f name is = ap (is_name name) (same_Some g f is)
asks-file _ f name is = absurd (none-some f is)

asks-none : (c : Command) (name : List ℕ) → asked_file c ≡ None → asks_for name c ≡ false
asks-none (command.Info g) name is = absurd (none-some g (sym is))
asks-none _ name is = refl

pub Adds-push : (c : Command) (f : List ℕ) (old new : List (List ℕ)) → asked_file c ≡ Some f → new ≡ old ++ f ∷ [] → Adds (λ name. asks_for name c) old new
Adds-push c f old new is pushed = λ name.
    ap (λ names. has_name names name) pushed ∙ any-push (is_name name) old f ∙ ap (λ (b : Bool). has_name old name || b) (sym (asks-file c f name is))

pub Adds-same : (c : Command) (names : List (List ℕ)) → asked_file c ≡ None → Adds (λ name. asks_for name c) names names
Adds-same c names is = λ name. sym (or-nil (has_name names name)) ∙ ap (λ (b : Bool). has_name names name || b) (sym (asks-none c name is))

pub asked-all : (plan : Lines) (clients : List (Vec Step Global)) (last : List Command) (names asked : List (List ℕ)) → map (λ (lines : Vec Step Global). lines.items) clients ≡ plan.clients → last ≡ plan.last
    → Adds (λ name. list_any (λ (lines : Vec Step Global). client_asks name lines.items) clients) [] names → Adds (λ name. list_any (asks_for name) last) names asked
    → (name : List ℕ) → has_name asked name ≡ is_asked plan name
asked-all plan clients last names asked are ends first more = λ name.
    more name ∙ ap (λ b. b || list_any (asks_for name) last) (first name ∙ sym (any-map (client_asks name) (λ (lines : Vec Step Global). lines.items) clients) ∙ ap (list_any (client_asks name)) are)
    ∙ ap (λ cs. list_any (client_asks name) plan.clients || list_any (asks_for name) cs) ends

-- a look by one of two tests that are the same
pub looks-same : (asked other : List ℕ → Bool) (d : DeskState) → ((name : List ℕ) → asked name ≡ other name) → (names : List (List ℕ)) → map (file_look asked d) names ≡ map (file_look other d) names
looks-same asked other d is [] = refl
looks-same asked other d is (name ∷ names) =
    let look : Bool → FileLook = λ b. record { name = name; points = if b then points_at d.files name else filter (is_to_come d.timelines) (points_at d.files name) } in
    ap (λ (l : FileLook). l ∷ map (file_look asked d) names) (ap look (is name)) ∙ ap (λ ls. file_look other d name ∷ ls) (looks-same asked other d is names)

pub Shows-same : (asked other : List ℕ → Bool) {look : Look} {d : DeskState} → ((name : List ℕ) → asked name ≡ other name) → Shows asked look d → Shows other look d
Shows-same asked other {look} {d} is shows = record {
  timelines = shows.timelines;
  files = shows.files ∙ looks-same asked other d is (file_names d.files);
  distinct = shows.distinct;
  buffers = shows.buffers;
}
