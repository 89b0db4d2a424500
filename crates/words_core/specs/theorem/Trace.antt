-- Steps, and functions of a list of steps on one word.
use Rattle.std.specs.Prelude.{◌≡◌, ℕ, ◌+◌, ◌<◌, ◌≤◌, ◌==◌, max, if◌then◌else◌, filter, List, [], ◌∷◌}
use Rattle.words_core.specs.declared.trace.StepKind.{StepKind}
use Rattle.words_core.specs.declared.trace.StepKind.TheVariants.{Load, Add, Won, Lost, Raise, Shown, Shut}
use Rattle.words_core.specs.declared.trace.Step.{Step}

-- the word w was read, and v found
abbrev pub load : ℕ → ℕ → Step
load w v = record { kind = Load; word = w; operand = 0; value = v }

-- n was added to the word w, which left v
abbrev pub add : ℕ → ℕ → ℕ → Step
add w n v = record { kind = Add; word = w; operand = n; value = v }

-- the word w was set
abbrev pub won : ℕ → Step
won w = record { kind = Won; word = w; operand = 0; value = 0 }

-- the word w was set already
abbrev pub lost : ℕ → Step
lost w = record { kind = Lost; word = w; operand = 0; value = 0 }

-- the word w was raised to p if it was less, which left v
abbrev pub raise : ℕ → ℕ → ℕ → Step
raise w p v = record { kind = Raise; word = w; operand = p; value = v }

-- the word w of the board was read, and v found
abbrev pub shown : ℕ → ℕ → Step
shown w v = record { kind = Shown; word = w; operand = 0; value = v }

-- the mark w was set, which left m
abbrev pub shut : ℕ → ℕ → Step
shut w m = record { kind = Shut; word = w; operand = m; value = m }

-- a test-and-set of the word w that found a value
abbrev pub set_once_step : ℕ → ℕ → Step
set_once_step w found = if found == 0 then won w else lost w

-- n if the kinds are equal, and else 0
abbrev pub if_kind : StepKind → StepKind → ℕ → ℕ
if_kind Load Load n = n
if_kind Add Add n = n
if_kind Won Won n = n
if_kind Lost Lost n = n
if_kind Raise Raise n = n
if_kind Shown Shown n = n
if_kind Shut Shut n = n
if_kind wanted kind n = 0

-- the amount that a step added
abbrev pub amount_of : Step → ℕ
amount_of s = if_kind Add s.kind s.operand

-- 1 at an addition, and else 0
abbrev pub is_add : Step → ℕ
is_add s = if_kind Add s.kind 1

abbrev pub is_win : Step → ℕ
is_win s = if_kind Won s.kind 1

abbrev pub is_loss : Step → ℕ
is_loss s = if_kind Lost s.kind 1

-- 1 at a test-and-set, whatever it found
abbrev pub is_test : Step → ℕ
is_test s = is_win s + is_loss s

-- 1 at a load that found x
abbrev pub is_load_of : ℕ → Step → ℕ
is_load_of x s = if_kind Load s.kind (if s.value == x then 1 else 0)

-- 1 at an addition that left x
abbrev pub is_add_to : ℕ → Step → ℕ
is_add_to x s = if_kind Add s.kind (if s.value == x then 1 else 0)

-- the value to which a step raised the word, or 0
abbrev pub target_of : Step → ℕ
target_of s = if_kind Raise s.kind s.operand

-- 1 if it raised the word to x
abbrev pub is_raise_to : ℕ → Step → ℕ
is_raise_to x s = if_kind Raise s.kind (if s.operand == x then 1 else 0)

-- 1 if it showed x of the board, or left it there
abbrev pub is_sight_of : ℕ → Step → ℕ
is_sight_of x s = if_kind Raise s.kind (if s.value == x then 1 else 0) + if_kind Shown s.kind (if s.value == x then 1 else 0)

-- 1 at a closing, and else 0
abbrev pub is_shut : Step → ℕ
is_shut s = if_kind Shut s.kind 1

-- the mark that a closing left, or 0
abbrev pub shut_to : Step → ℕ
shut_to s = if_kind Shut s.kind s.value

-- the sum of f over a list
abbrev pub total : {A : Type 0} → (A → ℕ) → List A → ℕ
total f [] = 0
total f (x ∷ xs) = f x + total f xs

-- the steps on the word w
abbrev pub on : ℕ → List Step → List Step
on w steps = filter (λ (s : Step). s.word == w) steps

-- the greatest value that was found or left
abbrev pub greatest : List Step → ℕ
greatest [] = 0
greatest (s ∷ steps) = max s.value (greatest steps)

-- the sum of the additions
abbrev pub added : List Step → ℕ
added steps = total amount_of steps

-- the greatest value to which the word was raised, or 0
abbrev pub raised : List Step → ℕ
raised [] = 0
raised (s ∷ steps) = max (target_of s) (raised steps)

-- each addition leaves the sum up to it, from n on
abbrev pub HasRunningSums : ℕ → List Step → Type 0
HasRunningSums n [] = Unit {0}
HasRunningSums n (s ∷ steps) = (0 < is_add s → s.value ≡ n + amount_of s) × HasRunningSums (n + amount_of s) steps

-- how often the word w was won
abbrev pub wins_of : ℕ → List Step → ℕ
wins_of w steps = total is_win (on w steps)

-- how often the mark w was set
abbrev pub shuts_of : ℕ → List Step → ℕ
shuts_of w steps = total is_shut (on w steps)

-- the mark that the closing left, or 0
abbrev pub mark_of : ℕ → List Step → ℕ
mark_of w steps = total shut_to (on w steps)

-- how often it was found set
abbrev pub losses_of : ℕ → List Step → ℕ
losses_of w steps = total is_loss (on w steps)

-- a load of the word w found x
abbrev pub WasLoaded : ℕ → ℕ → List Step → Type 0
WasLoaded w x steps = 0 < total (is_load_of x) (on w steps)

-- an addition to the word w left x
abbrev pub WasLeft : ℕ → ℕ → List Step → Type 0
WasLeft w x steps = 0 < total (is_add_to x) (on w steps)

-- each value of the word w that was loaded is 0 or was left by an addition
abbrev pub LoadsWereLeft : ℕ → List Step → Type 0
LoadsWereLeft w steps = (x : ℕ) → 0 < x → WasLoaded w x steps → WasLeft w x steps

-- a raise or a look left or showed x of the word w
abbrev pub WasShown : ℕ → ℕ → List Step → Type 0
WasShown w x steps = 0 < total (is_sight_of x) (on w steps)

-- the word w was raised to x
abbrev pub WasRaised : ℕ → ℕ → List Step → Type 0
WasRaised w x steps = 0 < total (is_raise_to x) (on w steps)

-- each value of the word w that was shown is 0 or a value to which it was raised
abbrev pub SightsWereRaised : ℕ → List Step → Type 0
SightsWereRaised w steps = (x : ℕ) → 0 < x → WasShown w x steps → WasRaised w x steps

-- for all steps on a claim or a flag: it was won at most once, and exactly once if it was lost
pub record IsDecided (w : ℕ) (steps : List Step) : Type 0 where
  pub once : wins_of w steps ≤ 1
  pub lost : 0 < losses_of w steps → wins_of w steps ≡ 1
