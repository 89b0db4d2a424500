-- The words of a command fit the operands of its row.
use Rattle.std.proofs.Common.{◌≡◌, ℕ, Bool, true, false, ◌&&◌, cond, is_some, List, [], ◌∷◌, Option, None, Some, option_map, refl, ◌∙◌, arith}
use Rattle.std.specs.Option.{option_and_then}
use Rattle.std.proofs.lemmas.Bool.Decides.{nat_tests}
use Rattle.point_core.specs.declared.entry.Usage.{Usage as UsageOf}
use Rattle.line_core.specs.declared.table.Operand.{Operand}
use Rattle.line_core.specs.declared.table.Operand.TheVariants.{Name, Number, Usage, Flags}
use Rattle.command_core.specs.declared.command.Command.{Command}
use Rattle.command_core.specs.declared.command.Command.TheVariants as command
use Rattle.line_core.specs.Following.{is_name, name_of, both, all_three, all_four, one_name, one_number, name_and_number, two_names_and_number, three_names, two_names_number_and_usage, two_names_and_flags, name_and_usage}
use Rattle.line_core.specs.Number.{is_number, number_of}
use Rattle.line_core.specs.Usages.{usage_of, flags_of}
use Rattle.line_core.specs.Table.{matches, fit}
use Rattle.line_core.specs.Words.{one_of, two_of, three_of, four_of, are_none}

and-false : (b : Bool) → false ≡ (b && false)
and-false true = refl
and-false false = refl

and-true : (b : Bool) → b ≡ (b && true)
and-true true = refl
and-true false = refl

is_some-chosen : {A : Type 0} (b : Bool) (a : A) → is_some (cond b (Some a) None) ≡ b
is_some-chosen true a = refl
is_some-chosen false a = refl

is_some-map : {A B : Type 0} (f : A → B) (o : Option A) → is_some (option_map f o) ≡ is_some o
is_some-map f None = refl
is_some-map f (Some a) = refl

is_some-both : {A B : Type 0} (a : Option A) (b : Option B) → is_some (both a b) ≡ (is_some a && is_some b)
is_some-both None b = refl
is_some-both (Some a) None = refl
is_some-both (Some a) (Some b) = refl

is_some-three : {A B C : Type 0} (a : Option A) (b : Option B) (c : Option C) → is_some (all_three a b c) ≡ (is_some a && (is_some b && is_some c))
is_some-three None b c = refl
is_some-three (Some a) None c = refl
is_some-three (Some a) (Some b) None = refl
is_some-three (Some a) (Some b) (Some c) = refl

is_some-four : {A B C D : Type 0} (a : Option A) (b : Option B) (c : Option C) (d : Option D) → is_some (all_four a b c d) ≡ (is_some a && (is_some b && (is_some c && is_some d)))
is_some-four None b c d = refl
is_some-four (Some a) None c d = refl
is_some-four (Some a) (Some b) None d = refl
is_some-four (Some a) (Some b) (Some c) None = refl
is_some-four (Some a) (Some b) (Some c) (Some d) = refl

-- a function that reads a word for an operand
abbrev Reads : {A : Type 0} → Operand → (List ℕ → Option A) → Type 0
Reads operand read = (word : List ℕ) → is_some (read word) ≡ matches operand word

named : Reads Name name_of
named word = is_some-chosen (is_name word) word

numbered : Reads Number number_of
numbered word = is_some-chosen (is_number word) _

used : Reads Usage usage_of
used word = refl

flagged : Reads Flags flags_of
flagged word = refl

and-same : (a b c d : Bool) → a ≡ b → c ≡ d → (a && c) ≡ (b && d)
and-same a b c d e f = rw (e, f) refl

fit-one : {A : Type 0} (o : Operand) (r : List ℕ → Option A) → Reads o r → (words : List (List ℕ)) → is_some (option_and_then r (one_of words)) ≡ fit (o ∷ []) words
fit-one o r h [] = refl
fit-one o r h (a ∷ []) = h a ∙ and-true (matches o a)
fit-one o r h (a ∷ b ∷ more) = and-false (matches o a)

fit-two : {A B : Type 0} (o p : Operand) (r : List ℕ → Option A) (s : List ℕ → Option B) → Reads o r → Reads p s → (words : List (List ℕ)) → is_some (option_and_then (λ w. both (r w.0) (s w.1)) (two_of words)) ≡ fit (o ∷ p ∷ []) words
fit-two o p r s h k [] = refl
fit-two o p r s h k (a ∷ []) = and-false (matches o a)
fit-two o p r s h k (a ∷ b ∷ []) = is_some-both (r a) (s b) ∙ and-same _ _ _ _ (h a) (k b ∙ and-true (matches p b))
fit-two o p r s h k (a ∷ b ∷ c ∷ more) = and-false (matches o a) ∙ and-same _ _ _ _ refl (and-false (matches p b))

fit-three : {A B C : Type 0} (o p q : Operand) (r : List ℕ → Option A) (s : List ℕ → Option B) (t : List ℕ → Option C) → Reads o r → Reads p s → Reads q t → (words : List (List ℕ)) → is_some (option_and_then (λ w. all_three (r w.0) (s w.1) (t w.2)) (three_of words)) ≡ fit (o ∷ p ∷ q ∷ []) words
fit-three o p q r s t h k l [] = refl
fit-three o p q r s t h k l (a ∷ []) = and-false (matches o a)
fit-three o p q r s t h k l (a ∷ b ∷ []) = and-false (matches o a) ∙ and-same _ _ _ _ refl (and-false (matches p b))
fit-three o p q r s t h k l (a ∷ b ∷ c ∷ []) = is_some-three (r a) (s b) (t c) ∙ and-same _ _ _ _ (h a) (and-same _ _ _ _ (k b) (l c ∙ and-true (matches q c)))
fit-three o p q r s t h k l (a ∷ b ∷ c ∷ d ∷ more) = and-false (matches o a) ∙ and-same _ _ _ _ refl (and-false (matches p b) ∙ and-same _ _ _ _ refl (and-false (matches q c)))

fit-four : {A B C D : Type 0} (o p q m : Operand) (r : List ℕ → Option A) (s : List ℕ → Option B) (t : List ℕ → Option C) (u : List ℕ → Option D) → Reads o r → Reads p s → Reads q t → Reads m u → (words : List (List ℕ)) → is_some (option_and_then (λ w. all_four (r w.0) (s w.1) (t w.2) (u w.3)) (four_of words)) ≡ fit (o ∷ p ∷ q ∷ m ∷ []) words
fit-four o p q m r s t u h k l n [] = refl
fit-four o p q m r s t u h k l n (a ∷ []) = and-false (matches o a)
fit-four o p q m r s t u h k l n (a ∷ b ∷ []) = and-false (matches o a) ∙ and-same _ _ _ _ refl (and-false (matches p b))
fit-four o p q m r s t u h k l n (a ∷ b ∷ c ∷ []) = and-false (matches o a) ∙ and-same _ _ _ _ refl (and-false (matches p b) ∙ and-same _ _ _ _ refl (and-false (matches q c)))
fit-four o p q m r s t u h k l n (a ∷ b ∷ c ∷ d ∷ []) = is_some-four (r a) (s b) (t c) (u d) ∙ and-same _ _ _ _ (h a) (and-same _ _ _ _ (k b) (and-same _ _ _ _ (l c) (n d ∙ and-true (matches m d))))
fit-four o p q m r s t u h k l n (a ∷ b ∷ c ∷ d ∷ e ∷ more) = and-false (matches o a) ∙ and-same _ _ _ _ refl (and-false (matches p b) ∙ and-same _ _ _ _ refl (and-false (matches q c) ∙ and-same _ _ _ _ refl (and-false (matches m d))))

some_words : (word : List ℕ) (words : List (List ℕ)) → are_none (word ∷ words) ≡ false
some_words word words = grind (arith, nat_tests)

pub fit-none : (words : List (List ℕ)) → is_some (cond (are_none words) (Some command.Report) None) ≡ fit [] words
fit-none [] = refl
fit-none (word ∷ words) = is_some-chosen (are_none (word ∷ words)) command.Report ∙ some_words word words

pub by-one_name : (make : List ℕ → Command) (words : List (List ℕ)) → is_some (option_map make (one_name words)) ≡ fit (Name ∷ []) words
by-one_name make words = is_some-map make (one_name words) ∙ fit-one Name name_of named words

pub by-one_number : (make : ℕ → Command) (words : List (List ℕ)) → is_some (option_map make (one_number words)) ≡ fit (Number ∷ []) words
by-one_number make words = is_some-map make (one_number words) ∙ fit-one Number number_of numbered words

pub by-name_and_number : (make : List ℕ × ℕ → Command) (words : List (List ℕ)) → is_some (option_map make (name_and_number words)) ≡ fit (Name ∷ Number ∷ []) words
by-name_and_number make words = is_some-map make (name_and_number words) ∙ fit-two Name Number name_of number_of named numbered words

pub by-two_names_and_number : (make : List ℕ × List ℕ × ℕ → Command) (words : List (List ℕ)) → is_some (option_map make (two_names_and_number words)) ≡ fit (Name ∷ Name ∷ Number ∷ []) words
by-two_names_and_number make words = is_some-map make (two_names_and_number words) ∙ fit-three Name Name Number name_of name_of number_of named named numbered words

pub by-three_names : (make : List ℕ × List ℕ × List ℕ → Command) (words : List (List ℕ)) → is_some (option_map make (three_names words)) ≡ fit (Name ∷ Name ∷ Name ∷ []) words
by-three_names make words = is_some-map make (three_names words) ∙ fit-three Name Name Name name_of name_of name_of named named named words

pub by-two_names_number_and_usage : (make : List ℕ × List ℕ × ℕ × UsageOf → Command) (words : List (List ℕ)) → is_some (option_map make (two_names_number_and_usage words)) ≡ fit (Name ∷ Name ∷ Number ∷ Usage ∷ []) words
by-two_names_number_and_usage make words = is_some-map make (two_names_number_and_usage words) ∙ fit-four Name Name Number Usage name_of name_of number_of usage_of named named numbered used words

pub by-two_names_and_flags : (make : List ℕ × List ℕ × ℕ → Command) (words : List (List ℕ)) → is_some (option_map make (two_names_and_flags words)) ≡ fit (Name ∷ Name ∷ Flags ∷ []) words
by-two_names_and_flags make words = is_some-map make (two_names_and_flags words) ∙ fit-three Name Name Flags name_of name_of flags_of named named flagged words

pub by-name_and_usage : (make : List ℕ × UsageOf → Command) (words : List (List ℕ)) → is_some (option_map make (name_and_usage words)) ≡ fit (Name ∷ Usage ∷ []) words
by-name_and_usage make words = is_some-map make (name_and_usage words) ∙ fit-two Name Usage name_of usage_of named used words
