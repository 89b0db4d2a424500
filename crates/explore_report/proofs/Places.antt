-- What a function gives of each element by its place, element by element.
use Rattle.std.proofs.Common.{◌≡◌, ℕ, ◌+◌, ◌<◌, ◌≤◌, List, ◌∷◌, ◌++◌, length, get_or, drop, sym, ap, ◌∙◌, add-one, append_assoc, append-nil, drop-cons}
use Rattle.std.proofs.lemmas.List.{drop_all}
use Rattle.explore_core.specs.declared.found.Given.{Given}
use Rattle.explore_report.specs.declared.context.Section.TheVariants as section
use Rattle.explore_report.specs.declared.plan_script.PlanScript.{PlanScript}
use Rattle.explore_report.specs.Cases.{Judged, by_place, client_cases, section_cases}

pub by_place-next : {X Y : Type 0} (f : ℕ → X → List Y) (xs : List X) (i : ℕ) (d : X) (before after all : List Y) → i < length xs
    → after ≡ before ++ f i (get_or xs i d) → before ++ by_place f i (drop i xs) ≡ all → after ++ by_place f (i + 1) (drop (i + 1) xs) ≡ all
by_place-next f xs i d before after all low pushed same =
    let x = get_or xs i d in
    let rest = drop (i + 1) xs in
    let here : drop i xs ≡ x ∷ rest = drop-cons xs i d low ∙ ap (λ k. x ∷ drop k xs) (sym (add-one i)) in
    ap (λ ys. ys ++ by_place f (i + 1) rest) pushed
    ∙ append_assoc before (f i x) (by_place f (i + 1) rest)
    ∙ ap (λ ls. before ++ by_place f i ls) (sym here)
    ∙ same

pub by_place-step : {X Y : Type 0} (f : ℕ → X → List Y) (xs : List X) (i : ℕ) (x : X) (before after all : List Y) → i < length xs → x ≡ get_or xs i x
    → after ≡ before ++ f i x → before ++ by_place f i (drop i xs) ≡ all → after ++ by_place f (i + 1) (drop (i + 1) xs) ≡ all
by_place-step f xs i x before after all low at pushed same = by_place-next f xs i x before after all low (pushed ∙ ap (λ y. before ++ f i y) at) same

pub by_place-end : {X Y : Type 0} (f : ℕ → X → List Y) (xs : List X) (i : ℕ) (before all : List Y) → length xs ≤ i
    → before ++ by_place f i (drop i xs) ≡ all → before ≡ all
by_place-end f xs i before all past same =
    sym (append-nil before) ∙ ap (λ ls. before ++ by_place f i ls) (sym (drop_all i xs past)) ∙ same

-- the cases of one more client
pub client_cases-next : (p : PlanScript) (given : List Given) (client : ℕ) (start before after : List Judged)
    → before ≡ start ++ client_cases p given client
    → after ≡ before ++ section_cases p given client (section.Client client) → after ≡ start ++ client_cases p given (client + 1)
client_cases-next p given client start before after so_far pushed =
    let own = section_cases p given client (section.Client client) in
    pushed
    ∙ ap (λ cs. cs ++ own) so_far
    ∙ append_assoc start (client_cases p given client) own
    ∙ ap (λ n. start ++ client_cases p given n) (sym (add-one client))
