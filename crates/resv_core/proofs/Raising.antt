-- Points that are put together; those that are no later than their usage's are skipped.
use Rattle.std.proofs.Common.{◌≡◌, ℕ, ◌+◌, ◌<◌, ◌≤◌, refl, sym, ap, ◌∙◌, subst, List, [], ◌∷◌, ◌++◌, append_assoc, append-nil, take, drop, get_or, length, arith}
use Rattle.std.proofs.lemmas.List.{length-append, map-append, take-append-drop, take_more, drop_more}
use Rattle.std.proofs.lemmas.List.Elements.{All-nil, All-cons, All-append, All-head, All-tail}
use Rattle.point_core.specs.declared.context.TheConstants.{CONTEXTS}
use Rattle.point_core.specs.declared.entry.Point.{Point}
use Rattle.point_core.specs.declared.entry.Entry.{Entry}
use Rattle.point_core.specs.declared.entry.Usage.{Usage}
use Rattle.point_core.specs.Agreement.{HasContexts}
use Rattle.point_core.specs.Latest.{IsLatest}
use Rattle.point_core.specs.Reach.{value_at}
use Rattle.point_core.specs.Usage.{usage_number}
use Rattle.point_core.proofs.Agreement.{HasContexts-append}
use Rattle.resv_core.specs.declared.tops.Tops.{Tops}
use Rattle.resv_core.specs.Resv.{entries_as, entry_of}
use Rattle.resv_core.specs.Tops.{AreTops}
use Rattle.resv_core.specs.TopTable.{AreNotLater, IsFirstLater}
use Rattle.resv_core.proofs.Kept.{AreTops-needless}

-- ---- the first later point

abbrev IsNotLater : List ℕ → Point → Type 0
IsNotLater latest p = ((1 ≤ p.ctx) × (p.ctx ≤ CONTEXTS)) × (p.value ≤ value_at latest p.ctx)

pub AreNotLater-more : (latest : List ℕ) (points : List Point) (i : ℕ) (p : Point) → i < length points → p ≡ get_or points i p → AreNotLater latest (take i points) → (1 ≤ p.ctx) × (p.ctx ≤ CONTEXTS) → p.value ≤ value_at latest p.ctx → AreNotLater latest (take (i + 1) points)
AreNotLater-more latest points i p low at before context below =
    let more : take (i + 1) points ≡ take i points ++ p ∷ [] = take_more points i p low ∙ ap (λ q. take i points ++ q ∷ []) (sym at) in
    subst (AreNotLater latest) (sym more) (All-append (IsNotLater latest) (take i points) (p ∷ []) before (All-cons (IsNotLater latest) p [] (context, below) (All-nil (IsNotLater latest))))

pub IsFirstLater-at : (latest : List ℕ) (points : List Point) (i : ℕ) (p : Point) → i < length points → p ≡ get_or points i p → AreNotLater latest (take i points) → value_at latest p.ctx < p.value → IsFirstLater latest points p (drop (i + 1) points)
IsFirstLater-at latest points i p low at before later = record {
  before = take i points;
  parts =
      sym (take-append-drop i points)
      ∙ ap (λ ps. take i points ++ ps) (drop_more points i p low ∙ ap (λ q. q ∷ drop (i + 1) points) (sym at));
  passed = before;
  later = later;
}

-- ---- the points that are skipped

entries_as-append : (usage : Usage) (ps qs : List Point) → entries_as usage (ps ++ qs) ≡ entries_as usage ps ++ entries_as usage qs
entries_as-append usage ps qs = map-append (λ point. entry_of point usage) ps qs

-- the table is the usage's, whatever was put
abbrev IsTableAt : List ℕ → Tops → Usage → Type 0
IsTableAt latest tops usage = (reach : List ℕ) (es : List Entry) → AreTops tops reach es → IsLatest latest reach es (usage_number usage)

AreTops-passed : {latest : List ℕ} {tops : Tops} (usage : Usage) (points : List Point) → IsTableAt latest tops usage → AreNotLater latest points → (reach : List ℕ) (es : List Entry) → AreTops tops reach es → AreTops tops reach (es ++ entries_as usage points)
AreTops-passed {latest} {tops} usage [] at passed reach es tell = subst (AreTops tops reach) (sym (append-nil es)) tell
AreTops-passed {latest} {tops} usage (p ∷ ps) at passed reach es tell =
    let first = All-head (IsNotLater latest) p ps passed in
    let one = AreTops-needless p usage tell (at reach es tell) first.0.0 first.0.1 first.1 in
    subst (AreTops tops reach) (append_assoc es (entry_of p usage ∷ []) (entries_as usage ps))
    (AreTops-passed usage ps at (All-tail (IsNotLater latest) p ps passed) reach (es ++ entry_of p usage ∷ []) one)

HasContexts-passed : (latest : List ℕ) (usage : Usage) (points : List Point) → AreNotLater latest points → HasContexts (entries_as usage points)
HasContexts-passed latest usage [] passed = All-nil (λ (e : Entry). (1 ≤ e.point.ctx) × (e.point.ctx ≤ CONTEXTS))
HasContexts-passed latest usage (p ∷ ps) passed = All-cons (λ (e : Entry). (1 ≤ e.point.ctx) × (e.point.ctx ≤ CONTEXTS)) (entry_of p usage) (entries_as usage ps) (All-head (IsNotLater latest) p ps passed).0 (HasContexts-passed latest usage ps (All-tail (IsNotLater latest) p ps passed))

-- ---- the points that were put so far

-- the first of the points are in the tables, and the rest are not yet
pub record HasRaised (usage : Usage) (old new : Tops) (points rest : List Point) : Type 0 where
  pub put : List Point
  pub parts : points ≡ put ++ rest
  pub tops : (reach : List ℕ) (es : List Entry) → AreTops old reach es → AreTops new reach (es ++ entries_as usage put)
  pub contexts : HasContexts (entries_as usage put)
  pub nothing : points ≡ [] → new ≡ old

pub HasRaised-none : (usage : Usage) (tops : Tops) (points : List Point) → HasRaised usage tops tops points points
HasRaised-none usage tops points = record {
  put = [];
  parts = refl;
  tops = λ reach es tell. subst (AreTops tops reach) (sym (append-nil es)) tell;
  contexts = All-nil (λ (e : Entry). (1 ≤ e.point.ctx) × (e.point.ctx ≤ CONTEXTS));
  nothing = λ none. refl;
}

-- the points that are skipped count as put
HasRaised-over : {usage : Usage} {old new : Tops} {points rest : List Point} {latest : List ℕ} (before after : List Point) → HasRaised usage old new points rest → IsTableAt latest new usage → AreNotLater latest before → rest ≡ before ++ after → HasRaised usage old new points after
HasRaised-over {usage} {old} {new} {points} {rest} {latest} before after h at passed is = record {
  put = h.put ++ before;
  parts = h.parts ∙ ap (λ ps. h.put ++ ps) is ∙ sym (append_assoc h.put before after);
  tops = λ reach es tell.
      subst (AreTops new reach) (append_assoc es (entries_as usage h.put) (entries_as usage before) ∙ ap (λ fs. es ++ fs) (sym (entries_as-append usage h.put before)))
      (AreTops-passed usage before at passed reach (es ++ entries_as usage h.put) (h.tops reach es tell));
  contexts = subst HasContexts (sym (entries_as-append usage h.put before)) (HasContexts-append (entries_as usage h.put) (entries_as usage before) h.contexts (HasContexts-passed latest usage before passed));
  nothing = h.nothing;
}

HasRaised-one : {usage : Usage} {old new newer : Tops} {points : List Point} (p : Point) (others : List Point) → HasRaised usage old new points (p ∷ others) → ((reach : List ℕ) (es : List Entry) → AreTops new reach es → AreTops newer reach (es ++ entry_of p usage ∷ [])) → HasContexts (entry_of p usage ∷ []) → HasRaised usage old newer points others
HasRaised-one {usage} {old} {new} {newer} {points} p others h raised context = record {
  put = h.put ++ p ∷ [];
  parts = h.parts ∙ sym (append_assoc h.put (p ∷ []) others);
  tops = λ reach es tell.
      subst (AreTops newer reach) (append_assoc es (entries_as usage h.put) (entry_of p usage ∷ []) ∙ ap (λ fs. es ++ fs) (sym (entries_as-append usage h.put (p ∷ []))))
      (raised reach (es ++ entries_as usage h.put) (h.tops reach es tell));
  contexts = subst HasContexts (sym (entries_as-append usage h.put (p ∷ []))) (HasContexts-append (entries_as usage h.put) (entry_of p usage ∷ []) h.contexts context);
  nothing = λ none. let long = ap length (h.parts) in let all = length-append h.put (p ∷ others) in let no = ap length none in absurd (omega arith);
}

pub HasRaised-more : {usage : Usage} {old new newer : Tops} {points rest : List Point} {latest : List ℕ} (p : Point) (others : List Point) → HasRaised usage old new points rest → IsTableAt latest new usage → IsFirstLater latest rest p others → ((reach : List ℕ) (es : List Entry) → AreTops new reach es → AreTops newer reach (es ++ entry_of p usage ∷ [])) → HasContexts (entry_of p usage ∷ []) → HasRaised usage old newer points others
HasRaised-more p others h at first raised context = HasRaised-one p others (HasRaised-over first.before (p ∷ others) h at first.passed first.parts) raised context

-- no later point is left
pub HasRaised-all : {usage : Usage} {old new : Tops} {points rest : List Point} {latest : List ℕ} → HasRaised usage old new points rest → IsTableAt latest new usage → AreNotLater latest rest → HasRaised usage old new points []
HasRaised-all {rest = rest} h at passed = HasRaised-over rest [] h at passed (sym (append-nil rest))

pub HasRaised-points : {usage : Usage} {old new : Tops} {points : List Point} (h : HasRaised usage old new points []) → h.put ≡ points
HasRaised-points h = sym (h.parts ∙ append-nil h.put)

pub length-IsFirstLater : {latest : List ℕ} {points others : List Point} {p : Point} → IsFirstLater latest points p others → length others < length points
length-IsFirstLater {latest} {points} {others} {p} h =
    let long = ap length h.parts in
    let all = length-append h.before (p ∷ others) in
    omega arith
