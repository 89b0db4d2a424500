-- A look, by the latest of a client's own puts and of what is shown.
use Rattle.std.proofs.Common.{◌≡◌, ◌↔◌, ℕ, ◌≤◌, max, Bool, All, true, false, ◌&&◌, ◌||◌, List, [], ◌∷◌, inl, inr, refl, sym, ap, ◌∙◌, arith}
use Rattle.std.specs.Prelude.{nat_le}
use Rattle.std.specs.List.{list_any}
use Rattle.std.proofs.Math.Bool.{or-false}
use Rattle.std.proofs.lemmas.Bool.{le-leb, lt-leb, leb-true, cases_Bool, cases_lt}
use Rattle.std.proofs.lemmas.Bool.Decides.{leb_tells, eqb_tells}
use Rattle.std.proofs.lemmas.List.Elements.{All-head, All-tail}
use Rattle.point_core.specs.declared.context.TheConstants.{CONTEXTS}
use Rattle.point_core.specs.declared.entry.Point.{Point}
use Rattle.point_core.specs.declared.entry.Entry.{Entry}
use Rattle.point_core.specs.declared.listing.Listing.{Listing}
use Rattle.point_core.specs.Agreement.{applies, point_of, top, as_entries, HasContexts}
use Rattle.point_core.specs.Latest.{raised_to}
use Rattle.point_core.specs.Reach.{value_at}
use Rattle.point_core.specs.Usage.{usage_number}
use Rattle.point_core.proofs.Agreement.{AppliesAt-from_true}
use Rattle.point_core.proofs.Latest.{raised_to-later, raised_to-if, put_if, put_if-above, applies-true}
use Rattle.clients_core.specs.Looks.{is_as_late, shows_point, shows_entry, shows_all}
use Rattle.clients_core.proofs.Apart.{top-past}

-- the latest point that the listing shows of a context, by a point or by its floor
abbrev pub shown_at : Listing → ℕ → ℕ
shown_at listing ctx = raised_to (value_at listing.floor ctx) (top (as_entries listing.points) 0 ctx)

or-swap : (a b c : Bool) → (a || (b || c)) ≡ (b || (a || c))
or-swap true true c = refl
or-swap true false c = refl
or-swap false b c = refl

le-max : (p q r : ℕ) → (nat_le p q || nat_le p r) ≡ nat_le p (max q r)
le-max p q r = elim (leb_tells p q) [
  | inl first ↦ let h = first.1 in rw (first.0, le-leb p (max q r) (omega arith)) refl
  | inr before ↦ elim (leb_tells p r) [
    | inl second ↦ let h = second.1 in rw (before.0, second.0, le-leb p (max q r) (omega arith)) refl
    | inr none ↦ let h = before.1 in let k = none.1 in rw (before.0, none.0, lt-leb p (max q r) (omega arith)) refl
  ]
]

-- a point is shown where it is at most that
point-shown : (p : Point) (value : ℕ) (points : List Point) → (nat_le p.value value || list_any (is_as_late p) points) ≡ nat_le p.value (raised_to value (top (as_entries points) 0 p.ctx))
point-shown p value [] = or-false (nat_le p.value value)
point-shown p value (q ∷ qs) = elim (eqb_tells q.ctx p.ctx) [
  | inl same ↦ rw same.0 (
      or-swap (nat_le p.value value) (nat_le p.value q.value) (list_any (is_as_late p) qs)
      ∙ ap (λ (b : Bool). nat_le p.value q.value || b) (point-shown p value qs)
      ∙ le-max p.value q.value (raised_to value (top (as_entries qs) 0 p.ctx))
      ∙ ap (nat_le p.value) (sym (raised_to-later value q.value (top (as_entries qs) 0 p.ctx)))
      )
  | inr other ↦ rw other.0 (point-shown p value qs)
]

shows-late : (listing : Listing) (p : Point) → shows_point listing p ≡ nat_le p.value (shown_at listing p.ctx)
shows-late listing p = point-shown p (value_at listing.floor p.ctx) listing.points

pub entry-shown : (listing : Listing) (usage : ℕ) (e : Entry) → (usage_number e.usage ≤ usage → e.point.value ≤ shown_at listing e.point.ctx) → shows_entry listing usage e ≡ true
entry-shown listing usage e late = elim (leb_tells (usage_number e.usage) usage) [
  | inl strong ↦ rw strong.0 (shows-late listing e.point ∙ le-leb e.point.value (shown_at listing e.point.ctx) (late strong.1))
  | inr weak ↦ rw weak.0 refl
]

entry-late : (listing : Listing) (usage : ℕ) (e : Entry) → shows_entry listing usage e ≡ true → usage_number e.usage ≤ usage → e.point.value ≤ shown_at listing e.point.ctx
entry-late listing usage e shown strong =
    let point = rw (le-leb (usage_number e.usage) usage strong) at shown in
    leb-true e.point.value (shown_at listing e.point.ctx) (sym (shows-late listing e.point) ∙ point)

pub top-more : (e : Entry) (es : List Entry) (usage ctx : ℕ) → raised_to 0 (top (e ∷ es) usage ctx) ≡ put_if (applies e usage ctx) e.point.value (raised_to 0 (top es usage ctx))
top-more e es usage ctx = raised_to-if (applies e usage ctx) 0 e.point.value (top es usage ctx)

-- where no own put is later than what is shown, all are shown
all-shown : (listing : Listing) (usage : ℕ) (es : List Entry) → HasContexts es → ((ctx : ℕ) → 1 ≤ ctx → ctx ≤ CONTEXTS → raised_to 0 (top es usage ctx) ≤ shown_at listing ctx) → shows_all listing usage es ≡ true
all-shown listing usage [] within late = refl
all-shown listing usage (e ∷ es) within late =
    let P : Entry → Type 0 = λ e. (1 ≤ e.point.ctx) × (e.point.ctx ≤ CONTEXTS) in
    let own = All-head P e es within in
    let here = entry-shown listing usage e (λ strong.
    let b = late e.point.ctx own.0 own.1 in
    let is = top-more e es usage e.point.ctx in
    let put = ap (λ (b : Bool). put_if b e.point.value (raised_to 0 (top es usage e.point.ctx))) (applies-true e usage e.point.ctx strong refl) in
    omega arith) in
    let rest = all-shown listing usage es (All-tail P e es within) (λ ctx low high.
    let b = late ctx low high in
    let is = top-more e es usage ctx in
    let above = put_if-above (applies e usage ctx) e.point.value (raised_to 0 (top es usage ctx)) in
    omega arith) in
    rw (here, rest) refl

and-both : (a b : Bool) → (a && b) ≡ true → (a ≡ true) × (b ≡ true)
and-both true b h = (refl, h)
and-both false b h = cc

-- and where all are shown, none is later
all-late : (listing : Listing) (usage : ℕ) (es : List Entry) → shows_all listing usage es ≡ true → (ctx : ℕ) → raised_to 0 (top es usage ctx) ≤ shown_at listing ctx
all-late listing usage [] shown ctx = omega arith
all-late listing usage (e ∷ es) shown ctx =
    let both = and-both (shows_entry listing usage e) (shows_all listing usage es) shown in
    let rest = all-late listing usage es both.1 ctx in
    let is = top-more e es usage ctx in
    elim (cases_Bool (applies e usage ctx)) [
      | inl applied ↦
          let at = AppliesAt-from_true e usage ctx applied in
          let own = rw at.1 at (entry-late listing usage e both.0 at.0) in
          let put = ap (λ (b : Bool). put_if b e.point.value (raised_to 0 (top es usage ctx))) applied in
          omega arith
      | inr other ↦
          let put = ap (λ (b : Bool). put_if b e.point.value (raised_to 0 (top es usage ctx))) other in
          omega arith
    ]

-- by the latest point of each context: where each is shown
pub points-shown : (listing : Listing) (usage n : ℕ) (es : List Entry) (own : ℕ → ℕ) → n ≤ CONTEXTS → HasContexts es → All (λ e. e.point.ctx ≤ n) es → ((ctx : ℕ) → 1 ≤ ctx → ctx ≤ n → own ctx ≡ raised_to 0 (top es usage ctx))
    → ((ctx : ℕ) → 1 ≤ ctx → ctx ≤ n → shows_point listing (point_of ctx (own ctx)) ≡ true) ↔ (shows_all listing usage es ≡ true)
points-shown listing usage n es own few contexts within puts = (
  (λ shown. all-shown listing usage es contexts (λ ctx low high. elim (cases_lt n ctx) [
    | inl past ↦ let none : raised_to 0 (top es usage ctx) ≡ 0 = ap (raised_to 0) (top-past es usage n ctx past within) in omega arith
    | inr first ↦
        let point = point_of ctx (own ctx) in
        let late = leb-true (own ctx) (shown_at listing ctx) (sym (shows-late listing point) ∙ shown ctx low first) in
        let is = puts ctx low first in
        omega arith
  ])),
  (λ all ctx low first.
      let late = all-late listing usage es all ctx in
      let is = puts ctx low first in
      shows-late listing (point_of ctx (own ctx)) ∙ le-leb (own ctx) (shown_at listing ctx) (omega arith)),
)
