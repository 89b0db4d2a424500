-- What is seen of points before and after one timeline rises or closes.
use Rattle.std.proofs.Common.{◌≡◌, ◌≢◌, ℕ, ◌-◌, ◌≤◌, Bool, true, false, not, ◌&&◌, ◌||◌, nat_lt, nat_le, refl, sym, ap, ◌∙◌, subst, List, [], ◌∷◌, map, Option, None, Some, unwrap_or, arith, filter, if◌then◌else◌, inl, inr}
use Rattle.std.specs.Prelude.{All, Contains}
use Rattle.std.proofs.lemmas.Bool.{cases_Bool, le-leb, leb-true, leb-false, le-ltb, lt-ltb}
use Rattle.std.proofs.lemmas.Bool.Decides.{eqb_tells}
use Rattle.std.proofs.lemmas.List.{get_or-set_other}
use Rattle.std.proofs.lemmas.List.Elements.{All-head, All-tail, All-map, All-filter, All-weaker, All-contains, All-contains_itself}
use Rattle.point_core.specs.declared.clocks.Clock.{Clock}
use Rattle.point_core.specs.declared.entry.Entry.{Entry}
use Rattle.point_core.specs.declared.entry.Point.{Point}
use Rattle.point_core.specs.declared.listing.TopRow.{TopRow}
use Rattle.point_core.specs.Agreement.{all_reached, listing, pending, pending_top, point_of, top}
use Rattle.point_core.specs.Clocks.{clock_at, new_clock, with_clock, reached_by, is_past_closing, is_cancelled, some_cancelled, status_at, status_of}
use Rattle.point_core.specs.Reach.{IsAtLeast, is_reached, value_at}
use Rattle.point_core.specs.Usage.{usage_number}
use Rattle.point_core.proofs.Agreement.{listing-All, listing-same, top-Some}
use Rattle.point_core.proofs.Ticking.{value_at-reach_of_clocks}
use Rattle.dmabuf_core.specs.Flags.{exported, export_usage, is_within, at_strongest}
use Rattle.timeline_core.specs.Timeline.{Timeline, clock_named, clocks_of, context_of, names_of, reach_of, value_of}
use Rattle.timeline_core.proofs.Lookups.{name_at-stored}
use Rattle.desk_core.specs.theorem.World.{MadeFile}
use Rattle.desk_core.specs.theorem.Answer.{fence_row, listed_points, name_of, show_row, show_rows}
use Rattle.resv_core.specs.Resv.{rows_of}

-- the point is reached in both, or in neither, and cancelled in both, or in neither
pub record IsSeenSame (ts us : List Timeline) (p : Point) : Type 0 where
  pub reached : is_reached (reach_of ts) p ≡ is_reached (reach_of us) p
  pub cancelled : is_cancelled (clocks_of ts) p ≡ is_cancelled (clocks_of us) p

abbrev pub AreSeenSame : List Timeline → List Timeline → List Entry → Type 0
AreSeenSame ts us es = All (λ (e : Entry). IsSeenSame ts us e.point) es

pub seen-itself : (ts : List Timeline) (es : List Entry) → AreSeenSame ts ts es
seen-itself ts es = All-weaker (Contains es) (λ (e : Entry). IsSeenSame ts ts e.point) (λ e among. record { reached = refl; cancelled = refl }) es (All-contains_itself es)

module _ (ts us : List Timeline) where
  pub same-all_reached : (usage : ℕ) (es : List Entry) → AreSeenSame ts us es → all_reached (reach_of ts) usage es ≡ all_reached (reach_of us) usage es
  same-all_reached usage [] seen = refl
  same-all_reached usage (e ∷ es) seen =
      let one = All-head (λ (e : Entry). IsSeenSame ts us e.point) e es seen in
      let rest = same-all_reached usage es (All-tail (λ (e : Entry). IsSeenSame ts us e.point) e es seen) in
      ap (λ b. (not (nat_le (usage_number e.usage) usage) || b) && all_reached (reach_of ts) usage es) one.reached
      ∙ ap (λ b. (not (nat_le (usage_number e.usage) usage) || is_reached (reach_of us) e.point) && b) rest

  pending-by : (value later p : ℕ) → nat_le p value ≡ nat_le p later → pending value (Some p) ≡ pending later (Some p)
  pending-by value later p same = elim (cases_Bool (nat_le p value)) [
    | inl is ↦
        ap (λ b. if b then Some p else None) (le-ltb value p (leb-true p value is) ∙ sym (le-ltb later p (leb-true p later (sym same ∙ is))))
    | inr isnt ↦
        ap (λ b. if b then Some p else None) (lt-ltb value p (leb-false p value isnt) ∙ sym (lt-ltb later p (leb-false p later (sym same ∙ isnt))))
  ]

  same-top : (es : List Entry) (usage ctx : ℕ) → AreSeenSame ts us es → pending_top (reach_of ts) es usage ctx ≡ pending_top (reach_of us) es usage ctx
  same-top es usage ctx seen = by (top es usage ctx) refl
    where
      by : (o : Option ℕ) → top es usage ctx ≡ o → pending (value_at (reach_of ts) ctx) o ≡ pending (value_at (reach_of us) ctx) o
      by None is = refl
      by (Some p) is =
          let put = (top-Some es usage ctx p is).0 in
          let one = All-contains (λ (e : Entry). IsSeenSame ts us e.point) es put.0 seen put.1 in
          let Same : ℕ → ℕ → Type 0 = λ c v. nat_le v (value_at (reach_of ts) c) ≡ nat_le v (value_at (reach_of us) c) in
          let at : Same ctx put.0.point.value = subst (λ c. Same c put.0.point.value) put.2.1 one.reached in
          pending-by (value_at (reach_of ts) ctx) (value_at (reach_of us) ctx) p (subst (Same ctx) put.3 at)

  pub same-listing : (es : List Entry) (usage : ℕ) → AreSeenSame ts us es → listing es usage (reach_of ts) ≡ listing es usage (reach_of us)
  same-listing es usage seen = listing-same es es usage usage (reach_of ts) (reach_of us) (λ ctx low high. same-top es usage ctx seen)

  same-rows : (es : List Entry) → AreSeenSame ts us es → rows_of es (reach_of ts) ≡ rows_of es (reach_of us)
  same-rows es seen = rw (same-listing es 0 seen, same-listing es 1 seen, same-listing es 2 seen, same-listing es 3 seen) refl

  -- names

  module _ (names : names_of ts ≡ names_of us) where
    same-name_of : (ctx : ℕ) → name_of ts ctx ≡ name_of us ctx
    same-name_of ctx = ap (λ o. unwrap_or o []) (sym (name_at-stored ts ctx refl) ∙ name_at-stored us ctx names)

    same-shown : (rows : List TopRow) → map (show_row ts) rows ≡ map (show_row us) rows
    same-shown [] = refl
    same-shown (r ∷ rows) =
        ap (λ name. record { usage = r.usage; timeline = name; point = r.point } ∷ map (show_row ts) rows) (same-name_of r.ctx)
        ∙ ap (λ more. show_row us r ∷ more) (same-shown rows)

    pub same-show_rows : (es : List Entry) → AreSeenSame ts us es → show_rows ts es ≡ show_rows us es
    same-show_rows es seen = ap (map (show_row ts)) (same-rows es seen) ∙ same-shown (rows_of es (reach_of us))

    same-status : (p : Point) → IsSeenSame ts us p → status_at (clocks_of ts) p ≡ status_at (clocks_of us) p
    same-status p seen =
        ap (λ v. status_of (nat_le p.value v) (is_cancelled (clocks_of ts) p)) (sym (value_at-reach_of_clocks (clocks_of ts) p.ctx))
        ∙ ap (λ b. status_of b (is_cancelled (clocks_of ts) p)) seen.reached
        ∙ ap (status_of (is_reached (reach_of us) p)) seen.cancelled
        ∙ ap (λ v. status_of (nat_le p.value v) (is_cancelled (clocks_of us) p)) (value_at-reach_of_clocks (clocks_of us) p.ctx)

    same-fence_row : (p : Point) → IsSeenSame ts us p → fence_row ts p ≡ fence_row us p
    same-fence_row p seen = rw (same-name_of p.ctx, same-status p seen) refl

    pub same-fences : (ps : List Point) → All (IsSeenSame ts us) ps → map (fence_row ts) ps ≡ map (fence_row us) ps
    same-fences [] seen = refl
    same-fences (p ∷ ps) seen =
        ap (λ row. row ∷ map (fence_row ts) ps) (same-fence_row p (All-head (IsSeenSame ts us) p ps seen))
        ∙ ap (λ more. fence_row us p ∷ more) (same-fences ps (All-tail (IsSeenSame ts us) p ps seen))

  pub same-cancelled : (ps : List Point) → All (IsSeenSame ts us) ps → some_cancelled (clocks_of ts) ps ≡ some_cancelled (clocks_of us) ps
  same-cancelled [] seen = refl
  same-cancelled (p ∷ ps) seen =
      ap (λ b. b || some_cancelled (clocks_of ts) ps) (All-head (IsSeenSame ts us) p ps seen).cancelled
      ∙ ap (λ b. is_cancelled (clocks_of us) p || b) (same-cancelled ps (All-tail (IsSeenSame ts us) p ps seen))

  -- the points that a file lists are points that were put

  pending-is : (value : ℕ) (o : Option ℕ) (p : ℕ) → pending value o ≡ Some p → o ≡ Some p
  pending-is value None p is = is
  pending-is value (Some q) p is = by (nat_lt value q) is
    where
      by : (b : Bool) → (if b then Some q else None) ≡ Some p → Some q ≡ Some p
      by true is = is
      by false is = absurd (cc)

  same-point : (q : Point) (ctx p : ℕ) → q.ctx ≡ ctx → q.value ≡ p → q ≡ point_of ctx p
  same-point q ctx p is is' = ap (λ c. point_of c q.value) is ∙ ap (point_of ctx) is'

  listed-by : (f : MadeFile) (one : Bool) → AreSeenSame ts us f.put → All (IsSeenSame ts us) (if one then map (λ (e : Entry). e.point) f.put else listing f.put 0 f.made_at)
  listed-by f true seen = All-map (IsSeenSame ts us) (λ (e : Entry). e.point) f.put seen
  listed-by f false seen = listing-All (IsSeenSame ts us) f.put 0 f.made_at (λ ctx p low high is.
      let put = (top-Some f.put 0 ctx p (pending-is (value_at f.made_at ctx) (top f.put 0 ctx) p is)).0 in
      subst (IsSeenSame ts us) (same-point put.0.point ctx p put.2.1 put.3) (All-contains (λ (e : Entry). IsSeenSame ts us e.point) f.put put.0 seen put.1))

  pub listed-seen : (f : MadeFile) → AreSeenSame ts us f.put → All (IsSeenSame ts us) (listed_points f)
  listed-seen f seen = listed-by f f.is_one_point seen

  pub exported-seen : (flags : ℕ) (es : List Entry) → AreSeenSame ts us es → AreSeenSame ts us (exported flags es)
  exported-seen flags es seen =
      All-map (λ (e : Entry). IsSeenSame ts us e.point) at_strongest (filter (is_within (export_usage flags)) es)
      (All-filter (is_within (export_usage flags)) (λ (e : Entry). IsSeenSame ts us e.point) es seen)

-- after one timeline has risen or was closed, points are seen as before, if its own are reached

past-not : (k : Clock) (value : ℕ) → value ≤ k.value → is_past_closing k value ≡ false
past-not k value low = ap (λ b. k.closed && not b) (le-leb value k.value low) ∙ by k.closed
  where
    by : (b : Bool) → (b && false) ≡ false
    by true = refl
    by false = refl

module _ (ts us : List Timeline) (name : List ℕ) (clock : Clock) (is : clocks_of us ≡ with_clock (clocks_of ts) (context_of ts name) clock) where
  seen-other : (p : Point) → 1 ≤ p.ctx → 1 ≤ context_of ts name → p.ctx ≢ context_of ts name → IsSeenSame ts us p
  seen-other p low low' apart =
      let same : clock_at (clocks_of us) p.ctx ≡ clock_at (clocks_of ts) p.ctx =
      ap (λ ks. clock_at ks p.ctx) is ∙ get_or-set_other (clocks_of ts) (context_of ts name - 1) (p.ctx - 1) clock new_clock (λ e. apart (omega (arith, e, low, low'))) in
      record {
        reached = ap (nat_le p.value) (value_at-reach_of_clocks (clocks_of ts) p.ctx ∙ ap reached_by (sym same) ∙ sym (value_at-reach_of_clocks (clocks_of us) p.ctx));
        cancelled = ap (λ k. is_past_closing k p.value) (sym same);
      }

  module _ (contexts : context_of ts name ≡ context_of us name) (rises : IsAtLeast (reach_of us) (reach_of ts)) (values : value_of ts name ≤ value_of us name)
      (own : value_at (reach_of ts) (context_of ts name) ≡ value_of ts name) where
    seen-own : (p : Point) → p.ctx ≡ context_of ts name → p.value ≤ value_at (reach_of ts) p.ctx → IsSeenSame ts us p
    seen-own p at low =
        let up : value_at (reach_of ts) p.ctx ≤ value_at (reach_of us) p.ctx = rises.values p.ctx in
        let value : p.value ≤ value_of ts name = subst (λ v. p.value ≤ v) (ap (value_at (reach_of ts)) at ∙ own) low in
        let now : is_past_closing (clock_at (clocks_of ts) p.ctx) p.value ≡ false = ap (λ c. is_past_closing (clock_at (clocks_of ts) c) p.value) at ∙ past-not (clock_named ts name) p.value value in
        let later : is_past_closing (clock_at (clocks_of us) p.ctx) p.value ≡ false =
        ap (λ c. is_past_closing (clock_at (clocks_of us) c) p.value) (at ∙ contexts) ∙ past-not (clock_named us name) p.value (omega (arith, value, values)) in
        record {
          reached = le-leb p.value (value_at (reach_of ts) p.ctx) low ∙ sym (le-leb p.value (value_at (reach_of us) p.ctx) (omega (arith, low, up)));
          cancelled = now ∙ sym later;
        }

    pub seen-all : (es : List Entry) → 1 ≤ context_of ts name → All (λ (e : Entry). 1 ≤ e.point.ctx) es
        → ((e : Entry) → Contains es e → e.point.ctx ≡ context_of ts name → e.point.value ≤ value_at (reach_of ts) (context_of ts name)) → AreSeenSame ts us es
    seen-all es low lows reached =
        All-weaker (Contains es) (λ (e : Entry). IsSeenSame ts us e.point) (λ e among. elim (eqb_tells e.point.ctx (context_of ts name)) [
          | inl same ↦ seen-own e.point same.1 (subst (λ c. e.point.value ≤ value_at (reach_of ts) c) (sym same.1) (reached e among same.1))
          | inr other ↦ seen-other e.point (All-contains (λ (e : Entry). 1 ≤ e.point.ctx) es e lows among) low other.1
        ]) es (All-contains_itself es)
