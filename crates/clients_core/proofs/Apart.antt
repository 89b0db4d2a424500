-- Entries of other contexts say nothing of a context.
use Rattle.std.proofs.Common.{◌≡◌, ◌≢◌, ℕ, zero, suc, ◌+◌, ◌<◌, ◌≤◌, List, [], ◌∷◌, ◌++◌, refl, sym, ap, ◌∙◌, append-nil, if◌then◌else◌, Option, None, arith, All}
use Rattle.std.specs.List.{cons_option, filter_map, range_with_len}
use Rattle.std.proofs.lemmas.List.Elements.{All-head, All-tail, All-weaker}
use Rattle.point_core.specs.declared.entry.Entry.{Entry}
use Rattle.point_core.specs.Agreement.{applies, later, top}
use Rattle.point_core.proofs.Latest.{applies-other}
use Rattle.point_core.proofs.Listings.{filter_map-range_more}

-- before the others
pub top-after : (es fs : List Entry) (usage ctx : ℕ) → All (λ e. e.point.ctx ≢ ctx) es → top (es ++ fs) usage ctx ≡ top fs usage ctx
top-after [] fs usage ctx apart = refl
top-after (e ∷ es) fs usage ctx apart =
    let P = λ (e : Entry). e.point.ctx ≢ ctx in
    rw (applies-other e usage ctx (All-head P e es apart)) (top-after es fs usage ctx (All-tail P e es apart))

pub top-none : (es : List Entry) (usage ctx : ℕ) → All (λ e. e.point.ctx ≢ ctx) es → top es usage ctx ≡ None
top-none es usage ctx apart = ap (λ (fs : List Entry). top fs usage ctx) (sym (append-nil es)) ∙ top-after es [] usage ctx apart

-- behind them
pub top-before : (es fs : List Entry) (usage ctx : ℕ) → All (λ e. e.point.ctx ≢ ctx) fs → top (es ++ fs) usage ctx ≡ top es usage ctx
top-before [] fs usage ctx apart = top-none fs usage ctx apart
top-before (e ∷ es) fs usage ctx apart = ap (λ (t : Option ℕ). if applies e usage ctx then later e.point.value t else t) (top-before es fs usage ctx apart)

-- entries only of the first contexts
pub top-past : (es : List Entry) (usage n ctx : ℕ) → n < ctx → All (λ e. e.point.ctx ≤ n) es → top es usage ctx ≡ None
top-past es usage n ctx past within = top-none es usage ctx (All-weaker (λ (e : Entry). e.point.ctx ≤ n) (λ (e : Entry). e.point.ctx ≢ ctx) (λ e low is. absurd (omega arith)) es within)

-- numbers that give nothing
pub filter_map-range_rest : {X : Type 0} (h : ℕ → Option X) (n m : ℕ) → ((k : ℕ) → n < k → h k ≡ None) → filter_map h (range_with_len 1 (n + m)) ≡ filter_map h (range_with_len 1 n)
filter_map-range_rest h n zero none = ap (λ (k : ℕ). filter_map h (range_with_len 1 k)) (omega arith)
filter_map-range_rest h n (suc m) none =
    let next : n + suc m ≡ suc (n + m) = omega arith in
    ap (λ (k : ℕ). filter_map h (range_with_len 1 k)) next
    ∙ filter_map-range_more h 1 (n + m)
    ∙ ap (λ (o : _). filter_map h (range_with_len 1 (n + m)) ++ cons_option o []) (none (1 + (n + m)) (omega arith))
    ∙ append-nil (filter_map h (range_with_len 1 (n + m)))
    ∙ filter_map-range_rest h n m none
