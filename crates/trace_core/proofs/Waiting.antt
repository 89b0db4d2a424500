-- The waits that are kept are the open ones, as waits begin and end.
use Rattle.std.proofs.Common.{◌≡◌, ℕ, suc, ◌+◌, ◌-◌, ◌<◌, ◌≤◌, nat_eq, Bool, true, false, true≢false, ◌&&◌, ◌⊎◌, inl, inr, cond, refl, sym, ap, ◌∙◌, List, [], ◌∷◌, ◌++◌, length, map, filter, find, Option, None, Some, option_map, is_some, arith}
use Rattle.std.specs.Map.{lookup, remove_entry}
use Rattle.std.proofs.lemmas.Bool.{eqb-true, eq-eqb, ne_eqb, cases_lt, and_parts}
use Rattle.indexmap.specs.IndexMap.{IndexMap}
use Rattle.trace_core.specs.declared.fence_event.FenceKey.{FenceKey}
use Rattle.trace_core.specs.declared.waits.Wait.{Wait}
use Rattle.trace_core.specs.declared.waits.WaitKey.{WaitKey}
use Rattle.trace_core.specs.Keys.{same_key}
use Rattle.trace_core.specs.Waits.{Started, is_wait_for, keyed, started_each, started_of, wait_key, waiting, without_first}
use Rattle.trace_core.proofs.Naming.{find-passes}
use Rattle.trace_core.proofs.Same.{same_key-is, same_key-laws}

abbrev pub same_wait : WaitKey → WaitKey → Bool
same_wait a b = nat_eq a.pid b.pid && (same_key a.key b.key && nat_eq a.nth b.nth)

abbrev made : ℕ → FenceKey → ℕ → Started
made pid key start = record { pid = pid; key = key; start = start }

-- the entry of the newest wait
abbrev last_of : Started → List Started → WaitKey × Started
last_of w ws = (wait_key w.pid w.key (waiting w.pid w.key ws), w)

-- the entries with other values
abbrev each : {K X Y : Type 0} → (X → Y) → List (K × X) → List (K × Y)
each f es = map (λ e. (e.0, f e.1)) es

-- look-ups of entries with one more at the end
module _ {K X : Type 0} (test : K → Bool) where
  lookup-last : (es : List (K × X)) (e : K × X) → lookup test es ≡ None → test e.0 ≡ true → lookup test (es ++ e ∷ []) ≡ Some e.1
  lookup-last [] e none passes = ap (λ b. cond b (Some e.1) None) passes
  lookup-last (d ∷ es) e none passes = by (test d.0) refl none (λ n. lookup-last es e n passes)
    where
      by : (b : Bool) → test d.0 ≡ b → cond b (Some d.1) (lookup test es) ≡ None → (lookup test es ≡ None → lookup test (es ++ e ∷ []) ≡ Some e.1) → lookup test (d ∷ es ++ e ∷ []) ≡ Some e.1
      by true is none rest = absurd (true≢false (ap is_some none))
      by false is none rest = ap (λ b. cond b (Some d.1) (lookup test (es ++ e ∷ []))) is ∙ rest none

  lookup-before : (es : List (K × X)) (e : K × X) → test e.0 ≡ false → lookup test (es ++ e ∷ []) ≡ lookup test es
  lookup-before [] e fails = ap (λ b. cond b (Some e.1) None) fails
  lookup-before (d ∷ es) e fails = ap (cond (test d.0) (Some d.1)) (lookup-before es e fails)

  lookup-some : (es : List (K × X)) (e : K × X) → is_some (lookup test es) ≡ true → is_some (lookup test (es ++ e ∷ [])) ≡ true
  lookup-some [] e some = absurd (true≢false (sym some))
  lookup-some (d ∷ es) e some = by (test d.0) some (lookup-some es e)
    where
      by : (b : Bool) → is_some (cond b (Some d.1) (lookup test es)) ≡ true → (is_some (lookup test es) ≡ true → is_some (lookup test (es ++ e ∷ [])) ≡ true) → is_some (cond b (Some d.1) (lookup test (es ++ e ∷ []))) ≡ true
      by true some rest = refl
      by false some rest = rest some

  remove-last : (es : List (K × X)) (e : K × X) → lookup test es ≡ None → test e.0 ≡ true → remove_entry test (es ++ e ∷ []) ≡ es
  remove-last [] e none passes = ap (λ b. cond b [] (e ∷ [])) passes
  remove-last (d ∷ es) e none passes = by (test d.0) none (λ n. remove-last es e n passes)
    where
      by : (b : Bool) → cond b (Some d.1) (lookup test es) ≡ None → (lookup test es ≡ None → remove_entry test (es ++ e ∷ []) ≡ es) → cond b (es ++ e ∷ []) (d ∷ remove_entry test (es ++ e ∷ [])) ≡ d ∷ es
      by true none rest = absurd (true≢false (ap is_some none))
      by false none rest = ap (λ xs. d ∷ xs) (rest none)

  remove-before : (es : List (K × X)) (e : K × X) → test e.0 ≡ false → remove_entry test (es ++ e ∷ []) ≡ remove_entry test es ++ e ∷ []
  remove-before [] e fails = ap (λ b. cond b [] (e ∷ [])) fails
  remove-before (d ∷ es) e fails = by (test d.0) (remove-before es e fails)
    where
      by : (b : Bool) → remove_entry test (es ++ e ∷ []) ≡ remove_entry test es ++ e ∷ [] → cond b (es ++ e ∷ []) (d ∷ remove_entry test (es ++ e ∷ [])) ≡ cond b es (d ∷ remove_entry test es) ++ e ∷ []
      by true rest = refl
      by false rest = ap (λ xs. d ∷ xs) rest

module _ {K X Y : Type 0} (test : K → Bool) (f : X → Y) where
  lookup-each : (es : List (K × X)) → lookup test (each f es) ≡ option_map f (lookup test es)
  lookup-each [] = refl
  lookup-each (e ∷ es) = by (test e.0) (lookup-each es)
    where
      by : (b : Bool) → lookup test (each f es) ≡ option_map f (lookup test es) → cond b (Some (f e.1)) (lookup test (each f es)) ≡ option_map f (cond b (Some e.1) (lookup test es))
      by true rest = refl
      by false rest = rest

  remove-each : (es : List (K × X)) → each f (remove_entry test es) ≡ remove_entry test (each f es)
  remove-each [] = refl
  remove-each (e ∷ es) = by (test e.0) (remove-each es)
    where
      by : (b : Bool) → each f (remove_entry test es) ≡ remove_entry test (each f es) → each f (cond b es (e ∷ remove_entry test es)) ≡ cond b (each f es) ((e.0, f e.1) ∷ remove_entry test (each f es))
      by true rest = refl
      by false rest = ap (λ xs. (e.0, f e.1) ∷ xs) rest

module _ {K X Y : Type 0} (f : X → Y) where
  each-last : (es : List (K × X)) (e : K × X) → each f (es ++ e ∷ []) ≡ each f es ++ (e.0, f e.1) ∷ []
  each-last [] e = refl
  each-last (d ∷ es) e = ap (λ xs. (d.0, f d.1) ∷ xs) (each-last es e)

  length-each : (es : List (K × X)) → length (each f es) ≡ length es
  length-each [] = refl
  length-each (e ∷ es) = ap suc (length-each es)

pub entries-kept : {K X S : Type 0} (m n : IndexMap K X S) → m ≡ n → m.entries ≡ n.entries
entries-kept {K} {X} {S} m n same = ap (λ (x : IndexMap K X S). x.entries) same

none-each : {X Y : Type 0} (f : X → Y) (o : Option X) → option_map f o ≡ None → o ≡ None
none-each f None is = refl
none-each f (Some x) is = absurd (true≢false (ap is_some is))

some-each : {X Y : Type 0} (f : X → Y) (o : Option X) → is_some (option_map f o) ≡ is_some o
some-each f None = refl
some-each f (Some x) = refl

length-last : {X : Type 0} (xs : List X) (x : X) → length (xs ++ x ∷ []) ≡ suc (length xs)
length-last [] x = refl
length-last (y ∷ xs) x = ap suc (length-last xs x)

-- a wait for that fence of that task, and the number that it has among those
is-for : (pid : ℕ) (key : FenceKey) (w : Started) → is_wait_for pid key w ≡ true → (pid ≡ w.pid) × (key ≡ w.key)
is-for pid key w is =
    let parts = and_parts (nat_eq pid w.pid) (same_key key w.key) is in
    (eqb-true pid w.pid parts.0, same_key-is key w.key parts.1)

and-assoc : (a b c : Bool) → (a && (b && c)) ≡ ((a && b) && c)
and-assoc true b c = refl
and-assoc false b c = refl

one-more : (pid : ℕ) (key : FenceKey) (w : Started) (ws : List Started) (b : Bool) → is_wait_for pid key w ≡ b → waiting pid key (w ∷ ws) ≡ length (cond b (w ∷ filter (is_wait_for pid key) ws) (filter (is_wait_for pid key) ws))
one-more pid key w ws b is =
    ap (λ c. length (cond c (w ∷ filter (is_wait_for pid key) ws) (filter (is_wait_for pid key) ws))) is

remade : (pid : ℕ) (key : FenceKey) (w : Started) → pid ≡ w.pid → key ≡ w.key → made pid key w.start ≡ w
remade pid key w a b = λ i. record { pid = a i; key = b i; start = w.start }

module _ (pid : ℕ) (key : FenceKey) where
  other : (n : ℕ) (w : Started) (m : ℕ) → is_wait_for pid key w ≡ false → same_wait (wait_key pid key n) (wait_key w.pid w.key m) ≡ false
  other n w m is = and-assoc (nat_eq pid w.pid) (same_key key w.key) (nat_eq n m) ∙ ap (λ b. b && nat_eq n m) is

  own : (n : ℕ) (w : Started) (m : ℕ) → is_wait_for pid key w ≡ true → same_wait (wait_key pid key n) (wait_key w.pid w.key m) ≡ nat_eq n m
  own n w m is = and-assoc (nat_eq pid w.pid) (same_key key w.key) (nat_eq n m) ∙ ap (λ b. b && nat_eq n m) is

  as-many : (w : Started) (ws : List Started) → is_wait_for pid key w ≡ true → waiting w.pid w.key ws ≡ waiting pid key ws
  as-many w ws is =
      let same = is-for pid key w is in
      sym (ap (λ p. waiting p key ws) same.0 ∙ ap (λ k. waiting w.pid k ws) same.1)

  -- no wait has a number that is not below their count
  pub absent : (n : ℕ) (ws : List Started) → waiting pid key ws ≤ n → lookup (same_wait (wait_key pid key n)) (keyed ws) ≡ None
  absent n [] h = refl
  absent n (w ∷ ws) h = by (is_wait_for pid key w) refl (absent n ws)
    where
      by : (b : Bool) → is_wait_for pid key w ≡ b → (waiting pid key ws ≤ n → lookup (same_wait (wait_key pid key n)) (keyed ws) ≡ None) → lookup (same_wait (wait_key pid key n)) (keyed ws ++ last_of w ws ∷ []) ≡ None
      by true is rest =
          let more : waiting pid key (w ∷ ws) ≡ suc (waiting pid key ws) = one-more pid key w ws true is in
          let many : waiting w.pid w.key ws ≡ waiting pid key ws = as-many w ws is in
          let fails = own n w (waiting w.pid w.key ws) is ∙ ne_eqb n (waiting w.pid w.key ws) (λ e. omega (arith, e, more, many, h)) in
          lookup-before (same_wait (wait_key pid key n)) (keyed ws) (last_of w ws) fails ∙ rest (omega (arith, more, h))
      by false is rest =
          let more : waiting pid key (w ∷ ws) ≡ waiting pid key ws = one-more pid key w ws false is in
          lookup-before (same_wait (wait_key pid key n)) (keyed ws) (last_of w ws) (other n w (waiting w.pid w.key ws) is)
          ∙ rest (omega (arith, more, h))

  -- each number below their count is one's
  pub present : (n : ℕ) (ws : List Started) → n < waiting pid key ws → is_some (lookup (same_wait (wait_key pid key n)) (keyed ws)) ≡ true
  present n [] h = let below : n < 0 = h in absurd (omega (arith, below))
  present n (w ∷ ws) h = by (is_wait_for pid key w) refl (cases_lt n (waiting pid key ws)) (present n ws)
    where
      by : (b : Bool) → is_wait_for pid key w ≡ b → (n < waiting pid key ws) ⊎ (waiting pid key ws ≤ n) → (n < waiting pid key ws → is_some (lookup (same_wait (wait_key pid key n)) (keyed ws)) ≡ true) → is_some (lookup (same_wait (wait_key pid key n)) (keyed ws ++ last_of w ws ∷ [])) ≡ true
      by true is (inl below) rest = lookup-some (same_wait (wait_key pid key n)) (keyed ws) (last_of w ws) (rest below)
      by true is (inr over) rest =
          let more : waiting pid key (w ∷ ws) ≡ suc (waiting pid key ws) = one-more pid key w ws true is in
          let same : n ≡ waiting pid key ws = omega (arith, over, more, h) in
          let passes = own n w (waiting w.pid w.key ws) is ∙ eq-eqb n (waiting w.pid w.key ws) (same ∙ sym (as-many w ws is)) in
          ap is_some (lookup-last (same_wait (wait_key pid key n)) (keyed ws) (last_of w ws) (absent n ws over) passes)
      by false is cases rest =
          let more : waiting pid key (w ∷ ws) ≡ waiting pid key ws = one-more pid key w ws false is in
          lookup-some (same_wait (wait_key pid key n)) (keyed ws) (last_of w ws) (rest (omega (arith, more, h)))

  -- the wait that began last has the greatest number
  pub found : (n : ℕ) (ws : List Started) → n ≡ waiting pid key ws - 1 → lookup (same_wait (wait_key pid key n)) (keyed ws) ≡ find (is_wait_for pid key) ws
  found n [] at = refl
  found n (w ∷ ws) at = by (is_wait_for pid key w) refl (found n ws)
    where
      by : (b : Bool) → is_wait_for pid key w ≡ b → (n ≡ waiting pid key ws - 1 → lookup (same_wait (wait_key pid key n)) (keyed ws) ≡ find (is_wait_for pid key) ws) → lookup (same_wait (wait_key pid key n)) (keyed ws ++ last_of w ws ∷ []) ≡ cond (is_wait_for pid key w) (Some w) (find (is_wait_for pid key) ws)
      by true is rest =
          let more : waiting pid key (w ∷ ws) ≡ suc (waiting pid key ws) = one-more pid key w ws true is in
          let same : n ≡ waiting pid key ws = omega (arith, at, more) in
          let passes = own n w (waiting w.pid w.key ws) is ∙ eq-eqb n (waiting w.pid w.key ws) (same ∙ sym (as-many w ws is)) in
          lookup-last (same_wait (wait_key pid key n)) (keyed ws) (last_of w ws) (absent n ws (omega (arith, same))) passes
          ∙ sym (ap (λ b. cond b (Some w) (find (is_wait_for pid key) ws)) is)
      by false is rest =
          let more : waiting pid key (w ∷ ws) ≡ waiting pid key ws = one-more pid key w ws false is in
          lookup-before (same_wait (wait_key pid key n)) (keyed ws) (last_of w ws) (other n w (waiting w.pid w.key ws) is)
          ∙ rest (omega (arith, at, more))
          ∙ sym (ap (λ b. cond b (Some w) (find (is_wait_for pid key) ws)) is)

  -- a wait of another task, or for another fence, keeps its number
  others : (w : Started) (ws : List Started) → is_wait_for pid key w ≡ false → waiting w.pid w.key (without_first (is_wait_for pid key) ws) ≡ waiting w.pid w.key ws
  others w [] is = refl
  others w (x ∷ ws) is = by (is_wait_for pid key x) refl (others w ws is)
    where
      apart : is_wait_for pid key x ≡ true → (b : Bool) → is_wait_for w.pid w.key x ≡ b → b ≡ false
      apart same false e = refl
      apart same true e =
          let a = is-for pid key x same in
          let b = is-for w.pid w.key x e in
          let there : is_wait_for pid key w ≡ true = ap (λ p. nat_eq pid p && same_key key w.key) (b.0 ∙ sym a.0) ∙ ap (λ k. nat_eq pid pid && same_key key k) (b.1 ∙ sym a.1) ∙ ap (λ t. t && same_key key key) (eq-eqb pid pid refl) ∙ same_key-laws.refl key in
          absurd (true≢false (sym there ∙ is))

      step : waiting w.pid w.key (without_first (is_wait_for pid key) ws) ≡ waiting w.pid w.key ws → (b : Bool) → is_wait_for w.pid w.key x ≡ b → waiting w.pid w.key (x ∷ without_first (is_wait_for pid key) ws) ≡ waiting w.pid w.key (x ∷ ws)
      step rest true t =
          one-more w.pid w.key x (without_first (is_wait_for pid key) ws) true t
          ∙ ap suc rest
          ∙ sym (one-more w.pid w.key x ws true t)
      step rest false t =
          one-more w.pid w.key x (without_first (is_wait_for pid key) ws) false t
          ∙ rest
          ∙ sym (one-more w.pid w.key x ws false t)

      by : (b : Bool) → is_wait_for pid key x ≡ b → waiting w.pid w.key (without_first (is_wait_for pid key) ws) ≡ waiting w.pid w.key ws → waiting w.pid w.key (cond (is_wait_for pid key x) ws (x ∷ without_first (is_wait_for pid key) ws)) ≡ waiting w.pid w.key (x ∷ ws)
      by true e rest =
          ap (λ b. waiting w.pid w.key (cond b ws (x ∷ without_first (is_wait_for pid key) ws))) e
          ∙ sym (one-more w.pid w.key x ws false (apart e (is_wait_for w.pid w.key x) refl))
      by false e rest =
          ap (λ b. waiting w.pid w.key (cond b ws (x ∷ without_first (is_wait_for pid key) ws))) e
          ∙ step rest (is_wait_for w.pid w.key x) refl

  -- without it, the others keep theirs
  pub removed : (n : ℕ) (ws : List Started) → n ≡ waiting pid key ws - 1 → remove_entry (same_wait (wait_key pid key n)) (keyed ws) ≡ keyed (without_first (is_wait_for pid key) ws)
  removed n [] at = refl
  removed n (w ∷ ws) at = by (is_wait_for pid key w) refl (removed n ws)
    where
      by : (b : Bool) → is_wait_for pid key w ≡ b → (n ≡ waiting pid key ws - 1 → remove_entry (same_wait (wait_key pid key n)) (keyed ws) ≡ keyed (without_first (is_wait_for pid key) ws)) → remove_entry (same_wait (wait_key pid key n)) (keyed ws ++ last_of w ws ∷ []) ≡ keyed (cond (is_wait_for pid key w) ws (w ∷ without_first (is_wait_for pid key) ws))
      by true is rest =
          let more : waiting pid key (w ∷ ws) ≡ suc (waiting pid key ws) = one-more pid key w ws true is in
          let same : n ≡ waiting pid key ws = omega (arith, at, more) in
          let passes = own n w (waiting w.pid w.key ws) is ∙ eq-eqb n (waiting w.pid w.key ws) (same ∙ sym (as-many w ws is)) in
          remove-last (same_wait (wait_key pid key n)) (keyed ws) (last_of w ws) (absent n ws (omega (arith, same))) passes
          ∙ sym (ap (λ b. keyed (cond b ws (w ∷ without_first (is_wait_for pid key) ws))) is)
      by false is rest =
          let more : waiting pid key (w ∷ ws) ≡ waiting pid key ws = one-more pid key w ws false is in
          remove-before (same_wait (wait_key pid key n)) (keyed ws) (last_of w ws) (other n w (waiting w.pid w.key ws) is)
          ∙ ap (λ es. es ++ last_of w ws ∷ []) (rest (omega (arith, at, more)))
          ∙ sym (ap (λ m. keyed (without_first (is_wait_for pid key) ws) ++ (wait_key w.pid w.key m, w) ∷ []) (others w ws is))
          ∙ sym (ap (λ b. keyed (cond b ws (w ∷ without_first (is_wait_for pid key) ws))) is)

  -- the wait that is found is one of the task for the fence
  find-is : (ws : List Started) (o : Option Started) → o ≡ find (is_wait_for pid key) ws → option_map (λ (w : Started). made pid key w.start) o ≡ find (is_wait_for pid key) ws
  find-is ws None at = at
  find-is ws (Some w) at =
      let same = is-for pid key w (find-passes (is_wait_for pid key) ws w at) in
      ap Some (remade pid key w same.0 same.1) ∙ at

-- what the entries say of the open waits
module _ (pid : ℕ) (key : FenceKey) (es : List (WaitKey × Wait)) (waits : List Started) (are : started_each es ≡ keyed waits) where
  pub kept-some : (n : ℕ) → is_some (lookup (same_wait (wait_key pid key n)) es) ≡ true → n < waiting pid key waits
  kept-some n some = elim (cases_lt n (waiting pid key waits)) [
    | inl below ↦ below
    | inr over ↦ absurd (true≢false (sym some ∙ ap is_some (none-each started_of (lookup (same_wait (wait_key pid key n)) es) (sym (lookup-each (same_wait (wait_key pid key n)) started_of es) ∙ ap (lookup (same_wait (wait_key pid key n))) are ∙ absent pid key n waits over))))
  ]

  pub kept-none : (n : ℕ) → is_some (lookup (same_wait (wait_key pid key n)) es) ≡ false → waiting pid key waits ≤ n
  kept-none n none = elim (cases_lt n (waiting pid key waits)) [
    | inl below ↦ absurd (true≢false (sym (present pid key n waits below) ∙ sym (ap (λ xs. is_some (lookup (same_wait (wait_key pid key n)) xs)) are) ∙ ap is_some (lookup-each (same_wait (wait_key pid key n)) started_of es) ∙ some-each started_of (lookup (same_wait (wait_key pid key n)) es) ∙ none))
    | inr over ↦ over
  ]

  -- the number of the first key that is not kept is how many there are
  pub counted : (n : ℕ) → ((k : ℕ) → k < n → is_some (lookup (same_wait (wait_key pid key k)) es) ≡ true) → is_some (lookup (same_wait (wait_key pid key n)) es) ≡ false → n ≡ waiting pid key waits
  counted n all none =
      let least : waiting pid key waits ≤ n = kept-none n none in
      elim (cases_lt (waiting pid key waits) n) [
        | inl below ↦ absurd (omega (arith, kept-some (waiting pid key waits) (all (waiting pid key waits) below)))
        | inr over ↦ omega (arith, least, over)
      ]

  within : (ws : List Started) → waiting pid key ws ≤ length (keyed ws)
  within [] = let none : 0 ≤ 0 = omega arith in none
  within (w ∷ ws) = by (is_wait_for pid key w) refl (within ws)
    where
      by : (b : Bool) → is_wait_for pid key w ≡ b → waiting pid key ws ≤ length (keyed ws) → waiting pid key (w ∷ ws) ≤ length (keyed ws ++ last_of w ws ∷ [])
      by true is rest =
          let more : waiting pid key (w ∷ ws) ≡ suc (waiting pid key ws) = one-more pid key w ws true is in
          let long : length (keyed ws ++ last_of w ws ∷ []) ≡ suc (length (keyed ws)) = length-last (keyed ws) (last_of w ws) in
          omega (arith, more, long, rest)
      by false is rest =
          let more : waiting pid key (w ∷ ws) ≡ waiting pid key ws = one-more pid key w ws false is in
          let long : length (keyed ws ++ last_of w ws ∷ []) ≡ suc (length (keyed ws)) = length-last (keyed ws) (last_of w ws) in
          omega (arith, more, long, rest)

  -- there are no more than there are entries
  pub counted-all : (n : ℕ) → n ≡ length es → ((k : ℕ) → k < n → is_some (lookup (same_wait (wait_key pid key k)) es) ≡ true) → n ≡ waiting pid key waits
  counted-all n at all =
      let long : length es ≡ length (keyed waits) = sym (length-each started_of es) ∙ ap length are in
      let most : waiting pid key waits ≤ length es = omega (arith, within waits, long) in
      elim (cases_lt (waiting pid key waits) n) [
        | inl below ↦ absurd (omega (arith, kept-some (waiting pid key waits) (all (waiting pid key waits) below)))
        | inr over ↦ omega (arith, most, over, at)
      ]

  -- the next key is not kept
  pub next-absent : (k : WaitKey) (n : ℕ) → k ≡ wait_key pid key n → n ≡ waiting pid key waits → lookup (same_wait k) es ≡ None
  next-absent k n k-is at =
      ap (λ q. lookup (same_wait q) es) k-is
      ∙ none-each started_of (lookup (same_wait (wait_key pid key n)) es) (sym (lookup-each (same_wait (wait_key pid key n)) started_of es) ∙ ap (lookup (same_wait (wait_key pid key n))) are ∙ absent pid key n waits (omega (arith, at)))

  -- a wait begins: its entry is the last
  pub begins : (start : ℕ) (k : WaitKey) (v : Wait) (n : ℕ) (new : List (WaitKey × Wait)) → k ≡ wait_key pid key n → n ≡ waiting pid key waits → started_of v ≡ made pid key start → new ≡ es ++ (k, v) ∷ [] → started_each new ≡ keyed (made pid key start ∷ waits)
  begins start k v n new k-is at v-is new-is =
      ap (λ xs. started_each xs) new-is
      ∙ each-last started_of es (k, v)
      ∙ ap (λ xs. xs ++ (k, started_of v) ∷ []) are
      ∙ ap (λ q. keyed waits ++ (q, started_of v) ∷ []) (k-is ∙ ap (wait_key pid key) at)
      ∙ ap (λ x. keyed waits ++ (wait_key pid key (waiting pid key waits), x) ∷ []) v-is

  -- a wait ends, if there is one: the wait that began last
  module _ (k : WaitKey) (n : ℕ) (k-is : k ≡ wait_key pid key n) (at : n ≡ waiting pid key waits - 1) where
    pub ended : (o : Option Wait) → o ≡ lookup (same_wait k) es → option_map (λ (w : Wait). made pid key w.start) o ≡ find (is_wait_for pid key) waits
    ended o o-is =
        let same : option_map started_of o ≡ find (is_wait_for pid key) waits =
        ap (option_map started_of) (o-is ∙ ap (λ q. lookup (same_wait q) es) k-is)
        ∙ sym (lookup-each (same_wait (wait_key pid key n)) started_of es)
        ∙ ap (lookup (same_wait (wait_key pid key n))) are
        ∙ found pid key n waits at in
        through o ∙ find-is pid key waits (option_map started_of o) same
      where
        through : (q : Option Wait) → option_map (λ (w : Wait). made pid key w.start) q ≡ option_map (λ (w : Started). made pid key w.start) (option_map started_of q)
        through None = refl
        through (Some w) = refl

    pub without : (new : List (WaitKey × Wait)) → new ≡ remove_entry (same_wait k) es → started_each new ≡ keyed (without_first (is_wait_for pid key) waits)
    without new new-is =
        ap (λ xs. started_each xs) (new-is ∙ ap (λ q. remove_entry (same_wait q) es) k-is)
        ∙ remove-each (same_wait (wait_key pid key n)) started_of es
        ∙ ap (remove_entry (same_wait (wait_key pid key n))) are
        ∙ removed pid key n waits at

-- one more number that is kept
pub kept-next : (p : ℕ → Bool) (n : ℕ) → ((k : ℕ) → k < n → p k ≡ true) → p n ≡ true → (k : ℕ) → k < n + 1 → p k ≡ true
kept-next p n all here k h = by (cases_lt k n)
  where
    by : (k < n) ⊎ (n ≤ k) → p k ≡ true
    by (inl below) = all k below
    by (inr over) = let same : k ≡ n = omega (arith, over, h) in ap p same ∙ here
