-- An event without a finding counts only by its kind.
use Rattle.std.proofs.Common.{◌≡◌, Bool, true, false, ◌||◌, refl}
use Rattle.std.specs.Prelude.{not}
use Rattle.trace_core.specs.declared.finding.Finding.{Finding}
use Rattle.trace_core.specs.declared.tally.EventCounts.{EventCounts}
use Rattle.trace_core.specs.declared.tally.Tally.{Tally}
use Rattle.trace_core.specs.Finding.{is_plain}
use Rattle.trace_core.specs.Tally.{count_if, counts_after, tally_after}

neither : (x y : Bool) → not (x || y) ≡ true → (not x ≡ true) × (false ≡ y)
neither true true is = (is, is)
neither true false is = (is, refl)
neither false true is = (refl, is)
neither false false is = (refl, refl)

false-is : (x : Bool) → not x ≡ true → false ≡ x
false-is true is = is
false-is false is = refl

module _ (found : Finding) (t : Tally) (e : EventCounts) (is : e ≡ counts_after found.event t.events) (plain : is_plain found ≡ true) where
  pub counted : record {
    events = e;
    contexts = t.contexts;
    made_again = t.made_again;
    destroyed_pending = t.destroyed_pending;
    signalled_unseen = t.signalled_unseen;
    destroyed_unseen = t.destroyed_unseen;
    out_of_order = t.out_of_order;
    out_of_order_wrapped = t.out_of_order_wrapped;
    repeats = t.repeats;
    overtaken = t.overtaken;
    signalled_twice = t.signalled_twice;
  } ≡ tally_after found t
  unfolding is_plain tally_after
  counted =
      let n10 = neither (found.new_context || found.made_again || found.destroyed_pending || found.signalled_unseen || found.destroyed_unseen || found.out_of_order || found.out_of_order_wrapped || found.repeats || found.overtaken) found.signalled_twice plain in
      let n9 = neither (found.new_context || found.made_again || found.destroyed_pending || found.signalled_unseen || found.destroyed_unseen || found.out_of_order || found.out_of_order_wrapped || found.repeats) found.overtaken n10.0 in
      let n8 = neither (found.new_context || found.made_again || found.destroyed_pending || found.signalled_unseen || found.destroyed_unseen || found.out_of_order || found.out_of_order_wrapped) found.repeats n9.0 in
      let n7 = neither (found.new_context || found.made_again || found.destroyed_pending || found.signalled_unseen || found.destroyed_unseen || found.out_of_order) found.out_of_order_wrapped n8.0 in
      let n6 = neither (found.new_context || found.made_again || found.destroyed_pending || found.signalled_unseen || found.destroyed_unseen) found.out_of_order n7.0 in
      let n5 = neither (found.new_context || found.made_again || found.destroyed_pending || found.signalled_unseen) found.destroyed_unseen n6.0 in
      let n4 = neither (found.new_context || found.made_again || found.destroyed_pending) found.signalled_unseen n5.0 in
      let n3 = neither (found.new_context || found.made_again) found.destroyed_pending n4.0 in
      let n2 = neither (found.new_context) found.made_again n3.0 in
      let n1 = false-is found.new_context n2.0 in
      λ i. record {
        events = is i;
        contexts = count_if t.contexts (n1 i);
        made_again = count_if t.made_again (n2.1 i);
        destroyed_pending = count_if t.destroyed_pending (n3.1 i);
        signalled_unseen = count_if t.signalled_unseen (n4.1 i);
        destroyed_unseen = count_if t.destroyed_unseen (n5.1 i);
        out_of_order = count_if t.out_of_order (n6.1 i);
        out_of_order_wrapped = count_if t.out_of_order_wrapped (n7.1 i);
        repeats = count_if t.repeats (n8.1 i);
        overtaken = count_if t.overtaken (n9.1 i);
        signalled_twice = count_if t.signalled_twice (n10.1 i);
      }
