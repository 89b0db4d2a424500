-- The two words.
use Rattle.std.proofs.Common.{map, string_bytes, ◌∙◌, ◌∷◌, [], ap, sym, codes}
use Rattle.std.proofs.lemmas.Slice.Eq.{bytes_eq-Decides}
use Rattle.fencectl_core.proofs.Alone.{two}
use Rattle.fencectl_core.proofs.usage.is_run_alone.Goals as goal

pub returns-in-len2 : goal.returns-in-len2
returns-in-len2 c =
    let pair = two c.args.words.now c.word-item.result c.in-len2.len_at_least c.in-len2.len_below c.word-item.is in
    record {
      alone = λ t. record {
        program = string_bytes pair.0;
        two = ap (map string_bytes) pair.1 ∙ ap (λ text. string_bytes pair.0 ∷ text ∷ [])
            (sym c.as_str.ensures.value ∙ (bytes_eq-Decides c.as_str.result.now (codes "run")).0 (sym c.eq.ensures ∙ t));
      };
    }
