-- The command line is a simple one, so its matches are a function of the words, and so is whether it takes them.
use Rattle.std.proofs.Common.{ap, ◌∙◌, map, string_bytes, subst}
use Rattle.std.proofs.lemmas.Result.{IfErr-weaker, IfOk-weaker}
use Rattle.clap.specs.Words.{App, FailsBy, fault_of, is_simple, is_simple_and_free, subcommand_of, takes}
use Rattle.fencectl_core.proofs.arguments.matches_of.Goals as goal

pub returns : goal.returns
returns c =
    let app = c.in_ok-command.ensures.0 in
    let words = map string_bytes c.args.words.now in
    let parse = c.try_get_matches_from in
    record {
      matches = IfOk-weaker parse.result _ _ (λ m h. (h (ap is_simple app)).1 ∙ ap (λ (a : App). subcommand_of a words) app) parse.ensures.matches;
      taken = IfErr-weaker parse.result _ _ (λ e h taken. h (ap (λ (a : App). takes a words) app ∙ taken)) parse.ensures.passes;
      kinds = subst (λ (a : App). FailsBy (fault_of a words) parse.result) app (parse.ensures.kinds (ap is_simple_and_free app));
    }
