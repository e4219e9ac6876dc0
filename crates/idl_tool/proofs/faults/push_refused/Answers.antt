use Rattle.std.proofs.Common.{◌∙◌, ◌++◌, [], ℕ, List, ap, append_assoc, codes, refl}
use Rattle.std.proofs.lemmas.Result.{on_ok_weaker}
use Rattle.idl_explain.specs.Explained.{headline}
use Rattle.idl_tool.proofs.faults.push_refused.Goals as goal

pub returns : goal.returns
returns c =
    let e = c.explanation_of.result.now in
    let about = codes "idltool: " ++ c.args.name.now ++ codes ": " in
    let told = headline e [] in
    on_ok_weaker c.push_headline.result
    (λ more. (
      about ++ told,
      (e, c.explanation_of.ensures, refl),
      more ∙ ap (λ (t : List ℕ). t ++ told) c.in_ok-push_about.ensures ∙ append_assoc c.args.out.now.items about told,
    )) c.push_headline.ensures
