use Rattle.std.proofs.Common.{◌∙◌, ap, map}
use Rattle.std.proofs.lemmas.Result.{IfOk-weaker}
use Rattle.clap.specs.Words.{found_of}
use Rattle.idl_driver.proofs.ValueLemmas.{none_given, some_given}
use Rattle.idl_driver.proofs.options.values_of.Goals as goal

pub returns-in-Some : goal.returns-in-Some
returns-in-Some c =
    let given = some_given (found_of c.args.matches.now) c.args.id.now c.get_strs.result c.in-Some.given c.in-Some.is c.get_strs.ensures in
    IfOk-weaker c.from_slice.result _ _ (λ values items. ap (map (λ v. v.now)) items ∙ given) c.from_slice.ensures.items

pub returns-in-None : goal.returns-in-None
returns-in-None c = ap (map (λ v. v.now)) c.new.ensures.items ∙ none_given (found_of c.args.matches.now) c.args.id.now c.get_strs.result c.in-None.is c.get_strs.ensures
