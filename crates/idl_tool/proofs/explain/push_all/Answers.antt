use Rattle.std.proofs.lemmas.Result.{on_ok_weaker}
use Rattle.idl_tool.proofs.ExplainLemmas.{listed-all}
use Rattle.idl_tool.proofs.explain.push_all.Goals as goal

pub returns : goal.returns
returns c =
    on_ok_weaker c.push_list-2.result
    (λ second. listed-all c.all_codes.result.now c.all_refusals.result.now c.args.out.now.items c.push_list.new.out.items c.push_list-2.new.out.items c.in_ok-push_list.ensures second
    c.all_codes.ensures c.all_refusals.ensures) c.push_list-2.ensures
