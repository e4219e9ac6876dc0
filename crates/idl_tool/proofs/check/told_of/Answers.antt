use Rattle.std.proofs.Common.{◌∙◌, ◌++◌, List, ap, false, filter, map, true}
use Rattle.std.specs.List.{zip}
use Rattle.idl_tool.specs.Checked.{Told, is_of}
use Rattle.idl_tool.specs.ToldAt.{told_at}
use Rattle.idl_tool.proofs.check.told_of.Goals as goal

pub returns : goal.returns
returns c =
    let pairs = zip c.args.findings.now c.args.related.now in
    let none = ap (map told_at) c.in_ok-told.ensures.items in
    c.in_ok-push_those-2.ensures ∙ ap (λ (ts : List Told). ts ++ filter (is_of true) pairs) (c.in_ok-push_those.ensures ∙ ap (λ (ts : List Told). ts ++ filter (is_of false) pairs) none)
