use Rattle.std.proofs.Common.{sym, ap, ◌∙◌, ◌++◌, map, append_assoc}
use Rattle.std.proofs.lemmas.Result.{on_ok_weaker}
use Rattle.std.proofs.lemmas.List.{map-append}
use Rattle.idl_env.specs.Differing.{unlike}
use Rattle.idl_env.specs.keys.Key.{key_digest}
use Rattle.idl_env.proofs.additions.facts.Facts.differing_into.Goals as goal

pub returns : goal.returns
returns c =
    let fs = c.args.self.now.additions in
    let gs = c.args.others.now.additions in
    let old = c.args.digests.now.items in
    let mine = map key_digest (unlike fs gs) in
    let theirs = map key_digest (unlike gs fs) in
    on_ok_weaker c.unlike_into-2.result
    (λ both. both
    ∙ (λ i. c.in_ok-unlike_into.ensures i ++ theirs)
    ∙ append_assoc old mine theirs
    ∙ ap (λ l. old ++ l) (sym (map-append key_digest (unlike fs gs) (unlike gs fs))))
    c.unlike_into-2.ensures
