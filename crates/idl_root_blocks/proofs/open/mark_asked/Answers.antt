use Rattle.std.proofs.Common.{[], cond, ap, sym, ◌∙◌}
use Rattle.std.specs.Option.{unwrap_or}
use Rattle.idl_env.specs.keys.Key.{key_eq}
use Rattle.idl_root_blocks.specs.Asking.{asked_at}
use Rattle.idl_root_blocks.proofs.Dates.{asked_at-put}
use Rattle.idl_root_blocks.proofs.open.mark_asked.Goals as goal

pub returns : goal.returns
returns c = λ k.
    let key = c.args.key.now in
    asked_at-put c.in_ok-first.first c.insert-2.new.self key c.in_ok-clone-2.field-0 c.args.facts c.in_ok-clone-2.ensures.cases c.in_ok-insert-2.ensures.each_key k
    ∙ ap (λ es. cond (key_eq k key) c.args.facts (asked_at es k)) (c.in_ok-first.ensures ∙ ap (λ o. unwrap_or o []) (sym c.in_default.is))
