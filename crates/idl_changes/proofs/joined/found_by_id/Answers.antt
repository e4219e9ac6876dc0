use Rattle.std.proofs.Common.{◌∙◌}
use Rattle.idl_changes.proofs.TableLemmas.{counts-next, next-found, next-passed}
use Rattle.idl_changes.proofs.joined.found_by_id.Goals as goal

pub returns : goal.returns
returns c = λ L before ids counts.
    let key = c.in_ok-key.ensures in (
      c.copied.ensures ∙ c.get.ensures
          ∙ next-found c.args.entry.now c.args.counts.now c.key_of.new.counts c.in_ok-key.field-0 key.called key.key key.counted L before c.args.ids.now c.in-Some.key c.in-Some.is counts ids,
      counts-next c.args.entry.now c.args.counts.now c.key_of.new.counts c.in_ok-key.field-0 key.called key.key key.counted before counts,
    )

pub returns-in_default : goal.returns-in_default
returns-in_default c = λ L before ids counts.
    let key = c.in_ok-key.ensures in (
      next-passed c.args.entry.now c.args.counts.now c.key_of.new.counts c.in_ok-key.field-0 key.called key.key key.counted L before c.in_default.is,
      counts-next c.args.entry.now c.args.counts.now c.key_of.new.counts c.in_ok-key.field-0 key.called key.key key.counted before counts,
    )
