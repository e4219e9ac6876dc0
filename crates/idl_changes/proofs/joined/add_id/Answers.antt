use Rattle.idl_changes.proofs.TableLemmas.{counts-next, ids-passed, ids-put}
use Rattle.idl_changes.proofs.joined.add_id.Goals as goal

pub returns : goal.returns
returns c = λ L at ids counts.
    let key = c.in_ok-key.ensures in (
      ids-put c.args.entry.now c.args.counts.now c.key_of.new.counts c.in_ok-key.field-0 key.called key.key key.counted L c.args.ids.now c.insert.new.self c.in-Some.key c.args.place
          c.in-Some.is at c.in_ok-insert.ensures.each_key counts ids,
      counts-next c.args.entry.now c.args.counts.now c.key_of.new.counts c.in_ok-key.field-0 key.called key.key key.counted L counts,
    )

pub returns-in_default : goal.returns-in_default
returns-in_default c = λ L at ids counts.
    let key = c.in_ok-key.ensures in (
      ids-passed c.args.entry.now c.args.counts.now c.key_of.new.counts c.in_ok-key.field-0 key.called key.key key.counted L c.args.ids.now c.in_default.is ids,
      counts-next c.args.entry.now c.args.counts.now c.key_of.new.counts c.in_ok-key.field-0 key.called key.key key.counted L counts,
    )
