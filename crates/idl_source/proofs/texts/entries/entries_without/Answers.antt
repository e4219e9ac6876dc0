use Rattle.std.proofs.Common.{◌∙◌, ap}
use Rattle.idl_source.specs.texts.Entries.{entries_of}
use Rattle.idl_source.proofs.EntryLemmas.{entries_of-clones, entries_of-remove}
use Rattle.idl_source.proofs.texts.entries.entries_without.Goals as goal

pub returns : goal.returns
returns c =
    ap entries_of c.remove.ensures.items
    ∙ entries_of-remove c.args.entries.now.items c.in_ok-without.without.items c.args.place (entries_of-clones _ _ c.in_ok-without.ensures.cases.0)
