-- What is none of the drafts and none of the lists is none of all.
use Rattle.idl_store.specs.Numbers.{numbers_of}
use Rattle.idl_store.proofs.Spotted.{none_among}
use Rattle.idl_store.proofs.numbers.spot_of.Goals as goal

pub returns-clause-none : goal.returns-clause-none
returns-clause-none c = λ none.
    none_among (numbers_of c.args.lists.now c.args.drafts.now) c.args.number (c.spot_among.ensures.none c.in_default-spot_among.is) (c.spot_among-2.ensures.none none)
