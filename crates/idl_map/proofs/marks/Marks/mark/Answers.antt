use Rattle.std.proofs.Common.{ap, ◌∙◌}
use Rattle.idl_map.specs.Marks.{is_marked}
use Rattle.idl_map.proofs.MarkLemmas.{mark-kept, mark-own}
use Rattle.idl_map.proofs.marks.Marks.mark.Goals as goal

pub returns-clause-marked : goal.returns-clause-marked
returns-clause-marked g c =
    let place = c.word_of-place in
    mark-own c.as_mut_slice-words.result.now place.result c.mask_of.result c.args.digest place.ensures.place c.mask_of.ensures place.ensures.within

pub returns-clause-kept : goal.returns-clause-kept
returns-clause-kept g c other h =
    let place = c.word_of-place in
    let same = c.as_mut_slice-words.ensures.value ∙ c.self.view_is in
    mark-kept c.as_mut_slice-words.result.now place.result c.mask_of.result c.args.digest place.ensures.place c.mask_of.ensures place.ensures.within other
    (ap (λ marks. is_marked marks other) same ∙ h)
