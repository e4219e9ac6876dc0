-- The run that was told stands among the parts of what is in front of it and of what is behind it.
use Rattle.std.proofs.Common.{◌++◌, ◌∷◌, [], append-nil, ap, arith, drop, flat_map, length, sym, take, ◌∙◌}
use Rattle.std.proofs.lemmas.Grind.{flat_map-append}
use Rattle.idl_memo.specs.Parts.{part_entries}
use Rattle.idl_memo.specs.declared.run.Part.TheVariants.{Many}
use Rattle.idl_memo.proofs.RunLaws.{at-some, stand-long, stand-whole}
use Rattle.idl_memo.proofs.log.Log.parts.Goals as goal

pub split_at-requires : goal.split_at-requires
split_at-requires g c =
    let place = c.in-Some.place in
    let run = c.in-Some.run' in
    let stands = at-some c.self.inside.told (place, run) _ (sym c.take-told.ensures.value ∙ c.in-Some.is) c.self.invariant in
    omega (arith, stand-long place run c.self.inside.entries stands, ap length c.entries-entries.ensures)

pub split_at-requires-2 : goal.split_at-requires-2
split_at-requires-2 g c =
    let place = c.in-Some.place in
    let run = c.in-Some.run' in
    let stands = at-some c.self.inside.told (place, run) _ (sym c.take-told.ensures.value ∙ c.in-Some.is) c.self.invariant in
    omega (arith, stand-long place run c.self.inside.entries stands, ap length c.entries-entries.ensures, c.len.ensures, c.split_at.ensures.back_len)

pub returns-clause-parts : goal.returns-clause-parts
returns-clause-parts g c =
    let place = c.in-Some.place in
    let run = c.in-Some.run' in
    let stands = at-some c.self.inside.told (place, run) _ (sym c.take-told.ensures.value ∙ c.in-Some.is) c.self.invariant in
    let entries = c.self.inside.entries in
    let cut = c.split_at.ensures.front ∙ ap (take place) c.entries-entries.ensures in
    let front = c.in_ok-append_parts-2.ensures ∙ (λ i. flat_map part_entries (c.new-parts.ensures.items i) ++ cut i) in
    let own = ap (flat_map part_entries) c.in_ok-push.ensures.items ∙ flat_map-append part_entries c.append_parts-2.new.parts.items (Many run ∷ []) ∙ (λ i. front i ++ append-nil run i) in
    let rest = c.split_at.ensures.back ∙ ap (drop place) c.entries-entries.ensures in
    let behind = c.split_at-2.ensures.back ∙ (λ i. drop (c.len.ensures i) (rest i)) in
    c.in_ok-append_parts-3.ensures
    ∙ (λ i. own i ++ behind i)
    ∙ stand-whole place run entries stands
    ∙ c.self.view_is
