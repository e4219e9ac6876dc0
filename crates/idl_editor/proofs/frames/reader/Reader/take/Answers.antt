use Rattle.std.proofs.Common.{◌≡◌, ◌∙◌, ◌+◌, ◌-◌, length, take, drop, slice_range, sym, ap}
use Rattle.std.proofs.lemmas.List.{take_rest}
use Rattle.idl_source.specs.devices.Device.{prepend}
use Rattle.idl_editor.proofs.ReadingLemmas.{takes-front}
use Rattle.idl_editor.proofs.frames.reader.Reader.take.Goals as goal

pub returns-clause-taken : goal.returns-clause-taken
returns-clause-taken c = λ rest.
    let end = c.args.len + c.args.count in
    let body : c.in_ok-body.body.items ≡ slice_range c.args.self.now c.args.len end =
    c.in_ok-body.ensures.items ∙ ap (λ t. slice_range t c.args.len end) (c.deref.ensures.value ∙ c.self.view_is) in
    let left : c.in_ok-self-inside.field-0.items ≡ drop end c.args.self.now =
    c.in_ok-self-inside.ensures.items ∙ ap (λ t. take (length t - end) (drop end t)) (c.deref-2.ensures.value ∙ c.self.view_is) ∙ take_rest c.args.self.now end in
    let taken = takes-front rest c.args.self.now c.in_ok-body.body.items c.args.len c.args.count c.requires.head c.requires.within c.requires.whole body in
    (taken.0, taken.1, taken.2 ∙ ap (λ held. prepend taken.0 (prepend held rest)) (sym left))
