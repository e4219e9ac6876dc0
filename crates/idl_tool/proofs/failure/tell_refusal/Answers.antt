use Rattle.std.proofs.Common.{◌≡◌, ◌∙◌, ◌++◌, [], ap, codes, decimal, refl}
use Rattle.std.proofs.lemmas.Result.{on_ok_weaker}
use Rattle.idl_explain.specs.Explained.{headline}
use Rattle.idl_source.specs.Refusal.{number_of}
use Rattle.idl_source.specs.devices.Device.{append}
use Rattle.idl_tool.proofs.FailureLemmas.{refusal-told}
use Rattle.idl_tool.proofs.failure.tell_refusal.Goals as goal

pub returns-clause-told : goal.returns-clause-told
returns-clause-told g c =
    let w = g.K.Sink.written in
    let name = c.args.name.now in
    let e = c.explanation_of.result.now in
    let digits : c.as_bytes.result.now ≡ decimal (number_of c.args.refusal) = c.as_bytes.ensures.value ∙ c.format.ensures.text ∙ ap decimal c.number.ensures in
    on_ok_weaker c.write_all-6.result
    (λ last. (
      codes "idltool: " ++ name ++ codes ": " ++ headline e [],
      (e, c.explanation_of.ensures, refl),
      refusal-told name c.args.refusal e (w c.args.errors.now) (w c.write_all.new.sink) (w c.write_all-2.new.sink) (w c.write_all-3.new.sink) (w c.write_all-4.new.sink) (w c.write_all-5.new.sink) (w c.tell_words.new.errors) (w c.write_all-6.new.sink)
          c.explanation_of.ensures c.in_ok-write_all.ensures.written c.in_ok-write_all-2.ensures.written c.in_ok-write_all-3.ensures.written
          (c.in_ok-write_all-4.ensures.written ∙ ap (append (w c.write_all-3.new.sink)) digits) c.in_ok-write_all-5.ensures.written c.in_ok-tell_words.ensures.told last,
    )) c.write_all-6.ensures.written
