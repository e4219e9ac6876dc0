use Rattle.std.proofs.Common.{◌≡◌, ℕ, List, ap, codes, rules, subst, sym}
use Rattle.std.proofs.lemmas.Result.{on_ok_weaker}
use Rattle.std.specs.Result.{OnOk}
use Rattle.std.specs.String.{string_bytes}
use Rattle.idl_tool.specs.Messages.{IsTold, line_about}
use Rattle.idl_tool.specs.declared.failure.ToolFailure.{ToolFailure}
use Rattle.idl_tool.proofs.failure.ToolFailure.tell.Goals as goal

pub returns-in-Words-clause-told : goal.returns-in-Words-clause-told
returns-in-Words-clause-told g c =
    let before = g.K.Sink.written c.args.errors.now in
    let after = g.K.Sink.written c.write_all.new.sink in
    let text = c.as_bytes.result.now in
    let same : text ≡ string_bytes c.in-Words.text = search rules in
    subst (λ (f : ToolFailure). OnOk c.write_all.result (IsTold f before after)) (sym c.in-Words.is)
    (on_ok_weaker c.write_all.result (λ out. (text, same, out)) c.write_all.ensures.written)

pub returns-in-NoTopic-clause-told : goal.returns-in-NoTopic-clause-told
returns-in-NoTopic-clause-told g c =
    let before = g.K.Sink.written c.args.errors.now in
    let after = g.K.Sink.written c.tell_of.new.errors in
    let name = c.as_bytes-in-NoTopic.result.now in
    let told = codes "no code and no refusal" in
    subst (λ (f : ToolFailure). OnOk c.tell_of.result (IsTold f before after)) (sym c.in-NoTopic.is)
    (on_ok_weaker c.tell_of.result (λ out. (line_about name told, ap (λ (n : List ℕ). line_about n told) c.as_bytes-in-NoTopic.ensures.value, out)) c.tell_of.ensures.told)

pub returns-in-NoMakeName-clause-told : goal.returns-in-NoMakeName-clause-told
returns-in-NoMakeName-clause-told g c =
    let before = g.K.Sink.written c.args.errors.now in
    let after = g.K.Sink.written c.tell_of-in-NoMakeName.new.errors in
    let name = c.as_bytes-in-NoMakeName.result.now in
    let told = codes "no name for make" in
    subst (λ (f : ToolFailure). OnOk c.tell_of-in-NoMakeName.result (IsTold f before after)) (sym c.in-NoMakeName.is)
    (on_ok_weaker c.tell_of-in-NoMakeName.result (λ out. (line_about name told, ap (λ (n : List ℕ). line_about n told) c.as_bytes-in-NoMakeName.ensures, out)) c.tell_of-in-NoMakeName.ensures.told)

pub returns-in-Program-clause-told : goal.returns-in-Program-clause-told
returns-in-Program-clause-told g c =
    let before = g.K.Sink.written c.args.errors.now in
    let after = g.K.Sink.written c.tell_program.new.errors in
    subst (λ (f : ToolFailure). OnOk c.tell_program.result (IsTold f before after)) (sym c.in-Program.is) c.tell_program.ensures.told
