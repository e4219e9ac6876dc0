use Rattle.std.proofs.Common.{◌≡◌, ◌∙◌, Ok, map, take, length, sym, ap, subst, arith, rules}
use Rattle.std.proofs.lemmas.Grind.{common_steps}
use Rattle.httparse.specs.declared.Status.TheVariants.{Complete, Partial}
use Rattle.httparse.specs.Spans.{header_bytes}
use Rattle.idl_editor.specs.frames.Message.{announced}
use Rattle.idl_editor.specs.frames.Heads.{Tells, head_by}
use Rattle.idl_editor.proofs.HeadLemmas.{tells-begun, tells-found}
use Rattle.idl_editor.proofs.frames.head.head_of.Goals as goal

pub returns-in-Ok-Complete : goal.returns-in-Ok-Complete
returns-in-Ok-Complete c =
    let bytes = c.args.bytes.now in
    let headers = c.parse_headers.new.headers in
    let len = c.in-Ok-Complete.len in
    let count = c.in-Ok-Complete.count in
    let room : length headers ≡ 16 = search rules in
    let is : c.parse_headers.result ≡ Ok (Complete (len, count)) = cc in
    let told : c.announced.result ≡ announced (map (header_bytes bytes) (take count headers)) = grind (arith, common_steps) in
    let tells = tells-found bytes headers c.parse_headers.result len count is room c.parse_headers.ensures.within c.parse_headers.ensures.complete in
    subst (Tells bytes) (sym (c.head_by.ensures ∙ ap (head_by len) told)) tells

pub returns-in-Ok-Partial : goal.returns-in-Ok-Partial
returns-in-Ok-Partial c =
    let is : c.parse_headers.result ≡ Ok Partial = cc in
    subst (Tells c.args.bytes.now) (sym c.begun_by.ensures) (tells-begun c.args.bytes.now c.parse_headers.result is c.parse_headers.ensures.partial)
