use Rattle.std.proofs.Common.{◌≡◌, ◌<◌, ◌∙◌, ap, sym, subst, length, true}
use Rattle.idl_source.specs.names.Name.{segments}
use Rattle.idl_source.specs.names.Path.{Path, here, is_rooted, led_by_all, name_of, slashed}
use Rattle.idl_source.proofs.PathLemmas.{joined-long, joined-rooted, joined-beside, name_of-long}
use Rattle.idl_source.proofs.names.path.join.Goals as goal

pub returns-in_err-lead_by_all : goal.returns-in_err-lead_by_all
returns-in_err-lead_by_all c =
    let long = subst (λ (p : Path). 256 < length (slashed (led_by_all (segments c.args.spelled.now) p).down)) c.here-trail.ensures c.in_err-lead_by_all.ensures.none in
    c.from_residual.ensures ∙ sym (joined-long c.args.directory.now c.args.spelled.now long)

pub returns-then-is_rooted : goal.returns-then-is_rooted
returns-then-is_rooted c =
    c.name.ensures
    ∙ ap (name_of true) (c.in_ok-lead_by_all.ensures.some ∙ ap (led_by_all (segments c.args.spelled.now)) c.here-trail.ensures)
    ∙ sym (joined-rooted c.args.directory.now c.args.spelled.now (sym c.is_rooted.ensures ∙ c.if-is_rooted.true))

-- the segments of the directory lead before those of the operand
pub returns-in_err-lead_by_all-2 : goal.returns-in_err-lead_by_all-2
returns-in_err-lead_by_all-2 c =
    let directory = c.args.directory.now in
    let spelled = c.in_ok-lead_by_all.ensures.some ∙ ap (led_by_all (segments c.args.spelled.now)) c.here-trail.ensures in
    let path = led_by_all (segments directory) (led_by_all (segments c.args.spelled.now) here) in
    let all : led_by_all (segments c.as_bytes.result.now) c.lead_by_all.new.self ≡ path = λ i. led_by_all (segments (c.as_bytes.ensures.bytes i)) (spelled i) in
    let long = subst (λ (p : Path). 256 < length (slashed p.down)) all c.in_err-lead_by_all-2.ensures.none in
    c.from_residual-in_err-lead_by_all-2.ensures
    ∙ sym (name_of-long (is_rooted directory) path long)
    ∙ sym (joined-beside directory c.args.spelled.now (sym c.is_rooted.ensures ∙ c.if-is_rooted.false))

pub returns : goal.returns
returns c =
    let directory = c.args.directory.now in
    let spelled = c.in_ok-lead_by_all.ensures.some ∙ ap (led_by_all (segments c.args.spelled.now)) c.here-trail.ensures in
    let path = led_by_all (segments directory) (led_by_all (segments c.args.spelled.now) here) in
    let all : c.lead_by_all-2.new.self ≡ path = c.in_ok-lead_by_all-2.ensures.some ∙ (λ i. led_by_all (segments (c.as_bytes.ensures.bytes i)) (spelled i)) in
    let rooted : c.is_rooted-2.result ≡ is_rooted directory = c.is_rooted-2.ensures ∙ ap is_rooted c.as_bytes-2.ensures.bytes in
    c.name-2.ensures
    ∙ (λ i. name_of (rooted i) (all i))
    ∙ sym (joined-beside directory c.args.spelled.now (sym c.is_rooted.ensures ∙ c.if-is_rooted.false))
