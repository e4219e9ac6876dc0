use Rattle.std.proofs.Common.{◌≡◌, ◌<◌, ◌∙◌, ap, sym, subst, length}
use Rattle.idl_source.specs.names.Name.{segments}
use Rattle.idl_source.specs.names.Path.{Path, directory_path, directory_to, here, is_rooted, led_by_all, slashed}
use Rattle.idl_source.proofs.PathLemmas.{directory_to-long}
use Rattle.idl_source.proofs.names.path.directory_at.Goals as goal

pub returns-in_err-lead_by_all : goal.returns-in_err-lead_by_all
unfolding directory_path
returns-in_err-lead_by_all c =
    let long = subst (λ (p : Path). 256 < length (slashed (led_by_all (segments c.args.spelled.now) p).down)) c.here-trail.ensures c.in_err-lead_by_all.ensures.none in
    c.from_residual.ensures ∙ sym (directory_to-long (is_rooted c.args.spelled.now) (led_by_all (segments c.args.spelled.now) here) long)

pub returns : goal.returns
unfolding directory_path
returns c =
    c.directory.ensures
    ∙ (λ i. directory_to (c.is_rooted.ensures i) ((c.in_ok-lead_by_all.ensures.some ∙ ap (led_by_all (segments c.args.spelled.now)) c.here-trail.ensures) i))
