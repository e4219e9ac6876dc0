-- Where the log is as much longer as the path has names, what was asked stands behind what was there.
use Rattle.std.proofs.Common.{◌≡◌, ◌+◌, ◌++◌, ap, arith, drop, length, sym, ◌∙◌}
use Rattle.std.proofs.Math.Seq.{drop-append_seam}
use Rattle.idl_memo.specs.Query.{asked, noted_all}
use Rattle.idl_memo.proofs.Noting.{all-more, noted-whole}
use Rattle.idl_memo.proofs.RunLaws.{at-some}
use Rattle.idl_env.specs.Facts.{answers}
use Rattle.idl_env.specs.answering.Walked.{entries_outward}
use Rattle.idl_env.specs.keys.Key.{key_eq}
use Rattle.idl_scope.specs.Known.{typeprefix_around}
use Rattle.idl_scope.proofs.KnownLemmas.{outward_entries, outward_long}
use Rattle.idl_scope.proofs.known.note_outward.Goals as goal

pub tell-requires : goal.tell-requires
tell-requires c =
    let bank = answers c.args.env.now in
    let path = c.args.path.now in
    let log = c.args.log.now in
    let keys = asked (typeprefix_around path) bank in
    let before = at-some c.logged-before.result c.in-Some-Some.before _ c.in-Some-Some.is-0 c.logged-before.ensures in
    let now = at-some c.logged.result c.in-Some-Some.now _ c.in-Some-Some.is-1 c.logged.ensures in
    let names = c.has_names.ensures c.if-not-has_names.false in
    let noted = c.in_ok-ask_outward.ensures in
    let long : length (noted_all key_eq bank log keys) ≡ length log + length keys = omega (arith, before, now, ap length noted, names, outward_long bank c.requires path, all-more key_eq bank keys log, c.saturating_sub.ensures) in
    let whole = noted ∙ noted-whole key_eq bank keys log long ∙ ap (λ l. log ++ l) (outward_entries bank c.requires path) in
    ap (drop c.in-Some-Some.before) whole
    ∙ ap (λ n. drop n (log ++ entries_outward path)) before
    ∙ drop-append_seam log (entries_outward path)
    ∙ ap entries_outward (sym (c.in-Some.ensures.some ∙ c.in_ok-clone.ensures.cases))
