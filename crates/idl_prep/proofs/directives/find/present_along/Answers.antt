use Rattle.std.proofs.Common.{◌≡◌, ◌<◌, ℕ, length, arith, List, Option, None, Some, ap, sym, ◌∙◌}
use Rattle.std.proofs.lemmas.List.{drop_all}
use Rattle.idl_memo.specs.Progress.{after_key}
use Rattle.idl_event.specs.Expanding.{arrival, arrived}
use Rattle.idl_event.specs.Key.{key_eq}
use Rattle.idl_event.specs.declared.asked.key.RootKey.TheVariants as key
use Rattle.idl_prep.specs.Include.{Found, directories_in, first_present}
use Rattle.idl_source.specs.names.Candidates.{along}
use Rattle.idl_prep.proofs.IncludeLemmas.{arrival-along, arrival-present_along}
use Rattle.idl_prep.proofs.directives.find.present_along.Goals as goal

pub directories-init : goal.directories-init
directories-init g c =
    let bank = g.B.Bank.at c.args.bank.now in
    let name = c.args.name.now in
    let p = c.args.progress.now in
    let directories = c.directories_in-directories.result.now in
    let listed : directories ≡ directories_in (bank key.Search) = c.directories_in-directories.ensures ∙ ap directories_in c.in_ok-ask.ensures.answer in
    ap (arrival bank (first_present (along directories name))) c.in_ok-ask.ensures.progress
    ∙ ap (λ (ds : List (List ℕ)). arrival bank (first_present (along ds name)) (after_key key_eq bank key.Search p)) listed
    ∙ sym (arrival-present_along bank name p)

pub returns-in-Some : goal.returns-in-Some
returns-in-Some g c =
    let bank = g.B.Bank.at c.args.bank.now in
    let i = c.directories.directory-index in
    let directories = c.directories_in-directories.result.now in
    let directory = c.directory-item.result in
    let lt : i < length directories = omega arith in
    let p' = c.present.new.progress in
    arrival-along bank directories i directory c.args.name.now (Some c.in-Some.found) c.directories.progress p' lt c.directory-item.is
    (ap (λ (f : Option Found). arrived f p') (sym c.in-Some.is) ∙ c.in_ok-found.ensures)
    ∙ c.directories.invariant

pub directories-preserved : goal.directories-preserved
directories-preserved g c =
    let bank = g.B.Bank.at c.args.bank.now in
    let i = c.directories.directory-index in
    let directories = c.directories_in-directories.result.now in
    let directory = c.directory-item.result in
    let lt : i < length directories = omega arith in
    let p' = c.present.new.progress in
    arrival-along bank directories i directory c.args.name.now None c.directories.progress p' lt c.directory-item.is
    (ap (λ (f : Option Found). arrived f p') (sym c.in_default.is) ∙ c.in_ok-found.ensures)
    ∙ c.directories.invariant

-- nothing is left to be asked
pub returns : goal.returns
unfolding first_present
returns g c =
    let bank = g.B.Bank.at c.args.bank.now in
    let rest = drop_all c.directories.directory-index c.directories_in-directories.result.now c.directories-test.false in
    ap (λ (ds : List (List ℕ)). arrival bank (first_present (along ds c.args.name.now)) c.directories.progress) (sym rest)
    ∙ c.directories.invariant
