use Rattle.std.proofs.Common.{ℕ, List, None, Some, ap, sym, ◌∙◌}
use Rattle.std.specs.Option.{option_copied}
use Rattle.idl_memo.specs.Progress.{after_key}
use Rattle.idl_event.specs.Expanding.{arrived}
use Rattle.idl_event.specs.Key.{key_eq}
use Rattle.idl_event.specs.declared.asked.key.RootKey.TheVariants.{File}
use Rattle.idl_prep.specs.Include.{file_in}
use Rattle.idl_prep.proofs.IncludeLemmas.{arrival-one-none, arrival-one-some, found_as}
use Rattle.idl_prep.proofs.directives.find.present.Goals as goal

pub returns-in_default : goal.returns-in_default
returns-in_default g c = arrival-one-none (g.B.Bank.at c.args.bank.now) _ c.args.progress.now (sym c.in_default.ensures)

pub returns-in-Some-2 : goal.returns-in-Some-2
returns-in-Some-2 g c =
    let bank = g.B.Bank.at c.args.bank.now in
    let p = c.args.progress.now in
    let lines = c.in-Some-2.file.now in
    let held = ap (λ (n : List ℕ). file_in (bank (File n))) (sym c.in_ok-name.ensures) ∙ sym c.in_ok-file.ensures.file ∙ ap option_copied c.in-Some-2.is in
    ap (λ (n : List ℕ). arrived (found_as n (Some lines)) c.file_named.new.progress) c.in_ok-name.ensures
    ∙ arrival-one-some bank _ c.in-Some.name (Some lines) p c.file_named.new.progress (sym c.in-Some.ensures) held
    (c.in_ok-file.ensures.progress ∙ ap (λ (n : List ℕ). after_key key_eq bank (File n) p) c.in_ok-name.ensures)

pub returns : goal.returns
returns g c =
    let bank = g.B.Bank.at c.args.bank.now in
    let p = c.args.progress.now in
    let held = ap (λ (n : List ℕ). file_in (bank (File n))) (sym c.in_ok-name.ensures) ∙ sym c.in_ok-file.ensures.file ∙ ap option_copied c.in-None.is in
    arrival-one-some bank _ c.in-Some.name None p c.file_named.new.progress (sym c.in-Some.ensures) held
    (c.in_ok-file.ensures.progress ∙ ap (λ (n : List ℕ). after_key key_eq bank (File n) p) c.in_ok-name.ensures)
