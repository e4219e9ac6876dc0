use Rattle.std.proofs.Common.{◌≡◌, ℕ, List, Option, None, Some, true, false, IfOk, ap, sym, subst, ◌∙◌}
use Rattle.idl_event.specs.Expanding.{Expanding, arrival, arrived}
use Rattle.idl_prep.specs.Include.{Found, present_along}
use Rattle.idl_source.specs.names.Directory.{directory_of}
use Rattle.idl_source.specs.names.Path.{is_rooted, joined_path}
use Rattle.idl_prep.proofs.IncludeLemmas.{arrival-file_of-quoted, file_of-along, file_of-rooted, one}
use Rattle.idl_prep.proofs.directives.find.find.Goals as goal

pub returns-then-is_rooted : goal.returns-then-is_rooted
returns-then-is_rooted g c =
    let bank = g.B.Bank.at c.args.bank.now in
    let o = c.args.operand.now in
    let from = c.args.from.now in
    let name = c.name-name.result.now in
    let here : one (joined_path c.directory-beside.result name) ≡ one (joined_path (directory_of from) o.name) =
    ap (λ (d : List ℕ). one (joined_path d name)) (c.directory-beside.ensures ∙ ap directory_of c.name.ensures) ∙ ap (λ (n : List ℕ). one (joined_path (directory_of from) n)) c.name-name.ensures in
    let rooted : is_rooted o.name ≡ true = ap is_rooted (sym c.name-name.ensures) ∙ sym c.is_rooted.ensures ∙ c.if-is_rooted.true in
    subst (λ (e : Expanding (Option Found)). IfOk c.present.result (λ found. arrived found c.present.new.progress ≡ arrival bank e c.args.progress.now))
    (here ∙ sym (file_of-rooted from o rooted)) c.present.ensures

pub returns-then-not-is_quoted : goal.returns-then-not-is_quoted
returns-then-not-is_quoted g c =
    let bank = g.B.Bank.at c.args.bank.now in
    let o = c.args.operand.now in
    let rooted : is_rooted o.name ≡ false = ap is_rooted (sym c.name-name.ensures) ∙ sym c.is_rooted.ensures ∙ c.if-is_rooted.false in
    let quoted : o.is_quoted ≡ false = sym c.is_quoted.ensures ∙ c.if-not-is_quoted.true in
    subst (λ (e : Expanding (Option Found)). IfOk c.present_along.result (λ found. arrived found c.present_along.new.progress ≡ arrival bank e c.args.progress.now))
    (ap present_along c.name-name.ensures ∙ sym (file_of-along c.args.from.now o rooted quoted)) c.present_along.ensures

pub returns-in-Some : goal.returns-in-Some
returns-in-Some g c =
    let bank = g.B.Bank.at c.args.bank.now in
    let o = c.args.operand.now in
    let from = c.args.from.now in
    let p = c.args.progress.now in
    let p' = c.present-2.new.progress in
    let name = c.name-name.result.now in
    let here : one (joined_path c.directory-beside.result name) ≡ one (joined_path (directory_of from) o.name) =
    ap (λ (d : List ℕ). one (joined_path d name)) (c.directory-beside.ensures ∙ ap directory_of c.name.ensures) ∙ ap (λ (n : List ℕ). one (joined_path (directory_of from) n)) c.name-name.ensures in
    let rooted : is_rooted o.name ≡ false = ap is_rooted (sym c.name-name.ensures) ∙ sym c.is_rooted.ensures ∙ c.if-is_rooted.false in
    let quoted : o.is_quoted ≡ true = sym c.is_quoted.ensures ∙ c.if-not-is_quoted.false in
    arrival-file_of-quoted from o bank (Some c.in-Some.found) p p' rooted quoted
    (ap (λ (f : Option Found). arrived f p') (sym c.in-Some.is) ∙ c.in_ok-found.ensures ∙ ap (λ (e : Expanding (Option Found)). arrival bank e p) here)

pub returns-in-None : goal.returns-in-None
returns-in-None g c =
    let bank = g.B.Bank.at c.args.bank.now in
    let o = c.args.operand.now in
    let from = c.args.from.now in
    let p = c.args.progress.now in
    let p' = c.present-2.new.progress in
    let name = c.name-name.result.now in
    let here : one (joined_path c.directory-beside.result name) ≡ one (joined_path (directory_of from) o.name) =
    ap (λ (d : List ℕ). one (joined_path d name)) (c.directory-beside.ensures ∙ ap directory_of c.name.ensures) ∙ ap (λ (n : List ℕ). one (joined_path (directory_of from) n)) c.name-name.ensures in
    let rooted : is_rooted o.name ≡ false = ap is_rooted (sym c.name-name.ensures) ∙ sym c.is_rooted.ensures ∙ c.if-is_rooted.false in
    let quoted : o.is_quoted ≡ true = sym c.is_quoted.ensures ∙ c.if-not-is_quoted.false in
    let came = arrival-file_of-quoted from o bank None p p' rooted quoted
    (ap (λ (f : Option Found). arrived f p') (sym c.in-None.is) ∙ c.in_ok-found.ensures ∙ ap (λ (e : Expanding (Option Found)). arrival bank e p) here) in
    let q' = c.present_along-in-None.new.progress in
    subst (λ w. IfOk c.present_along-in-None.result (λ found. arrived found q' ≡ w))
    (ap (λ (n : List ℕ). arrival bank (present_along n) p') c.name-name.ensures ∙ came) c.present_along-in-None.ensures
