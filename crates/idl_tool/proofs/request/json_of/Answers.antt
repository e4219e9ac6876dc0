use Rattle.std.proofs.Common.{Bor, ◌≡◌, ◌∙◌, ℕ, List, None, Some, ap, codes, sym}
use Rattle.std.specs.Option.{option_map}
use Rattle.clap.proofs.WalkLemmas.{first_value-rows}
use Rattle.clap.specs.Words.{first_of, found_of, rows_of}
use Rattle.idl_tool.specs.Words.{json_of}
use Rattle.idl_tool.proofs.request.json_of.Goals as goal

pub returns-in-Some : goal.returns-in-Some
returns-in-Some c =
    let found = found_of c.args.matches.now in
    let is : first_of (codes "format") (rows_of found) ≡ Some c.in-Some.format.now =
    sym (c.get_str.ensures ∙ first_value-rows found (codes "format")) ∙ ap (option_map (λ (w : Bor (List ℕ)). w.now)) c.in-Some.is
    in
    c.json_named.ensures ∙ sym (ap json_of is)

pub returns-in-None : goal.returns-in-None
returns-in-None c =
    let found = found_of c.args.matches.now in
    let is : first_of (codes "format") (rows_of found) ≡ None =
    sym (c.get_str.ensures ∙ first_value-rows found (codes "format")) ∙ ap (option_map (λ (w : Bor (List ℕ)). w.now)) c.in-None.is
    in
    sym (ap json_of is)
