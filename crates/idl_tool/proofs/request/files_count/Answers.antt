use Rattle.std.proofs.Common.{Bor, ◌≡◌, ◌∙◌, [], ℕ, List, Option, ap, codes, length, map, sym, unwrap_or}
use Rattle.std.specs.Option.{option_map}
use Rattle.std.proofs.lemmas.List.{length-map}
use Rattle.clap.proofs.WalkLemmas.{raw_values-rows}
use Rattle.clap.specs.Words.{found_of}
use Rattle.idl_tool.proofs.request.files_count.Goals as goal

-- the values that are given
abbrev given_in : Option (Bor (List (Bor (List ℕ)))) → List (List ℕ)
given_in given = unwrap_or (option_map (λ s. map (λ v. v.now) s.now) given) []

pub returns-in-Some : goal.returns-in-Some
returns-in-Some c =
    let found = found_of c.args.matches.now in
    let given = sym (ap given_in c.in-Some.is) ∙ ap (λ (o : Option (List (List ℕ))). unwrap_or o []) (c.get_strs.ensures ∙ raw_values-rows found (codes "file")) in
    sym (length-map c.in-Some.given.now (λ (v : Bor (List ℕ)). v.now)) ∙ ap length given

pub returns-in-None : goal.returns-in-None
returns-in-None c =
    let found = found_of c.args.matches.now in
    ap length (sym (ap given_in c.in-None.is) ∙ ap (λ (o : Option (List (List ℕ))). unwrap_or o []) (c.get_strs.ensures ∙ raw_values-rows found (codes "file")))
