use Rattle.std.proofs.Common.{◌∙◌, ℕ, List, Option, Some, ap, ap₂, false, length, map, refl, sym, true}
use Rattle.std.specs.Map.{lookup}
use Rattle.std.specs.Option.{option_and_then, option_copied, option_eq, option_map, option_or}
use Rattle.std.specs.Str.{bytes_eq}
use Rattle.std.proofs.lemmas.Option.{slice_get-map, slice_get_past, slice_get_read}
use Rattle.idl_changes.specs.Matched.{matched, renamed}
use Rattle.idl_changes.proofs.ListingLemmas.{got-item}
use Rattle.idl_changes.proofs.NameLemmas.{matched-else, matched-here}
use Rattle.idl_changes.proofs.matched.matched.Goals as goal

pub returns-in_err-item : goal.returns-in_err-item
returns-in_err-item g c =
    let name_of = g.T.Named.name_of in
    let olds = c.args.lists.0.now in
    let old = map name_of olds in
    let new = map name_of c.args.lists.1.now in
    let i = c.args.place in
    c.from_residual.ensures
    ∙ sym (ap (option_and_then (λ (name : List ℕ). matched old new i name)) (slice_get-map name_of olds i ∙ ap (option_map name_of) (slice_get_past olds i c.in_err-item.ensures.lookup.3)))

pub returns-then-has_name : goal.returns-then-has_name
returns-then-has_name g c =
    let name_of = g.T.Named.name_of in
    let olds = c.args.lists.0.now in
    let news = c.args.lists.1.now in
    let old = map name_of olds in
    let new = map name_of news in
    let i = c.args.place in
    let item = c.in_ok-item.item.now in
    let read = c.in_ok-item.ensures.lookup.3 in
    let at = slice_get-map name_of olds i ∙ ap (option_map name_of) (slice_get_read olds (length olds) i item refl read.0 (read.1 item)) in
    let there = slice_get-map name_of news i ∙ ap (option_map name_of) (sym (got-item news i c.get-2.result c.get-2.ensures.lookup.3)) in
    let test = ap₂ (λ (o : Option (List ℕ)) (n : List ℕ). option_eq bytes_eq o (Some n)) there (sym c.name.ensures) ∙ sym c.has_name.ensures ∙ c.if-has_name.true in
    sym (ap (option_and_then (λ (name : List ℕ). matched old new i name)) at ∙ matched-here old new i (name_of item) test)

pub returns-in-Some : goal.returns-in-Some
returns-in-Some g c =
    let name_of = g.T.Named.name_of in
    let olds = c.args.lists.0.now in
    let news = c.args.lists.1.now in
    let old = map name_of olds in
    let new = map name_of news in
    let i = c.args.place in
    let item = c.in_ok-item.item.now in
    let read = c.in_ok-item.ensures.lookup.3 in
    let at = slice_get-map name_of olds i ∙ ap (option_map name_of) (slice_get_read olds (length olds) i item refl read.0 (read.1 item)) in
    let there = slice_get-map name_of news i ∙ ap (option_map name_of) (sym (got-item news i c.get-2.result c.get-2.ensures.lookup.3)) in
    let test = ap₂ (λ (o : Option (List ℕ)) (n : List ℕ). option_eq bytes_eq o (Some n)) there (sym c.name.ensures) ∙ sym c.has_name.ensures ∙ c.if-has_name.false in
    let found = sym (c.requires.after (name_of item)) ∙ ap (λ (n : List ℕ). lookup (bytes_eq n) c.args.places.1.now) (sym c.name-2.ensures) ∙ sym c.get-3.ensures ∙ ap option_copied c.in-Some.is in
    sym (ap (option_and_then (λ (name : List ℕ). matched old new i name)) at ∙ matched-else old new i (name_of item) test
    ∙ ap (λ (o : Option ℕ). option_or o (renamed old new i)) found)

pub returns : goal.returns
returns g c =
    let name_of = g.T.Named.name_of in
    let olds = c.args.lists.0.now in
    let news = c.args.lists.1.now in
    let old = map name_of olds in
    let new = map name_of news in
    let i = c.args.place in
    let item = c.in_ok-item.item.now in
    let read = c.in_ok-item.ensures.lookup.3 in
    let at = slice_get-map name_of olds i ∙ ap (option_map name_of) (slice_get_read olds (length olds) i item refl read.0 (read.1 item)) in
    let there = slice_get-map name_of news i ∙ ap (option_map name_of) (sym (got-item news i c.get-2.result c.get-2.ensures.lookup.3)) in
    let test = ap₂ (λ (o : Option (List ℕ)) (n : List ℕ). option_eq bytes_eq o (Some n)) there (sym c.name.ensures) ∙ sym c.has_name.ensures ∙ c.if-has_name.false in
    let none = sym (c.requires.after (name_of item)) ∙ ap (λ (n : List ℕ). lookup (bytes_eq n) c.args.places.1.now) (sym c.name-2.ensures) ∙ sym c.get-3.ensures ∙ ap option_copied c.in_default.is in
    c.renamed.ensures
    ∙ sym (ap (option_and_then (λ (name : List ℕ). matched old new i name)) at ∙ matched-else old new i (name_of item) test
    ∙ ap (λ (o : Option ℕ). option_or o (renamed old new i)) none)
