-- The details of a root, and its listing.
use Rattle.std.proofs.Common.{◌≡◌, ◌∙◌, ℕ, false, List, [], ◌∷◌, ◌++◌, Option, None, Some, refl, sym, ap, flat_map, map}
use Rattle.std.specs.Prelude.{option_to_list}
use Rattle.std.proofs.lemmas.List.{map-append}
use Rattle.idl_repo.specs.details.Print.{row_of}
use Rattle.idl_repo.specs.details.Tree.{tree_over}
use Rattle.idl_entity.specs.declared.entity.Entity.{Entity}
use Rattle.idl_env.specs.Facts.{UnitFacts, answers, entity_in, entity_key}
use Rattle.idl_env.specs.declared.answering.answer.Answer.{Answer}
use Rattle.idl_env.specs.declared.keys.key.Key.{Key}
use Rattle.idl_event.specs.declared.told.event.Event.{Event}
use Rattle.idl_fault.specs.declared.place.Place.{Place}
use Rattle.idl_memo.specs.Query.{outcome}
use Rattle.idl_repo.specs.Entry.{closing_fault, entry, no_entry}
use Rattle.idl_repo.specs.Pieces.{text_over}
use Rattle.idl_repo.specs.Row.{row_pieces}
use Rattle.idl_repo.specs.declared.entry.Entry.{Entry}
use Rattle.idl_root.specs.Compile.{Outcome, compile, outcome_of, rows_beside}
use Rattle.idl_root.specs.Details.{details, details_after, entry_text, listed_entries, printed}
use Rattle.idl_root.specs.Held.{to_come}
use Rattle.idl_root.specs.Named.{NamedUnit, named_after}
use Rattle.idl_root.specs.NamePlaces.{declared_names, places_at}
use Rattle.idl_root.specs.Printed.{Listed, entry_row}
use Rattle.idl_root.specs.declared.compiling.places.PlacedName.{PlacedName}
use Rattle.idl_unit.specs.Units.{units_of}
use Rattle.idl_unit.specs.declared.unit.Unit.{Unit as RootUnit}

-- what all units of a root come to, where nothing was found before
pub details-judged : (events : List Event) (first judging : Outcome) (units : List RootUnit) (named : List NamedUnit)
    → first ≡ record { facts = []; found = []; rows = []; listed = [] } → judging ≡ to_come first units → named ≡ named_after first.facts units → units ≡ units_of events
    → details_after events named judging ≡ details events
unfolding details
details-judged events first judging units named start all names are =
    ap (details_after events named) (all ∙ ap (to_come first) are ∙ ap (λ (o : Outcome). to_come o (units_of events)) start)
    ∙ ap (λ (ns : List NamedUnit). details_after events ns (outcome_of events)) (names ∙ ap (named_after first.facts) are ∙ ap (λ (o : Outcome). named_after o.facts (units_of events)) start)

-- the laws of the listing and of trees, by which each row is what a tree is printed as
module _ (declared : (path : List (List ℕ)) (bank : Key → Option Answer) (e : Entity) → entity_in (bank (entity_key path)) ≡ Some e
    → outcome (entry path) bank ≡ record { row = Some (text_over bank (row_pieces e)); fault = closing_fault e })
    (unknown : (path : List (List ℕ)) (bank : Key → Option Answer) → entity_in (bank (entity_key path)) ≡ None → outcome (entry path) bank ≡ no_entry)
    (shown : (bank : Key → Option Answer) (e : Entity) → text_over bank (row_pieces e) ≡ row_of (tree_over bank e)) where
  row-printed : (facts : List UnitFacts) (names : List PlacedName) (l : Listed) → entry_row facts l ≡ map entry_text (listed_entries facts names l)
  row-printed facts names l = by (entity_in (answers facts (entity_key l.path))) refl
    where
      by : (there : Option Entity) → entity_in (answers facts (entity_key l.path)) ≡ there
          → entry_row facts l ≡ map entry_text (elim there [ None ↦ [] | Some e ↦ record { tree = tree_over (answers facts) e; places = places_at l.path names } ∷ [] ])
      by None is = ap (λ (e : Entry). option_to_list e.row) (unknown l.path (answers facts) is)
      by (Some e) is = ap (λ (e : Entry). option_to_list e.row) (declared l.path (answers facts) e is) ∙ ap (λ row. row ∷ []) (shown (answers facts) e)

  rows-printed : (facts : List UnitFacts) (names : List PlacedName) (ls : List Listed) → flat_map (entry_row facts) ls ≡ map entry_text (flat_map (listed_entries facts names) ls)
  rows-printed facts names [] = refl
  rows-printed facts names (l ∷ ls) =
      ap (λ rows. rows ++ flat_map (entry_row facts) ls) (row-printed facts names l)
      ∙ ap (λ rows. map entry_text (listed_entries facts names l) ++ rows) (rows-printed facts names ls)
      ∙ sym (map-append entry_text (listed_entries facts names l) (flat_map (listed_entries facts names) ls))

  -- the listing of a root without an error
  pub listing-printed : (end : Place) (events : List Event) → (compile end events).is_faulty ≡ false → (compile end events).listing ≡ printed (details events)
  unfolding compile details
  listing-printed end events sound =
      let o : Outcome = outcome_of events in
      let names = declared_names events (named_after [] (units_of events)) in
      ap (λ faulty. rows_beside faulty (flat_map (entry_row o.facts) o.listed)) sound ∙ rows-printed o.facts names o.listed
