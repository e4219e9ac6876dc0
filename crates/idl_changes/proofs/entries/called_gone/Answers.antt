use Rattle.std.proofs.Common.{◌≡◌, ◌∙◌, ◌++◌, [], ℕ, Bool, IfOk, List, None, Option, Some, ap, if◌then◌else◌, is_some, not, subst, sym}
use Rattle.std.specs.Option.{option_and_then, option_map_or}
use Rattle.idl_changes.specs.Differences.{as_called, told}
use Rattle.idl_changes.specs.Listing.{interface_of}
use Rattle.idl_changes.specs.Partners.{is_own_offer, joined}
use Rattle.idl_changes.specs.declared.change.Difference.{Difference}
use Rattle.idl_changes.specs.declared.change.Turn.TheVariants as turn
use Rattle.idl_changes.specs.declared.rows.Line.TheVariants as line
use Rattle.idl_changes.proofs.SideLemmas.{told-kept}
use Rattle.idl_repo.specs.declared.details.row_tree.RowTree.{RowTree}
use Rattle.idl_changes.proofs.entries.called_gone.Goals as goal

pub returns-in_default : goal.returns-in_default
returns-in_default c =
    let old = c.args.sides.now.0 in
    let new = c.args.sides.now.1 in
    let e = c.args.entry.now in
    let gone = as_called old new e (told line.CalledGone [] turn.Gone) in
    let found = c.in_ok-interface.ensures
    ∙ ap (λ (L : List RowTree). option_and_then (λ (o : ℕ). if is_own_offer L o c.args.place e then Some o else None) (interface_of L e)) c.before-2.ensures
    in
    c.new-told.ensures.items
    ∙ sym (told-kept (λ (o : ℕ). is_own_offer old o c.args.place e) (λ (o : ℕ). is_some (joined old new o)) gone (interface_of old e)
    ∙ ap (λ (place : Option ℕ). option_map_or (λ (o : ℕ). if is_some (joined old new o) then gone else []) place []) (sym found ∙ c.in_default.is))

pub returns-then-is_none : goal.returns-then-is_none
returns-then-is_none c =
    let old = c.args.sides.now.0 in
    let new = c.args.sides.now.1 in
    let e = c.args.entry.now in
    let gone = as_called old new e (told line.CalledGone [] turn.Gone) in
    let found = c.in_ok-interface.ensures
    ∙ ap (λ (L : List RowTree). option_and_then (λ (o : ℕ). if is_own_offer L o c.args.place e then Some o else None) (interface_of L e)) c.before-2.ensures
    in
    let lone = ap is_some (sym c.joined.ensures) ∙ c.is_none.ensures ∙ ap not c.if-is_none.true in
    c.new-told.ensures.items
    ∙ sym (told-kept (λ (o : ℕ). is_own_offer old o c.args.place e) (λ (o : ℕ). is_some (joined old new o)) gone (interface_of old e)
    ∙ ap (λ (place : Option ℕ). option_map_or (λ (o : ℕ). if is_some (joined old new o) then gone else []) place []) (sym found ∙ c.in-Some.is)
    ∙ ap (λ (b : Bool). if b then gone else []) lone)

pub returns : goal.returns
returns c =
    let old = c.args.sides.now.0 in
    let new = c.args.sides.now.1 in
    let e = c.args.entry.now in
    let gone = as_called old new e (told line.CalledGone [] turn.Gone) in
    let found = c.in_ok-interface.ensures
    ∙ ap (λ (L : List RowTree). option_and_then (λ (o : ℕ). if is_own_offer L o c.args.place e then Some o else None) (interface_of L e)) c.before-2.ensures
    in
    let goes_on = ap is_some (sym c.joined.ensures) ∙ c.is_none.ensures ∙ ap not c.if-is_none.false in
    let same = ap (as_called old new e) (c.in_ok-push_told.ensures ∙ ap (λ (ds : List Difference). ds ++ told line.CalledGone [] turn.Gone) c.new-told.ensures.items)
    ∙ sym (told-kept (λ (o : ℕ). is_own_offer old o c.args.place e) (λ (o : ℕ). is_some (joined old new o)) gone (interface_of old e)
    ∙ ap (λ (place : Option ℕ). option_map_or (λ (o : ℕ). if is_some (joined old new o) then gone else []) place []) (sym found ∙ c.in-Some.is)
    ∙ ap (λ (b : Bool). if b then gone else []) goes_on)
    in
    subst (λ (ds : List Difference). IfOk c.as_called.result (λ counted. counted.items ≡ ds)) same c.as_called.ensures
