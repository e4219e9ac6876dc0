use Rattle.std.proofs.Common.{◌≡◌, ℕ, List, Option, None, Some, ap, sym, ◌∙◌}
use Rattle.std.specs.List.{list_any}
use Rattle.std.specs.Str.{bytes_eq}
use Rattle.idl_event.specs.Expanding.{arrived}
use Rattle.idl_fault.specs.declared.code.Code.TheVariants.{NotFound}
use Rattle.idl_event.specs.declared.told.event.Event.TheVariants.{Fault}
use Rattle.idl_event.specs.declared.told.event.Item.TheVariants.{Kept}
use Rattle.idl_fault.specs.declared.place.Place.{Place}
use Rattle.idl_prep.specs.Include.{Found}
use Rattle.idl_prep.specs.Place.{place_in}
use Rattle.idl_prep.specs.State.{ended, onward, telling}
use Rattle.idl_prep.proofs.DirectiveLemmas.{onward-entering, onward-entering-new, onward-entering-once}
use Rattle.idl_prep.proofs.directives.include.included.Goals as goal

pub returns-in_default : goal.returns-in_default
returns-in_default g c = λ enter.
    let bank = g.B.Bank.at c.args.site.now.bank.now in
    let file = c.args.site.now.file.now in
    let d = c.args.directive.now in
    let o = c.args.operand.now in
    let second = c.find.new.self in
    let looked = ap (λ (f : Option Found). arrived f second.progress) (sym c.in_default.is) ∙ c.in_ok-found.ensures.arrival in
    ap ended c.in_ok-fault.ensures
    ∙ ap (λ (place : Place). ended (telling (Kept (Fault place NotFound (Some c.spelling.result.now))) second)) c.in_ok-place.ensures
    ∙ ap (λ (text : List ℕ). ended (telling (Kept (Fault (place_in file d) NotFound (Some text))) second)) c.spelling.ensures
    ∙ onward-entering bank enter file d o None c.args.root.now second c.in_ok-found.ensures.state looked

pub returns-then-is_once : goal.returns-then-is_once
returns-then-is_once g c = λ enter.
    let bank = g.B.Bank.at c.args.site.now.bank.now in
    let file = c.args.site.now.file.now in
    let d = c.args.directive.now in
    let o = c.args.operand.now in
    let second = c.find.new.self in
    let f = c.in-Some.found in
    let looked = ap (λ (f : Option Found). arrived f second.progress) (sym c.in-Some.is) ∙ c.in_ok-found.ensures.arrival in
    let name : c.found.inside.name ≡ f.name = ap (λ (f : Found). f.name) c.found.view_is in
    let once = ap (λ (n : List ℕ). list_any (bytes_eq n) second.state.once) (sym name) ∙ sym c.is_once.ensures ∙ c.if-is_once.true in
    onward-entering-once bank enter file d o f second once
    ∙ onward-entering bank enter file d o (Some f) c.args.root.now second c.in_ok-found.ensures.state looked

pub returns : goal.returns
returns g c = λ enter.
    let bank = g.B.Bank.at c.args.site.now.bank.now in
    let file = c.args.site.now.file.now in
    let d = c.args.directive.now in
    let o = c.args.operand.now in
    let second = c.find.new.self in
    let f = c.in-Some.found in
    let looked = ap (λ (f : Option Found). arrived f second.progress) (sym c.in-Some.is) ∙ c.in_ok-found.ensures.arrival in
    let name : c.found.inside.name ≡ f.name = ap (λ (f : Found). f.name) c.found.view_is in
    let lines : c.found.inside.file.now ≡ f.lines = ap (λ (f : Found). f.lines) c.found.view_is in
    let new = ap (λ (n : List ℕ). list_any (bytes_eq n) second.state.once) (sym name) ∙ sym c.is_once.ensures ∙ c.if-is_once.false in
    ap (λ (place : Place). onward bank (enter place c.found.inside.name c.found.inside.file.now) second) c.in_ok-place.ensures
    ∙ ap (λ (n : List ℕ). onward bank (enter (place_in file d) n c.found.inside.file.now) second) name
    ∙ ap (λ (ls : List (List ℕ)). onward bank (enter (place_in file d) f.name ls) second) lines
    ∙ onward-entering-new bank enter file d o f second new
    ∙ onward-entering bank enter file d o (Some f) c.args.root.now second c.in_ok-found.ensures.state looked
