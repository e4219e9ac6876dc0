use Rattle.std.proofs.Common.{◌∙◌, ◌∷◌, ◌++◌, [], List, ap, subst, sym}
use Rattle.std.proofs.lemmas.List.Elements.{All-push}
use Rattle.idl_event.specs.declared.told.event.Event.{Event}
use Rattle.idl_related.specs.Judged.{AreOfFindings}
use Rattle.idl_related.specs.Related.{AreOfFinding}
use Rattle.idl_related.specs.declared.told.RelatedPlaces.{RelatedPlaces}
use Rattle.idl_related.specs.declared.second.Related.{Related}
use Rattle.idl_unit.specs.Units.{units_of}
use Rattle.idl_related.proofs.judged.JudgedUnits.tell_at.Goals as goal

pub returns-clause-root : goal.returns-clause-root
returns-clause-root c =
    let events = c.args.self.now.expansion.now in
    let one : RelatedPlaces = record { event = c.args.event; code = c.args.code; related = c.in_ok-related.related } in
    let items = c.in_ok-push.ensures.items ∙ ap (λ (told : List RelatedPlaces). told ++ one ∷ []) c.count.ensures.told in
    record {
      units = c.count.ensures.units ∙ c.requires.root.units ∙ ap units_of (sym c.count.ensures.expansion);
      told =
          subst (λ (out : List Event). AreOfFindings out c.push.new.self.items) (sym c.count.ensures.expansion)
          (subst (AreOfFindings events) (sym items)
          (All-push (λ (t : RelatedPlaces). AreOfFinding events t.related) c.args.self.now.told.items one c.requires.root.told c.in_ok-related.ensures.finding));
    }

pub returns-clause-told : goal.returns-clause-told
returns-clause-told c =
    let one : List Related → RelatedPlaces = λ places. record { event = c.args.event; code = c.args.code; related = places } in
    c.in_ok-push.ensures.items
    ∙ ap (λ (told : List RelatedPlaces). told ++ one c.in_ok-related.related ∷ []) c.count.ensures.told
    ∙ ap (λ places. c.args.self.now.told.items ++ one places ∷ []) c.in_ok-related.ensures.places
